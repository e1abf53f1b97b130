-- Groups of numbers of two classes or more.
use Rattle.std.proofs.Common.{◌≡◌, ◌≢◌, ◌∙◌, ℕ, ◌<◌, inl, inr, Bool, true, false, not, ◌&&◌, eqb, List, [], length, get_or, filter, refl, sym, ap, subst, arith}
use Rattle.std.specs.Prelude.{Contains}
use Rattle.std.specs.List.{range_with_len}
use Rattle.std.proofs.lemmas.Bool.{cases_eq, eq-eqb, ne_eqb, eqb-true, lt-ltb}
use Rattle.std.proofs.lemmas.List.Elements.{All-filter}
use Rattle.std.proofs.lemmas.List.Filters.{length-filter_both}
use Rattle.std.proofs.lemmas.List.Kept.{AllPairs-filter}
use Rattle.net_model.proofs.Elements.{Contains-filter}
use Rattle.net_model.specs.ClassTable.{ClassTable, class_at, class_count, members, representative}
use Rattle.class_refine.specs.Fields.{IsWhole}
use Rattle.class_refine.specs.CutIn.{AreAlikeElsewhere}
use Rattle.class_refine.proofs.Pieces.{members-contains, lead_is}
use Rattle.class_refine.proofs.Ranges.{filter_where, filter-filter, range_below, range_ascends, range-contains}
use Rattle.kept_vectors.specs.Kept.{IsFiner}
use Rattle.compact_tests.specs.Mixed.{exceeds_class, mixed_groups, mixed_classes, ListsMixed}
use Rattle.compact_tests.specs.Numbered.{AreClassRows}

both_is : (x y : Bool) → (y ≡ true → x ≡ true) → (x && y) ≡ y
both_is true true h = refl
both_is true false h = refl
both_is false true h = h refl
both_is false false h = refl

module _ (t groups : ClassTable) (finer : IsFiner groups t) where
  -- The members of a class are those members of its group that are in the class.
  class_members : (m : ℕ) → m < length t.class_of → members t (class_at t m) ≡ filter (λ n. eqb (class_at t n) (class_at t m)) (members groups (class_at groups m))
  unfolding members
  class_members m hm =
      let of_group : ℕ → Bool = λ n. eqb (class_at groups n) (class_at groups m) in
      let of_class : ℕ → Bool = λ n. eqb (class_at t n) (class_at t m) in
      let size = finer.numbers in
      let all = range_with_len 0 (length groups.class_of) in
      let same : filter (λ n. of_group n && of_class n) all ≡ filter of_class all =
      filter_where (λ n. of_group n && of_class n) of_class all
      (λ i d l.
      let n = get_or all i d in
      both_is (of_group n) (of_class n) (λ e. eq-eqb (class_at groups n) (class_at groups m) (finer.together n m (range_below (length groups.class_of) i d l) (omega (arith, hm, size)) (eqb-true (class_at t n) (class_at t m) e)))) in
      ap (λ (k : ℕ). filter of_class (range_with_len 0 k)) size ∙ sym (filter-filter of_group of_class all ∙ same)

  -- A group with a number of another class has more numbers than the class of a member.
  more_members : (m other : ℕ) → m < length t.class_of → other < length t.class_of → class_at groups other ≡ class_at groups m → class_at t other ≢ class_at t m → length (members t (class_at t m)) < length (members groups (class_at groups m))
  more_members m other hm ho same differ =
      let of_class : ℕ → Bool = λ n. eqb (class_at t n) (class_at t m) in
      let of_other : ℕ → Bool = λ n. not (eqb (class_at t n) (class_at t m)) in
      let ms = members groups (class_at groups m) in
      let here : Contains ms other = subst (λ (g : ℕ). Contains (members groups g) other) same (members-contains groups other (omega (arith, ho, finer.numbers))) in
      let x = Contains-filter of_other ms other here (ap not (ne_eqb (class_at t other) (class_at t m) differ)) in
      omega (arith, x.1, length-filter_both of_class of_other (λ n. refl) ms, ap length (class_members m hm))

  group_mixed : (a b : ℕ) → a < length t.class_of → b < length t.class_of → class_at t a ≢ class_at t b → class_at groups a ≡ class_at groups b → exceeds_class t groups (class_at groups a) ≡ true
  group_mixed a b ha hb differ together =
      let rep = representative groups (class_at groups a) in
      let lead = lead_is groups [] a (omega (arith, ha, finer.numbers)) in
      let inside : rep < length t.class_of = omega (arith, lead.0, finer.numbers) in
      let more : length (members t (class_at t rep)) < length (members groups (class_at groups rep)) = elim (cases_eq (class_at t a) (class_at t rep)) [
        | inl e ↦ more_members rep b inside hb (sym together ∙ sym lead.1) (λ same. differ (e ∙ sym same))
        | inr ne ↦ more_members rep a inside ha (sym lead.1) ne
      ] in
      lt-ltb (length (members t (class_at t rep))) (length (members groups (class_at groups a))) (subst (λ (g : ℕ). length (members t (class_at t rep)) < length (members groups g)) lead.1 more)

  pub mixed_alike : IsWhole groups → (rows : List (List Bool)) → AreClassRows t rows → AreAlikeElsewhere groups rows (mixed_groups t groups)
  mixed_alike whole rows are m n hm hn together =
      let im : m < length t.class_of = omega (arith, hm, finer.numbers) in
      let i : n < length t.class_of = omega (arith, hn, finer.numbers) in
      elim (cases_eq (class_at t m) (class_at t n)) [
        | inl e ↦ inl (are.alike m n im i e)
        | inr ne ↦ inr (Contains-filter (exceeds_class t groups) (range_with_len 0 (class_count groups)) (class_at groups m) (range-contains (class_count groups) (class_at groups m) (whole.classes m hm)) (group_mixed m n im i ne together))
      ]

  pub mixed_listed : IsWhole t → ListsMixed t groups (mixed_classes t groups)
  mixed_listed whole =
      let test : ℕ → Bool = λ class. exceeds_class t groups (class_at groups (representative t class)) in
      let range = range_with_len 0 (class_count t) in record {
        within = All-filter test (λ class. class < class_count t) range (range_below (class_count t));
        ascend = AllPairs-filter (λ x y. x < y) test range (range_ascends (class_count t));
        all = λ a b ha hb differ together.
            let lead = lead_is t [] a ha in
            let size = finer.numbers in
            let same : class_at groups (representative t (class_at t a)) ≡ class_at groups a = finer.together (representative t (class_at t a)) a (omega (arith, lead.0, size)) (omega (arith, ha, size)) lead.1 in
            Contains-filter test range (class_at t a) (range-contains (class_count t) (class_at t a) (whole.classes a ha)) (ap (exceeds_class t groups) same ∙ group_mixed a b ha hb differ together);
      }

-- The list stays right if more numbers are distinguished.
pub still_mixed : (t old new : ClassTable) (listed : List ℕ) → ((a b : ℕ) → a < length t.class_of → b < length t.class_of → class_at new a ≡ class_at new b → class_at old a ≡ class_at old b) → ListsMixed t old listed → ListsMixed t new listed
still_mixed t old new listed before is = record { within = is.within; ascend = is.ascend; all = λ a b ha hb differ together. is.all a b ha hb differ (before a b ha hb together) }
