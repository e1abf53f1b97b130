-- Numbers in groups by their classes, one number after another.
use Rattle.std.proofs.Common.{◌≡◌, ◌≢◌, ◌∙◌, ℕ, ◌+◌, ◌<◌, ◌≤◌, Bool, cond, eqb, List, [], ◌∷◌, ◌++◌, length, get_or, set, replicate, refl, sym, ap, subst, arith, inl, inr}
use Rattle.std.proofs.lemmas.Bool.{cases_lt, cases_eq, eq-eqb, ne_eqb}
use Rattle.std.proofs.lemmas.List.{length_push, length-set, length-replicate, get_or_append_left, get_or_push, get_or-set_same, get_or-set_other}
use Rattle.net_model.specs.ClassTable.{ClassTable, class_count, class_at, representative}
use Rattle.class_refine.specs.Fields.{IsWhole}
use Rattle.class_refine.proofs.Pieces.{representative_lowest}
use Rattle.class_refine.proofs.Refined.{representative-member}
use Rattle.dict_rows.specs.Grouped.{AreFirstsOf}
use Rattle.table_dicts.specs.ByClass.{AreRowsOfClasses}
use Rattle.dict_rows.proofs.GroupLemmas.{firsts_with, firsts_none, begins, joins}

-- The numbers below `done` are in groups by their classes. The first of each group is the lowest of its class, and the
-- group of each class that has begun is noted.
pub record AreBegun (t : ClassTable) (done : ℕ) (groups firsts noted : List ℕ) : Type 0 where
  pub few : length firsts ≤ done
  pub sorted : (rows : List (List Bool)) → AreRowsOfClasses t rows → AreFirstsOf rows done groups firsts
  pub lowest : (group : ℕ) → group < length firsts → (get_or firsts group 0 < done) × (representative t (class_at t (get_or firsts group 0)) ≡ get_or firsts group 0)
  pub places : length noted ≡ class_count t
  pub known : (class : ℕ) → class < class_count t → representative t class < done → (get_or noted class 0 < length firsts) × (get_or firsts (get_or noted class 0) 0 ≡ representative t class)

pub begun_none : (t : ClassTable) → AreBegun t 0 [] [] (replicate (class_count t) 0)
begun_none t = record {
  few = omega arith;
  sorted = λ rows are. firsts_none rows;
  lowest = λ group h. absurd (omega (arith, h));
  places = length-replicate {A = ℕ} (class_count t) 0;
  known = λ class h low. absurd (omega (arith, low));
}

-- What is noted once a number has come.
abbrev pub noted_with : ClassTable → List ℕ → ℕ → ℕ → List ℕ
noted_with t noted i next = cond (eqb (representative t (class_at t i)) i) (set noted (class_at t i) next) noted

module _ (t : ClassTable) (whole : IsWhole t) (i : ℕ) (h : i < length t.class_of) (groups firsts noted : List ℕ) (are : AreBegun t i groups firsts noted) where
  abbrev class : ℕ
  class = class_at t i

  abbrev count : ℕ
  count = length firsts

  inside : class < class_count t
  inside = whole.classes i h

  first_was : (g : ℕ) → g < count → get_or (firsts ++ i ∷ []) g 0 ≡ get_or firsts g 0
  first_was g low = get_or_append_left firsts (i ∷ []) 0 g low

  last_first : get_or (firsts ++ i ∷ []) count 0 ≡ i
  last_first = get_or_push firsts i 0 count refl

  -- Another class isn't begun by this number.
  other_class : (k : ℕ) → k < class_count t → k ≢ class → representative t k ≢ i
  other_class k hk ne e = ne (sym (representative-member t whole k hk).1 ∙ ap (class_at t) e)

  -- A number that is the lowest of its class begins a group.
  pub first_comes : representative t class ≡ i → AreBegun t (i + 1) (groups ++ count ∷ []) (firsts ++ i ∷ []) (set noted class count)
  first_comes first =
      let noted_at : get_or (set noted class count) class 0 ≡ count = get_or-set_same noted class count 0 (omega (arith, are.places, inside)) in
      record {
        few = omega (arith, are.few, length_push firsts i);
        sorted = λ rows of. begins rows i (omega (arith, h, of.one_each)) groups firsts (are.sorted rows of) (λ g low e.
            let below = are.lowest g low in
            let same = (of.equal (get_or firsts g 0) i (omega (arith, below.0, h)) h).1 e in
            omega (arith, below.0, below.1, ap (representative t) same, first));
        lowest = λ g hg. elim (cases_lt g count) [
          | inl low ↦ rw (first_was g low) (omega (arith, (are.lowest g low).0), (are.lowest g low).1)
          | inr over ↦ let e : g ≡ count = omega (arith, hg, over, length_push firsts i) in rw (e, last_first) (omega arith, first)
        ];
        places = length-set noted class count ∙ are.places;
        known = λ k hk low. elim (cases_eq k class) [
          | inl e ↦ rw (e, noted_at, last_first) (omega (arith, length_push firsts i), sym first)
          | inr ne ↦
              let old = are.known k hk (omega (arith, low, other_class k hk ne)) in
              rw (get_or-set_other noted class k count 0 ne, first_was (get_or noted k 0) old.0) (omega (arith, old.0, length_push firsts i), old.1)
        ];
      }

  -- Any other number goes into the group of its class.
  before : representative t class ≢ i → representative t class < i
  before ne = omega (arith, (representative_lowest t i h).within, ne)

  pub other_known : representative t class ≢ i → (get_or noted class 0 < count) × (get_or firsts (get_or noted class 0) 0 ≡ representative t class)
  other_known ne = are.known class inside (before ne)

  pub other_comes : representative t class ≢ i → AreBegun t (i + 1) (groups ++ get_or noted class 0 ∷ []) firsts noted
  other_comes ne =
      let group = get_or noted class 0 in
      let known = other_known ne in
      let lead = representative-member t whole class inside in
      let same : class_at t (get_or firsts group 0) ≡ class = ap (class_at t) known.1 ∙ lead.1 in
      record {
        few = omega (arith, are.few);
        sorted = λ rows of. joins rows i (omega (arith, h, of.one_each)) groups firsts (are.sorted rows of) group known.0 ((of.equal (get_or firsts group 0) i (omega (arith, known.1, lead.0)) h).0 same);
        lowest = λ g hg. (omega (arith, (are.lowest g hg).0), (are.lowest g hg).1);
        places = are.places;
        known = λ k hk low. elim (cases_eq k class) [
          | inl e ↦ rw e known
          | inr ne_class ↦ are.known k hk (omega (arith, low, other_class k hk ne_class))
        ];
      }

  -- The group of a number, by what is noted after it has come.
  pub record Comes (group : ℕ) (after : List ℕ) : Type 0 where
    pub within : group ≤ count
    pub begun : AreBegun t (i + 1) (groups ++ group ∷ []) (firsts_with firsts group i) after

  pub comes : (group : ℕ) (after : List ℕ) → after ≡ noted_with t noted i count → group ≡ get_or after class 0 → Comes group after
  comes group after is at = elim (cases_eq (representative t class) i) [
    | inl first ↦
        let now : after ≡ set noted class count = is ∙ ap (λ b. cond b (set noted class count) noted) (eq-eqb (representative t class) i first) in
        let new : group ≡ count = at ∙ (ap (λ (ns : List ℕ). get_or ns class 0) now ∙ get_or-set_same noted class count 0 (omega (arith, are.places, inside))) in
        let with_i : firsts_with firsts count i ≡ firsts ++ i ∷ [] = ap (λ b. cond b (firsts ++ i ∷ []) firsts) (eq-eqb count count refl) in
        rw (new, now) (record {
          within = omega arith;
          begun = subst (λ (fs : List ℕ). AreBegun t (i + 1) (groups ++ count ∷ []) fs (set noted class count)) (sym with_i) (first_comes first);
        })
    | inr ne ↦
        let now : after ≡ noted = is ∙ ap (λ b. cond b (set noted class count) noted) (ne_eqb (representative t class) i ne) in
        let old : group ≡ get_or noted class 0 = at ∙ ap (λ (ns : List ℕ). get_or ns class 0) now in
        let known = other_known ne in
        let as_was : firsts_with firsts (get_or noted class 0) i ≡ firsts = ap (λ b. cond b (firsts ++ i ∷ []) firsts) (ne_eqb (get_or noted class 0) count (λ e. omega (arith, e, known.0))) in
        rw (old, now) (record {
          within = omega (arith, known.0);
          begun = subst (λ (fs : List ℕ). AreBegun t (i + 1) (groups ++ get_or noted class 0 ∷ []) fs noted) (sym as_was) (other_comes ne);
        })
  ]
