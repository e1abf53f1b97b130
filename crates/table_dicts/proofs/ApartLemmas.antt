-- Pairs of classes, counted class by class.
use Rattle.std.proofs.Common.{◌≡◌, ◌∙◌, ℕ, zero, suc, ◌+◌, ◌-◌, ◌<◌, ◌≤◌, Bool, true, false, not, cond, eqb, List, [], ◌∷◌, length, get_or, set, refl, sym, ap, subst, arith, inl, inr, All}
use Rattle.std.specs.Prelude.{sum_by, count_by}
use Rattle.std.specs.List.{range_with_len}
use Rattle.std.proofs.lemmas.Bool.{cases_eq, eqb-true, eq-eqb, ne_eqb}
use Rattle.std.proofs.lemmas.List.{get_or-set_same, get_or-set_other}
use Rattle.std.proofs.lemmas.List.Elements.{All-head, All-tail, Contains-get_or}
use Rattle.std.proofs.lemmas.List.Sums.{sum_by-cons, sum_by_push, count_by-le-length}
use Rattle.std.proofs.lemmas.List.FromFn.{length-range_with_len}
use Rattle.std.specs.Cmp.Derive.{one_truth}
use Rattle.net_model.proofs.Listed.{All-range_with_len}
use Rattle.net_model.specs.ClassTable.{ClassTable, class_count, representative, same_bits}
use Rattle.class_refine.specs.Fields.{IsWhole}
use Rattle.net_model.proofs.Ranges.{range_more}
use Rattle.class_refine.proofs.Refined.{representative-member}
use Rattle.dict_rows.specs.Grouped.{IsGrouped, group_row}
use Rattle.table_dicts.specs.Apart.{has_apart, apart_count}
use Rattle.dict_rows.proofs.EntryLemmas.{same_bits-Decides}

-- How many of the first classes have their representative in a group.
abbrev pub alike_to : ClassTable → List ℕ → ℕ → ℕ → ℕ
alike_to t groups classes group = count_by (λ low. eqb (get_or groups (representative t low) 0) group) (range_with_len 0 classes)

-- The pairs that differ, with the higher class among the first ones.
abbrev pub apart_to : ClassTable → (ℕ → List Bool) → ℕ → ℕ
apart_to t entry classes = sum_by (λ high. count_by (λ low. has_apart t entry low high) (range_with_len 0 high)) (range_with_len 0 classes)

pub apart_all : (t : ClassTable) (entry : ℕ → List Bool) → apart_to t entry (class_count t) ≡ apart_count t entry
unfolding apart_count
apart_all t entry = refl

pub apart_more : (t : ClassTable) (entry : ℕ → List Bool) (class : ℕ) → apart_to t entry (class + 1) ≡ apart_to t entry class + count_by (λ low. has_apart t entry low class) (range_with_len 0 class)
apart_more t entry class =
    let f : ℕ → ℕ = λ high. count_by (λ low. has_apart t entry low high) (range_with_len 0 high) in
    ap (sum_by f) (range_more class) ∙ sum_by_push f (range_with_len 0 class) class

alike_more : (t : ClassTable) (groups : List ℕ) (class group : ℕ) → alike_to t groups (class + 1) group ≡ alike_to t groups class group + cond (eqb (get_or groups (representative t class) 0) group) 1 0
alike_more t groups class group =
    let f : ℕ → ℕ = λ low. cond (eqb (get_or groups (representative t low) 0) group) 1 0 in
    ap (sum_by f) (range_more class) ∙ sum_by_push f (range_with_len 0 class) class

pub alike_within : (t : ClassTable) (groups : List ℕ) (class group : ℕ) → alike_to t groups class group ≤ class
alike_within t groups class group = omega (arith, count_by-le-length (λ low. eqb (get_or groups (representative t low) 0) group) (range_with_len 0 class), length-range_with_len 0 class)

one_of : (a b : Bool) → a ≡ not b → cond a 1 0 + cond b 1 0 ≡ suc zero
one_of true true e = absurd (cc)
one_of true false e = refl
one_of false true e = refl
one_of false false e = absurd (cc)

-- What passes a test and what doesn't are all.
parts : (p q : ℕ → Bool) (xs : List ℕ) → All (λ x. p x ≡ not (q x)) xs → count_by p xs + count_by q xs ≡ length xs
parts p q [] all = refl
parts p q (x ∷ xs) all =
    omega (arith, sum_by-cons (λ x. cond (p x) 1 0) x xs, sum_by-cons (λ x. cond (q x) 1 0) x xs, one_of (p x) (q x) (All-head (λ x. p x ≡ not (q x)) x xs all), parts p q xs (All-tail (λ x. p x ≡ not (q x)) x xs all))

module _ (t : ClassTable) (whole : IsWhole t) (numbers : ℕ) (groups : List ℕ) (entries : List (List Bool)) (is : IsGrouped numbers groups entries) (same : length t.class_of ≡ numbers) (class : ℕ) (h : class < class_count t) where
  abbrev group_at : ℕ → ℕ
  group_at low = get_or groups (representative t low) 0

  -- The group of a representative has an entry row.
  pub in_groups : (low : ℕ) → low < class_count t → representative t low < length groups
  in_groups low l = omega (arith, (representative-member t whole low l).0, same, is.one_each)

  pub group_known : (low : ℕ) → low < class_count t → group_at low < length entries
  group_known low l = (is.used (group_at low)).0 (Contains-get_or groups (representative t low) 0 (in_groups low l))

  -- Two representatives have the same entry exactly if they are in one group.
  same_group : (low : ℕ) → low < class_count t → same_bits (group_row groups entries (representative t low)) (group_row groups entries (representative t class)) ≡ eqb (group_at low) (group_at class)
  same_group low l =
      let a = group_row groups entries (representative t low) in
      let b = group_row groups entries (representative t class) in
      let test = same_bits-Decides a b in
      one_truth (same_bits a b) (eqb (group_at low) (group_at class))
      (λ yes. eq-eqb (group_at low) (group_at class) (is.different.apart (group_at low) (group_at class) (group_known low l) (group_known class h) (test.0 yes)))
      (λ yes. test.1 (ap (λ g. get_or entries g []) (eqb-true (group_at low) (group_at class) yes)))

  pub counted : class - alike_to t groups class (group_at class) ≡ count_by (λ low. has_apart t (group_row groups entries) low class) (range_with_len 0 class)
  counted =
      let p : ℕ → Bool = λ low. has_apart t (group_row groups entries) low class in
      let q : ℕ → Bool = λ low. eqb (group_at low) (group_at class) in
      omega (arith, parts p q (range_with_len 0 class) (All-range_with_len (λ low. p low ≡ not (q low)) 0 class (λ low from below. ap not (same_group low (omega (arith, below, h))))), length-range_with_len 0 class)

  -- One class more in its group.
  pub alike_after : (alike : List ℕ) (count : ℕ) → length alike ≡ length entries → ((group : ℕ) → group < length entries → get_or alike group 0 ≡ alike_to t groups class group) → count ≡ get_or alike (group_at class) 0 + 1
      → (group : ℕ) → group < length entries → get_or (set alike (group_at class) count) group 0 ≡ alike_to t groups (class + 1) group
  alike_after alike count long are more group inside = elim (cases_eq group (group_at class)) [
    | inl e ↦
        let one = subst (λ g. cond (eqb (group_at class) g) 1 0 ≡ suc zero) (sym e) (ap (λ b. cond b 1 0) (eq-eqb (group_at class) (group_at class) refl)) in
        ap (λ g. get_or (set alike (group_at class) count) g 0) e
        ∙ (get_or-set_same alike (group_at class) count 0 (omega (arith, long, group_known class h))
        ∙ omega (arith, more, are (group_at class) (group_known class h), ap (alike_to t groups class) e, alike_more t groups class group, one))
    | inr ne ↦
        let none : cond (eqb (group_at class) group) 1 0 ≡ zero = ap (λ b. cond b 1 0) (ne_eqb (group_at class) group (λ e. ne (sym e))) in
        get_or-set_other alike (group_at class) group count 0 ne ∙ omega (arith, are group inside, alike_more t groups class group, none)
  ]
