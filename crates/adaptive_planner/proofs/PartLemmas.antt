-- Branches that get one more class.
use Rattle.std.proofs.Common.{◌≡◌, ◌≢◌, ◌∙◌, ℕ, zero, suc, ◌+◌, ◌-◌, ◌<◌, ◌≤◌, refl, ap, sym, subst, arith, get_or, set, take, inl, inr}
use Rattle.std.specs.Prelude.{Bool, true, false, not, ◌==◌, if◌then◌else◌, ◌⊎◌, List, [], ◌∷◌, ◌++◌, map, length, filter, slice_index}
use Rattle.std.proofs.Math.Seq.{map-set_same}
use Rattle.std.proofs.lemmas.Bool.{eqb-true, eq-eqb, ne_eqb}
use Rattle.std.proofs.lemmas.List.{get_or-set_same, get_or-set_other, map-append, length-set, length-append, length-map, length-take-le, take_more, get_or-map, get_or_append_left, get_or-append_right}
use Rattle.std.proofs.lemmas.List.Elements.{filter-append}
use Rattle.adaptive_planner.specs.declared.parting.Branch.{Branch}
use Rattle.adaptive_planner.specs.Counting.{unequal_pairs}
use Rattle.adaptive_planner.specs.Parting.{AreSetParts, classes_of, branch_numbers, AreBranchesOf, ArePartsTo, ArePlacesNoted, HaveNotNumber, HasNumber}
use Rattle.adaptive_planner.specs.declared.class_numbers.ClassNumbers.{ClassNumbers}
use Rattle.adaptive_planner.specs.Numbering.{class_number}
use Rattle.adaptive_planner.proofs.OnePlan.{count_by-cons}
use Rattle.adaptive_planner.proofs.PairLemmas.{one_if}

append_none : (xs : List ℕ) → xs ++ [] ≡ xs
append_none [] = refl
append_none (x ∷ xs) = ap (λ ys. x ∷ ys) (append_none xs)

filter_push_in : (test : ℕ → Bool) (xs : List ℕ) (x : ℕ) → test x ≡ true → filter test (xs ++ x ∷ []) ≡ filter test xs ++ x ∷ []
filter_push_in test xs x holds = filter-append test xs (x ∷ []) ∙ ap (λ b. filter test xs ++ (if b then x ∷ [] else [])) holds

filter_push_out : (test : ℕ → Bool) (xs : List ℕ) (x : ℕ) → test x ≡ false → filter test (xs ++ x ∷ []) ≡ filter test xs
filter_push_out test xs x fails = filter-append test xs (x ∷ []) ∙ (ap (λ b. filter test xs ++ (if b then x ∷ [] else [])) fails ∙ append_none (filter test xs))

module _ (f : ℕ → ℕ) (pattern : ℕ) where
  -- The old branch has the class's number, at this place and no other.
  pub put_found : (bs : List Branch) (xs : List ℕ) (class place : ℕ) (old new : Branch) → AreSetParts f pattern xs bs → place < length bs → old ≡ get_or bs place old → old.number ≡ f class
      → ((j : ℕ) → j < length bs → slice_index (branch_numbers bs) j ≡ f class → j ≡ place)
      → new.pattern ≡ old.pattern → new.number ≡ f class → classes_of new ≡ classes_of old ++ class ∷ [] → AreSetParts f pattern (xs ++ class ∷ []) (set bs place new)
  put_found [] xs class place old new parts low at is only p_is n_is c_is = absurd (omega (arith, low))
  put_found (b ∷ bs) [] class place old new parts low at is only p_is n_is c_is = absurd parts
  put_found (b ∷ bs) (lowest ∷ xs) class zero old new parts low at is only p_is n_is c_is =
      let lowest_is : f lowest ≡ f class = sym parts.1 ∙ (ap (λ (c : Branch). c.number) (sym at) ∙ is) in
      let same : f lowest == f class ≡ true = eq-eqb (f lowest) (f class) lowest_is in (
        p_is ∙ (ap (λ (c : Branch). c.pattern) at ∙ parts.0),
        n_is ∙ sym lowest_is,
        c_is ∙ (ap (λ (c : Branch). classes_of c ++ class ∷ []) at ∙ (ap (λ (cs : List ℕ). cs ++ class ∷ []) parts.2 ∙ ap (λ (cs : List ℕ). lowest ∷ cs) (sym (filter_push_in (λ o. f lowest == f o) xs class same)))),
        subst (λ (rest : List ℕ). AreSetParts f pattern rest bs) (sym (filter_push_out (λ o. not (f lowest == f o)) xs class (ap not same))) parts.3,
      )
  put_found (b ∷ bs) (lowest ∷ xs) class (suc place) old new parts low at is only p_is n_is c_is =
      let differ : f lowest ≢ f class = λ e. (let here : 0 ≡ suc place = only 0 (omega arith) (parts.1 ∙ e) in omega (arith, here)) in
      let other : f lowest == f class ≡ false = ne_eqb (f lowest) (f class) differ in
      let later = put_found bs (filter (λ o. not (f lowest == f o)) xs) class place old new parts.3 (omega (arith, low)) at is (λ j h e. (let same : suc j ≡ suc place = only (suc j) (omega (arith, h)) e in omega (arith, same))) p_is n_is c_is in (
        parts.0,
        parts.1,
        parts.2 ∙ ap (λ (cs : List ℕ). lowest ∷ cs) (sym (filter_push_out (λ o. f lowest == f o) xs class other)),
        subst (λ (rest : List ℕ). AreSetParts f pattern rest (set bs place new)) (sym (filter_push_in (λ o. not (f lowest == f o)) xs class (ap not other))) later,
      )

  pub put_new : (bs : List Branch) (xs : List ℕ) (class : ℕ) (new : Branch) → AreSetParts f pattern xs bs → HaveNotNumber bs (f class) → new.pattern ≡ pattern → new.number ≡ f class → classes_of new ≡ class ∷ []
      → AreSetParts f pattern (xs ++ class ∷ []) (bs ++ new ∷ [])
  put_new [] [] class new parts none p_is n_is c_is = (p_is, n_is, c_is, tt)
  put_new [] (lowest ∷ xs) class new parts none p_is n_is c_is = absurd parts
  put_new (b ∷ bs) [] class new parts none p_is n_is c_is = absurd parts
  put_new (b ∷ bs) (lowest ∷ xs) class new parts none p_is n_is c_is =
      let differ : f lowest ≢ f class = λ e. none 0 (omega arith) (parts.1 ∙ e) in
      let other : f lowest == f class ≡ false = ne_eqb (f lowest) (f class) differ in
      let later = put_new bs (filter (λ o. not (f lowest == f o)) xs) class new parts.3 (λ j h e. none (suc j) (omega (arith, h)) e) p_is n_is c_is in (
        parts.0,
        parts.1,
        parts.2 ∙ ap (λ (cs : List ℕ). lowest ∷ cs) (sym (filter_push_out (λ o. f lowest == f o) xs class other)),
        subst (λ (rest : List ℕ). AreSetParts f pattern rest (bs ++ new ∷ [])) (sym (filter_push_in (λ o. not (f lowest == f o)) xs class (ap not other))) later,
      )

  -- ---- one branch isn't enough if a pair is split

  no_parts : (xs : List ℕ) → AreSetParts f pattern xs [] → xs ≡ []
  no_parts [] parts = refl
  no_parts (x ∷ xs) parts = absurd parts

  all_alike : (k : ℕ) (xs : List ℕ) → filter (λ o. not (k == f o)) xs ≡ [] → unequal_pairs (k ∷ map f xs) ≡ 0
  all_alike k [] none = refl
  all_alike k (x ∷ xs) none = by_case (k == f x) refl (all_alike k xs)
    where
      by_case : (b : Bool) → k == f x ≡ b → (filter (λ o. not (k == f o)) xs ≡ [] → unequal_pairs (k ∷ map f xs) ≡ 0) → unequal_pairs (k ∷ map f (x ∷ xs)) ≡ 0
      by_case false e later =
          let some : x ∷ filter (λ o. not (k == f o)) xs ≡ [] = ap (λ b. if not b then x ∷ filter (λ o. not (k == f o)) xs else filter (λ o. not (k == f o)) xs) (sym e) ∙ none in
          absurd (omega (arith, ap length some))
      by_case true e later =
          let rest : filter (λ o. not (k == f o)) xs ≡ [] = ap (λ b. if not b then x ∷ filter (λ o. not (k == f o)) xs else filter (λ o. not (k == f o)) xs) (sym e) ∙ none in
          let same : k ≡ f x = eqb-true k (f x) e in
          let here : one_if (not (k == f x)) ≡ 0 = ap (λ b. one_if (not b)) e in
          let pairs : unequal_pairs (f x ∷ map f xs) ≡ 0 = ap (λ j. unequal_pairs (j ∷ map f xs)) (sym same) ∙ later rest in
          omega (arith, here, pairs, later rest, count_by-cons (λ y. not (k == y)) (f x) (map f xs))

  pub several_parts : (xs : List ℕ) (bs : List Branch) → AreSetParts f pattern xs bs → 0 < unequal_pairs (map f xs) → 2 ≤ length bs
  several_parts [] bs parts some = absurd (omega (arith, some))
  several_parts (x ∷ xs) [] parts some = absurd parts
  several_parts (x ∷ xs) (b ∷ []) parts some = absurd (omega (arith, some, all_alike (f x) xs (no_parts (filter (λ o. not (f x == f o)) xs) parts.3)))
  several_parts (x ∷ xs) (b ∷ c ∷ bs) parts some = omega arith

-- ---- places that are noted

pub numbers_same : (bs : List Branch) (place : ℕ) (old new : Branch) → old ≡ get_or bs place old → new.number ≡ old.number → branch_numbers (set bs place new) ≡ branch_numbers bs
numbers_same bs place old new at same = map-set_same {A = Branch} {B = ℕ} (λ (b : Branch). b.number) bs place new old (same ∙ ap (λ (b : Branch). b.number) at)

pub noted_same : (slots : List ℕ) (bs : List Branch) (place : ℕ) (old new : Branch) → old ≡ get_or bs place old → new.number ≡ old.number → ArePlacesNoted slots bs → ArePlacesNoted slots (set bs place new)
noted_same slots bs place old new at same noted =
    let numbers = numbers_same bs place old new at same in
    let many : length (set bs place new) ≡ length bs = length-set bs place new in
    record {
      within = λ j h. subst (λ (ns : List ℕ). slice_index ns j < length slots) (sym numbers) (noted.within j (omega (arith, h, many)));
      noted = λ j h. subst (λ (ns : List ℕ). slice_index slots (slice_index ns j) ≡ j) (sym numbers) (noted.noted j (omega (arith, h, many)));
    }

module _ (c : ClassNumbers) (pattern : ℕ) (all : List ℕ) (at : ℕ) (low : at < length all) (slots : List ℕ) (bs : List Branch) (so_far : ArePartsTo c pattern (take at all) bs slots) (number : ℕ) (number_is : number ≡ class_number c pattern (get_or all at 0)) where
  abbrev class : ℕ
  class = get_or all at 0

  longer : length (take (at + 1) all) ≡ length (take at all) + 1
  longer = omega (arith, low, length-take-le at all (omega (arith, low)), length-take-le (at + 1) all (omega (arith, low)))

  module _ (place : ℕ) (old new : Branch) (has : HasNumber bs number place) (at_place : old ≡ get_or bs place old) (p_is : new.pattern ≡ old.pattern) (n_is : new.number ≡ old.number) (c_is : classes_of new ≡ classes_of old ++ class ∷ []) where
    old_number : old.number ≡ number
    old_number = ap (λ (b : Branch). b.number) at_place ∙ (sym (get_or-map (λ (b : Branch). b.number) bs place old 0 has.within) ∙ has.is)

    only : (j : ℕ) → j < length bs → slice_index (branch_numbers bs) j ≡ class_number c pattern class → j ≡ place
    only j h e = sym (so_far.noted.noted j h) ∙ (ap (slice_index slots) (e ∙ (sym number_is ∙ sym has.is)) ∙ so_far.noted.noted place has.within)

    pub parts_found : ArePartsTo c pattern (take (at + 1) all) (set bs place new) slots
    parts_found = record {
      parts = subst (λ (xs : List ℕ). AreBranchesOf c pattern xs (set bs place new)) (sym (take_more all at 0 low))
          (put_found (class_number c pattern) pattern bs (take at all) class place old new so_far.parts has.within at_place (old_number ∙ number_is) only p_is (n_is ∙ (old_number ∙ number_is)) c_is);
      noted = noted_same slots bs place old new at_place n_is so_far.noted;
      room = so_far.room;
      few = omega (arith, length-set bs place new, so_far.few, longer);
    }

  module _ (new : Branch) (none : HaveNotNumber bs number) (inside : number < length slots) (p_is : new.pattern ≡ pattern) (n_is : new.number ≡ number) (c_is : classes_of new ≡ class ∷ []) where
    numbers_new : branch_numbers (bs ++ new ∷ []) ≡ branch_numbers bs ++ number ∷ []
    numbers_new = map-append (λ (b : Branch). b.number) bs (new ∷ []) ∙ ap (λ n. branch_numbers bs ++ n ∷ []) n_is

    many : length (branch_numbers bs) ≡ length bs
    many = length-map {A = Branch} {B = ℕ} bs (λ (b : Branch). b.number)

    number_at : (j : ℕ) → j < length bs → slice_index (branch_numbers (bs ++ new ∷ [])) j ≡ slice_index (branch_numbers bs) j
    number_at j h = ap (λ (ns : List ℕ). get_or ns j 0) numbers_new ∙ get_or_append_left (branch_numbers bs) (number ∷ []) 0 j (omega (arith, h, many))

    number_last : slice_index (branch_numbers (bs ++ new ∷ [])) (length bs) ≡ number
    number_last =
        ap (λ (ns : List ℕ). get_or ns (length bs) 0) numbers_new
        ∙ (get_or-append_right (branch_numbers bs) (number ∷ []) (length bs) (length bs) 0 many (omega arith) ∙ ap (λ k. get_or (number ∷ []) k 0) (let e : length bs - length bs ≡ 0 = omega arith in e))

    last_or_below : (j : ℕ) → j < length (bs ++ new ∷ []) → (j ≡ length bs) ⊎ (j < length bs)
    last_or_below j h = let l : length (bs ++ new ∷ []) ≡ length bs + 1 = length-append bs (new ∷ []) in split j (omega (arith, h, l))
      where
        split : (k : ℕ) → k < length bs + 1 → (k ≡ length bs) ⊎ (k < length bs)
        split k below = grind (arith, below)

    noted_at : (j : ℕ) → (j ≡ length bs) ⊎ (j < length bs) → (slice_index (branch_numbers (bs ++ new ∷ [])) j < length (set slots number (length bs))) × (slice_index (set slots number (length bs)) (slice_index (branch_numbers (bs ++ new ∷ [])) j) ≡ j)
    noted_at j (inl e) = (
      omega (arith, ap (slice_index (branch_numbers (bs ++ new ∷ []))) e, number_last, inside, length-set slots number (length bs)),
      ap (slice_index (set slots number (length bs))) (ap (slice_index (branch_numbers (bs ++ new ∷ []))) e ∙ number_last) ∙ (get_or-set_same slots number (length bs) 0 inside ∙ sym e),
    )
    noted_at j (inr h) = (
      omega (arith, number_at j h, so_far.noted.within j h, length-set slots number (length bs)),
      ap (slice_index (set slots number (length bs))) (number_at j h) ∙ (get_or-set_other slots number (slice_index (branch_numbers bs) j) (length bs) 0 (none j h) ∙ so_far.noted.noted j h),
    )

    pub parts_new : ArePartsTo c pattern (take (at + 1) all) (bs ++ new ∷ []) (set slots number (length bs))
    parts_new = record {
      parts = subst (λ (xs : List ℕ). AreBranchesOf c pattern xs (bs ++ new ∷ [])) (sym (take_more all at 0 low))
          (put_new (class_number c pattern) pattern bs (take at all) class new so_far.parts (λ j h e. none j h (e ∙ sym number_is)) p_is (n_is ∙ number_is) c_is);
      noted = record { within = λ j h. (noted_at j (last_or_below j h)).0; noted = λ j h. (noted_at j (last_or_below j h)).1 };
      room = length-set slots number (length bs) ∙ so_far.room;
      few = omega (arith, length-append bs (new ∷ []), so_far.few, longer);
    }
