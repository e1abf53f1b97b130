-- A bit as a number, and counts of the elements that pass a test.
use mir.Val.{bool_byte}
use Rattle.std.proofs.Common.{◌≡◌, ◌∙◌, ℕ, ◌+◌, ◌-◌, ◌<◌, ◌≤◌, List, length, get_or, set, refl, sym, ap, arith}
use Rattle.std.specs.Prelude.{Bool, true, false, cond, count_by}
use Rattle.std.proofs.lemmas.List.Sums.{sum_by-set, get_or-le-sum_by}

pub byte_one : (b : Bool) → bool_byte b ≤ 1
byte_one true = omega arith
byte_one false = omega arith

byte_is : (b : Bool) → bool_byte b ≡ cond b 1 0
byte_is true = refl
byte_is false = refl

module _ {X : Type 0} (test : X → Bool) (xs : List X) (i : ℕ) (was : X) (inside : i < length xs) (is : was ≡ get_or xs i was) {down : ℕ} (one : down ≡ bool_byte (test was)) where
  counted_here : cond (test (get_or xs i was)) 1 0 ≡ down
  counted_here = ap (λ x. cond (test x) 1 0) (sym is) ∙ sym (byte_is (test was)) ∙ sym one

  -- the element at the place is counted
  pub counted_less : down ≤ count_by test xs
  counted_less =
      let part : cond (test (get_or xs i was)) 1 0 ≤ count_by test xs = get_or-le-sum_by (λ x. cond (test x) 1 0) xs i was inside in
      omega (arith, part, counted_here)

  -- if another element takes its place, that one is counted instead
  pub counted_set : (new : X) {up : ℕ} → up ≡ bool_byte (test new) → count_by test (set xs i new) ≡ count_by test xs - down + up
  counted_set new {up} more =
      let changed : count_by test (set xs i new) + cond (test (get_or xs i was)) 1 0 ≡ count_by test xs + cond (test new) 1 0 = sum_by-set (λ x. cond (test x) 1 0) xs i new was inside in
      let new_is : cond (test new) 1 0 ≡ up = sym (byte_is (test new)) ∙ sym more in
      omega (arith, changed, counted_here, new_is, counted_less)
