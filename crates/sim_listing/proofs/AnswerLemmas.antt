-- The lines of answers that differ.
use Rattle.std.proofs.Common.{◌≡◌, ◌∙◌, ℕ, ◌+◌, ◌-◌, ◌≤◌, Bool, true, false, cond, List, [], ◌∷◌, ◌++◌, sym, ap, arith, append_assoc}
use Rattle.std.specs.Prelude.{filter, flat_map}
use Rattle.std.specs.List.{range_with_len}
use Rattle.std.proofs.lemmas.List.{append-nil}
use Rattle.std.proofs.lemmas.List.Elements.{filter-append}
use Rattle.std.proofs.lemmas.Grind.{flat_map-append}
use Rattle.net_model.proofs.Orders.{range_with_len_more}

line_by : (b : Bool) (line : ℕ → List ℕ) (number : ℕ) (before : List ℕ) → cond b (before ++ line number) before ≡ before ++ flat_map line (cond b (number ∷ []) [])
line_by true line number before = ap (λ (xs : List ℕ). before ++ xs) (sym (append-nil (line number)))
line_by false line number before = sym (append-nil before)

-- one more line is written if the number's answer differs
pub lines_more : (differs : ℕ → Bool) (line : ℕ → List ℕ) (number : ℕ) (initial before after : List ℕ) → 1 ≤ number → before ≡ initial ++ flat_map line (filter differs (range_with_len 1 (number - 1)))
    → after ≡ cond (differs number) (before ++ line number) before → after ≡ initial ++ flat_map line (filter differs (range_with_len 1 ((number + 1) - 1)))
lines_more differs line number initial before after low is next =
    let lower = range_with_len 1 (number - 1) in
    let last = filter differs (number ∷ []) in
    let numbers : range_with_len 1 ((number + 1) - 1) ≡ lower ++ number ∷ [] = range_with_len_more 1 ((number + 1) - 1) (number - 1) number (omega (arith, low)) (omega (arith, low)) in
    let all : flat_map line (filter differs (range_with_len 1 ((number + 1) - 1))) ≡ flat_map line (filter differs lower) ++ flat_map line last =
    ap (λ (ns : List ℕ). flat_map line (filter differs ns)) numbers ∙ ap (flat_map line) (filter-append differs lower (number ∷ [])) ∙ flat_map-append line (filter differs lower) last in
    next ∙ line_by (differs number) line number before ∙ ap (λ (xs : List ℕ). xs ++ flat_map line last) is
    ∙ append_assoc initial (flat_map line (filter differs lower)) (flat_map line last) ∙ ap (λ (xs : List ℕ). initial ++ xs) (sym all)
