-- Operands: their variables, and the variables starting at an operand.
use Rattle.std.proofs.Common.{◌≡◌, ℕ, ◌+◌, ◌*◌, ◌<◌, ◌≤◌, ◌++◌, refl, ap, ◌∙◌, sym, subst, arith, length, get_or, drop}
use Rattle.std.specs.Prelude.{Bool, Option, None, Some, IfSome, List, [], ◌∷◌, All, map}
use Rattle.std.specs.List.{cons_option}
use Rattle.std.specs.Option.{option_map_or}
use Rattle.std.proofs.lemmas.List.{append_assoc, drop_more, drop_all}
use Rattle.std.proofs.lemmas.List.Elements.{All-cons, All-head, All-tail, All-nil, All-map}
use Rattle.clause_pool.specs.Literal.{Literal}
use Rattle.clause_pool.specs.Proper.{IsVariable}
use Rattle.pair_miter.specs.Operand.{Operand, constant, variable, variable_of}
use Rattle.pair_miter.specs.Marks.{IsOperand, HavePlaces}
use Rattle.pair_miter.specs.Rows.{variables, operand_literals, signed_literal, with_all}

-- the variables of operands that are within are within
pub variables_within : (n : ℕ) (operands : List Operand) → All (IsOperand n) operands → All (IsVariable n) (variables operands)
variables_within n [] h = All-nil (IsVariable n)
variables_within n (constant b ∷ operands) h = variables_within n operands (All-tail (IsOperand n) (constant b) operands h)
variables_within n (variable x ∷ operands) h =
    All-cons (IsVariable n) x (variables operands) (All-head (IsOperand n) (variable x) operands h) (variables_within n operands (All-tail (IsOperand n) (variable x) operands h))

pub operands_within : (n : ℕ) (operands : List Operand) → All (IsVariable n) (variables operands) → All (IsOperand n) operands
operands_within n [] h = All-nil (IsOperand n)
operands_within n (constant b ∷ operands) h = All-cons (IsOperand n) (constant b) operands tt (operands_within n operands h)
operands_within n (variable x ∷ operands) h =
    All-cons (IsOperand n) (variable x) operands (All-head (IsVariable n) x (variables operands) h) (operands_within n operands (All-tail (IsVariable n) x (variables operands) h))

-- what is known of the first variable, and of the operands after it
pub first_within : (n x : ℕ) (operands rest : List Operand) → All (IsOperand n) operands → variables operands ≡ x ∷ variables rest → IsVariable n x
first_within n x operands rest h e = All-head (IsVariable n) x (variables rest) (subst (All (IsVariable n)) e (variables_within n operands h))

pub rest_within : (n x : ℕ) (operands rest : List Operand) → All (IsOperand n) operands → variables operands ≡ x ∷ variables rest → All (IsOperand n) rest
rest_within n x operands rest h e = operands_within n rest (All-tail (IsVariable n) x (variables rest) (subst (All (IsVariable n)) e (variables_within n operands h)))

-- a clause of all variables has places for its marks
pub row_places : (n : ℕ) (marks : List Bool) (first : Literal) (positive : Bool) (operands : List Operand) → length marks ≡ 2 * n + 2 → first.variable ≤ n → All (IsOperand n) operands
    → HavePlaces marks (with_all first positive (variables operands))
row_places n marks first positive operands places f h =
    All-cons (λ l. 2 * l.variable + 1 < length marks) first (map (signed_literal positive) (variables operands)) (omega arith)
    (All-map (λ l. 2 * l.variable + 1 < length marks) (signed_literal positive) (variables operands) (λ k d below. let within = variables_within n operands h k d below in omega arith))

-- an operand of fewer variables is one of more
option_weaker : (n m : ℕ) (o : Option ℕ) → n ≤ m → IfSome o (IsVariable n) → IfSome o (IsVariable m)
option_weaker n m None le h = h
option_weaker n m (Some x) le h = (h.0, omega (arith, h.1, le))

pub operand_weaker : (n m : ℕ) (operand : Operand) → n ≤ m → IsOperand n operand → IsOperand m operand
operand_weaker n m operand le h = option_weaker n m (variable_of operand) le h

-- ---- the variables starting at an operand

literal_and : (positive : Bool) (o : Option ℕ) (xs : List ℕ) → option_map_or (λ x. signed_literal positive x ∷ []) o [] ++ map (signed_literal positive) xs ≡ map (signed_literal positive) (cons_option o xs)
literal_and positive None xs = refl
literal_and positive (Some x) xs = refl

module _ (operands : List Operand) (i : ℕ) (operand : Operand) (h : i < length operands) (is : operand ≡ get_or operands i operand) where
  one_more : variables (drop i operands) ≡ cons_option (variable_of operand) (variables (drop (i + 1) operands))
  one_more = ap variables (drop_more operands i operand h) ∙ ap (λ (o : Operand). variables (o ∷ drop (i + 1) operands)) (sym is)

  pub variable_at : (x : ℕ) → variable_of operand ≡ Some x → variables (drop i operands) ≡ x ∷ variables (drop (i + 1) operands)
  variable_at x e = one_more ∙ ap (λ (o : Option ℕ). cons_option o (variables (drop (i + 1) operands))) e

  pub constant_at : variable_of operand ≡ None → variables (drop i operands) ≡ variables (drop (i + 1) operands)
  constant_at e = one_more ∙ ap (λ (o : Option ℕ). cons_option o (variables (drop (i + 1) operands))) e

  -- a row goes on with the operand's literal
  pub row_more : (positive : Bool) (row more whole : List Literal) → more ≡ row ++ operand_literals positive operand → row ++ map (signed_literal positive) (variables (drop i operands)) ≡ whole
      → more ++ map (signed_literal positive) (variables (drop (i + 1) operands)) ≡ whole
  row_more positive row more whole e so_far =
      let rest : List Literal = map (signed_literal positive) (variables (drop (i + 1) operands)) in
      let joined = literal_and positive (variable_of operand) (variables (drop (i + 1) operands)) ∙ sym (ap (map (signed_literal positive)) one_more) in
      ap (λ ls. ls ++ rest) e ∙ (append_assoc row (operand_literals positive operand) rest ∙ (ap (λ ls. row ++ ls) joined ∙ so_far))

  pub operand_within : (n : ℕ) → All (IsOperand n) operands → IsOperand n operand
  operand_within n all = subst (IsOperand n) (sym is) (all i operand h)

-- the variable of an operand that is within
pub variable_within : (n x : ℕ) (operand : Operand) → IsOperand n operand → variable_of operand ≡ Some x → IsVariable n x
variable_within n x operand h e = subst (λ (o : Option ℕ). IfSome o (IsVariable n)) e h

pub variables_end : (operands : List Operand) (i : ℕ) → length operands ≤ i → variables (drop i operands) ≡ []
variables_end operands i h = ap variables (drop_all i operands h)
