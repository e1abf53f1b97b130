-- The rows of a gate in the parts in which they are written.
use Rattle.std.proofs.Common.{◌≡◌, ◌∙◌, ◌+◌, ◌<◌, ℕ, ap, sym, arith, length, get_or}
use Rattle.std.specs.Prelude.{Bool, true, false, List, [], ◌∷◌, ◌++◌, if◌then◌else◌}
use Rattle.std.proofs.lemmas.List.{get_or_default}
use Rattle.net_model.specs.declared.gate.Kind.{Kind}
use Rattle.net_model.specs.declared.operation.Operation.{Operation}
use Rattle.net_model.specs.Gate.{operation_of, inverts}
use Rattle.clause_pool.specs.Literal.{Literal, pos_literal, opposite}
use Rattle.pair_miter.specs.Operand.{Operand, constant}
use Rattle.pair_miter.specs.Rows.{variables, has_constant, decided_of, decided_rows, xor_of_two, xor_onward, case_clause, case_rows, operand_at, chosen_rows, operation_rows, output_literal, gate_rows}
use Rattle.pair_miter.proofs.AddSteps.{InTwo}

pub decided_parts : (decides : Bool) (l : Literal) (operands : List Operand) → has_constant decides operands ≡ false → decided_rows decides l operands ≡ decided_of decides l (variables operands)
decided_parts decides l operands none = ap (λ b. if b then (l ∷ []) ∷ [] else decided_of decides l (variables operands)) none

-- the rows of a gate by its operation and its output's literal
pub rows_of_gate : (kind : Kind) (operation : Operation) (y : Literal) (output helper : ℕ) (operands : List Operand) → operation_of kind ≡ operation → y ≡ output_literal (inverts kind) output
    → operation_rows operation y helper operands ≡ gate_rows kind output helper operands
unfolding gate_rows
rows_of_gate kind operation y output helper operands e is = (λ i. operation_rows (sym e i) (is i) helper operands)

operand_there : (operands : List Operand) (place : ℕ) (operand : Operand) → place < length operands → operand ≡ get_or operands place operand → operand_at operands place ≡ operand
operand_there operands place operand h is = get_or_default operands place (constant false) operand h ∙ sym is

-- the rows of a choice among three operands
pub chosen_parts : (y : Literal) (operands : List Operand) {s a b : Operand} → length operands ≡ 3 → s ≡ get_or operands 0 s → a ≡ get_or operands 1 a → b ≡ get_or operands 2 b → InTwo (chosen_rows y operands) (case_rows y true s a) (case_rows y false s b)
chosen_parts y operands {s} {a} {b} three first second third =
    let s_is = operand_there operands 0 s (omega arith) first in
    let a_is = operand_there operands 1 a (omega arith) second in
    let b_is = operand_there operands 2 b (omega arith) third in
    record { are = λ i. case_rows y true (s_is i) (a_is i) ++ case_rows y false (s_is i) (b_is i) }

-- the rows of a case, by the opposite of its literal
pub case_parts : (y : Literal) {l : Literal} (unless : Bool) (s x : Operand) → l ≡ opposite y → InTwo (case_rows y unless s x) (case_clause l unless s true x) (case_clause y unless s false x)
case_parts y unless s x is = record { are = ap (λ (l : Literal). case_clause l unless s true x ++ case_clause y unless s false x) (sym is) }

-- what remains of an exclusive or, with one more variable, by the helper's literal
pub onward_parts : (y before : Literal) (part last : ℕ) {here : Literal} {x : ℕ} {xs rest : List ℕ} → here ≡ pos_literal part → xs ≡ x ∷ rest
    → InTwo (xor_onward y part before (last ∷ xs)) (xor_of_two here before (pos_literal last)) (xor_onward y (part + 1) here (x ∷ rest))
onward_parts y before part last {x = x} {rest = rest} is next = record {
  are = ap (λ xs. xor_onward y part before (last ∷ xs)) next ∙ ap (λ (l : Literal). xor_of_two l before (pos_literal last) ++ xor_onward y (part + 1) l (x ∷ rest)) (sym is);
}
