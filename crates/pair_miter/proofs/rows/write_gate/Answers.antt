use Rattle.std.proofs.Common.{◌≡◌, ◌∙◌, ◌+◌, ◌<◌, ◌^◌, ℕ, sym, ap, subst}
use Rattle.std.specs.Prelude.{Bool, false, List, not, length}
use Rattle.net_model.specs.declared.gate.Kind.{Kind}
use Rattle.net_model.specs.declared.operation.Fold.TheVariants.{AllOf, AnyOf, OddOf}
use Rattle.net_model.specs.declared.operation.Operation.{Operation}
use Rattle.net_model.specs.declared.operation.Operation.TheVariants.{Folded, Chosen}
use Rattle.net_model.specs.Gate.{operation_of, inverts}
use Rattle.clause_pool.specs.Literal.{Literal}
use Rattle.clause_pool.specs.Clauses.{Clause, Clauses}
use Rattle.pair_miter.specs.Operand.{Operand}
use Rattle.pair_miter.specs.Adds.{WritesClauses}
use Rattle.pair_miter.specs.Miter.{tidy}
use Rattle.pair_miter.specs.Rows.{decided_rows, operation_rows, gate_rows}
use Rattle.pair_miter.proofs.RowParts.{rows_of_gate}
use Rattle.pair_miter.proofs.rows.write_gate.Goals as goal

rows : (kind : Kind) (operation : Operation) (output helper : ℕ) (operands : List Operand) {asked : Operation} {inverted : Bool} {y : Literal} → asked ≡ operation_of kind → asked ≡ operation → inverted ≡ inverts kind
    → y ≡ record { variable = output; positive = not inverted } → operation_rows operation y helper operands ≡ gate_rows kind output helper operands
rows kind operation output helper operands {y = y} told is turned y_is = rows_of_gate kind operation y output helper operands (sym told ∙ is) (y_is ∙ ap (λ b. record { variable = output; positive = not b }) turned)

few : (pool : Clauses) {some all : List Clause} → some ≡ all → length pool.clauses + length (tidy all) < 2 ^ 30 → length pool.clauses + length (tidy some) < 2 ^ 30
few pool same h = subst (λ (xs : List Clause). length pool.clauses + length (tidy xs) < 2 ^ 30) (sym same) h

pub returns-in-Folded-AllOf-clause-written : goal.returns-in-Folded-AllOf-clause-written
returns-in-Folded-AllOf-clause-written c =
    subst (λ (xs : List Clause). WritesClauses c.write_decided.result c.args.pool.now c.write_decided.new.pool (tidy xs))
    (ap (λ (l : Literal). decided_rows false l c.args.operands.now) c.opposite.ensures ∙ rows c.args.kind (Folded AllOf) c.args.output c.args.helper c.args.operands.now c.operation.ensures (c.in-Folded-AllOf.is ∙ ap (λ f. Folded f) c.in-Folded-AllOf.field-0-is) c.inverts.ensures c.literal-y.ensures)
    c.write_decided.ensures.written

pub returns-in-Folded-AnyOf-clause-written : goal.returns-in-Folded-AnyOf-clause-written
returns-in-Folded-AnyOf-clause-written c =
    subst (λ (xs : List Clause). WritesClauses c.write_decided-in-Folded-AnyOf.result c.args.pool.now c.write_decided-in-Folded-AnyOf.new.pool (tidy xs))
    (rows c.args.kind (Folded AnyOf) c.args.output c.args.helper c.args.operands.now c.operation.ensures (c.in-Folded-AnyOf.is ∙ ap (λ f. Folded f) c.in-Folded-AnyOf.field-0-is) c.inverts.ensures c.literal-y.ensures)
    c.write_decided-in-Folded-AnyOf.ensures.written

pub returns-in-Folded-OddOf-clause-written : goal.returns-in-Folded-OddOf-clause-written
returns-in-Folded-OddOf-clause-written c =
    subst (λ (xs : List Clause). WritesClauses c.write_odd.result c.args.pool.now c.write_odd.new.pool (tidy xs))
    (rows c.args.kind (Folded OddOf) c.args.output c.args.helper c.args.operands.now c.operation.ensures (c.in-Folded-OddOf.is ∙ ap (λ f. Folded f) c.in-Folded-OddOf.field-0-is) c.inverts.ensures c.literal-y.ensures)
    c.write_odd.ensures.written

pub returns-in-Chosen-clause-written : goal.returns-in-Chosen-clause-written
returns-in-Chosen-clause-written c = subst (λ (xs : List Clause). WritesClauses c.write_chosen.result c.args.pool.now c.write_chosen.new.pool (tidy xs)) (rows c.args.kind Chosen c.args.output c.args.helper c.args.operands.now c.operation.ensures c.in-Chosen.is c.inverts.ensures c.literal-y.ensures) c.write_chosen.ensures.written

pub write_decided-requires-clause-operands : goal.write_decided-requires-clause-operands
write_decided-requires-clause-operands c = c.requires.operands
