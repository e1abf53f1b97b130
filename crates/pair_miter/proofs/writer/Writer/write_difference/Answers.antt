use Rattle.std.proofs.Common.{◌≡◌, ℕ, List, [], ◌∷◌, get_or, arith, sym, subst}
use Rattle.std.specs.Prelude.{All}
use Rattle.std.proofs.lemmas.List.Elements.{All-cons}
use Rattle.net_model.specs.declared.gate.Kind.TheVariants.{Xor}
use Rattle.net_model.specs.Fault.{stuck_position}
use Rattle.clause_pool.specs.Clauses.{Clause}
use Rattle.pair_miter.specs.Adds.{WritesClauses}
use Rattle.pair_miter.specs.Marks.{IsOperand}
use Rattle.pair_miter.specs.Miter.{difference_clauses, tidy}
use Rattle.pair_miter.specs.Rows.{gate_rows}
use Rattle.pair_miter.specs.Variables.{fault_of, variable_count}
use Rattle.pair_miter.specs.declared.side.Side.TheVariants.{First, Second}
use Rattle.pair_miter.specs.declared.side.Side.{Side}
use Rattle.pair_miter.proofs.Numbers.{difference_within}
use Rattle.pair_miter.proofs.Operands.{operand_within}
use Rattle.net_model.proofs.Relevance.{relevant_shown}
use Rattle.pair_miter.proofs.writer.Writer.write_difference.Goals as goal

pub write_gate-requires-clause-output : goal.write_gate-requires-clause-output
write_gate-requires-clause-output c =
    let p = c.args.numbering.now in
    difference_within p.circuit p.f p.g c.args.position c.args.difference c.args.self.now.tidier c.requires.difference c.requires.variables c.requires.position c.requires.reached

pub write_gate-requires-clause-operands : goal.write_gate-requires-clause-operands
write_gate-requires-clause-operands c =
    let p = c.args.numbering.now in
    let all = variable_count p.circuit p.f p.g in
    let within = λ (copy : Side).
    operand_within p.circuit p.f p.g copy c.args.position (stuck_position (fault_of p.circuit p.f p.g copy) c.args.position) (get_or p.circuit.positions c.args.position 0)
    (c.shown.ensures.circuit.positions c.args.position 0 c.requires.position)
    (relevant_shown p.circuit p.f p.g c.args.position c.requires.position c.requires.reached) in
    let first = subst (IsOperand all) (sym c.shown.ensures.value) (within First) in
    let second = subst (IsOperand all) (sym c.shown-2.ensures.value) (within Second) in
    subst (λ (n : ℕ). All (IsOperand n) (c.shown.result ∷ c.shown-2.result ∷ [])) (sym c.requires.variables)
    (All-cons (IsOperand all) c.shown.result (c.shown-2.result ∷ []) first (All-cons (IsOperand all) c.shown-2.result [] second (λ k d h. absurd (omega (arith, h)))))

pub returns-clause-written : goal.returns-clause-written
unfolding difference_clauses
returns-clause-written c =
    let p = c.args.numbering.now in
    let rows : difference_clauses p.circuit p.f p.g c.args.position ≡ gate_rows Xor c.args.difference 0 (c.shown.result ∷ c.shown-2.result ∷ []) =
    (λ i. gate_rows Xor (sym c.requires.difference i) 0 (sym c.shown.ensures.value i ∷ sym c.shown-2.ensures.value i ∷ [])) in
    subst (λ (xs : List Clause). WritesClauses c.write_gate.result c.args.pool.now c.write_gate.new.pool (tidy xs)) (sym rows) c.write_gate.ensures.written
