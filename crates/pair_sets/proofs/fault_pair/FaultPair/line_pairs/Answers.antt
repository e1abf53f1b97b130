use Rattle.std.proofs.Common.{◌≡◌, ◌∙◌, sym, ap, arith}
use Rattle.std.specs.Prelude.{Option, false}
use Rattle.std.specs.Option.{option_map_or}
use Rattle.net_model.specs.declared.gate.Gate.{Gate}
use Rattle.net_model.specs.Circuit.{gate_at}
use Rattle.net_model.specs.Fault.{stuck_stem}
use Rattle.net_model.proofs.Wired.{few_pins}
use Rattle.fault_list.specs.Scope.{begins_at}
use Rattle.pair_sets.specs.Cube.{Cube}
use Rattle.pair_sets.specs.PairSet.{PairSet, forced_pairs, gate_pairs}
use Rattle.pair_sets.specs.CubeState.{seen_pairs, source_pairs, line_pairs}
use Rattle.pair_sets.proofs.Elsewhere.{stem_unchanged}
use Rattle.pair_sets.proofs.fault_pair.FaultPair.line_pairs.Goals as goal
use Rattle.pair_sets.proofs.fault_pair.FaultPair.line_pairs.Goals.{After-gate_pairs-pairs}

pub gate_pairs-pairs-requires-clause-few : goal.gate_pairs-pairs-requires-clause-few
gate_pairs-pairs-requires-clause-few c = omega (arith, few_pins c.args.self.now.circuit.now c.gate.ensures.circuit c.args.line c.gate.result.now c.gate.ensures.value)

-- the pairs that the gate of the line gives, without what the faults stick at its stem
driven : (c : After-gate_pairs-pairs) (cube : Cube)
    → c.gate_pairs-pairs.result ≡ option_map_or (λ gate. gate_pairs gate.kind (seen_pairs c.args.self.now.f c.args.self.now.g c.args.sets.now c.args.line gate.pins)) (gate_at c.args.self.now.circuit.now c.args.line) (source_pairs cube c.args.line)
driven c cube =
    let gives : Option Gate → PairSet = λ o. option_map_or (λ gate. gate_pairs gate.kind (seen_pairs c.args.self.now.f c.args.self.now.g c.args.sets.now c.args.line gate.pins)) o (source_pairs cube c.args.line) in
    c.gate_pairs-pairs.ensures ∙ ap gives (sym c.gate.ensures.value)

pub returns-then-begins : goal.returns-then-begins
unfolding line_pairs
returns-then-begins c = λ cube.
    c.stem_pairs.ensures ∙ ap (forced_pairs (stuck_stem c.args.self.now.f c.args.line) (stuck_stem c.args.self.now.g c.args.line)) (driven (goal.at.returns-then-begins c).After-gate_pairs-pairs cube)

pub returns-else-begins : goal.returns-else-begins
unfolding line_pairs
returns-else-begins c = λ cube.
    let f = c.args.self.now.f in
    let g = c.args.self.now.g in
    let line = c.args.line in
    let other : begins_at f g line ≡ false = sym c.begins_at-begins.ensures ∙ c.if-begins.false in
    stem_unchanged f g line other c.gate_pairs-pairs.result ∙ ap (forced_pairs (stuck_stem f line) (stuck_stem g line)) (driven (goal.at.returns-else-begins c).After-gate_pairs-pairs cube)
