use Rattle.std.proofs.Common.{◌≡◌, ◌<◌, ◌∙◌, ℕ, List, [], length, get_or, set, sym, ap, subst, arith}
use Rattle.std.proofs.lemmas.List.{length-set, get_or-set_same, get_or-set_other}
use Rattle.net_model.specs.Circuit.{Circuit, IsCircuit, line_count}
use Rattle.net_model.specs.Answer.{bit_at}
use Rattle.net_model.proofs.Elements.{none_in}
use Rattle.fault_heads.specs.declared.head.Head.TheVariants as head
use Rattle.fault_heads.specs.Turned.{IsHeadOf, IsFalsePast}
use Rattle.fault_sim.specs.Rows.{Rows, IsFalse}
use Rattle.fault_sim.specs.Events.{IsSameRow, row_shown}
use Rattle.fault_sim.specs.FaultSim.{FaultSim, AreTurnedDifferences}
use Rattle.fault_sim.proofs.SettledLemmas.{none_true}
use Rattle.fault_sim.proofs.DifferenceLemmas.{line_differences, position_differences, no_differences, asked_live, asked_past}
use Rattle.fault_sim.proofs.sim.FaultSim.flip_live.Goals as goal

pub returns-then-not-any-clause-differences : goal.returns-then-not-any-clause-differences
returns-then-not-any-clause-differences c =
    let good = c.args.good.now in
    let lanes = c.args.lanes in
    let turned = c.and-turned.result in
    let rows = c.clear-2.new.self.rows in
    let same : c.self.inside.circuit.now ≡ good.circuit = ap (λ (s : FaultSim). s.circuit) c.self.view_is ∙ sym c.requires.circuit in
    let is : IsCircuit good.circuit = subst IsCircuit same c.self.invariant.circuit in
    let whole : length rows ≡ length good.circuit.positions = c.clear-2.ensures.count ∙ c.self.invariant.positions_whole ∙ ap (λ (n : Circuit). length n.positions) same in
    no_differences good is c.args.head lanes rows
    (λ lane within below. sym (asked_live good lanes c.args.live turned c.requires.live c.and-turned.ensures lane within below) ∙ none_true turned c.any.result c.any.ensures c.if-not-any.true lane within)
    whole (λ position h. c.clear-2.ensures.clear position h (none_in position))

pub returns-in-Line-clause-differences : goal.returns-in-Line-clause-differences
returns-in-Line-clause-differences c =
    let good = c.args.good.now in
    let lanes = c.args.lanes in
    let line = c.in-Line.line in
    let turned = c.and-turned.result in
    let lines = c.turn_line.new.rows.rows in
    let rows = c.show_positions.new.positions.rows in
    let same : c.self.inside.circuit.now ≡ good.circuit = ap (λ (s : FaultSim). s.circuit) c.self.view_is ∙ sym c.requires.circuit in
    let is : IsCircuit good.circuit = subst IsCircuit same c.self.invariant.circuit in
    let inside : line < line_count good.circuit = subst (IsHeadOf good.circuit) c.in-Line.is (subst (λ (n : Circuit). IsHeadOf n c.args.head) (sym c.requires.circuit) c.requires.head) in
    let whole : length rows ≡ length good.circuit.positions =
    c.show_positions.ensures.whole ∙ c.clear-2.ensures.count ∙ c.self.invariant.positions_whole ∙ ap (λ (n : Circuit). length n.positions) same in
    let by_slice = rw c.as_slice-lines.ensures.value at c.show_positions.ensures.shown in
    let shown : (position : ℕ) → position < length good.circuit.positions → IsSameRow (get_or rows position []) (row_shown good.circuit.positions lines position) =
    subst (λ (ps : List ℕ). (position : ℕ) → position < length ps → IsSameRow (get_or rows position []) (row_shown ps lines position))
    (c.positions-shown.ensures.value ∙ ap (λ (n : Circuit). n.positions) same) by_slice in
    subst (λ h. AreTurnedDifferences good h lanes rows) (sym c.in-Line.is)
    (line_differences good is line lanes lines rows c.turn_line.ensures.width inside c.turn_line.ensures.settled c.turn_line.ensures.past
    (λ lane within below. ap (λ r. bit_at r lane) c.turn_line.ensures.turned ∙ asked_live good lanes c.args.live turned c.requires.live c.and-turned.ensures lane within below)
    whole shown)

pub returns-in-Position-clause-differences : goal.returns-in-Position-clause-differences
returns-in-Position-clause-differences c =
    let good = c.args.good.now in
    let lanes = c.args.lanes in
    let at = c.in-Position.at in
    let turned = c.and-turned.result in
    let clear = c.clear-2.new.self.rows in
    let rows = set clear at turned in
    let new : c.set.new.self.rows ≡ rows = ap (λ (r : Rows). r.rows) c.set.ensures in
    let same : c.self.inside.circuit.now ≡ good.circuit = ap (λ (s : FaultSim). s.circuit) c.self.view_is ∙ sym c.requires.circuit in
    let is : IsCircuit good.circuit = subst IsCircuit same c.self.invariant.circuit in
    let was : length clear ≡ length good.circuit.positions = c.clear-2.ensures.count ∙ c.self.invariant.positions_whole ∙ ap (λ (n : Circuit). length n.positions) same in
    let inside : at < length good.circuit.positions = subst (IsHeadOf good.circuit) c.in-Position.is (subst (λ (n : Circuit). IsHeadOf n c.args.head) (sym c.requires.circuit) c.requires.head) in
    let low : at < length clear = omega (arith, was, inside) in
    let here : get_or rows at [] ≡ turned = get_or-set_same clear at turned [] low in
    subst (λ h. AreTurnedDifferences good h lanes c.set.new.self.rows) (sym c.in-Position.is) (subst (AreTurnedDifferences good (head.Position at) lanes) (sym new)
    (position_differences good is at lanes rows (subst (IsFalsePast good) (sym here) (asked_past good lanes c.args.live turned c.requires.live c.and-turned.ensures))
    (λ lane within below. ap (λ r. bit_at r lane) here ∙ asked_live good lanes c.args.live turned c.requires.live c.and-turned.ensures lane within below)
    (length-set clear at turned ∙ was)
    (λ position h ne.
    let old : position < length clear = omega (arith, h, length-set clear at turned) in
    subst IsFalse (sym (get_or-set_other clear at position turned [] ne)) (c.clear-2.ensures.clear position old (none_in position)))))
