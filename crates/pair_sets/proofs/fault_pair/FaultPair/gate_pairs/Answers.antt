use Rattle.std.proofs.Common.{ℕ, ◌≡◌, ◌∙◌, List, [], ◌∷◌, Bool, true, false, sym, ap}
use Rattle.std.specs.Prelude.{if◌then◌else◌}
use Rattle.net_model.specs.declared.gate.Kind.{Kind}
use Rattle.net_model.specs.declared.gate.Kind.TheVariants.{Not}
use Rattle.net_model.specs.declared.operation.Operation.{Operation}
use Rattle.net_model.specs.declared.operation.Operation.TheVariants.{Folded, Chosen}
use Rattle.net_model.specs.Gate.{operation_of, inverts}
use Rattle.pair_sets.specs.PairSet.{PairSet, gate_pairs, operation_pairs}
use Rattle.pair_sets.specs.CubeState.{seen_pairs}
use Rattle.pair_sets.proofs.GateLemmas.{by_operation}
use Rattle.pair_sets.proofs.fault_pair.FaultPair.gate_pairs.Goals as goal
use Rattle.pair_sets.proofs.fault_pair.FaultPair.gate_pairs.Goals.{After-inverts, in-Folded, in-Chosen}

-- the pairs are those that the gate's operation gives for what its pins see
operation_is : (c : After-inverts) → c.match-operation.pairs ≡ operation_pairs (operation_of c.args.gate.now.kind) (seen_pairs c.args.self.now.f c.args.self.now.g c.args.sets.now c.args.line c.args.gate.now.pins)
operation_is c =
    let of_pins : Operation → List ℕ → PairSet = λ operation pins. operation_pairs operation (seen_pairs c.args.self.now.f c.args.self.now.g c.args.sets.now c.args.line pins) in
    let pins = c.args.gate.now.pins in
    elim c.match-operation.branch [
      | in-Folded w ↦ w.pairs-is ∙ w.folded-pairs.ensures ∙ ap (of_pins (Folded w.in-Folded.fold)) c.as_slice-pins.ensures ∙ ap (λ o. of_pins o pins) w.in-Folded.ensures
      | in-Chosen w ↦ w.pairs-is ∙ w.chosen-pairs.ensures ∙ ap (of_pins Chosen) c.as_slice-pins.ensures ∙ ap (λ o. of_pins o pins) w.in-Chosen.ensures
    ]

-- they are inverted if the kind inverts
by_kind : (kind : Kind) (seen : List PairSet) (turns : Bool) → inverts kind ≡ turns → (if turns then gate_pairs Not (operation_pairs (operation_of kind) seen ∷ []) else operation_pairs (operation_of kind) seen) ≡ gate_pairs kind seen
by_kind kind seen turns e = sym (by_operation kind seen ∙ ap (λ b. if b then gate_pairs Not (operation_pairs (operation_of kind) seen ∷ []) else operation_pairs (operation_of kind) seen) e)

pub returns-then-inverts : goal.returns-then-inverts
returns-then-inverts c =
    c.not.ensures ∙ ap (λ s. gate_pairs Not (s ∷ [])) (operation_is (goal.at.returns-then-inverts c).After-inverts)
    ∙ by_kind c.args.gate.now.kind _ true (sym c.inverts.ensures ∙ c.if-inverts.true)

pub returns-else-inverts : goal.returns-else-inverts
returns-else-inverts c = operation_is (goal.at.returns-else-inverts c).After-inverts ∙ by_kind c.args.gate.now.kind _ false (sym c.inverts.ensures ∙ c.if-inverts.false)
