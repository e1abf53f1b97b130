use Rattle.std.proofs.Common.{◌≡◌, ◌<◌, ◌∙◌, length, get_or, ap, arith}
use Rattle.std.proofs.lemmas.List.{get_or_default}
use Rattle.net_model.specs.Circuit.{line_count}
use Rattle.pair_sets.specs.PairSet.{forced_pairs, free_pairs}
use Rattle.pair_sets.specs.CubeState.{set_at, position_pairs}
use Rattle.pair_sets.proofs.fault_pair.FaultPair.position_pairs.Goals as goal

pub returns : goal.returns
unfolding position_pairs
returns c =
    let sets = c.args.sets.now in
    let at = c.args.at in
    let circuit = c.args.self.now.circuit.now in
    let line = get_or c.positions.result.now at 0 in
    let inside : line < line_count circuit = c.positions.ensures.inside at 0 (omega (arith, ap length c.positions.ensures.value, c.requires.position)) in
    let set : c.index-sets-line.result ≡ set_at sets (get_or circuit.positions at 0) =
    c.index-sets-line.is ∙ get_or_default sets line c.index-sets-line.result free_pairs (omega (arith, inside, c.requires.width)) ∙ ap (λ ps. set_at sets (get_or ps at 0)) c.positions.ensures.value in
    c.forced.ensures ∙ (λ i. forced_pairs (c.stuck_position.ensures i) (c.stuck_position-2.ensures i) (set i))
