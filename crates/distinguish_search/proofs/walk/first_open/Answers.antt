use Rattle.std.proofs.Common.{◌≡◌, ◌∙◌, List, ℕ, get_or, sym, arith, subst}
use Rattle.std.specs.Prelude.{◌||◌, false}
use Rattle.net_model.specs.declared.fault.Fault.{Fault}
use Rattle.net_model.specs.Circuit.{Circuit}
use Rattle.net_model.specs.Scope.{reached_positions}
use Rattle.pair_sets.specs.PairSet.{PairSet}
use Rattle.pair_sets.specs.Cube.{Cube}
use Rattle.pair_sets.specs.CubeState.{position_pairs, IsPart}
use Rattle.pair_sets.specs.PairSet.{only_equal, only_unequal}
use Rattle.distinguish_search.proofs.Walks.{mixed_is_open, decided_more}
use Rattle.distinguish_search.proofs.walk.first_open.Goals as goal

-- the pairs of the reached position at a place
part_at : (c : Circuit) (f g : Fault) (cube : Cube) (reached : List ℕ) (place : ℕ) (pairs : PairSet) → reached ≡ reached_positions c f g
    → IsPart c f g cube (λ sets. position_pairs c f g sets (get_or reached place 0)) pairs → IsPart c f g cube (λ sets. position_pairs c f g sets (get_or (reached_positions c f g) place 0)) pairs
part_at c f g cube reached place pairs same part = subst (λ xs. IsPart c f g cube (λ sets. position_pairs c f g sets (get_or xs place 0)) pairs) same part

pub returns-then-not-only_equal-only_unequal : goal.returns-then-not-only_equal-only_unequal
returns-then-not-only_equal-only_unequal c =
    let sim = c.args.sim.now in
    let place = c.loop-place.place in
    let part = part_at sim.circuit sim.f sim.g sim.cube c.reached-reached.result.now place c.position_pairs-pairs.result c.reached-reached.ensures.value c.position_pairs-pairs.ensures in
    let at = get_or (reached_positions sim.circuit sim.f sim.g) place 0 in
    let mixed : (only_equal (position_pairs sim.circuit sim.f sim.g part.sets at) || only_unequal (position_pairs sim.circuit sim.f sim.g part.sets at)) ≡ false =
    (λ i. only_equal (sym part.is i) || only_unequal (sym part.is i)) ∙ (λ i. sym c.only_equal.ensures i || sym c.only_unequal.ensures i) ∙ c.if-not-only_equal-only_unequal.true in
    mixed_is_open sim.circuit sim.f sim.g sim.cube part.sets place c.reached-reached.ensures.circuit part.are (omega (arith, c.loop-place-test.true, c.requires)) mixed

pub loop-place-preserved : goal.loop-place-preserved
loop-place-preserved c =
    let sim = c.args.sim.now in
    let place = c.loop-place.place in
    let part = part_at sim.circuit sim.f sim.g sim.cube c.reached-reached.result.now place c.position_pairs-pairs.result c.reached-reached.ensures.value c.position_pairs-pairs.ensures in
    decided_more sim.circuit sim.f sim.g sim.cube c.args.from place c.position_pairs-pairs.result c.reached-reached.ensures.circuit c.loop-place.invariant part
    ((λ i. sym c.only_equal.ensures i || sym c.only_unequal.ensures i) ∙ c.if-not-only_equal-only_unequal.false)
