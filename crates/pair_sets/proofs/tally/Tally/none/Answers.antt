use Rattle.std.proofs.Common.{◌∙◌, length, ap, arith}
use Rattle.std.proofs.lemmas.List.{length-replicate}
use Rattle.pair_sets.specs.PairSet.{free_pairs}
use Rattle.pair_sets.specs.CubeState.{set_at}
use Rattle.pair_sets.proofs.BaseLemmas.{free_everywhere}
use Rattle.pair_sets.proofs.tally.Tally.none.Goals as goal

pub returns-clause-blank : goal.returns-clause-blank
returns-clause-blank c = record { reached = c.in_ok-with_capacity.ensures.items; free = λ at. ap (λ xs. set_at xs at) c.in_ok-equal.ensures ∙ free_everywhere c.args.count at }

pub returns-clause-places : goal.returns-clause-places
returns-clause-places c = record {
  whole = ap length c.in_ok-equal.ensures ∙ length-replicate c.args.count free_pairs;
  none_waits = c.in_ok-new.ensures.none;
  queue_room = c.in_ok-new.ensures.room;
  room = omega (arith, c.in_ok-with_capacity.ensures.exact);
}
