use Rattle.std.proofs.Common.{◌≡◌, length}
use Rattle.std.specs.Prelude.{vec_len, vec_capacity}
use Rattle.pair_sets.specs.Tally.{IsBlankBut}
use Rattle.pair_sets.proofs.tally.Tally.clear.Given as goal

abbrev pub invariant-loop-at : goal.invariant-loop-at
invariant-loop-at l = record {
  whole : length l.self.shown ≡ length l.initial.self.shown;
  waiting : l.self.waiting ≡ l.initial.self.waiting;
  room : vec_capacity l.self.reached ≡ vec_capacity l.initial.self.reached;
  others : IsBlankBut l.self.reached.items l.self.shown;
}

abbrev pub decreases-loop-at : goal.decreases-loop-at
decreases-loop-at l = vec_len l.self.reached
