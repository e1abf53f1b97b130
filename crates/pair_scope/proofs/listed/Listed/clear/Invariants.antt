use Rattle.std.proofs.Common.{◌≡◌, length}
use Rattle.std.specs.Prelude.{vec_len}
use Rattle.pair_scope.specs.Listed.{AreListed}
use Rattle.pair_scope.proofs.listed.Listed.clear.Given as goal

abbrev pub invariant-loop-number : goal.invariant-loop-number
invariant-loop-number l = record {
  whole : length l.self.marks.items ≡ length l.initial.self.marks.items;
  listed : AreListed l.self;
}

abbrev pub decreases-loop-number : goal.decreases-loop-number
decreases-loop-number l = vec_len l.self.numbers
