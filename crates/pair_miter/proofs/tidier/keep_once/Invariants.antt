use Rattle.std.proofs.Common.{◌≡◌, ◌≤◌, length, take, vec_len, vec_capacity}
use Rattle.pair_miter.specs.Marks.{AreMarksOfClause}
use Rattle.pair_miter.specs.Miter.{without_repeats, is_tautology}
use Rattle.pair_miter.proofs.tidier.keep_once.Given as goal

abbrev pub invariant-loop-lit : goal.invariant-loop-lit
invariant-loop-lit l = record {
  kept : l.kept.items ≡ without_repeats (take l.lit-index l.clause);
  few : vec_len l.kept ≤ l.lit-index;
  room : length l.clause ≤ vec_capacity l.kept;
  opposites : l.opposites ≡ is_tautology (take l.lit-index l.clause);
  places : length l.marks.items ≡ length l.initial.marks.items;
  marked : AreMarksOfClause l.marks.items (take l.lit-index l.clause);
}
