use Rattle.std.proofs.Common.{◌≡◌, ◌≤◌, drop, take, length}
use Rattle.pair_sets.specs.Trail.{undone}
use Rattle.pair_sets.proofs.trail.PairTrail.restore.Given as goal

abbrev pub invariant-loop-end : goal.invariant-loop-end
invariant-loop-end l = record {
  left : l.start ≤ l.end;
  below : l.end ≤ length l.self.changes.items;
  changes : l.self.changes ≡ l.initial.self.changes;
  whole : length l.self.sets.items ≡ length l.initial.self.sets.items;
  sets : undone (drop l.start (take l.end l.self.changes.items)) l.self.sets.items ≡ undone (drop l.start l.initial.self.changes.items) l.initial.self.sets.items;
}

abbrev pub decreases-loop-end : goal.decreases-loop-end
decreases-loop-end l = l.end
