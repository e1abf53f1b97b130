use Rattle.std.proofs.Common.{◌≡◌, ◌++◌, map, take}
use Rattle.kept_vectors.proofs.NoteLemmas.{note_at}
use Rattle.kept_vectors.proofs.notes.note_differences.Given as goal

abbrev pub invariant-loop-position : goal.invariant-loop-position
invariant-loop-position l = l.notes.items ≡ l.initial.notes.items ++ map (note_at l.sim) (take l.position-index l.position-items)
