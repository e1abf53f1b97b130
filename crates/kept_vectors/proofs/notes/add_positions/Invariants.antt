use Rattle.std.proofs.Common.{◌≡◌, ◌++◌, take}
use Rattle.kept_vectors.specs.Notes.{lane_positions}
use Rattle.kept_vectors.proofs.notes.add_positions.Given as goal

abbrev pub invariant-loop-note : goal.invariant-loop-note
invariant-loop-note l = l.positions.items ≡ l.initial.positions.items ++ lane_positions (take l.note-index l.notes) l.lane
