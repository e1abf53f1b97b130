use Rattle.std.proofs.Common.{length}
use Rattle.word_sim.proofs.Drawn.{IsDrawing}
use Rattle.word_sim.proofs.stream.draw.Given as goal

abbrev pub invariant-loop-source : goal.invariant-loop-source
invariant-loop-source l = IsDrawing (length l.initial.rows) l.at l.first l.initial.rng l.initial.rows l.rows l.rng l.source
