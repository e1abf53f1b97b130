use Rattle.std.proofs.Common.{ℕ, length}
use Rattle.word_sim.specs.StreamState.{IsAfter}
use Rattle.word_sim.proofs.Drawn.{AreDrawnTo}
use Rattle.word_sim.proofs.stream.draw_blocks.Given as goal

abbrev pub invariant-loop-at : goal.invariant-loop-at
invariant-loop-at l = (done : ℕ) → IsAfter (length l.initial.rows) done l.first l.initial.rng → AreDrawnTo (length l.initial.rows) done l.at l.rows l.rng
