use Rattle.std.proofs.Common.{◌≡◌}
use Rattle.word_sim.specs.GoodSim.{vectors_of}
use Rattle.answer_numbers.specs.Compared.{AreCompared}
use Rattle.answer_numbers.proofs.numbers.compare.Given as goal

abbrev pub invariant-loop-place : goal.invariant-loop-place
invariant-loop-place l = record {
  sim : l.sim.circuit ≡ l.good.circuit;
  compared : AreCompared l.good.circuit l.leads (vectors_of l.good) l.place l.compared;
}
