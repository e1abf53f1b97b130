use Rattle.std.proofs.Common.{◌≡◌, ℕ, ◌<◌, take}
use Rattle.net_model.specs.declared.fault.Fault.TheVariants.{Free}
use Rattle.net_model.proofs.SetSoFar.{SetSoFar}
use Rattle.word_sim.specs.declared.lanes.TheConstants.{LANES}
use Rattle.word_sim.specs.BlockFields.{column}
use Rattle.word_sim.proofs.good_sim.evaluate.Given as goal

abbrev pub invariant-loop-line : goal.invariant-loop-line
invariant-loop-line l = record {
  kept : take l.circuit.sources l.rows ≡ take l.circuit.sources l.initial.rows;
  set : (lane : ℕ) → lane < LANES → SetSoFar l.circuit Free (column (take l.circuit.sources l.initial.rows) lane) l.line-items l.line-index (column l.rows lane);
}
