use Rattle.std.proofs.Common.{◌≡◌, ◌<◌, ℕ, Bool, List, length, get_or}
use Rattle.net_model.specs.declared.fault.Fault.TheVariants.{Free}
use Rattle.net_model.specs.Answer.{bit_at, Agrees}
use Rattle.fault_heads.specs.Turned.{vector_at}
use Rattle.answer_numbers.proofs.numbers.free_answer.Given as goal

abbrev pub invariant-loop-position : goal.invariant-loop-position
invariant-loop-position l = record {
  whole : length l.answer ≡ length l.good.circuit.positions;
  each : (k : ℕ) (bits : List Bool) → k < l.position → Agrees l.good.circuit Free (vector_at l.good l.lane) bits → bit_at l.answer k ≡ bit_at bits (get_or l.good.circuit.positions k 0);
}
