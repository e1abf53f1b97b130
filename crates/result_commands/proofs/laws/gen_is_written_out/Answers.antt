use Rattle.result_commands.proofs.WrittenLemmas.{gen_called, gen_calls, gen_left, gen_leaves}
use Rattle.result_commands.proofs.laws.gen_is_written_out.Goals as goal

pub returns : goal.returns
returns c = record {
  calls_for = λ files bench result budgets o. (gen_called, gen_calls);
  may_leave = λ files bench result budgets made text. (gen_left, gen_leaves);
}
