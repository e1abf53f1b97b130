use Rattle.result_commands.proofs.WrittenLemmas.{check_called, check_calls, check_left, check_leaves}
use Rattle.result_commands.proofs.laws.check_is_written_out.Goals as goal

pub returns : goal.returns
returns c = record {
  calls_for = λ files bench result o. (check_called, check_calls);
  may_leave = λ files bench result made text. (check_left, check_leaves);
}
