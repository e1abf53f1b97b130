use Rattle.std.proofs.Common.{rules}
use Rattle.std.proofs.lemmas.Result.{IfOk-weaker, IfErr-weaker}
use Rattle.diagnose.specs.Lines.{TellsLogFault}
use Rattle.diagnose.specs.LogText.{TesterLogRefused}
use Rattle.run_steps.specs.Logs.{IsLogFor}
use Rattle.run_steps.proofs.ReadLemmas.{log_read, lines_read, refused_by_some}
use Rattle.run_steps.proofs.Judged.{accepted_by, over_by}
use Rattle.run_steps.proofs.logs.read_observed.Goals as goal

pub returns-clause-rows : goal.returns-clause-rows
returns-clause-rows g c = IfOk-weaker c.read_judged.result _ _ (λ x some. let told = some.answered in let is : IsLogFor c.args.dict.now some.bytes.now x = search rules in is.rows) c.read_judged.ensures.judged

pub returns-clause-ok : goal.returns-clause-ok
returns-clause-ok g c = IfOk-weaker c.read_judged.result _ _ (λ x. accepted_by (λ bytes told. let is : IsLogFor c.args.dict.now bytes.now x = search rules in (λ all read. log_read c.args.dict.now read is))) c.read_judged.ensures.ok

pub returns-clause-err : goal.returns-clause-err
returns-clause-err g c = IfErr-weaker c.read_judged.result _ _ (λ why. over_by (λ bytes fault told. let rule : TellsLogFault (TesterLogRefused c.args.dict.now.patterns c.args.dict.now.positions bytes.now) fault = search rules in (λ all console read. refused_by_some (λ kind line. lines_read read) fault rule))) c.read_judged.ensures.err
