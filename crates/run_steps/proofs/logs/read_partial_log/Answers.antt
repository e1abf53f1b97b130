use Rattle.std.proofs.Common.{rules}
use Rattle.std.proofs.lemmas.Result.{IfOk-weaker, IfErr-weaker}
use Rattle.diagnose.specs.Lines.{TellsLogFault}
use Rattle.ranked_diag.specs.PartialLog.{IsPartialLog, PartialRefused}
use Rattle.run_steps.proofs.ReadLemmas.{partial_read, partial_lines_read, refused_by_some}
use Rattle.run_steps.proofs.Judged.{accepted_by, over_by}
use Rattle.run_steps.proofs.logs.read_partial_log.Goals as goal

pub returns-clause-lines : goal.returns-clause-lines
returns-clause-lines g c = IfOk-weaker c.read_judged.result _ _ (λ x some. let told = some.answered in let is : IsPartialLog c.args.patterns c.args.positions some.bytes.now x = search rules in is.are) c.read_judged.ensures.judged

pub returns-clause-ok : goal.returns-clause-ok
returns-clause-ok g c = IfOk-weaker c.read_judged.result _ _ (λ x. accepted_by (λ bytes told. let is : IsPartialLog c.args.patterns c.args.positions bytes.now x = search rules in (λ all read. partial_read c.args.patterns c.args.positions read is))) c.read_judged.ensures.ok

pub returns-clause-err : goal.returns-clause-err
returns-clause-err g c = IfErr-weaker c.read_judged.result _ _ (λ why. over_by (λ bytes fault told. let rule : TellsLogFault (PartialRefused c.args.patterns c.args.positions bytes.now) fault = search rules in (λ all console read. refused_by_some (λ kind line. partial_lines_read read) fault rule))) c.read_judged.ensures.err
