use Rattle.std.proofs.Common.{rules}
use Rattle.std.proofs.lemmas.Result.{IfOk-weaker, IfErr-weaker}
use Rattle.diagnose.specs.Lines.{TellsLogFault}
use Rattle.adaptive_tree.specs.AnswerLog.{WalkRefused}
use Rattle.run_steps.specs.Logs.{IsLogTo}
use Rattle.run_steps.proofs.ReadLemmas.{walk_read, walk_lines_read, refused_by_some}
use Rattle.run_steps.proofs.Judged.{accepted_by, over_by}
use Rattle.run_steps.proofs.logs.read_walk.Goals as goal

pub returns-clause-ok : goal.returns-clause-ok
returns-clause-ok g c = IfOk-weaker c.read_judged.result _ _ (λ x. accepted_by (λ bytes told. let is : IsLogTo c.args.plan.now bytes.now x = search rules in (λ all read. walk_read c.args.plan.now read is))) c.read_judged.ensures.ok

pub returns-clause-err : goal.returns-clause-err
returns-clause-err g c = IfErr-weaker c.read_judged.result _ _ (λ why. over_by (λ bytes fault told. let rule : TellsLogFault (WalkRefused c.args.plan.now bytes.now) fault = search rules in (λ all console read. refused_by_some (λ kind line. walk_lines_read read) fault rule))) c.read_judged.ensures.err
