use Rattle.std.proofs.Common.{rules}
use Rattle.std.proofs.lemmas.Result.{IfOk-weaker, IfErr-weaker}
use Rattle.adaptive_tree.specs.Refusal.{TellsPlanFault, PlanRefused}
use Rattle.run_steps.specs.AdaptivePlans.{IsAdaptivePlanFile}
use Rattle.run_steps.proofs.ReadLemmas.{plan_read, refused_plan_read}
use Rattle.run_steps.proofs.Judged.{accepted_by, over_by}
use Rattle.run_steps.proofs.adaptive_plans.read_adaptive_plan.Goals as goal

pub returns-clause-formed : goal.returns-clause-formed
returns-clause-formed g c = IfOk-weaker c.read_judged.result _ _ (λ x some. let told = some.answered in let is : IsAdaptivePlanFile some.bytes.now x = search rules in is.well_formed) c.read_judged.ensures.judged

pub returns-clause-ok : goal.returns-clause-ok
returns-clause-ok g c = IfOk-weaker c.read_judged.result _ _ (λ x. accepted_by (λ bytes told. let is : IsAdaptivePlanFile bytes.now x = search rules in (λ all read. plan_read read is))) c.read_judged.ensures.ok

pub returns-clause-err : goal.returns-clause-err
returns-clause-err g c = IfErr-weaker c.read_judged.result _ _ (λ why. over_by (λ bytes fault told. let rule : TellsPlanFault (PlanRefused bytes.now) fault = search rules in (λ all console read. refused_plan_read fault read rule))) c.read_judged.ensures.err
