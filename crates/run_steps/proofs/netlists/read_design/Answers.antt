use Rattle.std.proofs.Common.{rules, ◌≡◌, ℕ, List, Some}
use Rattle.std.proofs.lemmas.Result.{IfOk-weaker, IfErr-weaker}
use Rattle.run_steps.specs.Netlists.{IsDesign, IsRefused}
use Rattle.run_steps.specs.Steps.{fault_text}
use Rattle.run_steps.proofs.NetlistLemmas.{design_read, refused_read}
use Rattle.run_steps.proofs.Judged.{accepted_by, over_by}
use Rattle.run_steps.proofs.netlists.read_design.Goals as goal

pub returns-clause-named : goal.returns-clause-named
returns-clause-named g c = IfOk-weaker c.read_judged.result _ _ (λ x some. let told = some.answered in search rules) c.read_judged.ensures.judged

pub returns-clause-ok : goal.returns-clause-ok
returns-clause-ok g c = IfOk-weaker c.read_judged.result _ _ (λ x. accepted_by (λ bytes told. let is : IsDesign bytes.now x = search rules in (λ all read. design_read read is))) c.read_judged.ensures.ok

pub returns-clause-err : goal.returns-clause-err
returns-clause-err g c = IfErr-weaker c.read_judged.result _ _ (λ why. over_by (λ bytes fault told. let rule : (text : List ℕ) → fault_text fault ≡ Some text → IsRefused bytes.now text = search rules in (λ all console read is. refused_read read (rule console is)))) c.read_judged.ensures.err
