use Rattle.std.proofs.Common.{◌∙◌, ap, Err}
use Rattle.run_steps.proofs.HandedOn.{handed_err, ok_by, err_by}
use Rattle.run_steps.proofs.Refusals.{read_refused, cut_refused, is_design}
use Rattle.run_steps.proofs.netlists.judge_netlist.Goals as goal

pub returns-in_err-statements-clause-refused : goal.returns-in_err-statements-clause-refused
returns-in_err-statements-clause-refused c = handed_err _ c.from_residual.result c.from_residual.ensures.1 (λ text is. read_refused c.args.bytes.now text _ is c.in_err-statements.ensures.refused)

pub returns-clause-ok : goal.returns-clause-ok
returns-clause-ok c = ok_by c.cut.result (λ design is. is_design c.in_ok-statements.ensures.ok (rw is at c.cut.ensures.ok) (rw is at c.cut.ensures.circuit))

pub returns-clause-refused : goal.returns-clause-refused
returns-clause-refused c = err_by c.cut.result (λ fault is text said. cut_refused c.args.bytes.now text c.in_ok-statements.statements fault c.in_ok-statements.ensures.ok said (record {
  looped = λ place names e. c.cut.ensures.looped place names (is ∙ ap Err e);
  no_rule = λ kind place e. c.cut.ensures.no_rule kind place (is ∙ ap Err e);
}))
