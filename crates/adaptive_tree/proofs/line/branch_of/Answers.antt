use Rattle.adaptive_tree.proofs.FormLemmas.{no_on, on_is}
use Rattle.adaptive_tree.proofs.line.branch_of.Goals as goal

pub returns-in_err-digits : goal.returns-in_err-digits
returns-in_err-digits c = rw c.from_residual.ensures (no_on c.args.field.now c.in_err-digits.ensures)

pub returns : goal.returns
returns c = on_is c.args.field.now c.in_ok-digits.digits c.in_ok-digits.ensures
