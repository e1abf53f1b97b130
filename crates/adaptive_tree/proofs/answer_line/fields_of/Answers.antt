use Rattle.diagnose.proofs.LogLemmas.{no_blank, no_number, no_field}
use Rattle.adaptive_tree.proofs.answer_line.fields_of.Goals as goal

pub returns-in_err-number : goal.returns-in_err-number
returns-in_err-number c = rw c.from_residual.ensures (no_blank c.args.line.now c.in_err-number.ensures)

pub returns-in_err-pattern : goal.returns-in_err-pattern
returns-in_err-pattern c = rw c.from_residual-in_err-pattern.ensures (no_number c.args.line.now c.in_ok-number.number.now c.in_ok-number.field.now c.in_ok-number.ensures c.in_err-pattern.ensures)

pub returns-in_err-digits : goal.returns-in_err-digits
returns-in_err-digits c = rw c.from_residual-in_err-digits.ensures (no_field c.args.line.now c.in_ok-number.number.now c.in_ok-number.field.now c.in_ok-number.ensures c.in_err-digits.ensures)
