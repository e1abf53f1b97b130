use Rattle.adaptive_tree.proofs.FormLemmas.{no_feed, no_form, first_is}
use Rattle.adaptive_tree.proofs.line.first_form.Goals as goal

pub returns-in_err-line : goal.returns-in_err-line
returns-in_err-line c = rw c.from_residual.ensures (no_feed c.args.text.now c.in_err-line.ensures)

pub returns-in_err-form : goal.returns-in_err-form
returns-in_err-form c = rw c.from_residual-in_err-form.ensures (no_form c.args.text.now c.in_ok-line.line.now c.in_ok-line.rest.now c.in_ok-line.ensures c.in_err-form.ensures)

pub returns : goal.returns
returns c = first_is c.args.text.now c.in_ok-line.line.now c.in_ok-line.rest.now c.in_ok-form.form c.in_ok-line.ensures c.in_ok-form.ensures
