use Rattle.diagnose.proofs.LogLemmas.{no_feed, no_fields}
use Rattle.adaptive_tree.proofs.answer_line.first_answer.Goals as goal

pub returns-in_err-line : goal.returns-in_err-line
returns-in_err-line c = rw c.from_residual.ensures (no_feed c.args.text.now c.in_err-line.ensures)

pub returns-in_err-pattern : goal.returns-in_err-pattern
returns-in_err-pattern c = rw c.from_residual-in_err-pattern.ensures (no_fields c.args.text.now c.in_ok-line.line.now c.in_ok-line.rest.now c.in_ok-line.ensures c.in_err-pattern.ensures)
