use Rattle.adaptive_tree.proofs.FormLemmas.{no_ask, ask_is}
use Rattle.adaptive_tree.proofs.line.ask_of.Goals as goal

pub returns-in_err-pattern : goal.returns-in_err-pattern
returns-in_err-pattern c = rw c.from_residual.ensures (no_ask c.args.fields.now c.in_err-pattern.ensures)

pub returns : goal.returns
returns c = ask_is c.args.fields.now c.in_ok-pattern.pattern c.in_ok-pattern.branches c.in_ok-pattern.ensures
