use Rattle.adaptive_tree.proofs.FormLemmas.{no_pair, no_first, no_second}
use Rattle.adaptive_tree.proofs.line.pair_of.Goals as goal

pub returns-in_err-first : goal.returns-in_err-first
returns-in_err-first c = rw c.from_residual.ensures (no_pair c.args.fields.now c.in_err-first.ensures)

pub returns-in_err-first-2 : goal.returns-in_err-first-2
returns-in_err-first-2 c = rw c.from_residual-in_err-first-2.ensures (no_first c.args.fields.now c.in_ok-first.first.now c.in_ok-first.second.now c.in_ok-first.ensures c.in_err-first-2.ensures)

pub returns-in_err-second : goal.returns-in_err-second
returns-in_err-second c = rw c.from_residual-in_err-second.ensures (no_second c.args.fields.now c.in_ok-first.first.now c.in_ok-first.second.now c.in_ok-first.ensures c.in_err-second.ensures)
