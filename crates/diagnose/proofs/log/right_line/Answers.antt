use Rattle.diagnose.proofs.LogLemmas.{refuse_order, refuse_width}
use Rattle.diagnose.proofs.log.right_line.Goals as goal

pub returns-then-line-pattern : goal.returns-then-line-pattern
returns-then-line-pattern c =
    let line = c.in-Some.line in
    refuse_order c.args.patterns c.args.positions c.args.pattern c.args.rest.now line.pattern line.digits.now line.rest.now c.in-Some.ensures c.requires c.if-line-pattern.true

pub returns-then-line-positions : goal.returns-then-line-positions
returns-then-line-positions c =
    let line = c.in-Some.line in
    refuse_width c.args.patterns c.args.positions c.args.pattern c.args.rest.now line.pattern line.digits.now line.rest.now c.in-Some.ensures c.requires c.if-line-pattern.false c.if-line-positions.true
