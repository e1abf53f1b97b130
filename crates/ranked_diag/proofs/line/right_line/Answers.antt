use Rattle.std.proofs.Common.{arith}
use Rattle.ranked_diag.proofs.ReadingLemmas.{refuse_order, refuse_width}
use Rattle.ranked_diag.proofs.line.right_line.Goals as goal
use Rattle.ranked_diag.proofs.line.right_line.Goals.{then-line-least-via-then-line-least, then-line-least-via-else-line-least+then-line-patterns}

pub returns-then-line-least : goal.returns-then-line-least
returns-then-line-least c =
    let line = c.in-Some.line in
    refuse_order c.args.patterns c.args.positions c.args.least c.args.rest.now line.pattern line.digits.now line.rest.now c.in-Some.ensures
    (elim c.then-line-least.branch [
      | then-line-least-via-then-line-least w ↦ λ low high. omega (arith, w.if-line-least.true, low)
      | then-line-least-via-else-line-least+then-line-patterns w ↦ λ low high. omega (arith, w.if-line-patterns.true, high)
    ])

pub returns-then-line-positions : goal.returns-then-line-positions
returns-then-line-positions c =
    let line = c.in-Some.line in
    refuse_width c.args.patterns c.args.positions c.args.least c.args.rest.now line.pattern line.digits.now line.rest.now c.in-Some.ensures c.if-line-least.false c.if-line-patterns.false c.if-line-positions.true
