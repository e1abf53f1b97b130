use Rattle.std.proofs.Common.{◌+◌, List, Bool, sym, subst, arith}
use Rattle.diagnose.proofs.LogLemmas.{IsLogSoFar, log_more, log_done, log_refused, log_refused_at}
use Rattle.diagnose.proofs.log.read_lines.Goals as goal

pub returns-in-Err-clause-refused : goal.returns-in-Err-clause-refused
returns-in-Err-clause-refused c =
    log_refused c.args.patterns c.args.positions c.args.bytes.now c.loop-pattern.pattern c.loop-pattern.observed c.loop-pattern.rest.now c.in-Err.kind c.loop-pattern.invariant
    (omega (arith, c.loop-pattern-test.true)) c.requires c.in-Err.ensures

pub loop-pattern-preserved : goal.loop-pattern-preserved
loop-pattern-preserved c =
    let line = c.in-Ok.line in
    subst (λ (rows : List (List Bool)). IsLogSoFar c.args.patterns c.args.positions c.args.bytes.now (c.loop-pattern.pattern + 1) rows line.rest.now) (sym c.write_digits.ensures)
    (log_more c.args.patterns c.args.positions c.args.bytes.now c.loop-pattern.pattern c.loop-pattern.observed c.loop-pattern.rest.now line.digits.now line.rest.now
    c.loop-pattern.invariant c.loop-pattern-test.true c.in-Ok.ensures)

pub returns-in-Ok-check_end-clause-read : goal.returns-in-Ok-check_end-clause-read
returns-in-Ok-check_end-clause-read c =
    log_done c.args.patterns c.args.positions c.args.bytes.now c.loop-pattern.pattern c.loop-pattern.observed c.loop-pattern.rest.now c.loop-pattern.invariant
    c.loop-pattern-test.false c.requires (c.in-Ok-check_end.ensures c.args.patterns c.args.positions)

pub returns-in-Err-check_end-clause-refused : goal.returns-in-Err-check_end-clause-refused
returns-in-Err-check_end-clause-refused c =
    log_refused_at c.args.patterns c.args.positions c.args.bytes.now c.loop-pattern.pattern c.loop-pattern.observed c.loop-pattern.rest.now c.in-Err-check_end.kind c.loop-pattern.invariant
    (omega (arith, c.loop-pattern.auto.pattern-end, c.loop-pattern-test.false)) c.requires (c.in-Err-check_end.ensures c.args.patterns c.args.positions)
