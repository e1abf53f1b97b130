use Rattle.std.proofs.Common.{◌∙◌, arith, ap, sym, subst}
use Rattle.pair_miter.specs.Adds.{Adds}
use Rattle.pair_miter.specs.Miter.{tidy}
use Rattle.pair_miter.proofs.AddSteps.{both_parts, first_fails, left_fails, writes_err}
use Rattle.pair_miter.proofs.LineClauses.{clauses_of_line, clauses_of_split, clauses_of_shared}
use Rattle.pair_miter.proofs.Numbers.{second_helper, helpers_of_relevant, helpers_of_shared}
use Rattle.pair_miter.proofs.writer.Writer.write_line.Goals as goal

pub write_copy-requires-then-split-clause-helper : goal.write_copy-requires-then-split-clause-helper
write_copy-requires-then-split-clause-helper c = let p = c.args.numbering.now in omega (arith, c.in_ok-write_copy.ensures.helper, c.requires.helper, second_helper p.circuit p.f p.g c.args.line)

pub returns-in_ok-write_copy-2-clause-written : goal.returns-in_ok-write_copy-2-clause-written
returns-in_ok-write_copy-2-clause-written c =
    let p = c.args.numbering.now in
    both_parts (clauses_of_split p.circuit p.f p.g c.args.line (sym c.split.ensures.value ∙ c.if-split.true)) c.in_ok-write_copy.ensures.written c.in_ok-write_copy-2.ensures.written

pub returns-in_ok-write_copy-2-clause-helper : goal.returns-in_ok-write_copy-2-clause-helper
returns-in_ok-write_copy-2-clause-helper c =
    let p = c.args.numbering.now in
    omega (arith, c.in_ok-write_copy.ensures.helper, c.in_ok-write_copy-2.ensures.helper, helpers_of_relevant p.circuit p.f p.g c.args.line c.requires.relevant)

pub returns-else-split-clause-written : goal.returns-else-split-clause-written
returns-else-split-clause-written c =
    let p = c.args.numbering.now in
    let same = clauses_of_shared p.circuit p.f p.g c.args.line (sym c.split.ensures.value ∙ c.if-split.false) in
    subst (Adds c.args.pool.now c.write_copy.new.pool) (ap tidy (sym same)) c.in_ok-write_copy.ensures.written

pub returns-else-split-clause-helper : goal.returns-else-split-clause-helper
returns-else-split-clause-helper c =
    let p = c.args.numbering.now in
    let none = helpers_of_shared p.circuit p.f p.g c.args.line (sym c.split.ensures.value ∙ c.if-split.false) in
    omega (arith, c.in_ok-write_copy.ensures.helper, none, helpers_of_relevant p.circuit p.f p.g c.args.line c.requires.relevant)

pub returns-in_err-write_copy-clause-written : goal.returns-in_err-write_copy-clause-written
returns-in_err-write_copy-clause-written c =
    let p = c.args.numbering.now in
    writes_err c.from_residual.result c.from_residual.ensures.0 (first_fails (clauses_of_line p.circuit p.f p.g c.args.line).1 c.in_err-write_copy.ensures.written)

pub returns-in_err-write_copy-2-clause-written : goal.returns-in_err-write_copy-2-clause-written
returns-in_err-write_copy-2-clause-written c =
    let p = c.args.numbering.now in
    let parts = clauses_of_split p.circuit p.f p.g c.args.line (sym c.split.ensures.value ∙ c.if-split.true) in
    writes_err c.from_residual-in_err-write_copy-2.result c.from_residual-in_err-write_copy-2.ensures.0 (left_fails parts c.in_ok-write_copy.ensures.written c.in_err-write_copy-2.ensures.written)

pub write_copy-requires-then-split-clause-line : goal.write_copy-requires-then-split-clause-line
write_copy-requires-then-split-clause-line c = c.requires.line
