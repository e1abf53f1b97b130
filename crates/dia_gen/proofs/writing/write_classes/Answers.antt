use Rattle.std.proofs.Common.{None, get_or, arith}
use Rattle.std.proofs.lemmas.Result.{err_from_is_err_and}
use Rattle.result_records.specs.declared.record.Record.TheVariants.{Class}
use Rattle.result_file.specs.Meaning.{class_records}
use Rattle.result_file.proofs.LineLemmas.{class_at_place, class_count_lines}
use Rattle.dia_gen.proofs.WritingLemmas.{line_gathered, line_broken, lines_gathered}
use Rattle.dia_gen.proofs.writing.write_classes.Goals as goal

pub returns-in_err-add_line : goal.returns-in_err-add_line
returns-in_err-add_line g c =
    let births = c.args.classes.now.births in
    let k = c.loop-class.class in
    let test = c.loop-class-test.true in
    let p = err_from_is_err_and c.from_residual.result c.from_residual.ensures.1 in
    rw (p.1, p.2) (line_broken (class_records births) k (Class k (get_or births k None)) (class_at_place births k (omega (arith, test, c.count-class-end.ensures.value))) c.loop-class.invariant (rw c.born.ensures.value at c.in_err-add_line.ensures))

pub loop-class-preserved : goal.loop-class-preserved
loop-class-preserved g c =
    let births = c.args.classes.now.births in
    let k = c.loop-class.class in
    let test = c.loop-class-test.true in
    line_gathered (class_records births) k (Class k (get_or births k None)) (class_at_place births k (omega (arith, test, c.count-class-end.ensures.value))) c.loop-class.invariant (rw c.born.ensures.value at c.in_ok-add_line.ensures)

pub returns : goal.returns
returns g c =
    let births = c.args.classes.now.births in
    let past = c.loop-class-test.false in
    lines_gathered (class_records births) c.loop-class.class (omega (arith, past, c.count-class-end.ensures.value, class_count_lines births)) c.loop-class.invariant
