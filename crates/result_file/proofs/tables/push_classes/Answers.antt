use Rattle.std.proofs.Common.{◌∙◌, List, None, get_or, ◌++◌, ap, arith}
use Rattle.std.specs.String.{string_bytes}
use Rattle.std.proofs.lemmas.List.{take_all}
use Rattle.result_records.specs.declared.record.Record.{Record}
use Rattle.result_records.specs.declared.record.Record.TheVariants.{Class}
use Rattle.result_records.specs.Spelling.{text_of}
use Rattle.result_file.specs.Meaning.{class_records}
use Rattle.result_file.proofs.LineLemmas.{class_at_place, class_count_lines, text_more}
use Rattle.result_file.proofs.tables.push_classes.Goals as goal

pub loop-class-preserved : goal.loop-class-preserved
loop-class-preserved c =
    let births = c.args.classes.now.births in
    let k = c.loop-class.class in
    let test = c.loop-class-test.true in
    text_more (class_records births) k (Class k (get_or births k None)) (class_at_place births k (omega (arith, test, c.count-class-end.ensures.value))) (string_bytes c.args.text.now) c.loop-class.invariant (rw c.born.ensures.value at c.in_ok-push_line.ensures.ok)

pub returns-clause-ok : goal.returns-clause-ok
returns-clause-ok c =
    let lines = class_records c.args.classes.now.births in
    let past = c.loop-class-test.false in
    c.loop-class.invariant ∙ ap (λ (rs : List Record). string_bytes c.args.text.now ++ text_of rs) (take_all c.loop-class.class lines (omega (arith, past, c.count-class-end.ensures.value, class_count_lines c.args.classes.now.births)))
