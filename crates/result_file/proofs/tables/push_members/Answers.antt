use Rattle.std.proofs.Common.{◌∙◌, List, get_or, ◌++◌, ap, arith}
use Rattle.std.specs.Prelude.{zip}
use Rattle.std.specs.String.{string_bytes}
use Rattle.std.proofs.lemmas.List.{take_all}
use Rattle.net_model.specs.ClassTable.{class_at}
use Rattle.result_records.specs.declared.record.Mark.TheVariants.{Rep}
use Rattle.result_records.specs.declared.record.Record.{Record}
use Rattle.result_records.specs.declared.record.Record.TheVariants.{Member}
use Rattle.result_records.specs.Spelling.{text_of}
use Rattle.result_file.specs.Meaning.{member_records}
use Rattle.result_file.proofs.LineLemmas.{marked_at_place, marked_count_lines, text_more}
use Rattle.result_file.proofs.tables.push_members.Goals as goal

pub loop-number-preserved : goal.loop-number-preserved
loop-number-preserved c =
    let t = c.args.classes.now in
    let marks = c.args.marks.now in
    let k = c.loop-number.number in
    let test = c.loop-number-test.true in
    text_more (member_records (zip t.class_of marks)) k (Member k (class_at t k) (get_or marks k Rep)) (marked_at_place t.class_of marks k (omega (arith, test, c.requires.whole)) (omega (arith, test))) (string_bytes c.args.text.now) c.loop-number.invariant (rw c.class_of.ensures.value at c.in_ok-push_line.ensures.ok)

pub returns-clause-ok : goal.returns-clause-ok
returns-clause-ok c =
    let classes = c.args.classes.now.class_of in
    let marks = c.args.marks.now in
    let past = c.loop-number-test.false in
    c.loop-number.invariant ∙ ap (λ (rs : List Record). string_bytes c.args.text.now ++ text_of rs) (take_all c.loop-number.number (member_records (zip classes marks)) (omega (arith, past, marked_count_lines classes marks c.requires.whole)))
