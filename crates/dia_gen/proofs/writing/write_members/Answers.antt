use Rattle.std.proofs.Common.{◌≡◌, ◌∙◌, map, length, sym, ap, arith}
use Rattle.std.specs.Prelude.{Option, Some, unwrap_or}
use Rattle.std.specs.List.{slice_get}
use Rattle.std.proofs.lemmas.Result.{err_from_is_err_and}
use Rattle.net_model.specs.ClassTable.{class_at, number_range}
use Rattle.result_records.specs.declared.record.Mark.{Mark}
use Rattle.result_records.specs.declared.record.Mark.TheVariants.{Rep}
use Rattle.result_records.specs.declared.record.Record.TheVariants.{Member}
use Rattle.result_file.specs.Meaning.{member_records}
use Rattle.dia_gen.specs.Marked.{member_for}
use Rattle.result_file.proofs.LineLemmas.{member_at_place, member_count_lines}
use Rattle.dia_gen.proofs.WritingLemmas.{line_gathered, line_broken, lines_gathered}
use Rattle.dia_gen.proofs.writing.write_members.Given as given
use Rattle.dia_gen.proofs.writing.write_members.Goals as goal
use Rattle.dia_gen.proofs.writing.write_members.Goals.{After-unwrap-mark}

pub unwrap-mark-requires : goal.unwrap-mark-requires
unwrap-mark-requires g c = rw c.of.ensures (c.requires.marked c.loop-number.number (let h = c.loop-number-test.true in omega (arith, c.requires.numbers)))

-- ---- the line of the number in hand

mark_is : (g : given.Over) (c : After-unwrap-mark g) → c.unwrap-mark.result ≡ (member_for c.args.classes.now c.args.marks.now c.loop-number.number).1
mark_is g c = ap (λ (o : Option Mark). unwrap_or o Rep) (sym c.unwrap-mark.ensures ∙ c.of.ensures)

place : (g : given.Over) (c : After-unwrap-mark g) → slice_get (member_records (map (member_for c.args.classes.now c.args.marks.now) (number_range c.args.classes.now))) c.loop-number.number
    ≡ Some (Member c.loop-number.number (class_at c.args.classes.now c.loop-number.number) (member_for c.args.classes.now c.args.marks.now c.loop-number.number).1)
place g c =
    let test = c.loop-number-test.true in
    member_at_place (member_for c.args.classes.now c.args.marks.now) (length c.args.classes.now.class_of) c.loop-number.number (omega (arith, test, c.requires.numbers))

pub returns-in_err-add_line : goal.returns-in_err-add_line
returns-in_err-add_line g c =
    let at = (goal.at.returns-in_err-add_line g c).After-unwrap-mark in
    let p = err_from_is_err_and c.from_residual.result c.from_residual.ensures.1 in
    rw (p.1, p.2) (line_broken _ c.loop-number.number _ (place g at) c.loop-number.invariant (rw (mark_is g at, c.class_of.ensures.value) at c.in_err-add_line.ensures))

pub loop-number-preserved : goal.loop-number-preserved
loop-number-preserved g c =
    let at = (goal.at.loop-number-preserved g c).After-unwrap-mark in
    line_gathered _ c.loop-number.number _ (place g at) c.loop-number.invariant (rw (mark_is g at, c.class_of.ensures.value) at c.in_ok-add_line.ensures)

pub returns : goal.returns
returns g c =
    let t = c.args.classes.now in
    let marks = c.args.marks.now in
    let past = c.loop-number-test.false in
    lines_gathered (member_records (map (member_for t marks) (number_range t))) c.loop-number.number (omega (arith, past, c.requires.numbers, member_count_lines (member_for t marks) (length t.class_of))) c.loop-number.invariant
