use Rattle.std.proofs.Common.{◌≡◌, ◌∙◌, sym, ap, arith}
use Rattle.std.specs.Prelude.{Option, unwrap_or}
use Rattle.result_records.specs.declared.record.Mark.{Mark}
use Rattle.result_records.specs.declared.record.Mark.TheVariants.{Rep}
use Rattle.result_file.specs.Summary.{is_equal, is_open}
use Rattle.dia_gen.specs.Marked.{member_for}
use Rattle.dia_gen.proofs.MarkedLemmas.{few_marked, marked_more}
use Rattle.dia_gen.proofs.counts.count_marks.Goals as goal

pub unwrap-requires : goal.unwrap-requires
unwrap-requires c = rw c.of.ensures (c.requires.marked c.loop-number.number (let h = c.loop-number-test.true in omega (arith, c.requires.numbers)))

pub count-requires-clause-equal : goal.count-requires-clause-equal
count-requires-clause-equal c = omega (arith, c.loop-number.invariant.equal, few_marked c.args.classes.now c.args.marks.now is_equal c.loop-number.number)

pub count-requires-clause-spent : goal.count-requires-clause-spent
count-requires-clause-spent c = omega (arith, c.loop-number.invariant.spent, few_marked c.args.classes.now c.args.marks.now is_open c.loop-number.number)

pub loop-number-preserved : goal.loop-number-preserved
loop-number-preserved c =
    let t = c.args.classes.now in
    let given = c.args.marks.now in
    let k = c.loop-number.number in
    let mark : c.unwrap.result ≡ (member_for t given k).1 = ap (λ (o : Option Mark). unwrap_or o Rep) (sym c.unwrap.ensures ∙ c.of.ensures) in
    rw (c.count.ensures, mark) (marked_more t given c.loop-number.invariant)
