use Rattle.std.proofs.Common.{arith}
use Rattle.result_records.specs.declared.record.Record.TheVariants.{End}
use Rattle.dia_check.proofs.CheckLemmas.{few_lines, judged_misplaced}
use Rattle.dia_check.proofs.ProgressLemmas.{ended_out}
use Rattle.dia_check.proofs.TakenLemmas.{numbers_are, end_taken}
use Rattle.dia_check.proofs.checker.Checker.judge_end.Goals.{then-self-count-via-then-self-count, then-self-count-via-else-self-count+then-self-numbers, then-self-count-via-else-self-count+else-self-numbers+then-self}
use Rattle.dia_check.proofs.checker.Checker.judge_end.Goals as goal

pub refused-requires : goal.refused-requires
refused-requires c = few_lines c.requires.check

pub returns-then-self-count : goal.returns-then-self-count
returns-then-self-count c =
    let count = rw c.classes.ensures.value at c.count.ensures.value in
    rw c.refused.ensures (judged_misplaced {c = c.args.subject.now} {k = c.args.self.now} c.requires.none End c.requires.spelled c.requires.one (λ text is place. elim c.then-self-count.branch [
      | then-self-count-via-then-self-count w ↦ let h = w.if-self-count.true in omega (arith, h, count, is.is.progress.classes, place.0)
      | then-self-count-via-else-self-count+then-self-numbers w ↦
          let h = w.if-self-numbers.true in omega (arith, h, w.numbers.ensures.value, is.is.progress.members, place.1, numbers_are is c.requires.none)
      | then-self-count-via-else-self-count+else-self-numbers+then-self w ↦ ended_out is.is.progress c.args.self.now.keeper.kept.table End w.if-self.true place
    ]))

pub overflow_add-self : goal.overflow_add-self
overflow_add-self c = omega (arith, few_lines c.requires.check)

pub returns : goal.returns
returns c =
    let count = rw c.classes.ensures.value at c.count.ensures.value in
    record {
      judged = λ text is short.
          end_taken is c.requires.none short
          (let h = c.if-self-count.false in omega (arith, h, count)) (let h = c.if-self-numbers.false in omega (arith, h, c.numbers.ensures.value)) c.if-self.false;
    }
