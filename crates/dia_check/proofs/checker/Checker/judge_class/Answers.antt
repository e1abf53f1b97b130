use Rattle.std.proofs.Common.{refl, arith}
use Rattle.result_file.specs.declared.fault.ResultKind.TheVariants as why
use Rattle.result_records.specs.declared.record.Record.TheVariants.{Class}
use Rattle.dia_check.proofs.CheckLemmas.{few_lines, judged_misplaced, judged_wrong}
use Rattle.dia_check.proofs.TakenLemmas.{class_taken, class_few}
use Rattle.dia_check.proofs.checker.Checker.judge_class.Goals.{then-self-lt2-via-then-self-lt2, then-self-lt2-via-else-self-lt2+then-self-ne0}
use Rattle.dia_check.proofs.checker.Checker.judge_class.Goals as goal

pub refused-requires : goal.refused-requires
refused-requires c = few_lines c.requires.check

pub returns-then-self-lt2 : goal.returns-then-self-lt2
returns-then-self-lt2 c = rw c.refused.ensures (judged_misplaced {c = c.args.subject.now} {k = c.args.self.now} c.requires.none (Class c.args.number c.args.birth) c.requires.spelled c.requires.one (λ text is place. elim c.then-self-lt2.branch [
  | then-self-lt2-via-then-self-lt2 w ↦ let h = w.if-self-lt2.true in omega (arith, h, is.is.progress.lines, place.0)
  | then-self-lt2-via-else-self-lt2+then-self-ne0 w ↦ let h = w.if-self-ne0.true in omega (arith, h, is.is.progress.members, place.1)
]))

pub refused-requires-then-not-is_next_class : goal.refused-requires-then-not-is_next_class
refused-requires-then-not-is_next_class c = few_lines c.requires.check

pub returns-then-not-is_next_class : goal.returns-then-not-is_next_class
returns-then-not-is_next_class c = rw c.refused-then-not-is_next_class.ensures (judged_wrong {c = c.args.subject.now} {k = c.args.self.now} c.requires.none (Class c.args.number c.args.birth) c.requires.spelled c.requires.one why.Table (λ text is. (
  (let h = c.if-self-lt2.false in omega (arith, h, is.is.progress.lines), let h = c.if-self-ne0.false in omega (arith, h, is.is.progress.members)),
  ((λ right. let h = (c.if-not-is_next_class.ensures c.args.subject.now is.seen is.is).1 right in cc), refl),
)))

pub overflow_add-self-2 : goal.overflow_add-self-2
overflow_add-self-2 c =
    let is = c.requires.check.is in
    omega (arith, class_few is c.requires.none c.args.number c.args.birth ((c.if-not-is_next_class.ensures c.args.subject.now is.seen is.is).0 refl))

pub overflow_add-self : goal.overflow_add-self
overflow_add-self c = omega (arith, few_lines c.requires.check)

pub returns : goal.returns
returns c = record {
  judged = λ text is short.
      class_taken is c.requires.none c.args.number c.args.birth c.requires.spelled short
      (let h = c.if-self-lt2.false in omega (arith, h)) (let h = c.if-self-ne0.false in omega (arith, h))
      ((c.if-not-is_next_class.ensures c.args.subject.now is.seen is.is).0 refl);
}
