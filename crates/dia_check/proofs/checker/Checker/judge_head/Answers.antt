use Rattle.std.proofs.Common.{length, refl, ap, arith}
use Rattle.result_file.specs.declared.fault.ResultKind.TheVariants as why
use Rattle.result_records.specs.declared.record.Record.TheVariants.{Head}
use Rattle.dia_check.proofs.CheckLemmas.{few_lines, judged_misplaced, judged_wrong}
use Rattle.dia_check.proofs.TakenLemmas.{head_place, head_taken}
use Rattle.dia_check.proofs.checker.Checker.judge_head.Goals as goal

pub refused-requires : goal.refused-requires
refused-requires c = few_lines c.requires.check

pub returns-then-self-ne0 : goal.returns-then-self-ne0
returns-then-self-ne0 c =
    rw c.refused.ensures (judged_misplaced {c = c.args.subject.now} {k = c.args.self.now} c.requires.none (Head c.args.sources c.args.positions c.args.numbers) c.requires.spelled c.requires.one (λ text is first. let h = c.if-self-ne0.true in omega (arith, h, is.is.progress.lines, ap length first)))

pub returns-then-not-has_sizes : goal.returns-then-not-has_sizes
returns-then-not-has_sizes c =
    rw c.refused-then-not-has_sizes.ensures (judged_wrong {c = c.args.subject.now} {k = c.args.self.now} c.requires.none (Head c.args.sources c.args.positions c.args.numbers) c.requires.spelled c.requires.one why.Head (λ text is.
    (head_place is c.requires.none (let h = c.if-self-ne0.false in omega (arith, h)), ((λ right. let h = c.if-not-has_sizes.ensures.1 right in cc), refl))))

pub returns : goal.returns
returns c = record {
  judged = λ text is short.
      head_taken is c.requires.none c.args.sources c.args.positions c.args.numbers c.requires.spelled short
      (let h = c.if-self-ne0.false in omega (arith, h)) (c.if-not-has_sizes.ensures.0 refl);
}
