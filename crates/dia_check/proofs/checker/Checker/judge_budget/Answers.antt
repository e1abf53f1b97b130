use Rattle.std.proofs.Common.{refl, arith}
use Rattle.result_file.specs.declared.fault.ResultKind.TheVariants as why
use Rattle.result_records.specs.declared.record.Record.TheVariants.{Budget}
use Rattle.dia_check.proofs.CheckLemmas.{few_lines, judged_misplaced, judged_wrong}
use Rattle.dia_check.proofs.TakenLemmas.{budget_taken}
use Rattle.dia_check.proofs.checker.Checker.judge_budget.Goals as goal

pub refused-requires : goal.refused-requires
refused-requires c = few_lines c.requires.check

pub returns-then-self-ne1 : goal.returns-then-self-ne1
returns-then-self-ne1 c = rw c.refused.ensures (judged_misplaced {c = c.args.subject.now} {k = c.args.self.now} c.requires.none (Budget c.args.budgets) c.requires.spelled c.requires.one (λ text is place. let h = c.if-self-ne1.true in omega (arith, h, is.is.progress.lines, place)))

pub returns-then-not-are_within_limits : goal.returns-then-not-are_within_limits
returns-then-not-are_within_limits c = rw c.refused-then-not-are_within_limits.ensures (judged_wrong {c = c.args.subject.now} {k = c.args.self.now} c.requires.none (Budget c.args.budgets) c.requires.spelled c.requires.one why.Head (λ text is.
    (let h = c.if-self-ne1.false in omega (arith, h, is.is.progress.lines), ((λ right. let h = c.if-not-are_within_limits.ensures.1 right in cc), refl))))

pub returns : goal.returns
returns c = record {
  judged = λ text is short.
      budget_taken is c.requires.none c.args.budgets c.requires.spelled short
      (let h = c.if-self-ne1.false in omega (arith, h)) (c.if-not-are_within_limits.ensures.0 refl);
}
