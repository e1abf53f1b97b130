use Rattle.std.proofs.Common.{◌∙◌, refl, sym, arith}
use Rattle.result_file.specs.declared.fault.ResultKind.TheVariants as why
use Rattle.result_records.specs.declared.record.Record.TheVariants.{Member}
use Rattle.dia_check.proofs.CheckLemmas.{few_lines, judged_misplaced, judged_wrong}
use Rattle.dia_check.proofs.ProgressLemmas.{ended_out}
use Rattle.dia_check.proofs.TakenLemmas.{numbers_are, member_taken, member_few}
use Rattle.dia_check.proofs.checker.Checker.judge_member.Goals.{then-self-count-via-then-self-count, then-self-count-via-else-self-count+then-self}
use Rattle.dia_check.proofs.checker.Checker.judge_member.Goals as goal

pub refused-requires : goal.refused-requires
refused-requires c = few_lines c.requires.check

pub returns-then-self-count : goal.returns-then-self-count
returns-then-self-count c =
    let r = Member c.args.number c.args.class c.args.mark in
    let count = rw c.classes.ensures.value at c.count.ensures.value in
    rw c.refused.ensures (judged_misplaced {c = c.args.subject.now} {k = c.args.self.now} c.requires.none r c.requires.spelled c.requires.one (λ text is place. elim c.then-self-count.branch [
      | then-self-count-via-then-self-count w ↦ let h = w.if-self-count.true in omega (arith, h, count, is.is.progress.classes, place.0)
      | then-self-count-via-else-self-count+then-self w ↦ ended_out is.is.progress c.args.self.now.keeper.kept.table r w.if-self.true place
    ]))

pub is_next_member-requires-clause-numbers : goal.is_next_member-requires-clause-numbers
is_next_member-requires-clause-numbers c = c.numbers.ensures.value ∙ sym (numbers_are c.requires.check.is c.requires.none)

pub refused-requires-then-not-is_next_member : goal.refused-requires-then-not-is_next_member
refused-requires-then-not-is_next_member c = few_lines c.requires.check

pub returns-then-not-is_next_member : goal.returns-then-not-is_next_member
returns-then-not-is_next_member c =
    let count = rw c.classes.ensures.value at c.count.ensures.value in
    rw c.refused-then-not-is_next_member.ensures (judged_wrong {c = c.args.subject.now} {k = c.args.self.now} c.requires.none (Member c.args.number c.args.class c.args.mark) c.requires.spelled c.requires.one why.Table (λ text is. (
      (let h = c.if-self-count.false in omega (arith, h, count, is.is.progress.classes), is.is.progress.unended c.if-self.false),
      ((λ right. let h = (c.if-not-is_next_member.ensures c.args.subject.now is.seen is.is).1 right in cc), refl),
    )))

pub add_member-requires-clause-lines : goal.add_member-requires-clause-lines
add_member-requires-clause-lines c = few_lines c.requires.check

pub add_member-requires-clause-members : goal.add_member-requires-clause-members
add_member-requires-clause-members c =
    let is = c.requires.check.is in
    member_few is c.requires.none c.args.number c.args.class c.args.mark ((c.if-not-is_next_member.ensures c.args.subject.now is.seen is.is).0 refl)

pub returns : goal.returns
returns c =
    let count = rw c.classes.ensures.value at c.count.ensures.value in
    rw c.add_member.ensures (record {
      judged = λ text is short.
          member_taken is c.requires.none c.args.number c.args.class c.args.mark c.requires.spelled short
          (let h = c.if-self-count.false in omega (arith, h, count)) c.if-self.false
          ((c.if-not-is_next_member.ensures c.args.subject.now is.seen is.is).0 refl);
    })
