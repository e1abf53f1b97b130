use Rattle.std.proofs.Common.{◌∙◌, Err, refl, ap, arith}
use Rattle.evidence_rules.specs.declared.refusal.CheckFault.{CheckFault}
use Rattle.result_file.specs.declared.fault.ResultKind.TheVariants as why
use Rattle.result_records.specs.declared.record.Record.TheVariants.{Same}
use Rattle.result_file.specs.Refusal.EvidenceRefused.{by_name, by_roots, by_proof}
use Rattle.dia_check.proofs.CheckLemmas.{few_lines, judged_misplaced, judged_wrong}
use Rattle.dia_check.proofs.TakenLemmas.{body_place, no_body_place, names_next, member_inside, partner_inside, evidence_taken}
use Rattle.dia_check.proofs.checker.Checker.judge_evidence.Goals as goal

pub refused-requires : goal.refused-requires
refused-requires c = few_lines c.requires.check

pub returns-then-not-is_body : goal.returns-then-not-is_body
returns-then-not-is_body c = rw c.refused.ensures (judged_misplaced {c = c.args.subject.now} {k = c.args.self.now} c.requires.none (Same c.args.evidence.now) c.requires.spelled c.requires.one (λ text is. no_body_place is c.requires.none (λ place. let h = c.if-not-is_body.ensures.1 place in cc)))

pub refused-requires-then-not-names_next : goal.refused-requires-then-not-names_next
refused-requires-then-not-names_next c = few_lines c.requires.check

pub returns-then-not-names_next : goal.returns-then-not-names_next
returns-then-not-names_next c = rw c.refused-then-not-names_next.ensures (judged_wrong {c = c.args.subject.now} {k = c.args.self.now} c.requires.none (Same c.args.evidence.now) c.requires.spelled c.requires.one why.Member (λ text is.
    (body_place is c.requires.none (c.if-not-is_body.ensures.0 refl), by_name (c.if-not-names_next.ensures.wrong (λ h. cc) is.seen is.is.marks) refl)))

pub has_right_roots-requires-clause-member : goal.has_right_roots-requires-clause-member
has_right_roots-requires-clause-member c = member_inside c.requires.check.is c.requires.none c.args.evidence.now (c.if-not-names_next.ensures.right refl)

pub has_right_roots-requires-clause-partner : goal.has_right_roots-requires-clause-partner
has_right_roots-requires-clause-partner c = partner_inside c.requires.check.is c.requires.none c.args.evidence.now (c.if-not-names_next.ensures.right refl)

pub refused-requires-then-not-has_right_roots : goal.refused-requires-then-not-has_right_roots
refused-requires-then-not-has_right_roots c = few_lines c.requires.check

pub returns-then-not-has_right_roots : goal.returns-then-not-has_right_roots
returns-then-not-has_right_roots c = rw c.refused-then-not-has_right_roots.ensures (judged_wrong {c = c.args.subject.now} {k = c.args.self.now} c.requires.none (Same c.args.evidence.now) c.requires.spelled c.requires.one why.Roots (λ text is. (
  body_place is c.requires.none (c.if-not-is_body.ensures.0 refl),
  by_roots (names_next is.is.marks (c.if-not-names_next.ensures.right refl)) (λ right. let h = c.if-not-has_right_roots.ensures.1 right in cc) refl,
)))

pub check-requires-clause-circuit : goal.check-requires-clause-circuit
check-requires-clause-circuit c = c.requires.check.is.is.evidence.circuit

pub check-requires-clause-member : goal.check-requires-clause-member
check-requires-clause-member c = member_inside c.requires.check.is c.requires.none c.args.evidence.now (c.if-not-names_next.ensures.right refl)

pub check-requires-clause-partner : goal.check-requires-clause-partner
check-requires-clause-partner c = partner_inside c.requires.check.is c.requires.none c.args.evidence.now (c.if-not-names_next.ensures.right refl)

pub overflow_add-self : goal.overflow_add-self
overflow_add-self c =
    let is = c.requires.check.is in
    omega (arith, member_inside is c.requires.none c.args.evidence.now (c.if-not-names_next.ensures.right refl), is.is.few)

pub overflow_add-self-in-Ok : goal.overflow_add-self-in-Ok
overflow_add-self-in-Ok c = omega (arith, few_lines c.requires.check)

pub returns-in-Ok : goal.returns-in-Ok
returns-in-Ok c = record {
  judged = λ text is short.
      evidence_taken is c.requires.none c.args.evidence.now (c.if-not-names_next.ensures.right refl) c.requires.spelled short (c.if-not-is_body.ensures.0 refl) (c.if-not-has_right_roots.ensures.0 refl) c.in-Ok.ensures.right
      _ refl (rw c.mark_of-mark.ensures at c.give.ensures) refl refl (record { circuit = c.in-Ok.ensures.circuit ∙ is.is.evidence.circuit; empty = c.in-Ok.ensures.emptied }) c.requires.none;
}

pub refused-requires-in-Err-Refused : goal.refused-requires-in-Err-Refused
refused-requires-in-Err-Refused c = few_lines c.requires.check

pub returns-in-Err-Refused : goal.returns-in-Err-Refused
returns-in-Err-Refused c = rw c.refused-in-Err-Refused.ensures (judged_wrong {c = c.args.subject.now} {k = c.args.self.now} c.requires.none (Same c.args.evidence.now) c.requires.spelled c.requires.one (why.Evidence c.in-Err-Refused.refusal) (λ text is.
    let place = body_place is c.requires.none (c.if-not-is_body.ensures.0 refl) in
    let refused = rw is.is.progress.budgets at (c.check.ensures.refused c.in-Err-Refused.refusal (c.in-Err-Refused.is ∙ ap (λ (e : CheckFault). Err e) c.in-Err-Refused.field-0-is)) in
    (place, by_proof c.in-Err-Refused.refusal (names_next is.is.marks (c.if-not-names_next.ensures.right refl)) (c.if-not-has_right_roots.ensures.0 refl) refused refl)))
