use Rattle.std.proofs.lemmas.Option.{same_Some}
use Rattle.std.proofs.Common.{◌≡◌, ◌∙◌, sym, ℕ}
use Rattle.std.specs.Prelude.{Option, None, Some}
use Rattle.result_records.specs.Marks.{evidence_in}
use Rattle.member_marks.proofs.MarkLemmas.{all_marked_none, lowest_is_next}
use Rattle.dia_check.proofs.checker.Checker.names_next.Goals as goal

pub returns-in_default-clause-wrong : goal.returns-in_default-clause-wrong
returns-in_default-clause-wrong c = λ no seen are next.
    let t = c.args.self.now.keeper.kept.table in
    let all = rw c.classes-classes.ensures.value at c.in_default.ensures in
    let none = all_marked_none t (evidence_in seen) c.args.self.now.marks are all in
    let clash : ◌≡◌ {A = Option ℕ} None (Some c.args.evidence.now.member) = sym none ∙ next.member in cc

pub returns-else-evidence-member-clause-wrong : goal.returns-else-evidence-member-clause-wrong
returns-else-evidence-member-clause-wrong c = λ no seen are next.
    let t = c.args.self.now.keeper.kept.table in
    let lowest = rw c.classes-classes.ensures.value at c.in-Some.ensures in
    let there = lowest_is_next t (evidence_in seen) c.args.self.now.marks are c.in-Some.member lowest in
    c.if-evidence-member.false (same_Some c.args.evidence.now.member c.in-Some.member (sym next.member ∙ there))
