use Rattle.std.proofs.Common.{◌∷◌, []}
use Rattle.std.proofs.lemmas.Result.{err_from_is_err_and}
use Rattle.result_records.specs.declared.record.Record.TheVariants.{Same}
use Rattle.dia_gen.specs.Made.{lines_with}
use Rattle.dia_gen.proofs.DraftSteps.{one_right, line_drafted, evidence_for, lines_given, evidence_drafted}
use Rattle.dia_gen.proofs.WritingLemmas.{broken}
use Rattle.dia_gen.proofs.draft.Draft.add_evidence.Goals as goal

pub returns-in_err-add_line-clause-err : goal.returns-in_err-add_line-clause-err
returns-in_err-add_line-clause-err g c =
    let d = c.requires.1.0 in
    let s = c.args.setting.now in
    let e = evidence_for d.is c.args.member c.requires.1.1.0 c.args.proof c.args.lead c.requires.1.1.1.0 c.requires.1.1.1.1 in
    let lines = lines_given d.is c.args.member c.requires.1.1.0 c.args.proof c.args.lead c.requires.1.1.1.0 c.requires.1.1.1.1 in
    let p = err_from_is_err_and c.from_residual.result c.from_residual.ensures.1 in
    rw (p.1, p.2) (broken (lines_with s.circuit s.budgets d.kept d.later) (Same e ∷ []) [] (one_right s d.kept d.later (Same e) lines) d.written c.in_err-add_line.ensures)

pub returns-clause-draft : goal.returns-clause-draft
returns-clause-draft g c =
    let d = c.requires.1.0 in
    let e = evidence_for d.is c.args.member c.requires.1.1.0 c.args.proof c.args.lead c.requires.1.1.1.0 c.requires.1.1.1.1 in
    let is = evidence_drafted d.is c.args.member c.requires.1.1.0 c.args.proof c.args.lead c.requires.1.1.1.0 c.requires.1.1.1.1 c.give.new.self (rw c.mark_of-mark.ensures at c.give.ensures) in
    line_drafted d.kept d.later (Same e) is d.written _ (c.in_ok-add_line.ensures)
