use Rattle.std.proofs.Common.{◌≡◌, ◌∙◌, ◌<◌, ℕ, length, sym, ap, subst, arith}
use Rattle.dict_rows.specs.AnswerTable.{answer_to}
use Rattle.dict_rows.proofs.RowLemmas.{width_at}
use Rattle.ranked_diag.specs.PartialLog.{Line}
use Rattle.suspect_scores.specs.Marks.{AreMarksBegun}
use Rattle.suspect_scores.proofs.MarkLemmas.{got_line, line_long, marks_more}
use Rattle.suspect_scores.proofs.marks.LogMarks.mark_all.Goals as goal

pub mark-requires-clause-free_wide : goal.mark-requires-clause-free_wide
mark-requires-clause-free_wide c =
    let h : c.loop-line.line < length c.args.partial.now = omega (arith, c.loop-line-test.true, c.patterns-line-end.ensures.value, c.requires.lines) in
    c.copy_answer.ensures.shape.widths c.loop-line.line
    ∙ (width_at c.loop-line.invariant.frees.are c.loop-line.line h ∙ sym (line_long c.args.free.now.positions c.args.partial.now c.loop-line.line _ c.line-pattern.ensures c.requires.wide h))

pub mark-requires-clause-wrong_wide : goal.mark-requires-clause-wrong_wide
mark-requires-clause-wrong_wide c =
    let h : c.loop-line.line < length c.args.partial.now = omega (arith, c.loop-line-test.true, c.patterns-line-end.ensures.value, c.requires.lines) in
    width_at c.loop-line.invariant.wrongs.are c.loop-line.line h ∙ sym (line_long c.args.free.now.positions c.args.partial.now c.loop-line.line _ c.line-pattern.ensures c.requires.wide h)

pub mark-requires-clause-right_wide : goal.mark-requires-clause-right_wide
mark-requires-clause-right_wide c =
    let h : c.loop-line.line < length c.args.partial.now = omega (arith, c.loop-line-test.true, c.patterns-line-end.ensures.value, c.requires.lines) in
    width_at c.loop-line.invariant.rights.are c.loop-line.line h ∙ sym (line_long c.args.free.now.positions c.args.partial.now c.loop-line.line _ c.line-pattern.ensures c.requires.wide h)

pub loop-line-preserved : goal.loop-line-preserved
loop-line-preserved c =
    marks_more (λ k. answer_to c.args.free.now k 0) c.args.free.now.positions c.args.partial.now c.loop-line.line c.line-pattern.result.1.now c.loop-line.self c.mark.new.self c.copy_answer.new.rows c.loop-line.invariant c.copy_answer.ensures c.mark.ensures.free
    (ap (λ (l : Line). l.1) (got_line c.args.partial.now c.loop-line.line _ c.line-pattern.ensures)) c.mark.ensures.wrong c.mark.ensures.right

pub returns : goal.returns
returns c =
    let all : c.loop-line.line ≡ length c.args.partial.now = omega (arith, c.loop-line-test.false, c.loop-line.auto.line-end, c.patterns-line-end.ensures.value, c.requires.lines) in
    subst (λ (n : ℕ). AreMarksBegun (λ k. answer_to c.args.free.now k 0) c.args.free.now.positions c.args.partial.now n c.loop-line.self) all c.loop-line.invariant
