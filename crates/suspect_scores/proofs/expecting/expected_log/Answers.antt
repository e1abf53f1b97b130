use Rattle.std.proofs.Common.{◌≡◌, ◌∙◌, Bool, List, length, sym, ap, subst, arith}
use Rattle.std.proofs.lemmas.Result.{IfOk-weaker}
use Rattle.net_model.proofs.Listed.{some_number}
use Rattle.dict_rows.specs.AnswerTable.{Answers, AreAnswers}
use Rattle.dict_rows.specs.Entries.{answers_of}
use Rattle.table_dicts.proofs.FailLemmas.{patterns_are}
use Rattle.diagnose.specs.Lines.{lines_from}
use Rattle.diagnose.specs.LogText.{log_line}
use Rattle.suspect_scores.specs.Expected.{expected_text}
use Rattle.suspect_scores.proofs.ExpectedLemmas.{same_free}
use Rattle.suspect_scores.proofs.expecting.expected_log.Goals as goal

pub number_answers_at-requires-clause-numbers : goal.number_answers_at-requires-clause-numbers
number_answers_at-requires-clause-numbers c = λ k d h. let zero : k ≡ 0 = omega (arith, h) in rw zero (some_number c.args.setting.now.subject.now)

pub returns : goal.returns
returns c =
    let s = c.args.setting.now in
    let free = c.in_ok-free.free in
    let slice = c.as_slice-patterns.ensures in
    let vectors = c.as_slice-patterns.result.now in
    IfOk-weaker c.log_text.result (λ text. text.items ≡ lines_from log_line 0 (answers_of free.rows 0)) (λ text. (table : Answers) → AreAnswers s.subject.now s.patterns.now table → text.items ≡ expected_text table)
    (λ text is table are.
    let own = subst (λ (ps : List (List Bool)). AreAnswers s.subject.now ps table) (sym slice) are in
    let many : length free.rows ≡ length table.rows = c.in_ok-free.ensures.sizes.patterns_are ∙ sym (patterns_are s.subject.now vectors table own) in
    is ∙ ap (lines_from log_line 0) (same_free free table many (λ k h. c.in_ok-free.ensures.answers table own k 0 (omega (arith, h, c.in_ok-free.ensures.sizes.patterns_are)) (omega arith))))
    c.log_text.ensures
