use Rattle.std.proofs.Common.{◌∙◌, ◌++◌, ◌∷◌, [], sym, arith}
use Rattle.dict_rows.specs.AnswerTable.{answer_to}
use Rattle.diagnose.specs.LogText.{log_line}
use Rattle.suspect_scores.proofs.ExpectedLemmas.{text_more}
use Rattle.suspect_scores.proofs.expecting.log_text.Goals as goal

pub loop-pattern-preserved : goal.loop-pattern-preserved
loop-pattern-preserved c =
    c.in_ok-push_line.ensures ∙ ((λ i. c.loop-pattern.invariant i ++ (log_line c.loop-pattern.pattern (answer_to c.args.free.now c.loop-pattern.pattern 0) ++ 10 ∷ [])) ∙ sym (text_more c.args.free.now c.loop-pattern.pattern (omega (arith, c.loop-pattern-test.true, c.patterns-pattern-end.ensures.value))))
