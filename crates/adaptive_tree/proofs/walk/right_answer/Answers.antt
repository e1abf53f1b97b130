use Rattle.std.proofs.Common.{◌∙◌, sym, refl, eqb}
use Rattle.std.proofs.lemmas.List.{length-map}
use Rattle.text_fields.specs.Fields.{digit_bits}
use Rattle.adaptive_tree.specs.AnswerLog.{not_asked, wrong_width}
use Rattle.adaptive_tree.proofs.walk.right_answer.Goals as goal

pub returns-then-not-is_asked : goal.returns-then-not-is_asked
returns-then-not-is_asked c = λ node before is.
    let line = c.in-Some.line in
    not_asked line.pattern (digit_bits line.digits.now) line.rest.now c.in-Some.ensures (λ asked. let clash = c.if-not-is_asked.ensures.1 (is ∙ asked) in cc) refl

pub returns-then-line-positions : goal.returns-then-line-positions
returns-then-line-positions c = λ node before is.
    let line = c.in-Some.line in
    wrong_width line.pattern (digit_bits line.digits.now) line.rest.now c.in-Some.ensures (sym is ∙ c.if-not-is_asked.ensures.0 refl) (λ e. c.if-line-positions.true (sym (length-map line.digits.now (λ digit. eqb digit 49)) ∙ e)) refl
