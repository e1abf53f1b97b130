use Rattle.std.proofs.Common.{◌∙◌, [], map, sym, arith}
use Rattle.std.specs.Cmp.Lexicographic.{same_text, other_text}
use Rattle.std.proofs.lemmas.List.{get_or-map, length-map}
use Rattle.std.proofs.lemmas.List.Elements.{All-more}
use Rattle.result_records.proofs.OnceLemmas.{IsUnmarked}
use Rattle.result_records.proofs.evidence.first_mark.Goals as goal

pub loop-at-preserved : goal.loop-at-preserved
loop-at-preserved c =
    All-more IsUnmarked (map (λ f. f.now) c.args.fields.now) c.loop-at.at [] (omega (arith, c.loop-at-test.true, length-map c.args.fields.now (λ f. f.now))) c.loop-at.invariant
    (λ e. other_text _ _ (sym c.if-eq.false ∙ c.eq.ensures) (sym (get_or-map (λ f. f.now) c.args.fields.now c.loop-at.at _ [] c.loop-at-test.true) ∙ e))

pub returns-then-eq-clause-before : goal.returns-then-eq-clause-before
returns-then-eq-clause-before c = c.loop-at.invariant

pub returns-then-eq-clause-at : goal.returns-then-eq-clause-at
returns-then-eq-clause-at c = λ below. get_or-map (λ f. f.now) c.args.fields.now c.loop-at.at _ [] below ∙ same_text _ _ (sym c.if-eq.true ∙ c.eq.ensures)
