use Rattle.std.proofs.Common.{◌∙◌, sym}
use Rattle.std.specs.Cmp.Lexicographic.{other_text}
use Rattle.adaptive_tree.proofs.FormLemmas.{other_word}
use Rattle.adaptive_tree.proofs.line.form_with.Goals as goal

pub returns : goal.returns
returns c =
    other_word c.args.word.now c.args.fields.now c.requires
    (λ e. other_text _ _ c.if-eq.ensures (e ∙ sym c.as_slice.ensures))
    (λ e. other_text _ _ c.if-eq-2.ensures (e ∙ sym c.as_slice-2.ensures))
    (λ e. other_text _ _ c.if-eq-3.ensures (e ∙ sym c.as_slice-3.ensures))
    (λ e. other_text _ _ c.if-eq-4.ensures (e ∙ sym c.as_slice-4.ensures))
