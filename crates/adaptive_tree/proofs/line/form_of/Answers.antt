use Rattle.std.proofs.Common.{◌∙◌, sym}
use Rattle.std.specs.Cmp.Lexicographic.{other_text, same_text}
use Rattle.adaptive_tree.proofs.FormLemmas.{end_is, no_word}
use Rattle.adaptive_tree.proofs.line.form_of.Goals as goal

pub returns-then-eq : goal.returns-then-eq
returns-then-eq c = end_is c.args.line.now (same_text _ _ c.if-eq.ensures ∙ c.as_slice.ensures)

pub returns-in_err-word : goal.returns-in_err-word
returns-in_err-word c = rw c.from_residual.ensures (no_word c.args.line.now (λ e. other_text _ _ c.if-eq.ensures (e ∙ sym c.as_slice.ensures)) c.in_err-word.ensures)
