use Rattle.std.proofs.Common.{◌∙◌, ℕ, refl, ap}
use Rattle.result_file.specs.declared.checked.Summary.{Summary}
use Rattle.dia_check.proofs.EndLemmas.{states_all}
use Rattle.dia_check.proofs.checker.Checker.into_checked.Goals as goal

pub returns : goal.returns
returns c = λ circuit text whole.
    let p = c.args.self.progress in
    let patterns = rw c.into_kept-vectors.ensures.classes at c.patterns.ensures.value in
    states_all whole _
    (ap (λ (n : ℕ). let s : Summary = record { numbers = p.members; patterns = n; classes = p.classes; equal = p.marked.equal; spent = p.marked.spent } in s) patterns) refl
    (c.in_ok-listed.ensures ∙ c.into_kept-vectors.ensures.vectors) c.into_kept-vectors.ensures.classes
