use Rattle.std.proofs.Common.{◌≡◌, ◌∙◌, ◌++◌, ◌-◌, List, ℕ, ap, ap₂, sym, length}
use Rattle.listing_commands.specs.Texts.{count_text}
use Rattle.listing_commands.specs.Faults.{faults_text, fault_lines}
use Rattle.listing_commands.proofs.faults.lines_text.Goals as goal

pub returns : goal.returns
unfolding faults_text
returns c =
    let forest = c.args.forest.now in
    let numbers : c.len.result ≡ length forest.roots = c.len.ensures.value ∙ sym c.requires.forest in
    c.in_ok-extend_from_slice.ensures.items
    ∙ ap₂ (λ (xs ys : List ℕ). xs ++ ys) (c.in_ok-push_faults.ensures ∙ ap (λ (xs : List ℕ). xs ++ fault_lines c.args.design.now forest) c.new-text.ensures.items)
    (c.as_bytes.ensures.value ∙ c.in_ok-count.ensures ∙ ap₂ count_text (ap (λ (n : ℕ). n - 1) numbers) c.root_count.ensures)
