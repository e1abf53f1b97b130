use Rattle.std.proofs.Common.{◌++◌, ◌∙◌, ℕ, List, ap, ap₂}
use Rattle.std.specs.List.{flat_map}
use Rattle.listing_commands.specs.Texts.{suspects_text, suspect_line, suspects_end}
use Rattle.listing_commands.proofs.suspects.suspects_text.Goals as goal

pub returns : goal.returns
unfolding suspects_text
returns c =
    let listed = c.args.listed.now in
    c.in_ok-push_suspects_end.ensures
    ∙ ap₂ (λ (xs ys : List ℕ). xs ++ ys) (c.in_ok-push_suspects.ensures ∙ ap (λ (xs : List ℕ). xs ++ flat_map suspect_line listed) c.new-text.ensures.bytes)
    (ap (λ (n : ℕ). suspects_end n c.args.failing c.args.logged) c.len.ensures)
