use Rattle.std.proofs.Common.{◌++◌, ◌∙◌, ℕ, List, ap, ap₂}
use Rattle.std.specs.List.{flat_map}
use Rattle.listing_commands.specs.Texts.{cover_text, choice_line, cover_end}
use Rattle.listing_commands.proofs.cover.cover_text.Goals as goal

pub returns : goal.returns
unfolding cover_text
returns c =
    let choices = c.args.choices.now in
    c.in_ok-push_cover_end.ensures
    ∙ ap₂ (λ (xs ys : List ℕ). xs ++ ys) (c.in_ok-push_choices.ensures ∙ ap (λ (xs : List ℕ). xs ++ flat_map choice_line choices) c.new-text.ensures.bytes)
    (ap₂ (λ (n e : ℕ). cover_end n e c.args.failing) c.len.ensures c.explained.ensures)
