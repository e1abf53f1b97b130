use Rattle.std.proofs.Common.{◌++◌, ◌∙◌, ℕ, List, ap, ap₂}
use Rattle.std.specs.List.{flat_map}
use Rattle.dictionary_commands.specs.Texts.{ranks_text, rank_line, least_text}
use Rattle.dictionary_commands.proofs.rank.ranks_text.Goals as goal

pub returns : goal.returns
unfolding ranks_text
returns c =
    let ranks = c.args.ranks.now in
    c.in_ok-push_least.ensures
    ∙ ap₂ (λ (xs ys : List ℕ). xs ++ ys) (c.in_ok-push_ranks.ensures ∙ ap (λ (xs : List ℕ). xs ++ flat_map rank_line ranks) c.new-text.ensures.bytes)
    (ap (λ (n : ℕ). least_text n c.args.least) c.len.ensures)
