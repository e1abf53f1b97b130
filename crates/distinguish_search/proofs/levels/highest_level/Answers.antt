use Rattle.std.proofs.Common.{◌≡◌, ◌∙◌, ℕ, nat_cmp, max, get_or, sym, ap, arith}
use Rattle.std.specs.Ordering.{ord_max}
use Rattle.std.proofs.lemmas.List.Sums.{fold_more}
use Rattle.distinguish_search.specs.Levels.{level_at}
use Rattle.distinguish_search.proofs.levels.highest_level.Goals as goal

max_is : (a b : ℕ) → ord_max nat_cmp a b ≡ max a b
max_is a b = grind arith

pub loop-line-preserved : goal.loop-line-preserved
loop-line-preserved c =
    let levels = c.args.levels.now in
    let lines = c.args.lines.now in
    let i = c.loop-line.line-index in
    c.max-highest.ensures ∙ max_is c.loop-line.highest (level_at levels (get_or lines i 0)) ∙ ap (λ highest. max highest (level_at levels (get_or lines i 0))) c.loop-line.invariant
    ∙ sym (fold_more (λ (highest line : ℕ). max highest (level_at levels line)) 0 lines i 0 c.loop-line-test.true)
