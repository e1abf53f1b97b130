use Rattle.std.proofs.Common.{◌∙◌, ◌<◌, length, ◌++◌, ◌∷◌, [], sym, arith}
use Rattle.suspect_scores.proofs.LoggedLemmas.{vectors_more, pattern_inside}
use Rattle.suspect_scores.proofs.logged.logged_patterns.Goals as goal

pub loop-at-preserved : goal.loop-at-preserved
loop-at-preserved c =
    let lines = c.args.partial.now in
    let h : c.loop-at.at < length lines = omega (arith, c.loop-at-test.true, c.len-at-end.ensures) in
    c.in_ok-push.ensures.items
    ∙ ((λ i. c.loop-at.invariant i ++ c.in_ok-copy.field-0 ∷ [])
    ∙ sym (vectors_more c.args.patterns.now lines c.loop-at.at _ h c.line-pattern.ensures c.in_ok-copy.field-0 _ (pattern_inside c.args.patterns.now lines c.loop-at.at _ h c.line-pattern.ensures c.requires) (c.in_ok-copy.ensures ∙ c.index-patterns-pattern.is)))
