-- A tree is refused only if it isn't right, and in one way.
use Rattle.std.proofs.Common.{◌≡◌, ◌∙◌, ℕ, List, inl, inr, sym, arith}
use Rattle.std.proofs.lemmas.Bool.{cases_lt}
use Rattle.net_model.specs.declared.fault.Fault.{Fault}
use Rattle.net_model.specs.Circuit.{Circuit}
use Rattle.pair_sets.specs.declared.tree.Token.{Token}
use Rattle.pair_sets.specs.Tree.{cube_at, token_at, IsTree}
use Rattle.evidence_rules.specs.declared.refusal.EvidenceKind.{EvidenceKind}
use Rattle.evidence_rules.specs.declared.refusal.EvidenceKind.TheVariants.{Covered, Refuted, Spent}
use Rattle.evidence_rules.specs.declared.refusal.Refusal.{Refusal}
use Rattle.evidence_rules.specs.TreeRefusal.{token_refusal, IsRightTree, IsFirstWrong, TreeRefused, at_token, too_short, wrong_count}

module _ (c : Circuit) (f g : Fault) (kind : EvidenceKind) (limit : ℕ) (tokens : List Token) where
  tree_of : IsRightTree c f g kind limit tokens → IsTree c f g tokens
  tree_of right = by kind right
    where
      by : (kind : EvidenceKind) → IsRightTree c f g kind limit tokens → IsTree c f g tokens
      by Covered right = right.tree
      by Refuted right = right.tree
      by Spent right = right.tree

  pub refused_is_wrong : (refusal : Refusal) → TreeRefused c f g kind limit tokens refusal → ¬ IsRightTree c f g kind limit tokens
  refused_is_wrong refusal (at_token at first is) right = first.wrong ((tree_of right).each at first.inside)
  refused_is_wrong refusal (too_short all waiting is) right = waiting (tree_of right).shape.whole
  refused_is_wrong refusal (wrong_count tree other is) right = other right

  same_place : (at other : ℕ) → IsFirstWrong c f g tokens at → IsFirstWrong c f g tokens other → at ≡ other
  same_place at other first second =
      elim (cases_lt at other) [
        | inl lower ↦ absurd (first.wrong (second.before at lower))
        | inr past ↦ elim (cases_lt other at) [ inl lower ↦ absurd (second.wrong (first.before other lower)) | inr here ↦ omega (arith, past, here) ]
      ]

  pub one_refusal : (refusal other : Refusal) → TreeRefused c f g kind limit tokens refusal → TreeRefused c f g kind limit tokens other → refusal ≡ other
  one_refusal refusal other (at_token at first is) (at_token place second are) =
      let here = same_place at place first second in
      is ∙ ((λ i. record { kind = token_refusal (cube_at tokens (here i)) (token_at tokens (here i)); step = here i }) ∙ sym are)
  one_refusal refusal other (at_token at first is) (too_short all waiting are) = absurd (first.wrong (all at first.inside))
  one_refusal refusal other (at_token at first is) (wrong_count tree counts are) = absurd (first.wrong (tree.each at first.inside))
  one_refusal refusal other (too_short all waiting is) (at_token at first are) = absurd (first.wrong (all at first.inside))
  one_refusal refusal other (too_short all waiting is) (too_short each rest are) = is ∙ sym are
  one_refusal refusal other (too_short all waiting is) (wrong_count tree counts are) = absurd (waiting tree.shape.whole)
  one_refusal refusal other (wrong_count tree counts is) (at_token at first are) = absurd (first.wrong (tree.each at first.inside))
  one_refusal refusal other (wrong_count tree counts is) (too_short all waiting are) = absurd (waiting tree.shape.whole)
  one_refusal refusal other (wrong_count tree counts is) (wrong_count whole others are) = is ∙ sym are
