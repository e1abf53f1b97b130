use Rattle.std.proofs.Common.{◌∙◌, ◌++◌, ◌∷◌, [], List, ℕ, ap, sym}
use Rattle.net_model.proofs.Ranges.{range_more}
use Rattle.adaptive_planner.proofs.planner.first_classes.Goals as goal

pub loop-class-preserved : goal.loop-class-preserved
loop-class-preserved c = c.in_ok-push.ensures.items ∙ (ap (λ (xs : List ℕ). xs ++ c.loop-class.class ∷ []) c.loop-class.invariant ∙ sym (range_more c.loop-class.class))
