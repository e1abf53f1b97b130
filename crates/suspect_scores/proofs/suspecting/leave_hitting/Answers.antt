use Rattle.std.proofs.Common.{rules}
use Rattle.std.proofs.lemmas.Fn.{filter_same}
use Rattle.suspect_scores.specs.Scored.{has_hit}
use Rattle.suspect_scores.proofs.suspecting.leave_hitting.Goals as goal

pub returns : goal.returns
returns c = filter_same _ has_hit _ (λ x b q h. search rules) _ _ c.retain.ensures.filtered
