use Rattle.std.proofs.Common.{rules}
use Rattle.std.specs.Ordering.{is_lt}
use Rattle.std.proofs.lemmas.List.Sorted.{answers_always}
use Rattle.suspect_scores.specs.declared.suspect.Suspect.{Suspect}
use Rattle.suspect_scores.specs.Listed.{suspect_cmp}
use Rattle.suspect_scores.proofs.SuspectLemmas.{suspects_rank}
use Rattle.suspect_scores.proofs.suspecting.put_in_order.Goals as goal

pub returns-clause-sorted : goal.returns-clause-sorted
returns-clause-sorted c = c.sort_unstable_by.ensures.sorted (λ (a b : Suspect). is_lt (suspect_cmp a b)) suspects_rank (answers_always _ _ _ (λ f a r g h. search rules))
