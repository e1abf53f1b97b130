use Rattle.std.proofs.Common.{◌≡◌, ◌-◌, length, map}
use Rattle.result_records.proofs.SoFarLemmas.{AreStepsSoFar}
use Rattle.result_records.proofs.evidence.read_steps.Given as goal

abbrev pub invariant-loop-at : goal.invariant-loop-at
invariant-loop-at l = AreStepsSoFar (map (λ f. f.now) l.fields) l.at l.chain.steps × (l.chain.start ≡ l.initial.chain.start) × (l.chain.fresh_at ≡ l.initial.chain.fresh_at)

abbrev pub decreases-loop-at : goal.decreases-loop-at
decreases-loop-at l = length l.fields - l.at
