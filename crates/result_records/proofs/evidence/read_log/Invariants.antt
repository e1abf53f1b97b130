use Rattle.std.proofs.Common.{◌-◌, length, map}
use Rattle.result_records.proofs.SoFarLemmas.{IsLogSoFar}
use Rattle.result_records.proofs.evidence.read_log.Given as goal

abbrev pub invariant-loop-at : goal.invariant-loop-at
invariant-loop-at l = IsLogSoFar l.fresh (map (λ f. f.now) l.fields) l.at l.log

abbrev pub decreases-loop-at : goal.decreases-loop-at
decreases-loop-at l = length l.fields - l.at
