-- A checker of evidence, as the calls see it.
use Rattle.net_model.specs.Circuit.{Circuit}
use Rattle.clause_pool.specs.Clauses.{Clauses}

-- A circuit, and the pool in which logs are checked.
pub record EvidenceChecker : Type 0 where
  pub circuit : Circuit
  pub pool : Clauses

abbrev pub evidence_checker : Circuit → Clauses → EvidenceChecker
evidence_checker circuit pool = record { circuit = circuit; pool = pool }
