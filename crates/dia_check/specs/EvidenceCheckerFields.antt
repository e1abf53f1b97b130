-- What the fields of a checker of evidence show, and what is true of them.
use Rattle.std.specs.Prelude.{◌≡◌, IfSome}
use Rattle.dia_check.specs.declared.evidence.EvidenceChecker.TheInside.{Inside}
use Rattle.dia_check.specs.EvidenceChecker.{EvidenceChecker, evidence_checker}

abbrev pub evidence_checker_of : Inside → EvidenceChecker
evidence_checker_of a = evidence_checker a.circuit.now a.pool

-- The kept checker of trees and the kept space for miters are for the circuit.
pub record AreEvidenceCheckerFields (a : Inside) : Type 0 where
  pub trees : a.trees ≡ a.circuit.now
  pub miters : IfSome a.miters (λ space. space ≡ a.circuit.now)
