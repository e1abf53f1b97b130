-- What the fields of a `Subject` show, and what is true of them.
use Rattle.std.specs.Prelude.{◌≡◌}
use Rattle.net_model.specs.Circuit.{Circuit}
use Rattle.net_model.specs.FaultList.{faults}
use Rattle.fault_collapse.specs.Forest.{IsForestOf}
use Rattle.fault_collapse.specs.declared.subject.Subject.TheInside.{Inside}

-- the circuit that a subject shows
abbrev pub subject_circuit : Inside → Circuit
subject_circuit a = a.circuit.now

-- The list is that of the circuit's faults, and the forest is that of these faults.
pub record AreSubjectFields (a : Inside) : Type 0 where
  pub faults_are : a.listed ≡ faults a.circuit.now
  pub forest_of : IsForestOf a.circuit.now a.forest
