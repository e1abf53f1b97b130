-- Laws of collapse.
use Rattle.std.specs.Prelude.{◌≡◌, None}
use Rattle.net_model.specs.declared.fault.Fault.{Fault}
use Rattle.net_model.specs.Circuit.{Circuit, IsCircuit}
use Rattle.net_model.specs.Fault.{IsFaultOf}
use Rattle.net_model.specs.Answer.{AreEqual}
use Rattle.net_model.specs.Collapse.{successor, root}

-- faults of a circuit with the same root are equal
abbrev pub SameRootEqual : Type 0
SameRootEqual = (c : Circuit) (f g : Fault) → IsCircuit c → IsFaultOf c f → IsFaultOf c g → root c f ≡ root c g → AreEqual c f g

-- the root of a fault of a circuit has no successor
abbrev pub RootIsLast : Type 0
RootIsLast = (c : Circuit) (f : Fault) → IsCircuit c → IsFaultOf c f → successor c (root c f) ≡ None
