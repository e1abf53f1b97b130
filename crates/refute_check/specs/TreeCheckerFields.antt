-- What contracts see of a checker of trees, and what is true of its fields.
use Rattle.std.specs.Prelude.{IfSome}
use Rattle.net_model.specs.Circuit.{Circuit}
use Rattle.refute_check.specs.declared.tree.TreeChecker.TheInside.{Inside}
use Rattle.refute_check.specs.Walk.{IsWalkFor}

-- The circuit that the checker is for.
abbrev pub tree_checker_of : Inside → Circuit
tree_checker_of a = a.circuit.now

-- A walk that is kept is one for the circuit.
abbrev pub AreTreeCheckerFields : Inside → Type 0
AreTreeCheckerFields a = IfSome a.walk (IsWalkFor a.circuit.now)
