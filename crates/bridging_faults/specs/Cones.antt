-- The cones of a line: the lines that it leads to, and those that lead to it.
use Rattle.std.specs.Prelude.{◌≡◌, ℕ, length}
use Rattle.net_model.specs.Circuit.{line_count}
use Rattle.net_model.specs.Scope.{leads_to}
use Rattle.fault_list.specs.Scope.{AreMarksOfTest}
use Rattle.bridging_faults.specs.declared.cones.LineCones.{LineCones}

-- Both cones have a mark for each line of the circuit.
pub record HaveLineMarks (a : LineCones) : Type 0 where
  pub fan_out : length a.fan_out.items ≡ line_count a.circuit.now
  pub fan_in : length a.fan_in.items ≡ line_count a.circuit.now

-- `fan_out` marks exactly the lines that the line leads to, and `fan_in` exactly those that lead to it.
pub record AreConesOf (line : ℕ) (a : LineCones) : Type 0 where
  pub fan_out : AreMarksOfTest (leads_to a.circuit.now line) (line_count a.circuit.now) a.fan_out.items
  pub fan_in : AreMarksOfTest (λ from. leads_to a.circuit.now from line) (line_count a.circuit.now) a.fan_in.items
