-- The scope of a pair of faults.
use Rattle.std.specs.Prelude.{◌≡◌, ℕ, ◌++◌, List, filter}
use Rattle.std.specs.List.{range_with_len}
use Rattle.net_model.specs.declared.fault.Fault.{Fault}
use Rattle.net_model.specs.Circuit.{Circuit}
use Rattle.net_model.specs.Order.{IsOrder}
use Rattle.net_model.specs.Scope.{is_split}

-- a circuit with two faults, whose scope is shown; `Scope` of `net_model` says what is in it
pub record PairScope : Type 0 where
  pub circuit : Circuit
  pub f : Fault
  pub g : Fault

-- the scope of this circuit and these two faults
abbrev pub pair_scope : Circuit → Fault → Fault → PairScope
pair_scope circuit f g = record { circuit = circuit; f = f; g = g }

-- The lines are the split ones, each once: the sources ascending, and after them the gates in an evaluation order.
pub record AreSplitInOrder (c : Circuit) (f g : Fault) (lines : List ℕ) : Type 0 where
  pub order : List ℕ
  pub is : IsOrder c order
  pub are : lines ≡ filter (is_split c f g) (range_with_len 0 c.sources ++ order)
