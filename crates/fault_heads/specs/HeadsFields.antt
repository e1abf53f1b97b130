-- What is true of the fields of `Heads`.
use Rattle.std.specs.Prelude.{◌≡◌, ℕ, List, length, slice_get, Option, None, Some}
use Rattle.net_model.specs.Circuit.{Circuit, IsCircuit, line_count}
use Rattle.fault_heads.specs.declared.destination.GatePin.{GatePin}
use Rattle.fault_heads.specs.declared.heads.Heads.TheInside.{Inside}
use Rattle.fault_heads.specs.Ways.{IsOnlyDestination}

-- This pin is the line's only destination, or no pin is given and no pin is the line's only destination.
abbrev pub IsDestination : Circuit → ℕ → Option GatePin → Type 0
IsDestination c line None = (gate pin : ℕ) → IsOnlyDestination c line gate pin → ⊥
IsDestination c line (Some at) = IsOnlyDestination c line at.gate at.pin

-- The list has for each line the pin that is its only destination, or none if there is no such pin.
pub record AreDestinations (c : Circuit) (found : List (Option GatePin)) : Type 0 where
  pub whole : length found ≡ line_count c
  pub each : (line : ℕ) (at : Option GatePin) → slice_get found line ≡ Some at → IsDestination c line at

pub record AreHeadsFields (a : Inside) : Type 0 where
  pub circuit : IsCircuit a.circuit.now
  pub destinations : AreDestinations a.circuit.now a.destinations.items
  pub whole : length a.ways.items ≡ line_count a.circuit.now
