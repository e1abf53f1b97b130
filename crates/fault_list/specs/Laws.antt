-- Laws of the numbers of faults and of the scope of a pair.
use Rattle.std.specs.Prelude.{◌≡◌, ℕ, ◌<◌, Bool, false, List, length, Some, slice_get}
use Rattle.net_model.specs.declared.fault.Fault.{Fault}
use Rattle.net_model.specs.Circuit.{Circuit, IsCircuit, line_count}
use Rattle.net_model.specs.Answer.{Agrees, bit_at, shown_bits}
use Rattle.net_model.specs.FaultList.{faults}
use Rattle.net_model.specs.Scope.{is_split, is_reached}

-- no fault has two numbers
abbrev pub OneNumber : Type 0
OneNumber = (c : Circuit) (m n : ℕ) (f : Fault) → slice_get (faults c) m ≡ Some f → slice_get (faults c) n ≡ Some f → m ≡ n

-- a line that isn't split has one bit under both faults
abbrev pub UnsplitAgree : Type 0
UnsplitAgree = (c : Circuit) (f g : Fault) (v x y : List Bool) (line : ℕ) → IsCircuit c → Agrees c f v x → Agrees c g v y
    → line < line_count c → is_split c f g line ≡ false → bit_at x line ≡ bit_at y line

-- a position that isn't reached shows the same under both faults
abbrev pub UnreachedAgree : Type 0
UnreachedAgree = (c : Circuit) (f g : Fault) (v x y : List Bool) (at : ℕ) → IsCircuit c → Agrees c f v x → Agrees c g v y
    → at < length c.positions → is_reached c f g at ≡ false → bit_at (shown_bits c f x) at ≡ bit_at (shown_bits c g y) at
