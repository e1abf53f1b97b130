use Rattle.std.proofs.Common.{◌≡◌, ◌≤◌, take}
use Rattle.std.specs.Prelude.{count_by, is_none}
use Rattle.net_model.specs.Fault.{stuck_pin, readings}
use Rattle.pair_miter.proofs.helpers.free_pins.Given as goal

abbrev pub invariant-loop-pin : goal.invariant-loop-pin
invariant-loop-pin l = (l.count ≡ count_by (λ b. b) (take l.pin (readings (λ pin read. is_none (stuck_pin l.fault l.line pin)) l.pins))) × (l.count ≤ l.pin)
