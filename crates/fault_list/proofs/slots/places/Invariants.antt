use Rattle.std.proofs.Common.{◌≡◌, ◌<◌, ℕ, length}
use Rattle.std.specs.Prelude.{Some, slice_get, option_and_then}
use Rattle.net_model.specs.declared.fault.Site.{Site}
use Rattle.fault_list.specs.Slots.{slot_of}
use Rattle.fault_list.proofs.slots.places.Given as goal

abbrev pub invariant-loop-place : goal.invariant-loop-place
invariant-loop-place l = record {
  whole : length l.places.items ≡ l.slots;
  placed : (place : ℕ) (site : Site) → place < l.place → slice_get l.sites place ≡ Some site → option_and_then (slice_get l.places.items) (slot_of l.starts site) ≡ Some place;
}
