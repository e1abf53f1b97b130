use Rattle.std.proofs.Common.{◌<◌, ◌+◌, ◌*◌, Bool, true, false, refl, arith}
use Rattle.std.specs.Prelude.{None, Some}
use Rattle.std.specs.Int.{from_bool}
use Rattle.fault_list.proofs.Numbered.{IsPlaceOf, place_within, free_number, no_number, some_number}
use Rattle.fault_list.proofs.numbers.FaultList.number_of.Goals as goal

pub returns-in_err-place-in-Stuck : goal.returns-in_err-place-in-Stuck
returns-in_err-place-in-Stuck c =
    let sites = c.self.inside.sites.items in
    let none : IsPlaceOf sites c.in-Stuck.site None = rw c.as_slice-sites.ensures.value at c.in_err-place-in-Stuck.ensures in
    rw (← c.self.view_is, c.in-Stuck.is, c.from_residual.ensures) (no_number sites c.in-Stuck.site c.in-Stuck.bit none)

bit_below : (bit : Bool) → from_bool bit < 2
bit_below true = omega arith
bit_below false = omega arith

pub overflow_mul-result : goal.overflow_mul-result
overflow_mul-result c = omega (arith, place_within c.self.inside.sites.items c.in-Stuck.site c.in_ok-place-in-Stuck.place (rw c.as_slice-sites.ensures.value at c.in_ok-place-in-Stuck.ensures), c.self.invariant.few)

pub overflow_add-result : goal.overflow_add-result
overflow_add-result c = omega (arith, place_within c.self.inside.sites.items c.in-Stuck.site c.in_ok-place-in-Stuck.place (rw c.as_slice-sites.ensures.value at c.in_ok-place-in-Stuck.ensures), c.self.invariant.few)

pub overflow_add-result-in-Stuck : goal.overflow_add-result-in-Stuck
overflow_add-result-in-Stuck c = omega (arith, place_within c.self.inside.sites.items c.in-Stuck.site c.in_ok-place-in-Stuck.place (rw c.as_slice-sites.ensures.value at c.in_ok-place-in-Stuck.ensures), c.self.invariant.few, c.from.ensures, bit_below c.in-Stuck.bit)

pub returns-in-Free : goal.returns-in-Free
returns-in-Free c = rw (← c.self.view_is, c.in-Free.is) (free_number c.self.inside.sites.items)

pub returns-in_ok-place-in-Stuck : goal.returns-in_ok-place-in-Stuck
returns-in_ok-place-in-Stuck c =
    let sites = c.self.inside.sites.items in
    let one : IsPlaceOf sites c.in-Stuck.site (Some c.in_ok-place-in-Stuck.place) = rw c.as_slice-sites.ensures.value at c.in_ok-place-in-Stuck.ensures in
    rw (← c.self.view_is, c.in-Stuck.is, c.from.ensures)
    (some_number sites c.in-Stuck.site c.in-Stuck.bit c.in_ok-place-in-Stuck.place (1 + 2 * c.in_ok-place-in-Stuck.place + from_bool c.in-Stuck.bit) refl one)
