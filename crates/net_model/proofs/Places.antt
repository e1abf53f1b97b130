-- The places of gates in a wiring.
use Rattle.std.proofs.Common.{◌≡◌, ℕ, ◌^◌, ◌<◌, length, get_or, arith}
use Rattle.std.proofs.lemmas.Option.{slice_get-get_or}
use Rattle.net_model.specs.Circuit.{Circuit, Feeds}
use Rattle.net_model.specs.Wiring.{Wiring, IsWiring}
use Rattle.net_model.proofs.Orders.{order_only, order_count}
use Rattle.net_model.proofs.SetSoFar.{fits_from}

-- a gate's readers come after it
pub later_place : (c : Circuit) (wiring : Wiring) → IsWiring c wiring → (place reader : ℕ) → place < length wiring.order → reader < length wiring.order
    → Feeds c (get_or wiring.order place 0) (get_or wiring.order reader 0) → place < reader
later_place c wiring wired place reader h k feeds =
    let order = wiring.order in
    wired.order.sorted reader place (get_or order place 0) (get_or order reader 0) (slice_get-get_or order reader 0 k) feeds
    (order_only c (fits_from c wired.circuit) order wired.order place h).0 (slice_get-get_or order place 0 h)

-- there are as many places as gates
pub places_are_gates : (c : Circuit) (wiring : Wiring) → IsWiring c wiring → length wiring.order ≡ length c.gates
places_are_gates c wiring wired = order_count c (fits_from c wired.circuit) wiring.order wired.order

pub few_places : (c : Circuit) (wiring : Wiring) → IsWiring c wiring → length wiring.order < 2 ^ 26
few_places c wiring wired =
    let gates = places_are_gates c wiring wired in
    let small = wired.circuit.small in
    omega arith
