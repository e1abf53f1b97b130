use Rattle.std.proofs.Common.{◌≡◌, ◌∙◌, ◌+◌, ◌<◌, ℕ, length, map, sym, ap, subst, arith}
use Rattle.std.specs.Prelude.{sum_by, slice_index}
use Rattle.std.proofs.lemmas.List.{get_or_default, length-map}
use Rattle.std.proofs.lemmas.Result.{IfOk-weaker}
use Rattle.net_model.specs.Circuit.{line_count}
use Rattle.net_model.specs.Topological.{parts_circuit, pins_reading, users_at}
use Rattle.net_model.specs.Wiring.{AreUsers, reads_at}
use Rattle.net_model.proofs.Orders.{order_only, order_count}
use Rattle.net_model.proofs.WiringLemmas.{readers_below, readers_by_place, renumbered_long, renumbered_total}
use Rattle.net_model.proofs.wiring.reader_places.Goals as goal
use Rattle.net_model.proofs.wiring.reader_places.Goals.{After-drop-readers-inside-2}

pub places_of-requires-clause-few : goal.places_of-requires-clause-few
places_of-requires-clause-few c = omega (arith, order_count (parts_circuit c.args.parts.now) c.requires.fits c.args.order.now c.requires.order, c.requires.fits.small)

pub places_of-requires-clause-inside : goal.places_of-requires-clause-inside
places_of-requires-clause-inside c =
    let order = c.args.order.now in
    λ k d h. omega (arith, get_or_default order k d 0 h, order_only (parts_circuit c.args.parts.now) c.requires.fits order c.requires.order k h, c.len.ensures, c.args.parts.now.gates.ok.0)

pub renumber-requires : goal.renumber-requires
renumber-requires c =
    let circuit = parts_circuit c.args.parts.now in
    let lines : length c.as_slice.result.now ≡ circuit.sources + length circuit.gates =
    omega (arith, ap length c.as_slice.ensures.value, c.in_ok-places.ensures.whole, c.len.ensures, c.args.parts.now.gates.ok.0) in
    rw lines (readers_below circuit c.requires.fits c.args.order.now c.requires.order c.args.readers c.requires.readers)

pub of_users-requires : goal.of_users-requires
of_users-requires c =
    let f : ℕ → ℕ = λ user. slice_index c.as_slice.result.now user in
    record {
      lines = omega (arith, ap length c.renumber.ensures, length-map c.args.readers (map f), c.requires.readers.whole, c.requires.fits.small);
      numbers = omega (arith, ap (sum_by length) c.renumber.ensures, renumbered_total f c.args.readers, c.requires.readers.total, c.requires.fits.small);
    }

-- the readers, each with its new number
renumbered : (c : After-drop-readers-inside-2) → c.renumber.new.self ≡ map (map (λ user. slice_index c.in_ok-places.places.items user)) c.args.readers
renumbered c = c.renumber.ensures ∙ ap (λ ps. map (map (λ user. slice_index ps user)) c.args.readers) c.as_slice.ensures.value

pub returns-clause-users : goal.returns-clause-users
returns-clause-users c =
    let circuit = parts_circuit c.args.parts.now in
    let order = c.args.order.now in
    let f : ℕ → ℕ = λ user. slice_index c.in_ok-places.places.items user in
    let users = AreUsers (length order) (reads_at circuit order) in
    let found = subst users (sym (renumbered c)) (readers_by_place circuit c.requires.fits order c.requires.order c.args.readers c.requires.readers f c.in_ok-places.ensures.each) in
    IfOk-weaker c.of_users.result (λ lists. lists ≡ c.renumber.new.self) users (λ lists same. subst users (sym same) found) c.of_users.ensures

pub returns-clause-long : goal.returns-clause-long
returns-clause-long c =
    let circuit = parts_circuit c.args.parts.now in
    let f : ℕ → ℕ = λ user. slice_index c.in_ok-places.places.items user in
    IfOk-weaker c.of_users.result (λ lists. lists ≡ c.renumber.new.self) (λ lists. (line : ℕ) → line < line_count circuit → length (users_at lists line) ≡ pins_reading circuit line)
    (λ lists same line h. ap (λ us. length (users_at us line)) (same ∙ renumbered c) ∙ renumbered_long circuit c.requires.fits c.args.order.now c.requires.order c.args.readers c.requires.readers f line h) c.of_users.ensures

pub returns-clause-whole : goal.returns-clause-whole
returns-clause-whole c =
    let f : ℕ → ℕ = λ user. slice_index c.in_ok-places.places.items user in
    let whole : length c.renumber.new.self ≡ line_count (parts_circuit c.args.parts.now) = ap length (renumbered c) ∙ length-map c.args.readers (map f) ∙ c.requires.readers.whole in
    IfOk-weaker c.of_users.result (λ lists. lists ≡ c.renumber.new.self) (λ lists. length lists ≡ line_count (parts_circuit c.args.parts.now)) (λ lists same. ap length same ∙ whole) c.of_users.ensures
