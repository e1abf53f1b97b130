use Rattle.std.proofs.Common.{◌≡◌, ◌≢◌, ◌<◌, ◌∙◌, ◌++◌, ℕ, List, length, get_or, sym, ap, arith, subst}
use Rattle.std.specs.List.{range_with_len}
use Rattle.std.proofs.lemmas.List.Elements.{Contains-get_or}
use Rattle.net_model.specs.Circuit.{Circuit, line_count}
use Rattle.net_model.specs.Wiring.{Wiring}
use Rattle.net_model.proofs.Places.{places_are_gates}
use Rattle.pair_scope.proofs.PlaceLemmas.{lines_count, lines_apart, lines_inside}
use Rattle.pair_scope.proofs.places.LinePlaces.of.Goals as goal

-- the lines in terms of the circuit
lines_are : (c : Circuit) (wiring : Wiring) (lines order : List ℕ) (sources : ℕ) → lines ≡ range_with_len 0 sources ++ order → sources ≡ c.sources → order ≡ wiring.order → lines ≡ range_with_len 0 c.sources ++ wiring.order
lines_are c wiring lines order sources made first same = made ∙ (λ i. range_with_len 0 (first i) ++ same i)

pub ordered_lines-requires : goal.ordered_lines-requires
ordered_lines-requires c =
    let wired = c.wiring-wiring.ensures in
    omega (arith, c.sources.ensures.value, ap length c.order.ensures, places_are_gates c.args.circuit.now c.wiring-wiring.result.now wired, wired.circuit.small)

pub places_of-requires-clause-few : goal.places_of-requires-clause-few
places_of-requires-clause-few c =
    let circuit = c.args.circuit.now in
    let wiring = c.wiring-wiring.result.now in
    let wired = c.wiring-wiring.ensures in
    let are = lines_are circuit wiring c.in_ok-lines.lines.items c.order.result.now c.sources.result c.in_ok-lines.ensures c.sources.ensures.value c.order.ensures in
    omega (arith, ap length c.as_slice.ensures.value, lines_count circuit wiring wired c.in_ok-lines.lines.items are, wired.circuit.small)

pub places_of-requires-clause-inside : goal.places_of-requires-clause-inside
places_of-requires-clause-inside c =
    let circuit = c.args.circuit.now in
    let wiring = c.wiring-wiring.result.now in
    let wired = c.wiring-wiring.ensures in
    let lines = c.in_ok-lines.lines.items in
    let are = lines_are circuit wiring lines c.order.result.now c.sources.result c.in_ok-lines.ensures c.sources.ensures.value c.order.ensures in
    subst (λ (xs : List ℕ). (k d : ℕ) → k < length xs → get_or xs k d < length xs) (sym c.as_slice.ensures.value)
    (λ k d h. subst (λ n. get_or lines k d < n) (sym (lines_count circuit wiring wired lines are)) (lines_inside circuit wiring wired lines are (get_or lines k d) (Contains-get_or lines k d h)))

pub places_of-requires-clause-distinct : goal.places_of-requires-clause-distinct
places_of-requires-clause-distinct c =
    let circuit = c.args.circuit.now in
    let wiring = c.wiring-wiring.result.now in
    let wired = c.wiring-wiring.ensures in
    let lines = c.in_ok-lines.lines.items in
    let are = lines_are circuit wiring lines c.order.result.now c.sources.result c.in_ok-lines.ensures c.sources.ensures.value c.order.ensures in
    subst (λ (xs : List ℕ). (j k : ℕ) → j < k → k < length xs → get_or xs j 0 ≢ get_or xs k 0) (sym c.as_slice.ensures.value) (lines_apart circuit wiring wired lines are)

pub returns-clause-placed : goal.returns-clause-placed
returns-clause-placed c =
    let circuit = c.args.circuit.now in
    let wiring = c.wiring-wiring.result.now in
    let wired = c.wiring-wiring.ensures in
    let lines = c.in_ok-lines.lines.items in
    let places = c.in_ok-places.places.items in
    let are = lines_are circuit wiring lines c.order.result.now c.sources.result c.in_ok-lines.ensures c.sources.ensures.value c.order.ensures in
    let count : length lines ≡ line_count circuit = lines_count circuit wiring wired lines are in
    record {
      wired = wired;
      are = are;
      whole = c.in_ok-places.ensures.whole ∙ ap length c.as_slice.ensures.value ∙ count;
      each = λ place h. subst (λ (xs : List ℕ). get_or places (get_or xs place 0) 0 ≡ place) c.as_slice.ensures.value (c.in_ok-places.ensures.each place (omega (arith, h, ap length c.as_slice.ensures.value, count)));
    }
