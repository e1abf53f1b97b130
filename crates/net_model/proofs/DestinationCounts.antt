-- How many destinations a line has: as many as pins of gates and observed positions read it.
use Rattle.std.proofs.Common.{◌≡◌, ◌∙◌, ℕ, suc, ◌+◌, ◌-◌, Bool, true, false, cond, eqb, ltb, List, [], ◌∷◌, length, map, refl, ap, arith, length-append}
use Rattle.std.specs.Prelude.{flat_map, sum_by, filter_map, ◌==◌, Some, slice_get}
use Rattle.std.specs.Bool.{then_some}
use Rattle.std.specs.List.{enumerate_from, range_with_len, cons_option}
use Rattle.std.proofs.lemmas.Bool.Decides.{nat_tests}
use Rattle.std.proofs.lemmas.List.{length-map}
use Rattle.std.proofs.lemmas.List.Concat.{length-flat_map}
use Rattle.std.proofs.lemmas.List.Sums.{sum_by-cons}
use Rattle.net_model.specs.declared.gate.Gate.{Gate}
use Rattle.net_model.specs.declared.fault.Site.TheVariants.{Pin, Position}
use Rattle.net_model.specs.Circuit.{Circuit, gate_lines, pins_of}
use Rattle.net_model.specs.FaultList.{places_of, destinations}
use Rattle.net_model.specs.Topological.{count_of, pins_reading}

-- ---- places

one_place : (b : Bool) (n : ℕ) (xs : List ℕ) → length (cons_option (then_some b n) xs) ≡ cond b 1 0 + length xs
one_place true n xs = omega arith
one_place false n xs = omega arith

places_from : (x n : ℕ) (xs : List ℕ) → length (filter_map (λ at. then_some (at.1 == x) at.0) (enumerate_from n xs)) ≡ count_of x xs
places_from x n [] = refl
places_from x n (y ∷ ys) =
    omega (arith, one_place (eqb y x) n (filter_map (λ at. then_some (at.1 == x) at.0) (enumerate_from (n + 1) ys)), places_from x (n + 1) ys, sum_by-cons (λ z. cond (eqb z x) 1 0) y ys)

-- a number has as many places as it has occurrences in the list
pub length-places_of : (x : ℕ) (xs : List ℕ) → length (places_of x xs) ≡ count_of x xs
unfolding places_of
length-places_of x xs = places_from x 0 xs

-- ---- the pins of all gates

items_from : {X : Type 0} (f : ℕ → ℕ) (g : X → ℕ) (first : ℕ) (xs : List X) → ((i : ℕ) (x : X) → slice_get xs i ≡ Some x → f (first + i) ≡ g x) → sum_by f (range_with_len first (length xs)) ≡ sum_by g xs
items_from f g first [] h = refl
items_from f g first (x ∷ xs) h =
    let here : f first ≡ g x = ap f (omega arith) ∙ h 0 x refl in
    let rest = items_from f g (first + 1) xs (λ i y e. ap f (omega arith) ∙ h (suc i) y e) in
    omega (arith, here, rest, sum_by-cons f first (range_with_len (first + 1) (length xs)), sum_by-cons g x xs)

module _ (c : Circuit) where
  pub pins_of_item : (i : ℕ) (gate : Gate) → slice_get c.gates i ≡ Some gate → pins_of c (c.sources + i) ≡ gate.pins
  pins_of_item i gate e =
      let test : ltb (c.sources + i) c.sources ≡ false = grind (arith, nat_tests) in
      let back : c.sources + i - c.sources ≡ i = omega arith in
      rw (test, back, e) refl

  -- a sum over the pins of gates, by the lines of the gates or by the gates
  pub sum_of_pins : (part : List ℕ → ℕ) → sum_by (λ gate. part (pins_of c gate)) (gate_lines c) ≡ sum_by (λ (gate : Gate). part gate.pins) c.gates
  sum_of_pins part = items_from (λ gate. part (pins_of c gate)) (λ (gate : Gate). part gate.pins) c.sources c.gates (λ i gate e. ap part (pins_of_item i gate e))

  pub destination_count : (line : ℕ) → length (destinations c line) ≡ pins_reading c line + count_of line c.positions
  unfolding destinations
  destination_count line =
      length-append (flat_map (λ gate. map (Pin gate) (places_of line (pins_of c gate))) (gate_lines c)) (map Position (places_of line c.positions))
      ∙ (λ i. pins i + (length-map (places_of line c.positions) Position ∙ length-places_of line c.positions) i)
    where
      pins : length (flat_map (λ gate. map (Pin gate) (places_of line (pins_of c gate))) (gate_lines c)) ≡ pins_reading c line
      pins =
          length-flat_map (λ gate. map (Pin gate) (places_of line (pins_of c gate))) (gate_lines c)
          ∙ (ap (λ f. sum_by f (gate_lines c)) (λ i gate. (length-map (places_of line (pins_of c gate)) (Pin gate) ∙ length-places_of line (pins_of c gate)) i)
          ∙ sum_of_pins (count_of line))
