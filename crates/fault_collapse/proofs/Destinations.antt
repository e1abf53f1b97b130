-- The destinations of a line are the pins and positions that read it.
use Rattle.std.proofs.Common.{◌≡◌, ◌∙◌, ℕ, zero, suc, ◌+◌, ◌-◌, ◌<◌, ◌≤◌, Bool, true, false, eqb, List, [], ◌∷◌, length, map, refl, ap, arith, subst}
use Rattle.std.specs.Prelude.{All, Contains, Option, None, Some, slice_get, flat_map, nat_lt, if◌then◌else◌}
use Rattle.std.specs.Bool.{then_some}
use Rattle.std.specs.List.{cons_option}
use Rattle.std.specs.Option.{option_map_or}
use Rattle.std.proofs.lemmas.Bool.Decides.{nat_tests}
use Rattle.std.proofs.lemmas.List.Elements.{All-append, All-map, Contains-append_left, Contains-append_right}
use Rattle.std.proofs.lemmas.Option.{slice_get-get_or, slice_get_within}
use Rattle.net_model.specs.declared.fault.Site.{Site}
use Rattle.net_model.specs.declared.fault.Site.TheVariants.{Stem, Pin, Position}
use Rattle.net_model.specs.declared.gate.Gate.{Gate}
use Rattle.net_model.specs.Circuit.{Circuit, line_count, gate_at, gate_lines, pins_of}
use Rattle.net_model.specs.FaultList.{places_of, destinations}
use Rattle.net_model.proofs.Copies.{later}
use Rattle.net_model.proofs.Listed.{All-flat_map, All-range_with_len}
use Rattle.net_model.proofs.Orders.{Contains-range}
use Rattle.net_model.proofs.Elements.{Contains-map, Contains-flat_map}
use Rattle.fault_list.proofs.OnePlace.{All-places, pins_at}
use Rattle.fault_list.proofs.Places.{places_from}
use Rattle.fault_collapse.proofs.Members.{Contains-head}

-- ---- gates

-- a line that a gate drives is no source, and is within the circuit
driven_at : (c : Circuit) (line : ℕ) (b : Bool) (gate : Gate) → nat_lt line c.sources ≡ b → (if b then None else slice_get c.gates (line - c.sources)) ≡ Some gate → (c.sources ≤ line) × (line < line_count c)
driven_at c line true gate t e = cc
driven_at c line false gate t e =
    let from : c.sources ≤ line = grind (arith, nat_tests) in
    let within = slice_get_within c.gates (line - c.sources) gate e in
    (from, omega arith)

pub driven : (c : Circuit) (line : ℕ) (gate : Gate) → gate_at c line ≡ Some gate → (c.sources ≤ line) × (line < line_count c)
driven c line gate e = driven_at c line (nat_lt line c.sources) gate refl e

read_at : (line pin read : ℕ) (o : Option Gate) → slice_get (option_map_or (λ gate. gate.pins) o []) pin ≡ Some read → (gate : Gate) × (o ≡ Some gate)
read_at line pin read None e = cc
read_at line pin read (Some gate) e = (gate, refl)

-- a line with pins is driven by a gate
pub gate_with : (c : Circuit) (line pin read : ℕ) → slice_get (pins_of c line) pin ≡ Some read → (gate : Gate) × (gate_at c line ≡ Some gate)
gate_with c line pin read e = read_at line pin read (gate_at c line) e

-- ---- places

-- a place at which the number occurs is listed
Contains-places_from : (x n k : ℕ) (xs : List ℕ) → slice_get xs k ≡ Some x → Contains (places_from x n xs) (n + k)
Contains-places_from x n k [] e = cc
Contains-places_from x n zero (y ∷ ys) e =
    let same : y ≡ x = cc in
    let test : eqb y x ≡ true = grind (arith, nat_tests) in
    let here : n ≡ n + 0 = omega arith in
    rw test (subst (Contains (n ∷ places_from x (n + 1) ys)) here (Contains-head n (places_from x (n + 1) ys)))
Contains-places_from x n (suc k) (y ∷ ys) e =
    let next : (n + 1) + k ≡ n + suc k = omega arith in
    then_later (eqb y x) n (places_from x (n + 1) ys) (n + suc k) (subst (Contains (places_from x (n + 1) ys)) next (Contains-places_from x (n + 1) k ys e))
  where
    then_later : (b : Bool) (z : ℕ) (zs : List ℕ) (w : ℕ) → Contains zs w → Contains (cons_option (then_some b z) zs) w
    then_later true z zs w has = later z zs w has
    then_later false z zs w has = has

Contains-places_of : (x k : ℕ) (xs : List ℕ) → slice_get xs k ≡ Some x → Contains (places_of x xs) k
unfolding places_of
Contains-places_of x k xs e = let same : 0 + k ≡ k = omega arith in subst (Contains (places_from x 0 xs)) same (Contains-places_from x 0 k xs e)

All-places_of : (x : ℕ) (xs : List ℕ) → All (λ k. slice_get xs k ≡ Some x) (places_of x xs)
unfolding places_of
All-places_of x xs =
    All-places (λ k. slice_get xs k ≡ Some x) x 0 xs
    (λ k within there. let same : k ≡ 0 + k = omega arith in subst (λ n. slice_get xs n ≡ Some x) same (slice_get-get_or xs k 0 within ∙ ap Some there))

-- ---- destinations

module _ (c : Circuit) where
  -- The site is a pin or a position that reads the line.
  abbrev pub ReadsLine : ℕ → Site → Type 0
  ReadsLine line (Stem at) = ⊥
  ReadsLine line (Pin gate pin) = slice_get (pins_of c gate) pin ≡ Some line
  ReadsLine line (Position at) = slice_get c.positions at ≡ Some line

  pub destinations_read : (line : ℕ) → All (ReadsLine line) (destinations c line)
  unfolding destinations pins_at
  destinations_read line =
      All-append (ReadsLine line) (flat_map (pins_at c line) (gate_lines c)) (map Position (places_of line c.positions))
      (All-flat_map (ReadsLine line) (pins_at c line) (gate_lines c)
      (All-range_with_len (λ gate. All (ReadsLine line) (pins_at c line gate)) c.sources (length c.gates)
      (λ gate low high. All-map (ReadsLine line) (Pin gate) (places_of line (pins_of c gate)) (All-places_of line (pins_of c gate)))))
      (All-map (ReadsLine line) Position (places_of line c.positions) (All-places_of line c.positions))

  pub pin_is_destination : (line gate pin : ℕ) → slice_get (pins_of c gate) pin ≡ Some line → Contains (destinations c line) (Pin gate pin)
  unfolding destinations pins_at
  pin_is_destination line gate pin e =
      let g = gate_with c gate pin line e in
      let at = driven c gate g.0 g.1 in
      Contains-append_left (flat_map (pins_at c line) (gate_lines c)) (map Position (places_of line c.positions)) (Pin gate pin)
      (Contains-flat_map (pins_at c line) (gate_lines c) gate (Pin gate pin) (Contains-range c.sources (length c.gates) gate at.0 at.1)
      (Contains-map (Pin gate) (places_of line (pins_of c gate)) pin (Contains-places_of line pin (pins_of c gate) e)))

  pub position_is_destination : (line at : ℕ) → slice_get c.positions at ≡ Some line → Contains (destinations c line) (Position at)
  unfolding destinations pins_at
  position_is_destination line at e =
      Contains-append_right (flat_map (pins_at c line) (gate_lines c)) (map Position (places_of line c.positions)) (Position at)
      (Contains-map Position (places_of line c.positions) at (Contains-places_of line at c.positions e))
