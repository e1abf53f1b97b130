-- What the pins of a gate see, and how that follows what they read.
use Rattle.std.proofs.Common.{◌≡◌, ℕ, zero, suc, ◌+◌, ◌-◌, ◌<◌, ◌≤◌, refl, sym, ◌∙◌, ap, arith, drop, length, get_or}
use Rattle.std.specs.Prelude.{false, List, [], ◌∷◌, map, Option, None, Some, nat_lt, slice_get, Contains}
use Rattle.std.specs.Option.{option_map_or}
use Rattle.std.specs.List.{enumerate_from, AllZip}
use Rattle.std.proofs.lemmas.Bool.Decides.{nat_tests}
use Rattle.std.proofs.lemmas.List.{get_or-map, drop_more, length-map}
use Rattle.std.proofs.lemmas.List.FromFn.{length-enumerate_from, get_or-enumerate_from}
use Rattle.net_model.specs.declared.gate.Gate.{Gate}
use Rattle.net_model.specs.declared.operation.Fold.{Fold}
use Rattle.net_model.specs.declared.operation.Operation.TheVariants.{Folded}
use Rattle.net_model.specs.Gate.{gate_value}
use Rattle.net_model.specs.declared.fault.Fault.{Fault}
use Rattle.net_model.specs.Circuit.{Circuit, line_count, gate_at, Feeds}
use Rattle.net_model.specs.Fault.{stuck_stem, stuck_pin, readings}
use Rattle.net_model.proofs.Copies.{later, same_readings}
use Rattle.net_model.proofs.SetSoFar.{gate_at-source}
use Rattle.pair_sets.specs.PairSet.{PairSet}
use Rattle.pair_sets.specs.Cube.{Cube}
use Rattle.pair_sets.specs.PairSet.{forced_pairs, operation_pairs, gate_pairs, IsWithin}
use Rattle.pair_sets.specs.CubeState.{set_at, seen_pairs, source_pairs, line_pairs}
use Rattle.pair_sets.proofs.GateLemmas.{fold_more}
use Rattle.pair_sets.proofs.PairLemmas.{within_same, within_forced, within_values}

-- ---- pin by pin

abbrev pub pin_set : Fault → Fault → List PairSet → ℕ → ℕ → ℕ → PairSet
pin_set f g sets line pin read = forced_pairs (stuck_pin f line pin) (stuck_pin g line pin) (set_at sets read)

module _ (f g : Fault) (sets : List PairSet) (line : ℕ) where
  pub length-seen : (pins : List ℕ) → length (seen_pairs f g sets line pins) ≡ length pins
  unfolding readings
  length-seen pins = length-map (enumerate_from 0 pins) (λ (x : ℕ × ℕ). pin_set f g sets line x.0 x.1) ∙ length-enumerate_from 0 pins

  pub seen_at : (pins : List ℕ) (k : ℕ) (d : PairSet) → k < length pins → get_or (seen_pairs f g sets line pins) k d ≡ pin_set f g sets line k (get_or pins k 0)
  unfolding readings
  seen_at pins k d h =
      get_or-map (λ (x : ℕ × ℕ). pin_set f g sets line x.0 x.1) (enumerate_from 0 pins) k (0, 0) d (omega (arith, length-enumerate_from 0 pins))
      ∙ (ap (λ (x : ℕ × ℕ). pin_set f g sets line x.0 x.1) (get_or-enumerate_from 0 pins k (0, 0) h) ∙ ap (λ n. pin_set f g sets line n (get_or pins k 0)) (let e : 0 + k ≡ k = omega arith in e))

  pub seen_three : (pins : List ℕ) → length pins ≡ 3
      → seen_pairs f g sets line pins ≡ pin_set f g sets line 0 (get_or pins 0 0) ∷ pin_set f g sets line 1 (get_or pins 1 0) ∷ pin_set f g sets line 2 (get_or pins 2 0) ∷ []
  unfolding readings
  seen_three [] e = absurd (omega arith)
  seen_three (p ∷ []) e = absurd (omega arith)
  seen_three (p ∷ q ∷ []) e = absurd (omega arith)
  seen_three (p ∷ q ∷ r ∷ []) e = refl
  seen_three (p ∷ q ∷ r ∷ (x ∷ xs)) e = absurd (omega arith)

  -- a fold with one more pin before those that it has so far
  pub one_pin_more : (fold : Fold) (pins : List ℕ) (k : ℕ) (s so_far : PairSet) → k < length pins → s ≡ pin_set f g sets line k (get_or pins k 0)
      → so_far ≡ operation_pairs (Folded fold) (drop (k + 1) (seen_pairs f g sets line pins)) → operation_pairs (Folded fold) (s ∷ so_far ∷ []) ≡ operation_pairs (Folded fold) (drop k (seen_pairs f g sets line pins))
  one_pin_more fold pins k s so_far h is e =
      let seen = seen_pairs f g sets line pins in
      let inside : k < length seen = omega (arith, length-seen pins) in
      (λ i. operation_pairs (Folded fold) (s ∷ e i ∷ []))
      ∙ sym (fold_more fold s (drop (k + 1) seen))
      ∙ ap (λ x. operation_pairs (Folded fold) (x ∷ drop (k + 1) seen)) (is ∙ sym (seen_at pins k s h))
      ∙ ap (operation_pairs (Folded fold)) (sym (drop_more seen k s inside))

-- ---- the pairs of a line follow the lines that its gate reads

zip-from : {A B : Type 0} (R : A → B → Type 0) (read : ℕ → ℕ → A) (other : ℕ → ℕ → B) (n : ℕ) (lines : List ℕ) → ((place line : ℕ) → Contains lines line → R (read place line) (other place line))
    → AllZip R (map (λ x. read x.0 x.1) (enumerate_from n lines)) (map (λ x. other x.0 x.1) (enumerate_from n lines))
zip-from R read other n [] h = tt
zip-from R read other n (line ∷ lines) h = (h n line (0, omega arith, refl), zip-from R read other (n + 1) lines (λ place l m. h place l (later line lines l m)))

pub zip-readings : {A B : Type 0} (R : A → B → Type 0) (read : ℕ → ℕ → A) (other : ℕ → ℕ → B) (lines : List ℕ) → ((place line : ℕ) → Contains lines line → R (read place line) (other place line)) → AllZip R (readings read lines) (readings other lines)
unfolding readings
zip-readings R read other lines h = zip-from R read other 0 lines h

module _ (c : Circuit) (f g : Fault) (cube : Cube) (x y : List PairSet) (line : ℕ) where
  same_driven : (o : Option Gate) → ((read : ℕ) → Contains (option_map_or (λ gate. gate.pins) o []) read → set_at x read ≡ set_at y read)
      → option_map_or (λ gate. gate_pairs gate.kind (seen_pairs f g x line gate.pins)) o (source_pairs cube line) ≡ option_map_or (λ gate. gate_pairs gate.kind (seen_pairs f g y line gate.pins)) o (source_pairs cube line)
  same_driven None h = refl
  same_driven (Some gate) h = ap (gate_pairs gate.kind) (same_readings (pin_set f g x line) (pin_set f g y line) gate.pins (λ place read m. ap (forced_pairs (stuck_pin f line place) (stuck_pin g line place)) (h read m)))

  pub same_line_pairs : ((read : ℕ) → Feeds c read line → set_at x read ≡ set_at y read) → line_pairs c f g cube x line ≡ line_pairs c f g cube y line
  unfolding line_pairs
  same_line_pairs h = ap (forced_pairs (stuck_stem f line) (stuck_stem g line)) (same_driven (gate_at c line) h)

  fewer_driven : (o : Option Gate) → ((read : ℕ) → Contains (option_map_or (λ gate. gate.pins) o []) read → IsWithin (set_at x read) (set_at y read))
      → IsWithin (option_map_or (λ gate. gate_pairs gate.kind (seen_pairs f g x line gate.pins)) o (source_pairs cube line)) (option_map_or (λ gate. gate_pairs gate.kind (seen_pairs f g y line gate.pins)) o (source_pairs cube line))
  fewer_driven None h = within_same (source_pairs cube line) (source_pairs cube line) refl
  fewer_driven (Some gate) h =
      within_values (gate_value gate.kind) (seen_pairs f g x line gate.pins) (seen_pairs f g y line gate.pins)
      (zip-readings IsWithin (pin_set f g x line) (pin_set f g y line) gate.pins (λ place read m. within_forced (stuck_pin f line place) (stuck_pin g line place) (set_at x read) (set_at y read) (h read m)))

  pub fewer_line_pairs : ((read : ℕ) → Feeds c read line → IsWithin (set_at x read) (set_at y read)) → IsWithin (line_pairs c f g cube x line) (line_pairs c f g cube y line)
  unfolding line_pairs
  fewer_line_pairs h =
      within_forced (stuck_stem f line) (stuck_stem g line)
      (option_map_or (λ gate. gate_pairs gate.kind (seen_pairs f g x line gate.pins)) (gate_at c line) (source_pairs cube line))
      (option_map_or (λ gate. gate_pairs gate.kind (seen_pairs f g y line gate.pins)) (gate_at c line) (source_pairs cube line))
      (fewer_driven (gate_at c line) h)

-- ---- sources and gates

pub source_line_pairs : (c : Circuit) (f g : Fault) (cube : Cube) (sets : List PairSet) (line : ℕ) → line < c.sources
    → line_pairs c f g cube sets line ≡ forced_pairs (stuck_stem f line) (stuck_stem g line) (source_pairs cube line)
unfolding line_pairs
source_line_pairs c f g cube sets line h = ap (λ o. forced_pairs (stuck_stem f line) (stuck_stem g line) (option_map_or (λ gate. gate_pairs gate.kind (seen_pairs f g sets line gate.pins)) o (source_pairs cube line))) (gate_at-source c line h)

pub gate_is_at : (c : Circuit) (line : ℕ) → c.sources ≤ line → line < line_count c → (gate : Gate) × (gate_at c line ≡ Some gate)
gate_is_at c line above below =
    let test : nat_lt line c.sources ≡ false = grind (arith, nat_tests) in
    rw test (some_at c.gates (line - c.sources) (omega arith))
  where
    some_at : (gates : List Gate) (i : ℕ) → i < length gates → (gate : Gate) × (slice_get gates i ≡ Some gate)
    some_at [] i h = absurd (omega arith)
    some_at (gate ∷ gates) zero h = (gate, refl)
    some_at (gate ∷ gates) (suc i) h = some_at gates i (omega arith)

-- a gate's pairs don't depend on the cube
pub any_cube : (c : Circuit) (f g : Fault) (cube other : Cube) (sets : List PairSet) (line : ℕ) → c.sources ≤ line → line < line_count c → line_pairs c f g cube sets line ≡ line_pairs c f g other sets line
unfolding line_pairs
any_cube c f g cube other sets line above below =
    let gate = gate_is_at c line above below in
    let driven : Cube → Option Gate → PairSet = λ k o. forced_pairs (stuck_stem f line) (stuck_stem g line) (option_map_or (λ (gate : Gate). gate_pairs gate.kind (seen_pairs f g sets line gate.pins)) o (source_pairs k line)) in
    ap (driven cube) gate.1 ∙ sym (ap (driven other) gate.1)
