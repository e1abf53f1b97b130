-- The sets cover the real pairs: for each vector of the cube, the pair of a line's bits under the two faults is in the line's set.
use Rattle.std.proofs.Common.{◌≡◌, ℕ, zero, suc, ◌<◌, refl, sym, ◌∙◌, ap, arith, subst, eqb-true, get_or, length}
use Rattle.std.specs.Prelude.{Bool, true, false, List, [], ◌∷◌, map, find, Option, None, Some, option_map, unwrap_or, ◌==◌, cond, Contains}
use Rattle.std.specs.Option.{option_map_or}
use Rattle.std.specs.List.{AllZip}
use Rattle.net_model.specs.declared.gate.Gate.{Gate}
use Rattle.net_model.specs.declared.fault.Fault.{Fault}
use Rattle.net_model.specs.Gate.{gate_value}
use Rattle.net_model.specs.Circuit.{Circuit, IsCircuit, line_count, gate_at}
use Rattle.net_model.specs.Fault.{stuck_stem, stuck_pin, stuck_position, readings}
use Rattle.net_model.specs.Answer.{bit_at, seen_bits, driven_bit, line_bit, Agrees, shown_bits}
use Rattle.net_model.proofs.Copies.{pins_inside, map-readings}
use Rattle.fault_list.proofs.Pair.{at_reading}
use Rattle.pair_sets.specs.PairSet.{PairSet}
use Rattle.pair_sets.specs.Cube.{Cube, fixed_bit, InCube}
use Rattle.pair_sets.specs.PairSet.{Pair, has_pair, gate_pairs, free_pairs, fixed_pairs}
use Rattle.pair_sets.specs.CubeState.{source_pairs, set_at, seen_pairs, line_pairs, ArePairSets, position_pairs}
use Rattle.pair_sets.proofs.PairLemmas.{Has, forced_from, values_from}
use Rattle.pair_sets.proofs.SeenLemmas.{pin_set, zip-readings}

-- ---- readings

-- ---- sources

free_has : (b : Bool) → has_pair free_pairs b b ≡ true
free_has false = refl
free_has true = refl

fixed_has : (bit b : Bool) → b ≡ bit → has_pair (fixed_pairs bit) b b ≡ true
fixed_has false false e = refl
fixed_has false true e = cc
fixed_has true false e = cc
fixed_has true true e = refl

-- the first fixed source, or the rest
fixed_first : (v : List Bool) (source : ℕ) (fixed : ℕ × Bool) (bit : Bool) (rest : Option (ℕ × Bool)) → (option_map (λ other. other.1) rest ≡ Some bit → bit_at v source ≡ bit) → bit_at v fixed.0 ≡ fixed.1
    → (b : Bool) → (fixed.0 == source) ≡ b → option_map (λ other. other.1) (cond b (Some fixed) rest) ≡ Some bit → bit_at v source ≡ bit
fixed_first v source fixed bit rest h here true is e = let at : fixed.0 ≡ source = eqb-true fixed.0 source is in let same : fixed.1 ≡ bit = cc in ap (bit_at v) (sym at) ∙ here ∙ same
fixed_first v source fixed bit rest h here false is e = h e

fixed_right : (cube : Cube) (v : List Bool) (source : ℕ) → InCube cube v → (bit : Bool) → fixed_bit cube source ≡ Some bit → bit_at v source ≡ bit
fixed_right [] v source h bit e = cc
fixed_right (fixed ∷ cube) v source h bit e = fixed_first v source fixed bit (find (λ other. other.0 == source) cube) (fixed_right cube v source h.1 bit) h.0 (fixed.0 == source) refl e

source_has : (cube : Cube) (v : List Bool) (source : ℕ) → InCube cube v → has_pair (source_pairs cube source) (bit_at v source) (bit_at v source) ≡ true
source_has cube v source h = by (fixed_bit cube source) refl
  where
    by : (o : Option Bool) → fixed_bit cube source ≡ o → has_pair (option_map_or fixed_pairs o free_pairs) (bit_at v source) (bit_at v source) ≡ true
    by None e = free_has (bit_at v source)
    by (Some bit) e = fixed_has bit (bit_at v source) (fixed_right cube v source h bit e)

-- ---- lines

module _ (c : Circuit) (f g : Fault) (cube : Cube) (v x y : List Bool) (sets : List PairSet) (inside : InCube cube v) where
  -- the pair of a line's bits is in its set
  abbrev IsCovered : ℕ → Type 0
  IsCovered line = has_pair (set_at sets line) (bit_at x line) (bit_at y line) ≡ true

  driven_covered : (line : ℕ) (o : Option Gate) → ((read : ℕ) → Contains (option_map_or (λ gate. gate.pins) o []) read → IsCovered read)
      → has_pair (option_map_or (λ gate. gate_pairs gate.kind (seen_pairs f g sets line gate.pins)) o (source_pairs cube line))
      (option_map_or (λ gate. gate_value gate.kind (seen_bits (stuck_pin f line) x gate.pins)) o (bit_at v line))
      (option_map_or (λ gate. gate_value gate.kind (seen_bits (stuck_pin g line) y gate.pins)) o (bit_at v line)) ≡ true
  driven_covered line None h = source_has cube v line inside
  driven_covered line (Some gate) h =
      let pair : ℕ → ℕ → Pair = λ place read. (unwrap_or (stuck_pin f line place) (bit_at x read), unwrap_or (stuck_pin g line place) (bit_at y read)) in
      let seen = seen_pairs f g sets line gate.pins in
      let first : map (λ (p : Pair). p.0) (readings pair gate.pins) ≡ seen_bits (stuck_pin f line) x gate.pins = map-readings (λ (p : Pair). p.0) pair gate.pins in
      let second : map (λ (p : Pair). p.1) (readings pair gate.pins) ≡ seen_bits (stuck_pin g line) y gate.pins = map-readings (λ (p : Pair). p.1) pair gate.pins in
      let zipped : AllZip Has seen (readings pair gate.pins) =
      zip-readings Has (pin_set f g sets line) pair gate.pins (λ place read m. forced_from (stuck_pin f line place) (stuck_pin g line place) (set_at sets read) (bit_at x read, bit_at y read) (h read m)) in
      subst (λ bs. has_pair (gate_pairs gate.kind seen) (gate_value gate.kind bs) (gate_value gate.kind (seen_bits (stuck_pin g line) y gate.pins)) ≡ true) first
      (subst (λ bs. has_pair (gate_pairs gate.kind seen) (gate_value gate.kind (map (λ p. p.0) (readings pair gate.pins))) (gate_value gate.kind bs) ≡ true) second
      (values_from (gate_value gate.kind) seen (readings pair gate.pins) zipped))

  module _ (w : IsCircuit c) (a : Agrees c f v x) (b : Agrees c g v y) (s : ArePairSets c f g cube sets) where
    covered_below : (n line : ℕ) → w.acyclic.rank line < n → line < line_count c → IsCovered line
    unfolding line_bit driven_bit line_pairs
    covered_below zero line h l = absurd (omega arith)
    covered_below (suc n) line h l =
        rw (s.each line l, a.each line l, b.each line l)
        (forced_from (stuck_stem f line) (stuck_stem g line) _ (_, _)
        (driven_covered line (gate_at c line) (λ read m. covered_below n read (let lower : w.acyclic.rank read < w.acyclic.rank line = w.acyclic.rises read line m in omega arith) (pins_inside c w line read m))))

    -- The sets cover the real pairs.
    pub covered : (line : ℕ) → line < line_count c → IsCovered line
    covered line l = covered_below (suc (w.acyclic.rank line)) line (omega arith) l

    -- The sets of the observed positions cover the real pairs too.
    pub covered_position : (at : ℕ) → at < length c.positions → has_pair (position_pairs c f g sets at) (bit_at (shown_bits c f x) at) (bit_at (shown_bits c g y) at) ≡ true
    unfolding position_pairs
    covered_position at h =
        let line = get_or c.positions at 0 in
        rw (at_reading (λ place l. unwrap_or (stuck_position f place) (bit_at x l)) c.positions at h, at_reading (λ place l. unwrap_or (stuck_position g place) (bit_at y l)) c.positions at h)
        (forced_from (stuck_position f at) (stuck_position g at) (set_at sets line) (bit_at x line, bit_at y line) (covered line (w.positions at 0 h)))
