-- If all relevant sources are fixed, each relevant line has one pair, so no cube is undecided. A cube has only one list
-- of pair sets.
use Rattle.std.proofs.Common.{◌≡◌, ℕ, zero, suc, ◌<◌, refl, sym, ◌∙◌, ap, arith, subst, get_or, length}
use Rattle.std.specs.Prelude.{Bool, true, List, [], Option, None, Some, Contains, IsTrue, IsSome}
use Rattle.std.specs.Option.{option_map_or}
use Rattle.std.proofs.lemmas.List.{ext_get_or}
use Rattle.std.proofs.lemmas.List.Elements.{Contains-get_or}
use Rattle.net_model.specs.declared.gate.Gate.{Gate}
use Rattle.net_model.specs.declared.fault.Fault.{Fault}
use Rattle.net_model.specs.Circuit.{Circuit, IsCircuit, line_count, gate_at}
use Rattle.net_model.specs.Fault.{stuck_stem, stuck_pin, stuck_position}
use Rattle.net_model.specs.Gate.{gate_value}
use Rattle.net_model.specs.Scope.{is_relevant, reached_positions}
use Rattle.net_model.proofs.Copies.{pins_inside}
use Rattle.net_model.proofs.Relevance.{listed_reached, relevant_back, relevant_shown}
use Rattle.net_model.proofs.SetSoFar.{undriven_is_source}
use Rattle.pair_sets.specs.declared.state.PairState.{PairState}
use Rattle.pair_sets.specs.declared.state.PairState.TheVariants.{Undecided}
use Rattle.pair_sets.specs.Cube.{Cube, fixed_bit}
use Rattle.pair_sets.specs.PairSet.{PairSet, gate_pairs, free_pairs, fixed_pairs}
use Rattle.pair_sets.specs.CubeState.{set_at, seen_pairs, source_pairs, line_pairs, ArePairSets, position_pairs, state_of, IsState}
use Rattle.pair_sets.proofs.SeenLemmas.{length-seen, seen_at, same_line_pairs}
use Rattle.pair_sets.proofs.SingleLemmas.{IsSingle, AllSingle, single_fixed, single_forced, single_each, single_value, not_mixed}
use Rattle.pair_sets.proofs.StateLemmas.{undecided_mixed}

-- ---- all relevant sources are fixed

module _ (c : Circuit) (f g : Fault) (cube : Cube) (sets : List PairSet) (w : IsCircuit c) (are : ArePairSets c f g cube sets)
    (fixed : (source : ℕ) → source < c.sources → IsTrue (is_relevant c f g source) → IsSome (fixed_bit cube source)) where
  single_source : (source : ℕ) → IsSome (fixed_bit cube source) → IsSingle (source_pairs cube source)
  single_source source some = by (fixed_bit cube source) some
    where
      by : (o : Option Bool) → IsSome o → IsSingle (option_map_or fixed_pairs o free_pairs)
      by None h = cc
      by (Some bit) h = single_fixed bit

  single_driven : (line : ℕ) (o : Option Gate) → gate_at c line ≡ o → (o ≡ None → IsSingle (source_pairs cube line)) → ((read : ℕ) → Contains (option_map_or (λ gate. gate.pins) o []) read → IsSingle (set_at sets read))
      → IsSingle (option_map_or (λ gate. gate_pairs gate.kind (seen_pairs f g sets line gate.pins)) o (source_pairs cube line))
  single_driven line None e source h = source refl
  single_driven line (Some gate) e source h =
      let seen = seen_pairs f g sets line gate.pins in
      let all : AllSingle seen =
      single_each seen (λ k inside.
      let within : k < length gate.pins = omega (arith, inside, length-seen f g sets line gate.pins) in
      let read = get_or gate.pins k 0 in
      subst IsSingle (sym (seen_at f g sets line gate.pins k free_pairs within)) (single_forced (stuck_pin f line k) (stuck_pin g line k) (set_at sets read) (h read (Contains-get_or gate.pins k 0 within)))) in
      single_value (gate_value gate.kind) seen all

  single_below : (n line : ℕ) → w.acyclic.rank line < n → line < line_count c → is_relevant c f g line ≡ true → IsSingle (set_at sets line)
  unfolding line_pairs
  single_below zero line h l t = absurd (omega arith)
  single_below (suc n) line h l t =
      subst IsSingle (sym (are.each line l))
      (single_forced (stuck_stem f line) (stuck_stem g line) (option_map_or (λ gate. gate_pairs gate.kind (seen_pairs f g sets line gate.pins)) (gate_at c line) (source_pairs cube line))
      (single_driven line (gate_at c line) refl
      (λ e. single_source line (fixed line (undriven_is_source c line l e) t))
      (λ read m. single_below n read (let lower : w.acyclic.rank read < w.acyclic.rank line = w.acyclic.rises read line m in omega arith) (pins_inside c w line read m) (relevant_back c f g w.acyclic read line m t))))

  single_position : (at : ℕ) → Contains (reached_positions c f g) at → IsSingle (position_pairs c f g sets at)
  unfolding position_pairs
  single_position at m =
      let line = get_or c.positions at 0 in
      let reached = listed_reached c f g at m in
      let inside : line < line_count c = w.positions at 0 reached.0 in
      single_forced (stuck_position f at) (stuck_position g at) (set_at sets line) (single_below (suc (w.acyclic.rank line)) line (omega arith) inside (relevant_shown c f g at reached.0 reached.1))

pub fixed_decided : (c : Circuit) (f g : Fault) (cube : Cube) → IsCircuit c → ((source : ℕ) → source < c.sources → IsTrue (is_relevant c f g source) → IsSome (fixed_bit cube source)) → ¬ IsState c f g cube Undecided
fixed_decided c f g cube w fixed state =
    let found = undecided_mixed c f g state.sets state.is in
    not_mixed (position_pairs c f g state.sets found.0) (single_position c f g cube state.sets w state.are fixed found.0 found.1) found.2

-- ---- a cube has only one list of pair sets

module _ (c : Circuit) (f g : Fault) (cube : Cube) (x y : List PairSet) (w : IsCircuit c) (a : ArePairSets c f g cube x) (b : ArePairSets c f g cube y) where
  same_below : (n line : ℕ) → w.acyclic.rank line < n → line < line_count c → set_at x line ≡ set_at y line
  same_below zero line h l = absurd (omega arith)
  same_below (suc n) line h l =
      a.each line l
      ∙ same_line_pairs c f g cube x y line (λ read m. same_below n read (let lower : w.acyclic.rank read < w.acyclic.rank line = w.acyclic.rises read line m in omega arith) (pins_inside c w line read m))
      ∙ sym (b.each line l)

  pub same_pair_sets : x ≡ y
  same_pair_sets = ext_get_or free_pairs x y (a.whole ∙ sym b.whole) (λ line h. same_below (suc (w.acyclic.rank line)) line (omega arith) (subst (λ n. line < n) a.whole h))

pub one_state : (c : Circuit) (f g : Fault) (cube : Cube) (s t : PairState) → IsCircuit c → IsState c f g cube s → IsState c f g cube t → s ≡ t
one_state c f g cube s t w p q = p.is ∙ ap (state_of c f g) (same_pair_sets c f g cube p.sets q.sets w p.are q.are) ∙ sym q.is
