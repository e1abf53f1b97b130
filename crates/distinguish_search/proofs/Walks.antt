-- Why a walk from an undecided position ends at a free source.
use Rattle.std.proofs.Common.{◌≡◌, ℕ, ◌+◌, ◌<◌, ◌≤◌, refl, sym, ◌∙◌, ap, arith, subst, length, get_or, below_more, inl, inr}
use Rattle.std.specs.Prelude.{Bool, true, false, List, [], Option, None, Some, Contains, ◌||◌}
use Rattle.std.specs.Option.{option_map_or}
use Rattle.std.proofs.lemmas.Bool.{cases_lt, false≢true}
use Rattle.std.proofs.lemmas.List.{get_or_default}
use Rattle.std.proofs.lemmas.List.Elements.{Contains-get_or}
use Rattle.net_model.specs.declared.gate.Gate.{Gate}
use Rattle.net_model.specs.declared.fault.Fault.{Fault}
use Rattle.net_model.specs.Circuit.{Circuit, IsCircuit, gate_at, pins_of, Feeds}
use Rattle.net_model.specs.Gate.{gate_value}
use Rattle.net_model.specs.Fault.{stuck_stem, stuck_pin, stuck_position}
use Rattle.net_model.specs.Scope.{reached_positions}
use Rattle.net_model.proofs.Copies.{pins_inside}
use Rattle.net_model.proofs.Relevance.{listed_reached, relevant_back, relevant_shown}
use Rattle.pair_sets.specs.PairSet.{PairSet}
use Rattle.pair_sets.specs.declared.state.PairState.TheVariants.{Undecided}
use Rattle.pair_sets.specs.Cube.{Cube, fixed_bit}
use Rattle.pair_sets.specs.PairSet.{has_several, free_pairs, fixed_pairs, gate_pairs, only_equal, only_unequal}
use Rattle.pair_sets.specs.CubeState.{set_at, seen_pairs, source_pairs, line_pairs, ArePairSets, position_pairs, IsState, IsPart}
use Rattle.pair_sets.proofs.SeenLemmas.{pin_set, length-seen, seen_at, source_line_pairs, gate_is_at}
use Rattle.pair_sets.proofs.StateLemmas.{undecided_mixed}
use Rattle.pair_sets.proofs.ReadLemmas.{part_is}
use Rattle.distinguish_search.specs.Open.{IsLineOpen, IsPositionDecided, AreDecided, IsPositionOpen}
use Rattle.pair_sets.proofs.SingleLemmas.{AllSingle, not_several, no_single, several_before, single_fixed, single_each, single_value, mixed_several}

module _ (c : Circuit) (f g : Fault) (cube : Cube) where
  -- ---- the end of a walk

  free_source : (o : Option Bool) → has_several (option_map_or fixed_pairs o free_pairs) ≡ true → o ≡ None
  free_source None e = refl
  free_source (Some bit) e = absurd (no_single (fixed_pairs bit) e (single_fixed bit))

  -- an open source is free
  pub open_is_free : (line : ℕ) → IsLineOpen c f g cube line → line < c.sources → fixed_bit cube line ≡ None
  open_is_free line here inside =
      let is : set_at here.sets line ≡ _ = here.are.each line here.inside ∙ source_line_pairs c f g cube here.sets line inside in
      free_source (fixed_bit cube line) (several_before (stuck_stem f line) (stuck_stem g line) (source_pairs cube line) (subst (λ s. has_several s ≡ true) is here.several))

  -- ---- its beginning

  -- a reached position that isn't decided shows an open line
  pub mixed_is_open : (sets : List PairSet) (place : ℕ) → IsCircuit c → ArePairSets c f g cube sets → place < length (reached_positions c f g)
      → (only_equal (position_pairs c f g sets (get_or (reached_positions c f g) place 0)) || only_unequal (position_pairs c f g sets (get_or (reached_positions c f g) place 0))) ≡ false → IsPositionOpen c f g cube place
  unfolding position_pairs
  mixed_is_open sets place w are h e =
      let at = get_or (reached_positions c f g) place 0 in
      let reached = listed_reached c f g at (Contains-get_or (reached_positions c f g) place 0 h) in record {
        within = h;
        shows = record {
          inside = w.positions at 0 reached.0;
          relevant = relevant_shown c f g at reached.0 reached.1;
          sets = sets;
          are = are;
          several = several_before (stuck_position f at) (stuck_position g at) (set_at sets (get_or c.positions at 0)) (mixed_several (position_pairs c f g sets at) e);
        };
      }

  -- one more place is decided
  pub decided_more : (start place : ℕ) (pairs : PairSet) → IsCircuit c → AreDecided c f g cube start place → IsPart c f g cube (λ sets. position_pairs c f g sets (get_or (reached_positions c f g) place 0)) pairs
      → (only_equal pairs || only_unequal pairs) ≡ true → AreDecided c f g cube start (place + 1)
  decided_more start place pairs w so_far part e k from below sets are = elim (cases_lt k place) [
    | inl under ↦ so_far k from under sets are
    | inr over ↦
        let same : k ≡ place = omega arith in
        let at = get_or (reached_positions c f g) place 0 in
        subst (λ n. (only_equal (position_pairs c f g sets (get_or (reached_positions c f g) n 0)) || only_unequal (position_pairs c f g sets (get_or (reached_positions c f g) n 0))) ≡ true) (sym same)
        (sym (ap (λ s. only_equal s || only_unequal s) (part_is c f g cube (λ sets. position_pairs c f g sets at) pairs sets w part are)) ∙ e)
  ]

  -- some reached position of an undecided cube isn't decided
  pub not_all_decided : (middle : ℕ) → IsState c f g cube Undecided → AreDecided c f g cube middle (length (reached_positions c f g)) → AreDecided c f g cube 0 middle → ⊥
  not_all_decided middle state late early =
      let sets = state.sets in
      let reached = reached_positions c f g in
      let found = undecided_mixed c f g sets state.is in
      let place = found.1.0 in
      let here : get_or reached place 0 ≡ found.0 = get_or_default reached place 0 found.0 found.1.1 ∙ found.1.2 in
      let decided : IsPositionDecided c f g cube (get_or reached place 0) = elim (cases_lt place middle) [ inl under ↦ early place (omega arith) under | inr over ↦ late place over found.1.1 ] in
      false≢true (sym found.2 ∙ subst (λ at. (only_equal (position_pairs c f g sets at) || only_unequal (position_pairs c f g sets at)) ≡ true) here (decided sets state.are))

  -- ---- its steps

  pub pin_is_open : (line pin read : ℕ) (sets : List PairSet) → IsCircuit c → IsLineOpen c f g cube line → ArePairSets c f g cube sets → Contains (pins_of c line) read → has_several (pin_set f g sets line pin read) ≡ true → IsLineOpen c f g cube read
  pin_is_open line pin read sets w here are m e = record {
    inside = pins_inside c w line read m;
    relevant = relevant_back c f g w.acyclic read line m here.relevant;
    sets = sets;
    are = are;
    several = several_before (stuck_pin f line pin) (stuck_pin g line pin) (set_at sets read) e;
  }

  -- none of the first pins sees several pairs
  abbrev pub NoneSeveral : ℕ → List ℕ → ℕ → Type 0
  NoneSeveral line pins n = (sets : List PairSet) → ArePairSets c f g cube sets → (k : ℕ) → k < n → has_several (pin_set f g sets line k (get_or pins k 0)) ≡ false

  -- some pin of an open line's gate sees several pairs
  pub some_several : (line : ℕ) → IsLineOpen c f g cube line → c.sources ≤ line → NoneSeveral line (pins_of c line) (length (pins_of c line)) → ⊥
  unfolding line_pairs
  some_several line here above none =
      let sets = here.sets in
      let gate = gate_is_at c line above here.inside in
      let pins : pins_of c line ≡ gate.0.pins = ap (λ o. option_map_or (λ (g : Gate). g.pins) o []) gate.1 in
      let seen = seen_pairs f g sets line gate.0.pins in
      let all : AllSingle seen =
      single_each seen (λ k h.
      let within : k < length gate.0.pins = omega (arith, h, length-seen f g sets line gate.0.pins) in
      not_several (get_or seen k free_pairs)
      (ap has_several (seen_at f g sets line gate.0.pins k free_pairs within ∙ ap (λ (ps : List ℕ). pin_set f g sets line k (get_or ps k 0)) (sym pins))
      ∙ none sets here.are k (subst (λ (ps : List ℕ). k < length ps) (sym pins) within))) in
      let is : set_at sets line ≡ _ = here.are.each line here.inside in
      let driven = several_before (stuck_stem f line) (stuck_stem g line) (option_map_or (λ (gate : Gate). gate_pairs gate.kind (seen_pairs f g sets line gate.pins)) (gate_at c line) (source_pairs cube line)) (subst (λ s. has_several s ≡ true) is here.several) in
      no_single (gate_pairs gate.0.kind seen) (subst (λ o. has_several (option_map_or (λ (gate : Gate). gate_pairs gate.kind (seen_pairs f g sets line gate.pins)) o (source_pairs cube line)) ≡ true) gate.1 driven) (single_value (gate_value gate.0.kind) seen all)

  -- a pin that sees several pairs reads an open line, and any other is passed over
  pub pin_found : (line pin : ℕ) (pins : List ℕ) (pairs : PairSet) → IsCircuit c → IsLineOpen c f g cube line → pins ≡ pins_of c line → pin < length pins
      → IsPart c f g cube (λ sets. pin_set f g sets line pin (get_or pins pin 0)) pairs → has_several pairs ≡ true → Feeds c (get_or pins pin 0) line × IsLineOpen c f g cube (get_or pins pin 0)
  pin_found line pin pins pairs w here same within part e =
      let read = get_or pins pin 0 in
      let feeds : Feeds c read line = subst (λ (ps : List ℕ). Contains ps read) same (Contains-get_or pins pin 0 within) in
      (feeds, pin_is_open line pin read part.sets w here part.are feeds (subst (λ s. has_several s ≡ true) part.is e))

  pub pin_passed : (line pin : ℕ) (pins : List ℕ) (pairs : PairSet) → IsCircuit c → NoneSeveral line pins pin
      → IsPart c f g cube (λ sets. pin_set f g sets line pin (get_or pins pin 0)) pairs → has_several pairs ≡ false → NoneSeveral line pins (pin + 1)
  pin_passed line pin pins pairs w none part e sets are =
      below_more (λ (k : ℕ). has_several (pin_set f g sets line k (get_or pins k 0)) ≡ false) pin (none sets are)
      (sym (ap has_several (part_is c f g cube (λ sets. pin_set f g sets line pin (get_or pins pin 0)) pairs sets w part are)) ∙ e)

-- the pins are those of the circuit's gate
pub pins_are : (circuit other : Circuit) (line : ℕ) (pins own : List ℕ) → other ≡ circuit → pins ≡ own → pins_of other line ≡ own → pins ≡ pins_of circuit line
pins_are circuit other line pins own same e d = e ∙ sym d ∙ ap (λ c. pins_of c line) same
