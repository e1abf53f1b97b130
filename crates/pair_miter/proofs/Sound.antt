-- The vector of a model separates: in each copy the variables carry the valuation under the copy's fault, and a
-- difference that is 1 is a position that shows different bits.
use Rattle.std.proofs.Common.{◌≡◌, ◌≢◌, ◌∙◌, inl, inr, ℕ, zero, suc, ◌+◌, ◌-◌, ◌<◌, refl, sym, ap, arith, get_or}
use Rattle.std.specs.Prelude.{Bool, true, false, not, List, [], ◌∷◌, map, flat_map, length, None, unwrap_or, is_none, if◌then◌else◌}
use Rattle.std.proofs.lemmas.List.FromFn.{get_or-map-range_with_len, length-range_with_len}
use Rattle.std.proofs.lemmas.List.{length-map}
use Rattle.std.specs.List.{range_with_len}
use Rattle.std.proofs.lemmas.Bool.{and_parts, or_cases}
use Rattle.net_model.specs.declared.gate.Kind.TheVariants.{Xor}
use Rattle.net_model.specs.declared.fault.Fault.{Fault}
use Rattle.net_model.specs.Gate.{odd_ones, inverted}
use Rattle.net_model.specs.Circuit.{Circuit, IsCircuit, line_count, Feeds}
use Rattle.net_model.specs.Fault.{stuck_stem, stuck_position, IsFaultOf}
use Rattle.net_model.specs.Answer.{bit_at, Agrees, Separates, shown_bits}
use Rattle.net_model.specs.Scope.{is_split, is_relevant, is_reached, reaches_line, relevant_lines, reached_positions}
use Rattle.net_model.proofs.Copies.{pins_inside}
use Rattle.net_model.proofs.ScopeLaws.{same_unsplit}
use Rattle.net_model.proofs.Evaluation.{Agrees-exists}
use Rattle.net_model.proofs.Elements.{passing}
use Rattle.net_model.proofs.Relevance.{relevant_back, reached_listed, listed_reached, relevant_shown, relevant_listed}
use Rattle.net_model.proofs.SetSoFar.{undriven_is_source}
use Rattle.fault_list.proofs.Pair.{at_reading}
use Rattle.clause_pool.specs.Literal.{pos_literal}
use Rattle.clause_pool.specs.Clauses.{Clause}
use Rattle.pair_miter.specs.Variables.{line_variable, difference_variable, variables_below}
use Rattle.pair_miter.specs.declared.side.Side.TheVariants.{First, Second}
use Rattle.pair_miter.specs.Miter.{copy_clauses, line_clauses, shown_operand, difference_clauses, lines_part, differences_part, raw_clauses, miter, literal_bit, is_satisfied_by, is_model, copy_bit, split_source_bit, source_bit, vector_of}
use Rattle.pair_miter.proofs.TidyAndFresh.{is_model-tidy}
use Rattle.pair_miter.proofs.Bits.{inverted-false, odd_ones-cons}
use Rattle.pair_miter.proofs.Clauses.{model_parts, model_each, any_mapped}
use Rattle.pair_miter.proofs.Sources.{reached_source}
use Rattle.pair_miter.proofs.GateRows.{gate_rows-sound}
use Rattle.pair_miter.proofs.CopyClauses.{operand_carries, copy_sound}

-- the two copies of a line that isn't split have one variable
pub one_variable : (c : Circuit) (f g : Fault) (line : ℕ) → is_split c f g line ≡ false → line_variable c f g First line ≡ line_variable c f g Second line
unfolding line_variable
one_variable c f g line e = ap (λ b. 1 + variables_below c f g line + (if b then 1 else 0)) (sym e)

-- what two bits show together
pub odd_two : (a b : Bool) → odd_ones (a ∷ b ∷ []) ≡ inverted a b
odd_two a b = odd_ones-cons a (b ∷ []) ∙ ap (inverted a) (odd_ones-cons b [] ∙ inverted-false b)

pub flip_differs : (a b : Bool) → inverted a b ≡ true → a ≢ b
flip_differs true true e same = cc
flip_differs true false e same = cc
flip_differs false true e same = cc
flip_differs false false e same = cc

pub at_position : (c : Circuit) (f : Fault) (z : List Bool) (at : ℕ) → at < length c.positions → bit_at (shown_bits c f z) at ≡ unwrap_or (stuck_position f at) (bit_at z (get_or c.positions at 0))
at_position c f z at h = at_reading (λ place line. unwrap_or (stuck_position f place) (bit_at z line)) c.positions at h

module _ (c : Circuit) (w : IsCircuit c) (f g : Fault) (ff : IsFaultOf c f) (gg : IsFaultOf c g) (bits : List Bool) (model : is_model bits (raw_clauses c f g) ≡ true) where
  abbrev v : List Bool
  v = vector_of c f g bits

  -- ---- the clauses

  abbrev difference_rows : List Clause
  difference_rows = flat_map (difference_clauses c f g) (reached_positions c f g)

  abbrev some_difference : Clause
  some_difference = map (λ at. pos_literal (difference_variable c f g at)) (reached_positions c f g)

  both_hold : (is_model bits (lines_part c f g) ≡ true) × (is_model bits (differences_part c f g) ≡ true)
  unfolding raw_clauses
  both_hold = model_parts bits (lines_part c f g) (differences_part c f g) model

  lines_hold : is_model bits (lines_part c f g) ≡ true
  lines_hold = both_hold.0

  differences_hold : is_model bits difference_rows ≡ true
  differences_hold = (model_parts bits difference_rows (some_difference ∷ []) both_hold.1).0

  some_holds : is_satisfied_by bits some_difference ≡ true
  some_holds = (and_parts (is_satisfied_by bits some_difference) true (model_parts bits difference_rows (some_difference ∷ []) both_hold.1).1).0

  module _ (line : ℕ) (inside : line < line_count c) (relevant : is_relevant c f g line ≡ true) where
    first_clauses : is_model bits (copy_clauses c f g First line) ≡ true
    unfolding line_clauses
    first_clauses =
        (model_parts bits (copy_clauses c f g First line) (if is_split c f g line then copy_clauses c f g Second line else [])
        (model_each bits (line_clauses c f g) (relevant_lines c f g) line (relevant_listed c f g line inside relevant) lines_hold)).0

    second_clauses : is_split c f g line ≡ true → is_model bits (copy_clauses c f g Second line) ≡ true
    unfolding line_clauses
    second_clauses split =
        ap (λ b. is_model bits (if b then copy_clauses c f g Second line else [])) (sym split)
        ∙ (model_parts bits (copy_clauses c f g First line) (if is_split c f g line then copy_clauses c f g Second line else [])
        (model_each bits (line_clauses c f g) (relevant_lines c f g) line (relevant_listed c f g line inside relevant) lines_hold)).1

    -- ---- sources

    source_in_vector : line < c.sources → bit_at v line ≡ (if is_split c f g line then split_source_bit c f g bits line else copy_bit c f g bits First line)
    unfolding vector_of source_bit
    source_in_vector h =
        get_or-map-range_with_len (source_bit c f g bits) 0 c.sources line line false h (omega arith)
        ∙ ap (λ b. if not b then false else if is_split c f g line then split_source_bit c f g bits line else copy_bit c f g bits First line) relevant

    first_source : line < c.sources → stuck_stem f line ≡ None → bit_at v line ≡ copy_bit c f g bits First line
    first_source h free = source_in_vector h ∙ by (is_split c f g line)
      where
        by : (b : Bool) → (if b then split_source_bit c f g bits line else copy_bit c f g bits First line) ≡ copy_bit c f g bits First line
        by true = ap (λ o. if is_none o then copy_bit c f g bits First line else if is_none (stuck_stem g line) then copy_bit c f g bits Second line else false) free
        by false = refl

    stuck_in_first : line < c.sources → is_split c f g line ≡ true → stuck_stem g line ≡ None → is_none (stuck_stem f line) ≡ false
    unfolding is_split
    stuck_in_first h split free = elim (or_cases (reaches_line c f line) (reaches_line c g line) split) [
      | inl first ↦ reached_source c f line ff h first
      | inr second ↦
          let stuck : ◌≡◌ {A = Bool} (is_none (stuck_stem g line)) false = reached_source c g line gg h second in
          let wrong : ◌≡◌ {A = Bool} true false = sym (ap is_none free) ∙ stuck in
          cc
    ]

    second_source : line < c.sources → is_split c f g line ≡ true → stuck_stem g line ≡ None → bit_at v line ≡ copy_bit c f g bits Second line
    second_source h split free =
        source_in_vector h
        ∙ (ap (λ b. if b then split_source_bit c f g bits line else copy_bit c f g bits First line) split
        ∙ (ap (λ b. if b then copy_bit c f g bits First line else if is_none (stuck_stem g line) then copy_bit c f g bits Second line else false) (stuck_in_first h split free)
        ∙ ap (λ o. if is_none o then copy_bit c f g bits Second line else false) free))

  -- ---- the valuations

  module _ (x y : List Bool) (a : Agrees c f v x) (b : Agrees c g v y) where
    first_below : (n line : ℕ) → w.acyclic.rank line < n → line < line_count c → is_relevant c f g line ≡ true → bit_at x line ≡ copy_bit c f g bits First line
    first_below zero line h inside relevant = absurd (omega arith)
    first_below (suc n) line h inside relevant =
        copy_sound c f g bits First w v x line a inside (first_clauses line inside relevant)
        (λ read m. let lower : w.acyclic.rank read < w.acyclic.rank line = w.acyclic.rises read line m in first_below n read (omega arith) (pins_inside c w line read m) (relevant_back c f g w.acyclic read line m relevant))
        (λ undriven free. first_source line inside relevant (undriven_is_source c line inside undriven) free)

    first_carries : (line : ℕ) → line < line_count c → is_relevant c f g line ≡ true → bit_at x line ≡ copy_bit c f g bits First line
    first_carries line inside relevant = first_below (suc (w.acyclic.rank line)) line (omega arith) inside relevant

    unsplit_carries : (line : ℕ) → line < line_count c → is_relevant c f g line ≡ true → is_split c f g line ≡ false → bit_at y line ≡ copy_bit c f g bits Second line
    unsplit_carries line inside relevant split =
        sym (same_unsplit c w f g v x y a b line inside split) ∙ (first_carries line inside relevant ∙ ap (λ n. bit_at bits (n - 1)) (one_variable c f g line split))

    second_below : (n line : ℕ) → w.acyclic.rank line < n → line < line_count c → is_relevant c f g line ≡ true → bit_at y line ≡ copy_bit c f g bits Second line
    second_below zero line h inside relevant = absurd (omega arith)
    second_below (suc n) line h inside relevant = by (is_split c f g line) refl (λ read m. let lower : w.acyclic.rank read < w.acyclic.rank line = w.acyclic.rises read line m in second_below n read (omega arith) (pins_inside c w line read m) (relevant_back c f g w.acyclic read line m relevant))
      where
        by : (s : Bool) → is_split c f g line ≡ s → ((read : ℕ) → Feeds c read line → bit_at y read ≡ copy_bit c f g bits Second read) → bit_at y line ≡ copy_bit c f g bits Second line
        by true split lines =
            copy_sound c f g bits Second w v y line b inside (second_clauses line inside relevant split) lines
            (λ undriven free. second_source line inside relevant (undriven_is_source c line inside undriven) split free)
        by false split lines = unsplit_carries line inside relevant split

    second_carries : (line : ℕ) → line < line_count c → is_relevant c f g line ≡ true → bit_at y line ≡ copy_bit c f g bits Second line
    second_carries line inside relevant = second_below (suc (w.acyclic.rank line)) line (omega arith) inside relevant

    -- ---- a position that shows a difference

    difference_carries : (at : ℕ) → at < length c.positions → is_reached c f g at ≡ true
        → bit_at bits (difference_variable c f g at - 1) ≡ inverted (bit_at (shown_bits c f x) at) (bit_at (shown_bits c g y) at)
    unfolding difference_clauses
    difference_carries at h reached =
        let line = get_or c.positions at 0 in
        let inside : line < line_count c = w.positions at 0 h in
        let relevant = relevant_shown c f g at h reached in
        let first : bit_at (shown_bits c f x) at ≡ unwrap_or (stuck_position f at) (copy_bit c f g bits First line) = at_position c f x at h ∙ ap (unwrap_or (stuck_position f at)) (first_carries line inside relevant) in
        let second : bit_at (shown_bits c g y) at ≡ unwrap_or (stuck_position g at) (copy_bit c f g bits Second line) = at_position c g y at h ∙ ap (unwrap_or (stuck_position g at)) (second_carries line inside relevant) in
        let rows = model_each bits (difference_clauses c f g) (reached_positions c f g) at (reached_listed c f g at h reached) differences_hold in
        gate_rows-sound bits Xor (difference_variable c f g at) 0 (shown_operand c f g at First ∷ shown_operand c f g at Second ∷ []) rows
        ∙ ((λ i. odd_ones (operand_carries c f g bits First (stuck_position f at) line i ∷ operand_carries c f g bits Second (stuck_position g at) line i ∷ []))
        ∙ (odd_two (unwrap_or (stuck_position f at) (copy_bit c f g bits First line)) (unwrap_or (stuck_position g at) (copy_bit c f g bits Second line))
        ∙ (λ i. inverted (sym first i) (sym second i))))

    answers_differ : shown_bits c f x ≢ shown_bits c g y
    answers_differ same =
        let w = passing (λ at. bit_at bits (difference_variable c f g at - 1)) (reached_positions c f g) (sym (any_mapped (literal_bit bits) (λ at. pos_literal (difference_variable c f g at)) (reached_positions c f g)) ∙ some_holds) in
        let at = listed_reached c f g w.0 w.1 in
        flip_differs (bit_at (shown_bits c f x) w.0) (bit_at (shown_bits c g y) w.0) (sym (difference_carries w.0 at.0 at.1) ∙ w.2) (ap (λ z. bit_at z w.0) same)

  vector_separates : Separates c v f g
  unfolding vector_of
  vector_separates =
      let x = Agrees-exists c f v w in
      let y = Agrees-exists c g v w in
      record {
        width = length-map (range_with_len 0 c.sources) (source_bit c f g bits) ∙ length-range_with_len 0 c.sources;
        first = shown_bits c f x.0;
        second = shown_bits c g y.0;
        first_is = record { bits = x.0; agrees = x.1; shows = refl };
        second_is = record { bits = y.0; agrees = y.1; shows = refl };
        differ = answers_differ x.0 y.0 x.1 y.1;
      }

pub model_separates : (c : Circuit) (f g : Fault) (bits : List Bool) → IsCircuit c → IsFaultOf c f → IsFaultOf c g → is_model bits (miter c f g) ≡ true → Separates c (vector_of c f g bits) f g
unfolding miter
model_separates c f g bits w ff gg e = vector_separates c w f g ff gg bits (sym (is_model-tidy bits (raw_clauses c f g)) ∙ e)
