-- If a vector separates, the miter has a model: the assignment for the two valuations.
use Rattle.std.proofs.Common.{◌≡◌, ◌≢◌, ◌∙◌, ℕ, suc, ◌-◌, ◌<◌, refl, sym, ap, arith, subst, get_or}
use Rattle.std.specs.Prelude.{Bool, true, false, List, [], ◌∷◌, map, flat_map, length, None, Some, Contains, unwrap_or, is_none, if◌then◌else◌}
use Rattle.std.specs.Option.{option_map_or}
use Rattle.std.proofs.lemmas.Bool.{and_from}
use Rattle.net_model.specs.declared.gate.Gate.{Gate}
use Rattle.net_model.specs.declared.gate.Kind.TheVariants.{Xor}
use Rattle.net_model.specs.declared.fault.Fault.{Fault}
use Rattle.net_model.specs.Gate.{odd_ones, inverted}
use Rattle.net_model.specs.Circuit.{Circuit, IsCircuit, line_count, gate_at, Feeds}
use Rattle.net_model.specs.Fault.{stuck_stem, stuck_pin, stuck_position}
use Rattle.net_model.specs.Answer.{bit_at, Agrees, Separates, shown_bits}
use Rattle.net_model.specs.Scope.{is_split, is_relevant, is_reached, relevant_lines, reached_positions}
use Rattle.net_model.proofs.Copies.{pins_inside}
use Rattle.net_model.proofs.Seen.{length-seen_bits}
use Rattle.net_model.proofs.ScopeLaws.{same_unsplit}
use Rattle.net_model.proofs.Elements.{any_from}
use Rattle.net_model.proofs.Relevance.{relevant_back, reached_listed, listed_reached, relevant_shown, listed_relevant}
use Rattle.fault_list.proofs.Pair.{same_unreached}
use Rattle.clause_pool.specs.Literal.{pos_literal}
use Rattle.pair_miter.specs.Variables.{fault_of, first_helper, is_parity, difference_variable}
use Rattle.pair_miter.specs.declared.side.Side.TheVariants.{First, Second}
use Rattle.pair_miter.specs.declared.side.Side.{Side}
use Rattle.pair_miter.specs.Operand.{Operand, constant, variable}
use Rattle.pair_miter.specs.Rows.{variables}
use Rattle.pair_miter.specs.Miter.{copy_clauses, line_clauses, shown_operand, difference_clauses, lines_part, differences_part, raw_clauses, miter, literal_bit, is_satisfied_by, is_model, copy_bit}
use Rattle.pair_miter.specs.Laws.{HasModel}
use Rattle.pair_miter.proofs.TidyAndFresh.{is_model-tidy}
use Rattle.pair_miter.proofs.Clauses.{model_both, model_all, any_mapped}
use Rattle.pair_miter.proofs.GateRows.{Carry, variable_bits, helper_bits, gate_rows-complete}
use Rattle.pair_miter.proofs.CopyClauses.{operand_carries, copy_complete}
use Rattle.pair_miter.proofs.Sound.{one_variable, odd_two, at_position}
use Rattle.pair_miter.proofs.Assignment.{bits_in, assignment, length-assignment, first_copy_carries, second_copy_carries, gate_parts_carry, difference_at, free_bits, variables_carry}

-- ---- lists that differ

-- two lists of bits of one length that differ do so at some place
differing_place : (xs ys : List Bool) → length xs ≡ length ys → xs ≢ ys → (at : ℕ) × (at < length xs) × (bit_at xs at ≢ bit_at ys at)
differing_place [] [] long differ = absurd (differ refl)
differing_place [] (y ∷ ys) long differ = absurd (omega arith)
differing_place (x ∷ xs) [] long differ = absurd (omega arith)
differing_place (true ∷ xs) (true ∷ ys) long differ = let rest = differing_place xs ys (omega arith) (λ e. differ (ap (λ zs. true ∷ zs) e)) in (suc rest.0, omega (arith, rest.1), rest.2)
differing_place (false ∷ xs) (false ∷ ys) long differ = let rest = differing_place xs ys (omega arith) (λ e. differ (ap (λ zs. false ∷ zs) e)) in (suc rest.0, omega (arith, rest.1), rest.2)
differing_place (true ∷ xs) (false ∷ ys) long differ = (0, omega arith, λ e. cc)
differing_place (false ∷ xs) (true ∷ ys) long differ = (0, omega arith, λ e. cc)

differ_flips : (a b : Bool) → a ≢ b → inverted a b ≡ true
differ_flips true true n = absurd (n refl)
differ_flips true false n = refl
differ_flips false true n = refl
differ_flips false false n = absurd (n refl)

-- an exclusive or of two operands has no helpers
no_helpers : (bits : List Bool) (o p : Operand) → Carry bits 0 (helper_bits (variable_bits bits (variables (o ∷ p ∷ []))))
no_helpers bits (constant a) (constant b) k h = absurd (omega arith)
no_helpers bits (constant a) (variable y) k h = absurd (omega arith)
no_helpers bits (variable x) (constant b) k h = absurd (omega arith)
no_helpers bits (variable x) (variable y) k h = absurd (omega arith)

module _ (c : Circuit) (w : IsCircuit c) (f g : Fault) (v x y : List Bool) (a : Agrees c f v x) (b : Agrees c g v y) where
  abbrev bits : List Bool
  bits = assignment c f g x y

  abbrev fault : Side → Fault
  fault copy = fault_of c f g copy

  -- ---- what the variables of lines carry

  first_carries : (line : ℕ) → line < line_count c → is_relevant c f g line ≡ true → bit_at x line ≡ copy_bit c f g bits First line
  first_carries line inside relevant = sym (first_copy_carries c f g x y line inside relevant)

  second_carries : (line : ℕ) → line < line_count c → is_relevant c f g line ≡ true → bit_at y line ≡ copy_bit c f g bits Second line
  second_carries line inside relevant = by (is_split c f g line) refl
    where
      by : (s : Bool) → is_split c f g line ≡ s → bit_at y line ≡ copy_bit c f g bits Second line
      by true split = sym (second_copy_carries c f g x y line inside relevant split)
      by false split =
          sym (same_unsplit c w f g v x y a b line inside split)
          ∙ (first_carries line inside relevant ∙ ap (λ n. bit_at bits (n - 1)) (one_variable c f g line split))

  carries : (copy : Side) (line : ℕ) → line < line_count c → is_relevant c f g line ≡ true → bit_at (bits_in c f g x y copy) line ≡ copy_bit c f g bits copy line
  carries First line inside relevant = first_carries line inside relevant
  carries Second line inside relevant = second_carries line inside relevant

  agrees : (copy : Side) → Agrees c (fault copy) v (bits_in c f g x y copy)
  agrees First = a
  agrees Second = b

  -- ---- the clauses of a line

  module _ (line : ℕ) (inside : line < line_count c) (relevant : is_relevant c f g line ≡ true) where
    pins_carry : (copy : Side) (read : ℕ) → Feeds c read line → bit_at (bits_in c f g x y copy) read ≡ copy_bit c f g bits copy read
    pins_carry copy read m = carries copy read (pins_inside c w line read m) (relevant_back c f g w.acyclic read line m relevant)

    gate_feeds : (gate : Gate) → gate_at c line ≡ Some gate → (read : ℕ) → Contains gate.pins read → Feeds c read line
    gate_feeds gate is read m = subst (λ driver. Contains (option_map_or (λ (d : Gate). d.pins) driver []) read) (sym is) m

    copy_holds : (copy : Side) → ((gate : Gate) → gate_at c line ≡ Some gate → stuck_stem (fault copy) line ≡ None → is_parity gate.kind ≡ true
        → Carry bits (first_helper c f g copy line) (helper_bits (free_bits (stuck_pin (fault copy) line) (bits_in c f g x y copy) gate.pins)))
        → is_model bits (copy_clauses c f g copy line) ≡ true
    copy_holds copy helpers =
        copy_complete c f g bits copy w v (bits_in c f g x y copy) line (agrees copy) inside (carries copy line inside relevant) (pins_carry copy)
        (λ gate is free parity. subst (λ carried. Carry bits (first_helper c f g copy line) (helper_bits carried))
        (sym (variables_carry c f g bits copy (bits_in c f g x y copy) line gate (λ read m. pins_carry copy read (gate_feeds gate is read m))))
        (helpers gate is free parity))

    first_holds : is_model bits (copy_clauses c f g First line) ≡ true
    first_holds = copy_holds First (λ gate is free parity. gate_parts_carry c f g x y line inside relevant First gate is (ap is_none free) parity)

    second_holds : is_split c f g line ≡ true → is_model bits (copy_clauses c f g Second line) ≡ true
    second_holds split =
        copy_holds Second (λ gate is free parity. gate_parts_carry c f g x y line inside relevant Second gate is (and_from (is_split c f g line) (is_none (stuck_stem g line)) split (ap is_none free)) parity)

    line_holds : is_model bits (line_clauses c f g line) ≡ true
    unfolding line_clauses
    line_holds = model_both bits (copy_clauses c f g First line) (if is_split c f g line then copy_clauses c f g Second line else []) first_holds (by (is_split c f g line) refl)
      where
        by : (s : Bool) → is_split c f g line ≡ s → is_model bits (if s then copy_clauses c f g Second line else []) ≡ true
        by true split = second_holds split
        by false split = refl

  -- ---- the differences

  difference_holds : (at : ℕ) → at < length c.positions → is_reached c f g at ≡ true → is_model bits (difference_clauses c f g at) ≡ true
  unfolding difference_clauses
  difference_holds at h reached =
      let line = get_or c.positions at 0 in
      let inside : line < line_count c = w.positions at 0 h in
      let relevant = relevant_shown c f g at h reached in
      let first : unwrap_or (stuck_position f at) (copy_bit c f g bits First line) ≡ bit_at (shown_bits c f x) at = ap (unwrap_or (stuck_position f at)) (sym (first_carries line inside relevant)) ∙ sym (at_position c f x at h) in
      let second : unwrap_or (stuck_position g at) (copy_bit c f g bits Second line) ≡ bit_at (shown_bits c g y) at = ap (unwrap_or (stuck_position g at)) (sym (second_carries line inside relevant)) ∙ sym (at_position c g y at h) in
      gate_rows-complete bits Xor (difference_variable c f g at) 0 (shown_operand c f g at First ∷ shown_operand c f g at Second ∷ [])
      (λ parity. no_helpers bits (shown_operand c f g at First) (shown_operand c f g at Second))
      (difference_at c f g x y at h reached
      ∙ ((λ i. inverted (sym first i) (sym second i))
      ∙ (sym (odd_two (unwrap_or (stuck_position f at) (copy_bit c f g bits First line)) (unwrap_or (stuck_position g at) (copy_bit c f g bits Second line)))
      ∙ (λ i. odd_ones (sym (operand_carries c f g bits First (stuck_position f at) line) i ∷ sym (operand_carries c f g bits Second (stuck_position g at) line) i ∷ [])))))

  module _ (differ : shown_bits c f x ≢ shown_bits c g y) where
    shown_alike_long : length (shown_bits c f x) ≡ length (shown_bits c g y)
    shown_alike_long = length-seen_bits (stuck_position f) x c.positions ∙ sym (length-seen_bits (stuck_position g) y c.positions)

    some_holds : is_satisfied_by bits (map (λ at. pos_literal (difference_variable c f g at)) (reached_positions c f g)) ≡ true
    some_holds =
        let place = differing_place (shown_bits c f x) (shown_bits c g y) shown_alike_long differ in
        let at = place.0 in
        let h : at < length c.positions = let n = length-seen_bits (stuck_position f) x c.positions in omega (arith, n, place.1) in
        let reached = is_reached_there at h place.2 in
        any_mapped (literal_bit bits) (λ n. pos_literal (difference_variable c f g n)) (reached_positions c f g)
        ∙ any_from (λ n. bit_at bits (difference_variable c f g n - 1)) (reached_positions c f g) at (reached_listed c f g at h reached)
        (difference_at c f g x y at h reached ∙ differ_flips (bit_at (shown_bits c f x) at) (bit_at (shown_bits c g y) at) place.2)
      where
        is_reached_there : (at : ℕ) → at < length c.positions → bit_at (shown_bits c f x) at ≢ bit_at (shown_bits c g y) at → is_reached c f g at ≡ true
        is_reached_there at h apart = by (is_reached c f g at) refl
          where
            by : (r : Bool) → is_reached c f g at ≡ r → is_reached c f g at ≡ true
            by true e = e
            by false e = absurd (apart (same_unreached c w f g v x y a b at h e))

    raw_holds : is_model bits (raw_clauses c f g) ≡ true
    unfolding raw_clauses
    raw_holds =
        let rows = flat_map (difference_clauses c f g) (reached_positions c f g) in
        let some = map (λ at. pos_literal (difference_variable c f g at)) (reached_positions c f g) in
        model_both bits (lines_part c f g) (differences_part c f g)
        (model_all bits (line_clauses c f g) (relevant_lines c f g) (λ line m. let h = listed_relevant c f g line m in line_holds line h.0 h.1))
        (model_both bits rows (some ∷ [])
        (model_all bits (difference_clauses c f g) (reached_positions c f g) (λ at m. let h = listed_reached c f g at m in difference_holds at h.0 h.1))
        (and_from (is_satisfied_by bits some) true some_holds refl))

pub separated_has_model : (c : Circuit) (f g : Fault) (v : List Bool) → IsCircuit c → Separates c v f g → HasModel c f g
unfolding miter
separated_has_model c f g v w s =
    let x = s.first_is.bits in
    let y = s.second_is.bits in
    record {
      bits = assignment c f g x y;
      whole = length-assignment c f g x y;
      satisfies = is_model-tidy (assignment c f g x y) (raw_clauses c f g) ∙ raw_holds c w f g v x y s.first_is.agrees s.second_is.agrees (λ same. s.differ (s.first_is.shows ∙ (same ∙ sym s.second_is.shows)));
    }
