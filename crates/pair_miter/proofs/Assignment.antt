-- The assignment for two valuations: the bits of the relevant lines in each copy, the partial results of each exclusive
-- or, and the differences at the reached positions.
use Rattle.std.proofs.Common.{◌≡◌, ◌∙◌, ℕ, ◌+◌, ◌-◌, ◌<◌, refl, sym, ap, arith, append-nil, subst}
use Rattle.std.specs.Prelude.{Bool, true, false, List, [], ◌∷◌, ◌++◌, map, flat_map, length, Option, None, Some, Contains, is_none, ◌&&◌, count_by, if◌then◌else◌}
use Rattle.std.specs.Option.{option_map_or}
use Rattle.std.specs.List.{range_with_len, enumerate_from, filter_map}
use Rattle.std.proofs.lemmas.List.{get_or_append_left, get_or-append_right, length-append}
use Rattle.std.proofs.lemmas.List.Sums.{sum_by-cons, length-filter}
use Rattle.net_model.specs.declared.gate.Gate.{Gate}
use Rattle.net_model.specs.declared.fault.Fault.{Fault}
use Rattle.net_model.specs.Circuit.{Circuit, line_count, gate_at}
use Rattle.net_model.specs.Fault.{stuck_stem, stuck_pin, readings}
use Rattle.net_model.specs.Answer.{bit_at, shown_bits}
use Rattle.net_model.specs.Scope.{is_split, is_relevant, is_reached, reached_positions}
use Rattle.net_model.proofs.Copies.{later}
use Rattle.net_model.specs.Gate.{inverted}
use Rattle.pair_miter.specs.Variables.{fault_of, is_parity, line_variables, variables_below, line_variable, free_pins, gate_helpers, copy_helpers, line_helpers, helpers_below, first_helper, difference_variable, variable_count}
use Rattle.pair_miter.specs.declared.side.Side.TheVariants.{First, Second}
use Rattle.pair_miter.specs.declared.side.Side.{Side}
use Rattle.pair_miter.specs.Rows.{variables}
use Rattle.pair_miter.specs.Operand.{variable_of}
use Rattle.pair_miter.specs.Miter.{operand_of, gate_operands, copy_bit}
use Rattle.pair_miter.proofs.GateRows.{Carry, variable_bits, helper_bits, length-helper_bits}
use Rattle.pair_miter.proofs.Places.{length-flat, bits_at}

-- ---- the bits at the pins that aren't stuck

free_bit : Option Bool → Bool → Option Bool
free_bit None bit = Some bit
free_bit (Some stuck) bit = None

pub free_bits : (ℕ → Option Bool) → List Bool → List ℕ → List Bool
free_bits stuck z lines = filter_map (λ o. o) (readings (λ pin read. free_bit (stuck pin) (bit_at z read)) lines)

one_more : (o : Option Bool) (bit : Bool) (rest : List (Option Bool)) (free : List Bool) → length (filter_map (λ p. p) rest) ≡ count_by (λ b. b) free
    → length (filter_map (λ p. p) (free_bit o bit ∷ rest)) ≡ count_by (λ b. b) (is_none o ∷ free)
unfolding free_bit
one_more None bit rest free more = let sum = sum_by-cons (λ (b : Bool). if b then 1 else 0) true free in omega (arith, sum, more)
one_more (Some b) bit rest free more = let sum = sum_by-cons (λ (b : Bool). if b then 1 else 0) false free in omega (arith, sum, more)

free_count : (stuck : ℕ → Option Bool) (z : List Bool) (n : ℕ) (lines : List ℕ)
    → length (filter_map (λ o. o) (map (λ x. free_bit (stuck x.0) (bit_at z x.1)) (enumerate_from n lines))) ≡ count_by (λ b. b) (map (λ x. is_none (stuck x.0)) (enumerate_from n lines))
free_count stuck z n [] = refl
free_count stuck z n (line ∷ lines) =
    one_more (stuck n) (bit_at z line) (map (λ x. free_bit (stuck x.0) (bit_at z x.1)) (enumerate_from (n + 1) lines)) (map (λ x. is_none (stuck x.0)) (enumerate_from (n + 1) lines)) (free_count stuck z (n + 1) lines)

module _ (c : Circuit) (f g : Fault) (x y : List Bool) where
  -- the valuation of a copy
  abbrev pub bits_in : Side → List Bool
  bits_in First = x
  bits_in Second = y

  length-free_bits : (copy : Side) (line : ℕ) (gate : Gate) → length (free_bits (stuck_pin (fault_of c f g copy) line) (bits_in copy) gate.pins) ≡ free_pins c f g copy line gate
  unfolding free_bits free_pins readings
  length-free_bits copy line gate = free_count (stuck_pin (fault_of c f g copy) line) (bits_in copy) 0 gate.pins

  -- what the helpers of a gate carry in a copy
  gate_parts : Side → ℕ → Gate → List Bool
  gate_parts copy line gate = if is_parity gate.kind then helper_bits (free_bits (stuck_pin (fault_of c f g copy) line) (bits_in copy) gate.pins) else []

  length-gate_parts : (copy : Side) (line : ℕ) (gate : Gate) → length (gate_parts copy line gate) ≡ gate_helpers c f g copy line gate
  unfolding gate_parts gate_helpers
  length-gate_parts copy line gate = by (is_parity gate.kind)
    where
      by : (b : Bool) → length (if b then helper_bits (free_bits (stuck_pin (fault_of c f g copy) line) (bits_in copy) gate.pins) else []) ≡ (if b then free_pins c f g copy line gate - 2 else 0)
      by true = length-helper_bits (free_bits (stuck_pin (fault_of c f g copy) line) (bits_in copy) gate.pins) ∙ ap (λ n. n - 2) (length-free_bits copy line gate)
      by false = refl

  driver_parts : Side → ℕ → Option Gate → List Bool
  driver_parts copy line None = []
  driver_parts copy line (Some gate) = gate_parts copy line gate

  length-driver_parts : (copy : Side) (line : ℕ) (gate : Option Gate) → length (driver_parts copy line gate) ≡ option_map_or (gate_helpers c f g copy line) gate 0
  unfolding driver_parts
  length-driver_parts copy line None = refl
  length-driver_parts copy line (Some gate) = length-gate_parts copy line gate

  -- whether a copy of a line has clauses of its own for its gate
  abbrev has_gate : Side → ℕ → Bool
  has_gate First line = is_none (stuck_stem f line)
  has_gate Second line = is_split c f g line && is_none (stuck_stem g line)

  copy_parts : Side → ℕ → List Bool
  copy_parts copy line = if has_gate copy line then driver_parts copy line (gate_at c line) else []

  length-copy_parts : (copy : Side) (line : ℕ) → length (copy_parts copy line) ≡ copy_helpers c f g copy line
  unfolding copy_parts copy_helpers
  length-copy_parts First line = by (is_none (stuck_stem f line))
    where
      by : (b : Bool) → length (if b then driver_parts First line (gate_at c line) else []) ≡ (if b then option_map_or (gate_helpers c f g First line) (gate_at c line) 0 else 0)
      by true = length-driver_parts First line (gate_at c line)
      by false = refl
  length-copy_parts Second line = by (is_split c f g line && is_none (stuck_stem g line))
    where
      by : (b : Bool) → length (if b then driver_parts Second line (gate_at c line) else []) ≡ (if b then option_map_or (gate_helpers c f g Second line) (gate_at c line) 0 else 0)
      by true = length-driver_parts Second line (gate_at c line)
      by false = refl

  line_parts : ℕ → List Bool
  line_parts line = if is_relevant c f g line then copy_parts First line ++ copy_parts Second line else []

  length-line_parts : (line : ℕ) → length (line_parts line) ≡ line_helpers c f g line
  unfolding line_parts line_helpers
  length-line_parts line = by (is_relevant c f g line)
    where
      by : (b : Bool) → length (if b then copy_parts First line ++ copy_parts Second line else []) ≡ (if b then copy_helpers c f g First line + copy_helpers c f g Second line else 0)
      by true = length-append (copy_parts First line) (copy_parts Second line) ∙ (λ i. length-copy_parts First line i + length-copy_parts Second line i)
      by false = refl

  line_values : ℕ → List Bool
  line_values line = if is_relevant c f g line then (if is_split c f g line then bit_at x line ∷ bit_at y line ∷ [] else bit_at x line ∷ []) else []

  length-line_values : (line : ℕ) → length (line_values line) ≡ line_variables c f g line
  unfolding line_values line_variables
  length-line_values line = by (is_relevant c f g line) (is_split c f g line)
    where
      by : (r s : Bool) → length (if r then (if s then bit_at x line ∷ bit_at y line ∷ [] else bit_at x line ∷ []) else []) ≡ (if r then (if s then 2 else 1) else 0)
      by true true = refl
      by true false = refl
      by false s = refl

  difference_values : ℕ → List Bool
  difference_values at = if is_reached c f g at then inverted (bit_at (shown_bits c f x) at) (bit_at (shown_bits c g y) at) ∷ [] else []

  length-difference_values : (at : ℕ) → length (difference_values at) ≡ (if is_reached c f g at then 1 else 0)
  unfolding difference_values
  length-difference_values at = by (is_reached c f g at)
    where
      by : (b : Bool) → length (if b then inverted (bit_at (shown_bits c f x) at) (bit_at (shown_bits c g y) at) ∷ [] else []) ≡ (if b then 1 else 0)
      by true = refl
      by false = refl

  all_values : List Bool
  all_values = flat_map line_values (range_with_len 0 (line_count c))

  all_parts : List Bool
  all_parts = flat_map line_parts (range_with_len 0 (line_count c))

  all_differences : List Bool
  all_differences = flat_map difference_values (range_with_len 0 (length c.positions))

  pub assignment : List Bool
  assignment = all_values ++ (all_parts ++ all_differences)

  length-all_values : length all_values ≡ variables_below c f g (line_count c)
  unfolding all_values variables_below
  length-all_values = length-flat line_values (line_variables c f g) length-line_values 0 (line_count c)

  length-all_parts : length all_parts ≡ helpers_below c f g (line_count c)
  unfolding all_parts helpers_below
  length-all_parts = length-flat line_parts (line_helpers c f g) length-line_parts 0 (line_count c)

  pub length-assignment : length assignment ≡ variable_count c f g
  unfolding assignment all_differences variable_count reached_positions
  length-assignment =
      let whole = length-append all_values (all_parts ++ all_differences) in
      let rest = length-append all_parts all_differences in
      let differences = length-flat difference_values (λ at. if is_reached c f g at then 1 else 0) length-difference_values 0 (length c.positions) in
      let reached = length-filter (is_reached c f g) (range_with_len 0 (length c.positions)) in
      omega (arith, whole, rest, length-all_values, length-all_parts, differences, reached)

  -- ---- what the variables carry

  module _ (line : ℕ) (inside : line < line_count c) (relevant : is_relevant c f g line ≡ true) where
    first_values : (k : ℕ) → k < length (line_values line) → bit_at assignment (variables_below c f g line + k) ≡ bit_at (line_values line) k
    unfolding assignment all_values variables_below
    first_values k h = bits_at line_values (line_variables c f g) length-line_values 0 (line_count c) line k (all_parts ++ all_differences) inside (let same : 0 + line ≡ line = omega arith in let e = ap (λ l. length (line_values l)) same in omega (arith, e, h)) ∙ ap (λ l. bit_at (line_values l) k) (omega arith)

    values_are : (s : Bool) → is_split c f g line ≡ s → line_values line ≡ (if s then bit_at x line ∷ bit_at y line ∷ [] else bit_at x line ∷ [])
    unfolding line_values
    values_are s e = (λ i. if relevant i then (if e i then bit_at x line ∷ bit_at y line ∷ [] else bit_at x line ∷ []) else [])

    pub first_copy_carries : copy_bit c f g assignment First line ≡ bit_at x line
    unfolding line_variable
    first_copy_carries = by (is_split c f g line) refl
      where
        index : 1 + variables_below c f g line + 0 - 1 ≡ variables_below c f g line + 0
        index = omega arith

        by : (s : Bool) → is_split c f g line ≡ s → bit_at assignment (1 + variables_below c f g line + 0 - 1) ≡ bit_at x line
        by true e = ap (bit_at assignment) index ∙ (first_values 0 (let n = ap length (values_are true e) in omega (arith, n)) ∙ ap (λ bits. bit_at bits 0) (values_are true e))
        by false e = ap (bit_at assignment) index ∙ (first_values 0 (let n = ap length (values_are false e) in omega (arith, n)) ∙ ap (λ bits. bit_at bits 0) (values_are false e))

    pub second_copy_carries : is_split c f g line ≡ true → copy_bit c f g assignment Second line ≡ bit_at y line
    unfolding line_variable
    second_copy_carries e =
        ap (λ b. bit_at assignment (1 + variables_below c f g line + (if b then 1 else 0) - 1)) e
        ∙ (ap (bit_at assignment) (let index : 1 + variables_below c f g line + 1 - 1 ≡ variables_below c f g line + 1 = omega arith in index)
        ∙ (first_values 1 (let n = ap length (values_are true e) in omega (arith, n)) ∙ ap (λ bits. bit_at bits 1) (values_are true e)))

    parts_in_parts : (k : ℕ) → k < length (line_parts line) → bit_at (all_parts ++ all_differences) (helpers_below c f g line + k) ≡ bit_at (line_parts line) k
    unfolding all_parts helpers_below
    parts_in_parts k h =
        bits_at line_parts (line_helpers c f g) length-line_parts 0 (line_count c) line k all_differences inside (let same : 0 + line ≡ line = omega arith in let e = ap (λ l. length (line_parts l)) same in omega (arith, e, h))
        ∙ ap (λ l. bit_at (line_parts l) k) (omega arith)

    parts_at : (k : ℕ) → k < length (line_parts line) → bit_at assignment (variables_below c f g (line_count c) + (helpers_below c f g line + k)) ≡ bit_at (line_parts line) k
    unfolding assignment
    parts_at k h =
        get_or-append_right all_values (all_parts ++ all_differences) (variables_below c f g (line_count c)) (variables_below c f g (line_count c) + (helpers_below c f g line + k)) false length-all_values (omega arith)
        ∙ (ap (bit_at (all_parts ++ all_differences)) (let e : variables_below c f g (line_count c) + (helpers_below c f g line + k) - variables_below c f g (line_count c) ≡ helpers_below c f g line + k = omega arith in e)
        ∙ parts_in_parts k h)

    copy_parts_are : line_parts line ≡ copy_parts First line ++ copy_parts Second line
    unfolding line_parts
    copy_parts_are = ap (λ b. if b then copy_parts First line ++ copy_parts Second line else []) relevant

    copy_parts_carry : (copy : Side) → Carry assignment (first_helper c f g copy line) (copy_parts copy line)
    unfolding first_helper
    copy_parts_carry First k h =
        let whole = ap length copy_parts_are ∙ length-append (copy_parts First line) (copy_parts Second line) in
        let place : 1 + variables_below c f g (line_count c) + helpers_below c f g line + k - 1 ≡ variables_below c f g (line_count c) + (helpers_below c f g line + k) = omega arith in
        ap (bit_at assignment) place
        ∙ (parts_at k (omega (arith, whole, h))
        ∙ (ap (λ bits. bit_at bits k) copy_parts_are
        ∙ get_or_append_left (copy_parts First line) (copy_parts Second line) false k h))
    copy_parts_carry Second k h =
        let first = copy_helpers c f g First line in
        let long = length-copy_parts First line in
        let whole = ap length copy_parts_are ∙ length-append (copy_parts First line) (copy_parts Second line) in
        let place : 1 + variables_below c f g (line_count c) + helpers_below c f g line + first + k - 1 ≡ variables_below c f g (line_count c) + (helpers_below c f g line + (first + k)) = omega arith in
        let off : first + k - first ≡ k = omega arith in
        ap (bit_at assignment) place
        ∙ (parts_at (first + k) (omega (arith, whole, long, h))
        ∙ (ap (λ bits. bit_at bits (first + k)) copy_parts_are
        ∙ (get_or-append_right (copy_parts First line) (copy_parts Second line) first (first + k) false long (omega arith)
        ∙ ap (bit_at (copy_parts Second line)) off)))

    -- the helpers of a gate's copy carry the parts of the exclusive or
    pub gate_parts_carry : (copy : Side) (gate : Gate) → gate_at c line ≡ Some gate → has_gate copy line ≡ true → is_parity gate.kind ≡ true
        → Carry assignment (first_helper c f g copy line) (helper_bits (free_bits (stuck_pin (fault_of c f g copy) line) (bits_in copy) gate.pins))
    unfolding copy_parts driver_parts gate_parts
    gate_parts_carry copy gate is own parity = subst (Carry assignment (first_helper c f g copy line)) (
        ap (λ b. if b then driver_parts copy line (gate_at c line) else []) own
        ∙ (ap (driver_parts copy line) is
        ∙ ap (λ b. if b then helper_bits (free_bits (stuck_pin (fault_of c f g copy) line) (bits_in copy) gate.pins) else []) parity)
        ) (copy_parts_carry copy)

  -- a difference variable carries the difference
  pub difference_at : (at : ℕ) → at < length c.positions → is_reached c f g at ≡ true
      → bit_at assignment (difference_variable c f g at - 1) ≡ inverted (bit_at (shown_bits c f x) at) (bit_at (shown_bits c g y) at)
  unfolding assignment all_differences difference_variable difference_values
  difference_at at h reached =
      let lines = variables_below c f g (line_count c) in
      let helpers = helpers_below c f g (line_count c) in
      let below = count_by (is_reached c f g) (range_with_len 0 at) in
      let place : 1 + lines + helpers + below - 1 ≡ lines + (helpers + (below + 0)) = omega arith in
      let past_lines : lines + (helpers + (below + 0)) - lines ≡ helpers + (below + 0) = omega arith in
      let past_helpers : helpers + (below + 0) - helpers ≡ below + 0 = omega arith in
      let here = ap (λ b. if b then inverted (bit_at (shown_bits c f x) at) (bit_at (shown_bits c g y) at) ∷ [] else []) reached in
      let same : 0 + at ≡ at = omega arith in
      let long = ap (λ n. length (difference_values n)) same ∙ ap length here in
      ap (bit_at (all_values ++ (all_parts ++ all_differences))) place
      ∙ (get_or-append_right all_values (all_parts ++ all_differences) lines (lines + (helpers + (below + 0))) false length-all_values (omega arith)
      ∙ (ap (bit_at (all_parts ++ all_differences)) past_lines
      ∙ (get_or-append_right all_parts all_differences helpers (helpers + (below + 0)) false length-all_parts (omega arith)
      ∙ (ap (bit_at all_differences) past_helpers
      ∙ (ap (λ bits. bit_at bits (below + 0)) (sym (append-nil all_differences))
      ∙ (bits_at difference_values (λ at. if is_reached c f g at then 1 else 0) length-difference_values 0 (length c.positions) at 0 [] h (omega (arith, long))
      ∙ (ap (λ n. bit_at (difference_values n) 0) same
      ∙ ap (λ bits. bit_at bits 0) here)))))))

-- the operands that are variables carry the bits at the pins that aren't stuck
Variables : (c : Circuit) (f g : Fault) (bits : List Bool) (copy : Side) (stuck : ℕ → Option Bool) (z : List Bool) (n : ℕ) (lines : List ℕ)
    → ((read : ℕ) → Contains lines read → bit_at z read ≡ copy_bit c f g bits copy read)
    → variable_bits bits (filter_map variable_of (map (λ x. operand_of c f g copy (stuck x.0) x.1) (enumerate_from n lines))) ≡ filter_map (λ o. o) (map (λ x. free_bit (stuck x.0) (bit_at z x.1)) (enumerate_from n lines))
unfolding free_bit
Variables c f g bits copy stuck z n [] h = refl
Variables c f g bits copy stuck z n (line ∷ lines) h =
    one_operand (stuck n) (Variables c f g bits copy stuck z (n + 1) lines (λ read m. h read (later line lines read m)))
  where
    one_operand : (o : Option Bool)
        → variable_bits bits (filter_map variable_of (map (λ x. operand_of c f g copy (stuck x.0) x.1) (enumerate_from (n + 1) lines))) ≡ filter_map (λ o. o) (map (λ x. free_bit (stuck x.0) (bit_at z x.1)) (enumerate_from (n + 1) lines))
        → variable_bits bits (filter_map variable_of (operand_of c f g copy o line ∷ map (λ x. operand_of c f g copy (stuck x.0) x.1) (enumerate_from (n + 1) lines))) ≡ filter_map (λ o. o) (free_bit o (bit_at z line) ∷ map (λ x. free_bit (stuck x.0) (bit_at z x.1)) (enumerate_from (n + 1) lines))
    one_operand None rest = λ i. sym (h line (0, omega arith, refl)) i ∷ rest i
    one_operand (Some b) rest = rest

pub variables_carry : (c : Circuit) (f g : Fault) (bits : List Bool) (copy : Side) (z : List Bool) (line : ℕ) (gate : Gate)
    → ((read : ℕ) → Contains gate.pins read → bit_at z read ≡ copy_bit c f g bits copy read)
    → variable_bits bits (variables (gate_operands c f g copy line gate)) ≡ free_bits (stuck_pin (fault_of c f g copy) line) z gate.pins
unfolding readings free_bits
variables_carry c f g bits copy z line gate h = Variables c f g bits copy (stuck_pin (fault_of c f g copy) line) z 0 gate.pins h
