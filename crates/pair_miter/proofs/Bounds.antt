-- A miter has fewer than 2^30 clauses and fewer than 2^31 variables: each line has at most eight clauses for itself and
-- for each pin of its gate, and there are not too many lines, pins and positions.
use Rattle.std.proofs.Common.{◌≡◌, ◌∙◌, ℕ, zero, suc, ◌+◌, ◌-◌, ◌*◌, ◌<◌, ◌≤◌, ◌^◌, refl, ap, arith, drop, get_or}
use Rattle.std.specs.Prelude.{Bool, true, false, not, List, [], ◌∷◌, ◌++◌, map, filter, flat_map, length, Option, None, Some, slice_get, is_none, ◌||◌, ◌&&◌, sum_by, if◌then◌else◌}
use Rattle.std.specs.Option.{option_map_or}
use Rattle.std.specs.List.{range_with_len, filter_map, cons_option}
use Rattle.std.proofs.lemmas.List.FromFn.{length-range_with_len}
use Rattle.std.proofs.lemmas.List.{length-append, length-map, drop_more, drop_all}
use Rattle.std.proofs.lemmas.List.Sums.{sum_by-cons, sum_by-append, count_by-le-length}
use Rattle.std.proofs.lemmas.Option.{get_or_from_slice_get}
use Rattle.net_model.specs.declared.gate.Kind.{Kind}
use Rattle.net_model.specs.declared.gate.Kind.TheVariants.{Xor}
use Rattle.net_model.specs.declared.operation.Fold.{Fold}
use Rattle.net_model.specs.declared.operation.Fold.TheVariants.{AllOf, AnyOf, OddOf}
use Rattle.net_model.specs.declared.operation.Operation.{Operation}
use Rattle.net_model.specs.declared.operation.Operation.TheVariants.{Folded, Chosen}
use Rattle.net_model.specs.declared.gate.Gate.{Gate}
use Rattle.net_model.specs.declared.fault.Fault.{Fault}
use Rattle.net_model.specs.Gate.{operation_of, inverts}
use Rattle.net_model.specs.Circuit.{Circuit, IsCircuit, line_count, all_lines, pins_of, gate_at}
use Rattle.net_model.specs.Fault.{stuck_stem, stuck_pin, readings}
use Rattle.net_model.specs.Scope.{is_split, is_relevant, is_reached, relevant_lines, reached_positions}
use Rattle.net_model.proofs.DestinationCounts.{pins_of_item}
use Rattle.net_model.proofs.QueueSteps.{source_pins}
use Rattle.net_model.proofs.Elements.{slice_get-none, length-filter-le}
use Rattle.net_model.proofs.Ranges.{range-append}
use Rattle.clause_pool.specs.Literal.{Literal, pos_literal, opposite}
use Rattle.clause_pool.specs.Clauses.{Clause}
use Rattle.pair_miter.specs.Variables.{fault_of, is_parity, line_variables, variables_below, line_variable, free_pins, gate_helpers, copy_helpers, line_helpers, helpers_below, first_helper, difference_variable, variable_count}
use Rattle.pair_miter.specs.declared.side.Side.TheVariants.{First, Second}
use Rattle.pair_miter.specs.declared.side.Side.{Side}
use Rattle.pair_miter.specs.Operand.{Operand, variable_of, is_constant}
use Rattle.pair_miter.specs.Rows.{variables, has_constant, has_odd_constants, signed_literal, with_each, with_all, decided_of, decided_rows, xor_of_two, xor_onward, xor_of, odd_rows, operand_literals, case_clause, case_rows, operand_at, chosen_rows, folded_rows, operation_rows, output_literal, gate_rows}
use Rattle.pair_miter.specs.Miter.{operand_of, gate_operands, gate_clauses, stuck_clauses, copy_clauses, line_clauses, shown_operand, difference_clauses, lines_part, differences_part, raw_clauses, without_repeats, is_tautology, tidy, miter}
use Rattle.pair_miter.proofs.CopyClauses.{length-readings}

-- ---- sums

sum_by-mono : {A : Type 0} (f g : A → ℕ) (xs : List A) → ((x : A) → f x ≤ g x) → sum_by f xs ≤ sum_by g xs
sum_by-mono f g [] h = omega arith
sum_by-mono f g (x ∷ xs) h = omega (arith, sum_by-cons f x xs, sum_by-cons g x xs, h x, sum_by-mono f g xs h)

sum_by-eight : {A : Type 0} (f : A → ℕ) (xs : List A) → sum_by (λ x. 8 * f x) xs ≡ 8 * sum_by f xs
sum_by-eight f [] = refl
sum_by-eight f (x ∷ xs) = omega (arith, sum_by-cons (λ x. 8 * f x) x xs, sum_by-cons f x xs, sum_by-eight f xs)

sum_by-two : {A : Type 0} (f : A → ℕ) (xs : List A) → sum_by (λ x. 2 * f x) xs ≡ 2 * sum_by f xs
sum_by-two f [] = refl
sum_by-two f (x ∷ xs) = omega (arith, sum_by-cons (λ x. 2 * f x) x xs, sum_by-cons f x xs, sum_by-two f xs)

sum_by-nine : {A : Type 0} (xs : List A) → sum_by (λ x. 9) xs ≡ 9 * length xs
sum_by-nine [] = refl
sum_by-nine (x ∷ xs) = omega (arith, sum_by-cons (λ x. 9) x xs, sum_by-nine xs)

sum_by-filter : {A : Type 0} (f : A → ℕ) (test : A → Bool) (xs : List A) → sum_by f (filter test xs) ≤ sum_by f xs
sum_by-filter f test [] = omega arith
sum_by-filter f test (x ∷ xs) = by (test x) (sum_by-filter f test xs)
  where
    by : (b : Bool) → sum_by f (filter test xs) ≤ sum_by f xs → sum_by f (if b then x ∷ filter test xs else filter test xs) ≤ sum_by f (x ∷ xs)
    by true h = omega (arith, sum_by-cons f x (filter test xs), sum_by-cons f x xs, h)
    by false h = omega (arith, sum_by-cons f x xs, h)

length-flat_map : {A B : Type 0} (h : A → List B) (xs : List A) → length (flat_map h xs) ≡ sum_by (λ x. length (h x)) xs
length-flat_map h [] = refl
length-flat_map h (x ∷ xs) = omega (arith, length-append (h x) (flat_map h xs), sum_by-cons (λ x. length (h x)) x xs, length-flat_map h xs)

length-filter_map-le : {A B : Type 0} (h : A → Option B) (xs : List A) → length (filter_map h xs) ≤ length xs
length-filter_map-le {A = A} {B = B} h [] = omega arith
length-filter_map-le {A = A} {B = B} h (x ∷ xs) = by (h x) (length-filter_map-le h xs)
  where
    by : (o : Option B) → length (filter_map h xs) ≤ length xs → length (cons_option o (filter_map h xs)) ≤ length (x ∷ xs)
    by None e = omega (arith, e)
    by (Some y) e = omega (arith, e)

-- ---- the rows of a gate

decided_of-few : (decides : Bool) (l : Literal) (xs : List ℕ) → length (decided_of decides l xs) ≤ length xs + 1
decided_of-few decides l xs = omega (arith, length-append (with_each l (not decides) xs) (with_all (opposite l) decides xs ∷ []), length-map xs (λ (x : ℕ). l ∷ signed_literal (not decides) x ∷ []))

xor_onward-few : (y : Literal) (helper : ℕ) (before : Literal) (xs : List ℕ) → length (xor_onward y helper before xs) ≤ 4 * length xs
xor_onward-few y helper before [] = omega arith
xor_onward-few y helper before (x ∷ []) = omega arith
xor_onward-few y helper before (x ∷ x' ∷ xs) =
    let rest = xor_onward y (helper + 1) (pos_literal helper) (x' ∷ xs) in
    omega (arith, length-append (xor_of_two (pos_literal helper) before (pos_literal x)) rest, xor_onward-few y (helper + 1) (pos_literal helper) (x' ∷ xs))

xor_of-few : (y : Literal) (helper : ℕ) (xs : List ℕ) → length (xor_of y helper xs) ≤ 4 * length xs + 1
xor_of-few y helper [] = omega arith
xor_of-few y helper (x ∷ []) = omega arith
xor_of-few y helper (x ∷ x' ∷ xs) = omega (arith, xor_onward-few y helper (pos_literal x) (x' ∷ xs))

module _ (operands : List Operand) where
  few_variables : length (variables operands) ≤ length operands
  few_variables = length-filter_map-le variable_of operands

  decided_rows-few : (decides : Bool) (l : Literal) → length (decided_rows decides l operands) ≤ 4 * length operands + 1
  decided_rows-few decides l = by (has_constant decides operands)
    where
      by : (b : Bool) → length (if b then (l ∷ []) ∷ [] else decided_of decides l (variables operands)) ≤ 4 * length operands + 1
      by true = omega arith
      by false = omega (arith, decided_of-few decides l (variables operands), few_variables)

  odd_rows-few : (y : Literal) (helper : ℕ) → length (odd_rows y helper operands) ≤ 4 * length operands + 1
  odd_rows-few y helper = omega (arith, xor_of-few (if has_odd_constants operands then opposite y else y) helper (variables operands), few_variables)

case_clause-few : (l : Literal) (unless : Bool) (chooser : Operand) (positive : Bool) (chosen : Operand) → length (case_clause l unless chooser positive chosen) ≤ 1
case_clause-few l unless chooser positive chosen = by (is_constant unless chooser || is_constant positive chosen)
  where
    by : (b : Bool) → length (if b then [] else (l ∷ operand_literals unless chooser ++ operand_literals positive chosen) ∷ []) ≤ 1
    by true = omega arith
    by false = omega arith

case_rows-few : (y : Literal) (unless : Bool) (chooser chosen : Operand) → length (case_rows y unless chooser chosen) ≤ 2
case_rows-few y unless chooser chosen =
    omega (
      arith,
      length-append (case_clause (opposite y) unless chooser true chosen) (case_clause y unless chooser false chosen),
      case_clause-few (opposite y) unless chooser true chosen,
      case_clause-few y unless chooser false chosen,
    )

chosen_rows-few : (y : Literal) (operands : List Operand) → length (chosen_rows y operands) ≤ 4 * length operands + 1
chosen_rows-few y [] = omega arith
chosen_rows-few y (s ∷ operands) =
    let a = operand_at (s ∷ operands) 1 in
    let b = operand_at (s ∷ operands) 2 in
    omega (arith, length-append (case_rows y true s a) (case_rows y false s b), case_rows-few y true s a, case_rows-few y false s b)

folded_rows-few : (fold : Fold) (y : Literal) (helper : ℕ) (operands : List Operand) → length (folded_rows fold y helper operands) ≤ 4 * length operands + 1
folded_rows-few AllOf y helper operands = decided_rows-few operands false (opposite y)
folded_rows-few AnyOf y helper operands = decided_rows-few operands true y
folded_rows-few OddOf y helper operands = odd_rows-few operands y helper

operation_rows-few : (operation : Operation) (y : Literal) (helper : ℕ) (operands : List Operand) → length (operation_rows operation y helper operands) ≤ 4 * length operands + 1
operation_rows-few (Folded fold) y helper operands = folded_rows-few fold y helper operands
operation_rows-few Chosen y helper operands = chosen_rows-few y operands

pub gate_rows-few : (kind : Kind) (y helper : ℕ) (operands : List Operand) → length (gate_rows kind y helper operands) ≤ 4 * length operands + 1
unfolding gate_rows
gate_rows-few kind y helper operands = operation_rows-few (operation_of kind) (output_literal (inverts kind) y) helper operands

-- ---- lines, pins and positions

module _ (c : Circuit) where
  -- a line and its gate's pins
  weight : ℕ → ℕ
  weight line = 1 + length (pins_of c line)

  source_weights : (first many : ℕ) → first + many ≤ c.sources → sum_by weight (range_with_len first many) ≡ many
  unfolding weight
  source_weights first zero h = refl
  source_weights first (suc many) h =
      let none = ap length (source_pins c first (omega arith)) in
      omega (arith, sum_by-cons weight first (range_with_len (first + 1) many), none, source_weights (first + 1) many (omega arith))

  gate_weights : (many k line : ℕ) → line ≡ c.sources + k → k + many ≡ length c.gates
      → sum_by weight (range_with_len line many) ≡ many + sum_by (λ gate. length gate.pins) (drop k c.gates)
  unfolding weight
  gate_weights zero k line is whole =
      let none = drop_all k c.gates (omega arith) in
      let sum = ap (sum_by (λ (gate : Gate). length gate.pins)) none in
      omega (arith, sum)
  gate_weights (suc many) k line is whole = by (slice_get c.gates k) refl (gate_weights many (k + 1) (line + 1) (omega arith) (omega arith))
    where
      by : (o : Option Gate) → slice_get c.gates k ≡ o → sum_by weight (range_with_len (line + 1) many) ≡ many + sum_by (λ gate. length gate.pins) (drop (k + 1) c.gates)
          → sum_by weight (range_with_len line (suc many)) ≡ suc many + sum_by (λ gate. length gate.pins) (drop k c.gates)
      by None there rest = absurd (omega (arith, slice_get-none c.gates k there))
      by (Some gate) there rest =
          let split = drop_more c.gates k gate (omega arith) in
          let gates = ap (sum_by (λ (gate : Gate). length gate.pins)) split ∙ sum_by-cons (λ (gate : Gate). length gate.pins) (get_or c.gates k gate) (drop (k + 1) c.gates) in
          let here = ap (λ (d : Gate). length d.pins) (get_or_from_slice_get c.gates k gate gate there) in
          let pins = ap (λ l. length (pins_of c l)) is ∙ ap length (pins_of_item c k gate there) in
          omega (arith, sum_by-cons weight line (range_with_len (line + 1) many), gates, here, pins, rest)

  all_weights : sum_by weight (all_lines c) ≡ line_count c + sum_by (λ gate. length gate.pins) c.gates
  all_weights =
      let parts = ap (sum_by weight) (range-append 0 c.sources (length c.gates)) ∙ sum_by-append weight (range_with_len 0 c.sources) (range_with_len (0 + c.sources) (length c.gates)) in
      omega (arith, parts, source_weights 0 c.sources (omega arith), gate_weights (length c.gates) 0 (0 + c.sources) (omega arith) (omega arith))

  module _ (f g : Fault) where
    copy_clauses-few : (copy : Side) (line : ℕ) → length (copy_clauses c f g copy line) ≤ 4 * length (pins_of c line) + 1
    unfolding copy_clauses
    copy_clauses-few copy line = by (stuck_stem (fault_of c f g copy) line) (gate_at c line)
      where
        by : (stem : Option Bool) (gate : Option Gate) → length (option_map_or (stuck_clauses c f g copy line) stem (option_map_or (gate_clauses c f g copy line) gate [])) ≤ 4 * length (option_map_or (λ (d : Gate). d.pins) gate []) + 1
        by (Some b) gate = omega arith
        by None None = omega arith
        by None (Some gate) =
            let operands = length-readings (λ pin read. operand_of c f g copy (stuck_pin (fault_of c f g copy) line pin) read) gate.pins in
            omega (arith, gate_rows-few gate.kind (line_variable c f g copy line) (first_helper c f g copy line) (gate_operands c f g copy line gate), operands)

    line_clauses-few : (line : ℕ) → length (line_clauses c f g line) ≤ 8 * weight line
    unfolding line_clauses weight
    line_clauses-few line = by (is_split c f g line)
      where
        by : (b : Bool) → length (copy_clauses c f g First line ++ (if b then copy_clauses c f g Second line else [])) ≤ 8 * (1 + length (pins_of c line))
        by true = omega (arith, length-append (copy_clauses c f g First line) (copy_clauses c f g Second line), copy_clauses-few First line, copy_clauses-few Second line)
        by false = omega (arith, length-append {A = Clause} (copy_clauses c f g First line) [], copy_clauses-few First line)

    difference_clauses-few : (at : ℕ) → length (difference_clauses c f g at) ≤ 9
    unfolding difference_clauses
    difference_clauses-few at = gate_rows-few Xor (difference_variable c f g at) 0 (shown_operand c f g at First ∷ shown_operand c f g at Second ∷ [])

    all_lines-few : length (flat_map (line_clauses c f g) (relevant_lines c f g)) ≤ 8 * sum_by weight (all_lines c)
    unfolding relevant_lines
    all_lines-few = omega (
      arith,
      length-flat_map (line_clauses c f g) (filter (is_relevant c f g) (all_lines c)),
      sum_by-mono (λ line. length (line_clauses c f g line)) (λ line. 8 * weight line) (filter (is_relevant c f g) (all_lines c)) line_clauses-few,
      sum_by-eight weight (filter (is_relevant c f g) (all_lines c)),
      sum_by-filter weight (is_relevant c f g) (all_lines c),
    )

    few_reached : length (reached_positions c f g) ≤ length c.positions
    unfolding reached_positions
    few_reached = omega (arith, length-filter-le (is_reached c f g) (range_with_len 0 (length c.positions)), length-range_with_len 0 (length c.positions))

    all_differences-few : length (flat_map (difference_clauses c f g) (reached_positions c f g)) ≤ 9 * length c.positions
    all_differences-few = omega (
      arith,
      length-flat_map (difference_clauses c f g) (reached_positions c f g),
      sum_by-mono (λ at. length (difference_clauses c f g at)) (λ at. 9) (reached_positions c f g) difference_clauses-few,
      sum_by-nine (reached_positions c f g),
      few_reached,
    )

    raw_clauses-few : IsCircuit c → length (raw_clauses c f g) < 2 ^ 30
    unfolding raw_clauses
    raw_clauses-few w =
        let rows = flat_map (difference_clauses c f g) (reached_positions c f g) in
        let last = map (λ at. pos_literal (difference_variable c f g at)) (reached_positions c f g) ∷ [] in
        omega (arith, length-append (lines_part c f g) (differences_part c f g), length-append rows last, all_lines-few, all_differences-few, all_weights, w.small)

    -- ---- variables

    line_variables-few : (line : ℕ) → line_variables c f g line ≤ 2 * weight line
    unfolding line_variables weight
    line_variables-few line = by (is_relevant c f g line) (is_split c f g line)
      where
        by : (r s : Bool) → (if r then (if s then 2 else 1) else 0) ≤ 2 * (1 + length (pins_of c line))
        by true true = omega arith
        by true false = omega arith
        by false s = omega arith

    free_pins-few : (copy : Side) (line : ℕ) (gate : Gate) → free_pins c f g copy line gate ≤ length gate.pins
    unfolding free_pins
    free_pins-few copy line gate =
        let free = readings (λ pin read. is_none (stuck_pin (fault_of c f g copy) line pin)) gate.pins in
        omega (arith, count_by-le-length (λ b. b) free, length-readings (λ pin read. is_none (stuck_pin (fault_of c f g copy) line pin)) gate.pins)

    gate_helpers-few : (copy : Side) (line : ℕ) (gate : Option Gate) → option_map_or (gate_helpers c f g copy line) gate 0 ≤ length (option_map_or (λ (d : Gate). d.pins) gate [])
    unfolding gate_helpers
    gate_helpers-few copy line None = omega arith
    gate_helpers-few copy line (Some gate) = by (is_parity gate.kind)
      where
        by : (b : Bool) → (if b then free_pins c f g copy line gate - 2 else 0) ≤ length gate.pins
        by true = omega (arith, free_pins-few copy line gate)
        by false = omega arith

    copy_helpers-few : (copy : Side) (line : ℕ) → copy_helpers c f g copy line ≤ length (pins_of c line)
    unfolding copy_helpers
    copy_helpers-few First line = by (is_none (stuck_stem f line))
      where
        by : (b : Bool) → (if b then option_map_or (gate_helpers c f g First line) (gate_at c line) 0 else 0) ≤ length (pins_of c line)
        by true = gate_helpers-few First line (gate_at c line)
        by false = omega arith
    copy_helpers-few Second line = by (is_split c f g line && is_none (stuck_stem g line))
      where
        by : (b : Bool) → (if b then option_map_or (gate_helpers c f g Second line) (gate_at c line) 0 else 0) ≤ length (pins_of c line)
        by true = gate_helpers-few Second line (gate_at c line)
        by false = omega arith

    line_helpers-few : (line : ℕ) → line_helpers c f g line ≤ 2 * weight line
    unfolding line_helpers weight
    line_helpers-few line = by (is_relevant c f g line)
      where
        by : (b : Bool) → (if b then copy_helpers c f g First line + copy_helpers c f g Second line else 0) ≤ 2 * (1 + length (pins_of c line))
        by true = omega (arith, copy_helpers-few First line, copy_helpers-few Second line)
        by false = omega arith

    few_variables_in_all : variable_count c f g ≤ 4 * sum_by weight (all_lines c) + length c.positions
    unfolding variable_count variables_below helpers_below
    few_variables_in_all = omega (
      arith,
      sum_by-mono (line_variables c f g) (λ line. 2 * weight line) (all_lines c) line_variables-few,
      sum_by-mono (line_helpers c f g) (λ line. 2 * weight line) (all_lines c) line_helpers-few,
      sum_by-two weight (all_lines c),
      few_reached,
    )

pub tidy-few : (clauses : List Clause) → length (tidy clauses) ≤ length clauses
unfolding tidy
tidy-few clauses = omega (arith, length-map (filter (λ clause. not (is_tautology clause)) clauses) without_repeats, length-filter-le (λ clause. not (is_tautology clause)) clauses)

pub few_clauses : (c : Circuit) (f g : Fault) → IsCircuit c → length (miter c f g) < 2 ^ 30
unfolding miter
few_clauses c f g w = omega (arith, tidy-few (raw_clauses c f g), raw_clauses-few c f g w)

pub few_variables_of : (c : Circuit) (f g : Fault) → IsCircuit c → variable_count c f g < 2 ^ 31
few_variables_of c f g w = omega (arith, few_variables_in_all c f g, all_weights c, w.small)
