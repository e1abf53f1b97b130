-- The numbers of variables: sums over the lines and over those that are listed, and what they stay below.
use Rattle.std.proofs.Common.{◌≡◌, ◌∙◌, ℕ, zero, suc, ◌+◌, ◌-◌, ◌<◌, ◌≤◌, ◌^◌, get_or, take, refl, sym, ap, subst, arith}
use Rattle.std.specs.Prelude.{Bool, true, false, List, length, Contains, ◌&&◌, sum_by, count_by, None, Some, is_none, if◌then◌else◌}
use Rattle.std.specs.Option.{option_map_or}
use Rattle.std.specs.List.{range_with_len}
use Rattle.std.proofs.lemmas.List.{get_or_default, length-take-le}
use Rattle.std.proofs.lemmas.List.Elements.{Contains-get_or}
use Rattle.std.proofs.lemmas.List.Sums.{sum_by-take-le, length-filter, count_by-le-length}
use Rattle.std.proofs.lemmas.List.FromFn.{length-range_with_len}
use Rattle.net_model.specs.declared.gate.Gate.{Gate}
use Rattle.net_model.specs.declared.fault.Fault.{Fault}
use Rattle.net_model.specs.Circuit.{Circuit, IsCircuit, line_count, gate_at}
use Rattle.net_model.specs.Fault.{stuck_stem}
use Rattle.net_model.specs.Scope.{is_split, is_relevant, is_reached, relevant_lines, reached_positions}
use Rattle.net_model.proofs.Ranges.{sum_by-range_more}
use Rattle.net_model.proofs.Relevance.{relevant_listed, listed_relevant, listed_reached}
use Rattle.pair_miter.specs.Variables.{fault_of, is_second, line_variables, variables_below, line_variable, gate_helpers, copy_helpers, line_helpers, helpers_below, first_helper, difference_variable, variable_count}
use Rattle.pair_miter.specs.declared.side.Side.TheVariants.{First, Second}
use Rattle.pair_miter.specs.declared.side.Side.{Side}
use Rattle.clause_pool.specs.Proper.{IsVariable}
use Rattle.pair_miter.specs.Numbering.{HasCopy}
use Rattle.pair_miter.proofs.Bounds.{few_variables_of}
use Rattle.pair_miter.proofs.ClauseParts.{passing_below, listed_before, sum_of_passing}

-- ---- sums over the numbers below one

sum_rises_by : (h : ℕ → ℕ) (n more : ℕ) → sum_by h (range_with_len 0 n) ≤ sum_by h (range_with_len 0 (n + more))
sum_rises_by h n zero = let e : n + 0 ≡ n = omega arith in let same = ap (λ k. sum_by h (range_with_len 0 k)) e in omega (arith, same)
sum_rises_by h n (suc more) =
    let e : n + suc more ≡ (n + more) + 1 = omega arith in
    let same = ap (λ k. sum_by h (range_with_len 0 k)) e in
    omega (arith, same, sum_by-range_more h (n + more), sum_rises_by h n more)

sum_rises : (h : ℕ → ℕ) (n m : ℕ) → n ≤ m → sum_by h (range_with_len 0 n) ≤ sum_by h (range_with_len 0 m)
sum_rises h n m le =
    let e : n + (m - n) ≡ m = omega arith in
    let same = ap (λ k. sum_by h (range_with_len 0 k)) e in
    omega (arith, same, sum_rises_by h n (m - n))

module _ (c : Circuit) (f g : Fault) where
  pub variables_below-more : (line : ℕ) → variables_below c f g (line + 1) ≡ variables_below c f g line + line_variables c f g line
  unfolding variables_below
  variables_below-more line = sum_by-range_more (line_variables c f g) line

  pub variables_below-rises : (n m : ℕ) → n ≤ m → variables_below c f g n ≤ variables_below c f g m
  unfolding variables_below
  variables_below-rises n m le = sum_rises (line_variables c f g) n m le

  pub first_variable : (line : ℕ) → line_variable c f g First line ≡ 1 + variables_below c f g line
  unfolding line_variable
  first_variable line = omega arith

  -- a relevant line has its variables below those that no line has
  pub line_variable-below : (copy : Side) (line : ℕ) → line < line_count c → is_relevant c f g line ≡ true
      → line_variable c f g copy line ≤ variables_below c f g (line_count c)
  unfolding line_variable line_variables
  line_variable-below copy line h e = by (is_relevant c f g line) (is_split c f g line) (is_second copy) e (variables_below-more line)
    where
      by : (r s o : Bool) → r ≡ true → variables_below c f g (line + 1) ≡ variables_below c f g line + (if r then (if s then 2 else 1) else 0)
          → 1 + variables_below c f g line + (if (o && s) then 1 else 0) ≤ variables_below c f g (line_count c)
      by false s o e more = cc
      by true true true e more = omega (arith, more, variables_below-rises (line + 1) (line_count c) (omega arith))
      by true true false e more = omega (arith, more, variables_below-rises (line + 1) (line_count c) (omega arith))
      by true false true e more = omega (arith, more, variables_below-rises (line + 1) (line_count c) (omega arith))
      by true false false e more = omega (arith, more, variables_below-rises (line + 1) (line_count c) (omega arith))

  -- the second copy of a line that isn't split has the first's variable, and that of a split line the next one
  pub shared_variable : (line : ℕ) → is_split c f g line ≡ false → line_variable c f g Second line ≡ line_variable c f g First line
  unfolding line_variable
  shared_variable line e = ap (λ s. 1 + variables_below c f g line + (if s then 1 else 0)) e

  pub own_variable : (line : ℕ) → is_split c f g line ≡ true → line_variable c f g Second line ≡ line_variable c f g First line + 1
  unfolding line_variable
  own_variable line e = let own = ap (λ s. 1 + variables_below c f g line + (if s then 1 else 0)) e in omega (arith, own)

  pub few_line_variables : IsCircuit c → (line : ℕ) → line ≤ line_count c → variables_below c f g line < 2 ^ 31
  unfolding variable_count
  few_line_variables w line h = omega (arith, variables_below-rises line (line_count c) h, few_variables_of c f g w)

  pub line_variable-from : (copy : Side) (line : ℕ) → 1 ≤ line_variable c f g copy line
  unfolding line_variable
  line_variable-from copy line = omega arith

  -- the lines have no more variables than there are
  pub few_of_lines : variables_below c f g (line_count c) ≤ variable_count c f g
  unfolding variable_count
  few_of_lines = omega arith

  -- ---- helpers

  pub helpers_below-more : (line : ℕ) → helpers_below c f g (line + 1) ≡ helpers_below c f g line + line_helpers c f g line
  unfolding helpers_below
  helpers_below-more line = sum_by-range_more (line_helpers c f g) line

  pub helpers_below-rises : (n m : ℕ) → n ≤ m → helpers_below c f g n ≤ helpers_below c f g m
  unfolding helpers_below
  helpers_below-rises n m le = sum_rises (line_helpers c f g) n m le

  pub helpers_below-none : helpers_below c f g 0 ≡ 0
  unfolding helpers_below
  helpers_below-none = refl

  variables_of_irrelevant : (line : ℕ) → is_relevant c f g line ≡ false → line_variables c f g line ≡ 0
  unfolding line_variables
  variables_of_irrelevant line e = rw e refl

  -- a relevant line has two variables if it is split, and else one
  pub variables_of_relevant : (line : ℕ) (s : Bool) → is_relevant c f g line ≡ true → is_split c f g line ≡ s → line_variables c f g line ≡ (if s then 2 else 1)
  unfolding line_variables
  variables_of_relevant line s e is = rw e (ap (λ b. if b then 2 else 1) is)

  helpers_of_irrelevant : (line : ℕ) → is_relevant c f g line ≡ false → line_helpers c f g line ≡ 0
  unfolding line_helpers
  helpers_of_irrelevant line e = rw e refl

  pub helpers_of_relevant : (line : ℕ) → is_relevant c f g line ≡ true → line_helpers c f g line ≡ copy_helpers c f g First line + copy_helpers c f g Second line
  unfolding line_helpers
  helpers_of_relevant line e = rw e refl

  -- a copy's helpers, by its stem and its gate
  pub helpers_of_copy : (copy : Side) (line : ℕ) → HasCopy c f g copy line
      → copy_helpers c f g copy line ≡ (if is_none (stuck_stem (fault_of c f g copy) line) then option_map_or (gate_helpers c f g copy line) (gate_at c line) 0 else 0)
  unfolding copy_helpers
  helpers_of_copy First line own = refl
  helpers_of_copy Second line own = ap (λ s. if (s && is_none (stuck_stem g line)) then option_map_or (gate_helpers c f g Second line) (gate_at c line) 0 else 0) own

  pub helpers_of_shared : (line : ℕ) → is_split c f g line ≡ false → copy_helpers c f g Second line ≡ 0
  unfolding copy_helpers
  helpers_of_shared line shared = ap (λ s. if (s && is_none (stuck_stem g line)) then option_map_or (gate_helpers c f g Second line) (gate_at c line) 0 else 0) shared

  module _ (copy : Side) (line : ℕ) (own : HasCopy c f g copy line) where
    pub helpers_of_stuck : is_none (stuck_stem (fault_of c f g copy) line) ≡ false → copy_helpers c f g copy line ≡ 0
    helpers_of_stuck e = helpers_of_copy copy line own ∙ ap (λ b. if b then option_map_or (gate_helpers c f g copy line) (gate_at c line) 0 else 0) e

    pub helpers_of_source : gate_at c line ≡ None → copy_helpers c f g copy line ≡ 0
    helpers_of_source e = helpers_of_copy copy line own ∙ (ap (λ o. if is_none (stuck_stem (fault_of c f g copy) line) then option_map_or (gate_helpers c f g copy line) o 0 else 0) e ∙ either (is_none (stuck_stem (fault_of c f g copy) line)))
      where
        either : (b : Bool) → ◌≡◌ {A = ℕ} (if b then 0 else 0) 0
        either true = refl
        either false = refl

    pub helpers_of_driven : (gate : Gate) → is_none (stuck_stem (fault_of c f g copy) line) ≡ true → gate_at c line ≡ Some gate → copy_helpers c f g copy line ≡ gate_helpers c f g copy line gate
    helpers_of_driven gate free e =
        helpers_of_copy copy line own
        ∙ (ap (λ b. if b then option_map_or (gate_helpers c f g copy line) (gate_at c line) 0 else 0) free ∙ ap (λ o. option_map_or (gate_helpers c f g copy line) o 0) e)

  -- the helpers of all lines are variables
  pub few_helpers : helpers_below c f g (line_count c) ≤ variable_count c f g
  unfolding variable_count
  few_helpers = omega arith

  pub few_helpers_below : IsCircuit c → (line : ℕ) → line ≤ line_count c → helpers_below c f g line < 2 ^ 31
  few_helpers_below w line h = omega (arith, helpers_below-rises line (line_count c) h, few_helpers, few_variables_of c f g w)

  pub few_line_helpers : IsCircuit c → (line : ℕ) → line < line_count c → line_helpers c f g line < 2 ^ 31
  few_line_helpers w line h = omega (arith, helpers_below-more line, few_helpers_below w (line + 1) (omega arith))

  -- the helpers of a relevant line's copy come before the differences
  pub first_helper-from : (copy : Side) (line : ℕ) → 1 ≤ first_helper c f g copy line
  unfolding first_helper
  first_helper-from First line = omega arith
  first_helper-from Second line = omega arith

  pub first_helper-below : (copy : Side) (line : ℕ) → HasCopy c f g copy line → line < line_count c → is_relevant c f g line ≡ true
      → first_helper c f g copy line + copy_helpers c f g copy line ≤ 1 + variables_below c f g (line_count c) + helpers_below c f g (line_count c)
  unfolding first_helper
  first_helper-below First line own h e = omega (arith, helpers_of_relevant line e, helpers_below-more line, helpers_below-rises (line + 1) (line_count c) (omega arith))
  first_helper-below Second line own h e = omega (arith, helpers_of_relevant line e, helpers_below-more line, helpers_below-rises (line + 1) (line_count c) (omega arith))

  pub few_of_parts : variables_below c f g (line_count c) + helpers_below c f g (line_count c) ≤ variable_count c f g
  unfolding variable_count
  few_of_parts = omega arith

  -- the variable of a relevant line is one of the miter
  pub variable_within : (copy : Side) (line x n : ℕ) → x ≡ line_variable c f g copy line → n ≡ variable_count c f g → line < line_count c → is_relevant c f g line ≡ true → IsVariable n x
  variable_within copy line x n is all h e = (
    omega (arith, is, line_variable-from copy line),
    omega (arith, is, all, line_variable-below copy line h e, few_of_lines),
  )

  -- the second copy's helpers follow the first's
  pub second_helper : (line : ℕ) → first_helper c f g Second line ≡ first_helper c f g First line + copy_helpers c f g First line
  unfolding first_helper
  second_helper line = refl

  -- ---- differences

  -- how many positions below one are reached
  abbrev pub reached_below : ℕ → ℕ
  reached_below at = count_by (is_reached c f g) (range_with_len 0 at)

  pub reached_more : (at : ℕ) (b : Bool) → is_reached c f g at ≡ b → reached_below (at + 1) ≡ reached_below at + (if b then 1 else 0)
  reached_more at b e = sum_by-range_more (λ n. if is_reached c f g n then 1 else 0) at ∙ ap (λ r. reached_below at + (if r then 1 else 0)) e

  pub length-reached : length (reached_positions c f g) ≡ reached_below (length c.positions)
  unfolding reached_positions
  length-reached = length-filter (is_reached c f g) (range_with_len 0 (length c.positions))

  pub first_difference : difference_variable c f g 0 ≡ 1 + variables_below c f g (line_count c) + helpers_below c f g (line_count c)
  unfolding difference_variable
  first_difference = omega arith

  pub difference-from : (at : ℕ) → 1 ≤ difference_variable c f g at
  unfolding difference_variable
  difference-from at = omega arith

  -- the difference of a reached position is a variable
  pub difference_below : (at : ℕ) → at < length c.positions → is_reached c f g at ≡ true → difference_variable c f g at ≤ variable_count c f g
  unfolding difference_variable variable_count
  difference_below at h e = omega (arith, reached_more at true e, sum_rises (λ n. if is_reached c f g n then 1 else 0) (at + 1) (length c.positions) (omega arith), length-reached)

  pub difference_within : (at x n : ℕ) → x ≡ difference_variable c f g at → n ≡ variable_count c f g → at < length c.positions → is_reached c f g at ≡ true → IsVariable n x
  difference_within at x n is all h e = (omega (arith, is, difference-from at), omega (arith, is, all, difference_below at h e))

  pub helpers_begin : first_helper c f g First 0 ≡ 1 + variables_below c f g (line_count c)
  unfolding first_helper
  helpers_begin = omega (arith, helpers_below-none)

  pub variables_in_all : variable_count c f g ≡ variables_below c f g (line_count c) + helpers_below c f g (line_count c) + length (reached_positions c f g)
  unfolding variable_count
  variables_in_all = refl

  -- ---- the relevant lines, listed

  module _ (lines : List ℕ) (are : lines ≡ relevant_lines c f g) where
    pub line_listed : (i : ℕ) → i < length lines → (get_or lines i 0 < line_count c) × (is_relevant c f g (get_or lines i 0) ≡ true)
    line_listed i inside = listed_relevant c f g (get_or lines i 0) (subst (λ xs. Contains xs (get_or lines i 0)) are (Contains-get_or lines i 0 inside))

    -- each relevant line has a place
    pub place_of_line : (line : ℕ) → line < line_count c → is_relevant c f g line ≡ true → (i : ℕ) × (i < length lines) × (get_or lines i 0 ≡ line)
    place_of_line line h e =
        let there = subst (λ xs. Contains xs line) (sym are) (relevant_listed c f g line h e) in
        (there.0, there.1, get_or_default lines there.0 0 line there.1 ∙ there.2)

    -- those before a line are the relevant ones below it
    pub lines_before : (i : ℕ) → i < length lines → take i lines ≡ passing_below (is_relevant c f g) (get_or lines i 0)
    unfolding relevant_lines
    lines_before i inside =
        ap (take i) are
        ∙ (listed_before (is_relevant c f g) (line_count c) i 0 (omega (arith, ap length are, inside))
        ∙ ap (λ xs. passing_below (is_relevant c f g) (get_or xs i 0)) (sym are))

    variables_before : (i : ℕ) → i < length lines → variables_below c f g (get_or lines i 0) ≡ sum_by (line_variables c f g) (take i lines)
    unfolding variables_below
    variables_before i inside =
        sym (ap (sum_by (line_variables c f g)) (lines_before i inside) ∙ sum_of_passing (is_relevant c f g) (line_variables c f g) variables_of_irrelevant (range_with_len 0 (get_or lines i 0)))

    pub variables_of_lines : variables_below c f g (line_count c) ≡ sum_by (line_variables c f g) lines
    unfolding variables_below relevant_lines
    variables_of_lines =
        sym (ap (sum_by (line_variables c f g)) are ∙ sum_of_passing (is_relevant c f g) (line_variables c f g) variables_of_irrelevant (range_with_len 0 (line_count c)))

    pub variable_at : (i : ℕ) → i < length lines → line_variable c f g First (get_or lines i 0) ≡ 1 + sum_by (line_variables c f g) (take i lines)
    variable_at i inside = first_variable (get_or lines i 0) ∙ ap (λ n. 1 + n) (variables_before i inside)

    pub few_before : IsCircuit c → (i : ℕ) → sum_by (line_variables c f g) (take i lines) < 2 ^ 31
    few_before w i = omega (arith, sum_by-take-le (line_variables c f g) lines i, variables_of_lines, few_line_variables w (line_count c) (omega arith))

    helpers_before : (i : ℕ) → i < length lines → helpers_below c f g (get_or lines i 0) ≡ sum_by (line_helpers c f g) (take i lines)
    unfolding helpers_below
    helpers_before i inside =
        sym (ap (sum_by (line_helpers c f g)) (lines_before i inside) ∙ sum_of_passing (is_relevant c f g) (line_helpers c f g) helpers_of_irrelevant (range_with_len 0 (get_or lines i 0)))

    pub helpers_of_lines : helpers_below c f g (line_count c) ≡ sum_by (line_helpers c f g) lines
    unfolding helpers_below relevant_lines
    helpers_of_lines =
        sym (ap (sum_by (line_helpers c f g)) are ∙ sum_of_passing (is_relevant c f g) (line_helpers c f g) helpers_of_irrelevant (range_with_len 0 (line_count c)))

    pub helper_at : (i : ℕ) → i < length lines → first_helper c f g First (get_or lines i 0) ≡ first_helper c f g First 0 + sum_by (line_helpers c f g) (take i lines)
    unfolding first_helper
    helper_at i inside = omega (arith, helpers_before i inside, helpers_below-none)

    pub few_helpers_before : IsCircuit c → (i : ℕ) → sum_by (line_helpers c f g) (take i lines) < 2 ^ 31
    few_helpers_before w i = omega (arith, sum_by-take-le (line_helpers c f g) lines i, helpers_of_lines, few_helpers_below w (line_count c) (omega arith))

  -- ---- the reached positions, listed

  module _ (positions : List ℕ) (are : positions ≡ reached_positions c f g) where
    pub position_listed : (i : ℕ) → i < length positions → (get_or positions i 0 < length c.positions) × (is_reached c f g (get_or positions i 0) ≡ true)
    position_listed i inside = listed_reached c f g (get_or positions i 0) (subst (λ xs. Contains xs (get_or positions i 0)) are (Contains-get_or positions i 0 inside))

    pub difference_at : (i : ℕ) → i < length positions → difference_variable c f g (get_or positions i 0) ≡ difference_variable c f g 0 + i
    unfolding difference_variable reached_positions
    difference_at i inside =
        let at = get_or positions i 0 in
        let before : take i positions ≡ passing_below (is_reached c f g) at =
        ap (take i) are ∙ (listed_before (is_reached c f g) (length c.positions) i 0 (omega (arith, ap length are, inside)) ∙ ap (λ xs. passing_below (is_reached c f g) (get_or xs i 0)) (sym are)) in
        let many : reached_below at ≡ i = sym (length-filter (is_reached c f g) (range_with_len 0 at)) ∙ (ap length (sym before) ∙ length-take-le i positions (omega arith)) in
        omega (arith, many)

  pub few_reached : length (reached_positions c f g) ≤ length c.positions
  few_reached = omega (arith, length-reached, count_by-le-length (is_reached c f g) (range_with_len 0 (length c.positions)), length-range_with_len 0 (length c.positions))
