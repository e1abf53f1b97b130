-- The literals of a miter have its variables.
use Rattle.std.proofs.Common.{◌≡◌, ◌≢◌, ◌∙◌, inl, inr, zero, suc, ℕ, ◌<◌, ◌+◌, ◌-◌, refl, sym, ap, subst, arith, length, get_or}
use Rattle.std.specs.Prelude.{Bool, true, false, not, List, [], ◌∷◌, ◌++◌, map, filter, flat_map, Option, None, Some, All, Contains, is_none, ◌||◌, slice_get, nat_lt, if◌then◌else◌}
use Rattle.std.specs.Option.{option_map_or}
use Rattle.std.proofs.lemmas.Bool.{not-true}
use Rattle.std.proofs.lemmas.List.Elements.{All-nil, All-cons, All-head, All-tail, All-append, All-map, All-filter, Contains-get_or, filter_passes}
use Rattle.std.proofs.lemmas.List.Kept.{AllPairs-cons, AllPairs-filter}
use Rattle.net_model.specs.declared.gate.Gate.{Gate}
use Rattle.net_model.specs.declared.gate.Kind.{Kind}
use Rattle.net_model.specs.declared.gate.Kind.TheVariants.{Xor}
use Rattle.net_model.specs.declared.operation.Fold.{Fold}
use Rattle.net_model.specs.declared.operation.Fold.TheVariants.{AllOf, AnyOf, OddOf}
use Rattle.net_model.specs.declared.operation.Operation.{Operation}
use Rattle.net_model.specs.declared.operation.Operation.TheVariants.{Folded, Chosen}
use Rattle.net_model.specs.declared.fault.Fault.{Fault}
use Rattle.net_model.specs.Gate.{operation_of, inverts}
use Rattle.net_model.specs.Circuit.{Circuit, IsCircuit, line_count, gate_at}
use Rattle.net_model.specs.Fault.{stuck_stem, stuck_position}
use Rattle.net_model.specs.Scope.{is_split, is_relevant, is_reached, relevant_lines, reached_positions}
use Rattle.net_model.proofs.Copies.{All-at, later}
use Rattle.net_model.proofs.Elements.{any_from, passing, first_or_later, Contains-from_filter}
use Rattle.net_model.proofs.Listed.{All-flat_map}
use Rattle.net_model.proofs.Relevance.{listed_relevant, listed_reached, relevant_shown}
use Rattle.clause_pool.specs.Literal.{Literal, pos_literal, neg_literal, opposite, same_literal}
use Rattle.clause_pool.specs.Clauses.{Clause}
use Rattle.pair_miter.specs.Operand.{Operand, constant, variable, is_constant}
use Rattle.pair_miter.specs.Variables.{fault_of, line_variable, first_helper, difference_variable, variable_count, is_parity, is_parity_fold, is_parity_operation}
use Rattle.pair_miter.specs.declared.side.Side.TheVariants.{First, Second}
use Rattle.pair_miter.specs.declared.side.Side.{Side}
use Rattle.pair_miter.specs.Rows.{variables, has_constant, has_odd_constants, signed_literal, with_each, with_all, decided_of, decided_rows, same_value, xor_of_two, xor_onward, xor_of, odd_rows, operand_literals, case_clause, case_rows, operand_at, chosen_rows, folded_rows, operation_rows, output_literal, gate_rows}
use Rattle.pair_miter.specs.Miter.{gate_operands, gate_clauses, stuck_clauses, copy_clauses, line_clauses, shown_operand, difference_clauses, lines_part, differences_part, raw_clauses, has_literal, without_repeats, is_tautology, tidy, miter}
use Rattle.pair_miter.specs.Marks.{IsOperand, AreHelpers}
use Rattle.clause_pool.specs.Proper.{IsVariable, HasVariablesUpTo, HasNoVariableTwice, IsProper}
use Rattle.clause_pool.proofs.Literals.{same_literal-same, opposite_opposite, same_or_opposite}
use Rattle.pair_miter.proofs.OperandSteps.{variables_within}
use Rattle.pair_miter.specs.Numbering.{HasCopy}
use Rattle.pair_miter.proofs.Differences.{difference_literal}
use Rattle.pair_miter.proofs.Numbers.{variable_within, difference_within}
use Rattle.pair_miter.proofs.Operands.{operand_within, operands_within, helpers_within}

-- ---- the rows of a gate

module _ (n : ℕ) where
  abbrev IsWithin : Literal → Type 0
  IsWithin l = IsVariable n l.variable

  one : (l : Literal) → IsWithin l → HasVariablesUpTo n (l ∷ [])
  one l h = All-cons IsWithin l [] h (All-nil IsWithin)

  two : (l m : Literal) → IsWithin l → IsWithin m → HasVariablesUpTo n (l ∷ m ∷ [])
  two l m h i = All-cons IsWithin l (m ∷ []) h (one m i)

  three : (l m k : Literal) → IsWithin l → IsWithin m → IsWithin k → HasVariablesUpTo n (l ∷ m ∷ k ∷ [])
  three l m k h i j = All-cons IsWithin l (m ∷ k ∷ []) h (two m k i j)

  single : (clause : Clause) → HasVariablesUpTo n clause → All (HasVariablesUpTo n) (clause ∷ [])
  single clause h = All-cons (HasVariablesUpTo n) clause [] h (All-nil (HasVariablesUpTo n))

  -- the clauses of a literal with each of some variables, and the clause of a literal with all of them
  each_within : (row : ℕ → Clause) (xs : List ℕ) → All (IsVariable n) xs → ((x : ℕ) → IsVariable n x → HasVariablesUpTo n (row x)) → All (HasVariablesUpTo n) (map row xs)
  each_within row xs all h = All-map (HasVariablesUpTo n) row xs (λ k d i. h (get_or xs k d) (all k d i))

  all_within : (y : Literal) (sign : ℕ → Literal) (xs : List ℕ) → IsWithin y → All (IsVariable n) xs → ((x : ℕ) → (sign x).variable ≡ x) → HasVariablesUpTo n (y ∷ map sign xs)
  all_within y sign xs h all same = All-cons IsWithin y (map sign xs) h (All-map IsWithin sign xs (λ k d i. subst (IsVariable n) (sym (same (get_or xs k d))) (all k d i)))

  decided_within : (decides : Bool) (l : Literal) (xs : List ℕ) → IsWithin l → All (IsVariable n) xs → All (HasVariablesUpTo n) (decided_of decides l xs)
  decided_within decides l xs h all =
      All-append (HasVariablesUpTo n) (with_each l (not decides) xs) (with_all (opposite l) decides xs ∷ [])
      (each_within (λ x. l ∷ signed_literal (not decides) x ∷ []) xs all (λ x i. two l (signed_literal (not decides) x) h i))
      (single (with_all (opposite l) decides xs) (all_within (opposite l) (signed_literal decides) xs h all (λ x. refl)))

  same_within : (y : Literal) (x : ℕ) → IsWithin y → IsVariable n x → All (HasVariablesUpTo n) (same_value y x)
  same_within y x h i = All-cons (HasVariablesUpTo n) (opposite y ∷ pos_literal x ∷ []) ((y ∷ neg_literal x ∷ []) ∷ []) (two (opposite y) (pos_literal x) h i) (single (y ∷ neg_literal x ∷ []) (two y (neg_literal x) h i))

  xor_two_within : (a b c : Literal) → IsWithin a → IsWithin b → IsWithin c → All (HasVariablesUpTo n) (xor_of_two a b c)
  xor_two_within a b c h i j =
      let last = single (a ∷ b ∷ opposite c ∷ []) (three a b (opposite c) h i j) in
      let third = All-cons (HasVariablesUpTo n) (a ∷ opposite b ∷ c ∷ []) ((a ∷ b ∷ opposite c ∷ []) ∷ []) (three a (opposite b) c h i j) last in
      let second = All-cons (HasVariablesUpTo n) (opposite a ∷ opposite b ∷ opposite c ∷ []) ((a ∷ opposite b ∷ c ∷ []) ∷ (a ∷ b ∷ opposite c ∷ []) ∷ []) (three (opposite a) (opposite b) (opposite c) h i j) third in
      All-cons (HasVariablesUpTo n) (opposite a ∷ b ∷ c ∷ []) ((opposite a ∷ opposite b ∷ opposite c ∷ []) ∷ (a ∷ opposite b ∷ c ∷ []) ∷ (a ∷ b ∷ opposite c ∷ []) ∷ []) (three (opposite a) b c h i j) second

  onward_within : (y : Literal) (helper : ℕ) (before : Literal) (xs : List ℕ) → IsWithin y → IsWithin before → All (IsVariable n) xs → AreHelpers n helper (length xs + 1) → All (HasVariablesUpTo n) (xor_onward y helper before xs)
  onward_within y helper before [] h i all helpers = All-nil (HasVariablesUpTo n)
  onward_within y helper before (x ∷ []) h i all helpers = xor_two_within y before (pos_literal x) h i (All-head (IsVariable n) x [] all)
  onward_within y helper before (x ∷ x' ∷ xs) h i all helpers =
      let own = helpers (omega arith) in
      let here : IsVariable n helper = (own.0, omega (arith, own.1)) in
      All-append (HasVariablesUpTo n) (xor_of_two (pos_literal helper) before (pos_literal x)) (xor_onward y (helper + 1) (pos_literal helper) (x' ∷ xs))
      (xor_two_within (pos_literal helper) before (pos_literal x) here i (All-head (IsVariable n) x (x' ∷ xs) all))
      (onward_within y (helper + 1) (pos_literal helper) (x' ∷ xs) h here (All-tail (IsVariable n) x (x' ∷ xs) all) (λ many. (omega arith, omega (arith, own.1))))

  xor_within : (y : Literal) (helper : ℕ) (xs : List ℕ) → IsWithin y → All (IsVariable n) xs → AreHelpers n helper (length xs) → All (HasVariablesUpTo n) (xor_of y helper xs)
  xor_within y helper [] h all helpers = single (opposite y ∷ []) (one (opposite y) h)
  xor_within y helper (x ∷ []) h all helpers = same_within y x h (All-head (IsVariable n) x [] all)
  xor_within y helper (x ∷ x' ∷ xs) h all helpers =
      onward_within y helper (pos_literal x) (x' ∷ xs) h (All-head (IsVariable n) x (x' ∷ xs) all) (All-tail (IsVariable n) x (x' ∷ xs) all)
      (λ many. let own = helpers (omega (arith, many)) in (own.0, omega (arith, own.1)))

  decided_rows_within : (decides : Bool) (l : Literal) (operands : List Operand) → IsWithin l → All (IsOperand n) operands → All (HasVariablesUpTo n) (decided_rows decides l operands)
  decided_rows_within decides l operands h all = by (has_constant decides operands)
    where
      by : (b : Bool) → All (HasVariablesUpTo n) (if b then (l ∷ []) ∷ [] else decided_of decides l (variables operands))
      by true = single (l ∷ []) (one l h)
      by false = decided_within decides l (variables operands) h (variables_within n operands all)

  odd_rows_within : (y : Literal) (helper : ℕ) (operands : List Operand) → IsWithin y → All (IsOperand n) operands → AreHelpers n helper (length (variables operands)) → All (HasVariablesUpTo n) (odd_rows y helper operands)
  odd_rows_within y helper operands h all helpers = by (has_odd_constants operands)
    where
      by : (b : Bool) → All (HasVariablesUpTo n) (xor_of (if b then opposite y else y) helper (variables operands))
      by true = xor_within (opposite y) helper (variables operands) h (variables_within n operands all) helpers
      by false = xor_within y helper (variables operands) h (variables_within n operands all) helpers

  literals_within : (positive : Bool) (operand : Operand) → IsOperand n operand → HasVariablesUpTo n (operand_literals positive operand)
  literals_within positive (constant bit) h = All-nil IsWithin
  literals_within positive (variable x) h = one (signed_literal positive x) h

  case_clause_within : (l : Literal) (unless : Bool) (chooser : Operand) (positive : Bool) (chosen : Operand) → IsWithin l → IsOperand n chooser → IsOperand n chosen
      → All (HasVariablesUpTo n) (case_clause l unless chooser positive chosen)
  case_clause_within l unless chooser positive chosen h i j = by (is_constant unless chooser || is_constant positive chosen)
    where
      by : (b : Bool) → All (HasVariablesUpTo n) (if b then [] else (l ∷ operand_literals unless chooser ++ operand_literals positive chosen) ∷ [])
      by true = All-nil (HasVariablesUpTo n)
      by false =
          single (l ∷ operand_literals unless chooser ++ operand_literals positive chosen)
          (All-cons IsWithin l (operand_literals unless chooser ++ operand_literals positive chosen) h
          (All-append IsWithin (operand_literals unless chooser) (operand_literals positive chosen) (literals_within unless chooser i) (literals_within positive chosen j)))

  case_rows_within : (y : Literal) (unless : Bool) (chooser chosen : Operand) → IsWithin y → IsOperand n chooser → IsOperand n chosen → All (HasVariablesUpTo n) (case_rows y unless chooser chosen)
  case_rows_within y unless chooser chosen h i j =
      All-append (HasVariablesUpTo n) (case_clause (opposite y) unless chooser true chosen) (case_clause y unless chooser false chosen)
      (case_clause_within (opposite y) unless chooser true chosen h i j) (case_clause_within y unless chooser false chosen h i j)

  pub operand_at_within : (operands : List Operand) (place : ℕ) → All (IsOperand n) operands → IsOperand n (operand_at operands place)
  operand_at_within [] place all = tt
  operand_at_within (operand ∷ operands) zero all = All-head (IsOperand n) operand operands all
  operand_at_within (operand ∷ operands) (suc place) all = operand_at_within operands place (All-tail (IsOperand n) operand operands all)

  chosen_rows_within : (y : Literal) (operands : List Operand) → IsWithin y → All (IsOperand n) operands → All (HasVariablesUpTo n) (chosen_rows y operands)
  chosen_rows_within y operands h all =
      let s = operand_at operands 0 in
      let a = operand_at operands 1 in
      let b = operand_at operands 2 in
      All-append (HasVariablesUpTo n) (case_rows y true s a) (case_rows y false s b)
      (case_rows_within y true s a h (operand_at_within operands 0 all) (operand_at_within operands 1 all))
      (case_rows_within y false s b h (operand_at_within operands 0 all) (operand_at_within operands 2 all))

  folded_within : (fold : Fold) (y : Literal) (helper : ℕ) (operands : List Operand) → IsWithin y → All (IsOperand n) operands → (is_parity_fold fold ≡ true → AreHelpers n helper (length (variables operands)))
      → All (HasVariablesUpTo n) (folded_rows fold y helper operands)
  folded_within AllOf y helper operands h all helpers = decided_rows_within false (opposite y) operands h all
  folded_within AnyOf y helper operands h all helpers = decided_rows_within true y operands h all
  folded_within OddOf y helper operands h all helpers = odd_rows_within y helper operands h all (helpers refl)

  operation_within : (operation : Operation) (y : Literal) (helper : ℕ) (operands : List Operand) → IsWithin y → All (IsOperand n) operands
      → (is_parity_operation operation ≡ true → AreHelpers n helper (length (variables operands))) → All (HasVariablesUpTo n) (operation_rows operation y helper operands)
  operation_within (Folded fold) y helper operands h all helpers = folded_within fold y helper operands h all helpers
  operation_within Chosen y helper operands h all helpers = chosen_rows_within y operands h all

  rows_within : (kind : Kind) (y helper : ℕ) (operands : List Operand) → IsVariable n y → All (IsOperand n) operands → (is_parity kind ≡ true → AreHelpers n helper (length (variables operands)))
      → All (HasVariablesUpTo n) (gate_rows kind y helper operands)
  unfolding gate_rows
  rows_within kind y helper operands h all helpers = operation_within (operation_of kind) (output_literal (inverts kind) y) helper operands h all helpers

-- ---- the clauses of lines and positions

module _ (c : Circuit) (f g : Fault) (w : IsCircuit c) where
  abbrev n : ℕ
  n = variable_count c f g

  gate_inside : (line : ℕ) (gate : Gate) → gate_at c line ≡ Some gate → All (λ read. read < line_count c) gate.pins
  gate_inside line gate e = by (nat_lt line c.sources) e
    where
      by : (b : Bool) → (if b then None else slice_get c.gates (line - c.sources)) ≡ Some gate → All (λ read. read < line_count c) gate.pins
      by true e = absurd (let x : ◌≡◌ {A = Option Gate} None (Some gate) = e in cc)
      by false e = All-at (λ g. All (λ read. read < line_count c) g.pins) c.gates (line - c.sources) gate w.pins e

  copy_within : (copy : Side) (line : ℕ) → HasCopy c f g copy line → line < line_count c → is_relevant c f g line ≡ true → All (HasVariablesUpTo n) (copy_clauses c f g copy line)
  unfolding copy_clauses
  copy_within copy line own h e = by (stuck_stem (fault_of c f g copy) line) refl
    where
      y : ℕ
      y = line_variable c f g copy line

      output : IsVariable n (line_variable c f g copy line)
      output = variable_within c f g copy line (line_variable c f g copy line) (variable_count c f g) refl refl h e

      gate_by : (o : Option Gate) → gate_at c line ≡ o → stuck_stem (fault_of c f g copy) line ≡ None → All (HasVariablesUpTo n) (option_map_or (gate_clauses c f g copy line) o [])
      gate_by None is free = All-nil (HasVariablesUpTo n)
      gate_by (Some gate) is free =
          rows_within n gate.kind (line_variable c f g copy line) (first_helper c f g copy line) (gate_operands c f g copy line gate) output
          (operands_within c f g copy line w.acyclic gate (ap (λ o. option_map_or (λ (x : Gate). x.pins) o []) is) (gate_inside line gate is) e)
          (λ parity. helpers_within c f g copy line own h e gate is (ap is_none free) parity)

      by : (o : Option Bool) → stuck_stem (fault_of c f g copy) line ≡ o → All (HasVariablesUpTo n) (option_map_or (stuck_clauses c f g copy line) o (option_map_or (gate_clauses c f g copy line) (gate_at c line) []))
      by (Some bit) is = single n (signed_literal bit (line_variable c f g copy line) ∷ []) (one n (signed_literal bit (line_variable c f g copy line)) output)
      by None is = gate_by (gate_at c line) refl is

  line_within : (line : ℕ) → line < line_count c → is_relevant c f g line ≡ true → All (HasVariablesUpTo n) (line_clauses c f g line)
  unfolding line_clauses
  line_within line h e =
      All-append (HasVariablesUpTo n) (copy_clauses c f g First line) (if is_split c f g line then copy_clauses c f g Second line else []) (copy_within First line tt h e) (by (is_split c f g line) refl)
    where
      by : (b : Bool) → is_split c f g line ≡ b → All (HasVariablesUpTo n) (if b then copy_clauses c f g Second line else [])
      by true split = copy_within Second line split h e
      by false split = All-nil (HasVariablesUpTo n)

  difference_rows_within : (at : ℕ) → at < length c.positions → is_reached c f g at ≡ true → All (HasVariablesUpTo n) (difference_clauses c f g at)
  unfolding difference_clauses
  difference_rows_within at h e =
      rows_within n Xor (difference_variable c f g at) 0 (shown_operand c f g at First ∷ shown_operand c f g at Second ∷ [])
      (difference_within c f g at (difference_variable c f g at) (variable_count c f g) refl refl h e)
      (All-cons (IsOperand n) (shown_operand c f g at First) (shown_operand c f g at Second ∷ []) (shown First)
      (All-cons (IsOperand n) (shown_operand c f g at Second) [] (shown Second) (All-nil (IsOperand n))))
      (λ parity many. absurd (few (shown_operand c f g at First) (shown_operand c f g at Second) many))
    where
      shown : (copy : Side) → IsOperand n (shown_operand c f g at copy)
      shown copy = operand_within c f g copy (get_or c.positions at 0) (stuck_position (fault_of c f g copy) at) (get_or c.positions at 0) (w.positions at 0 h) (relevant_shown c f g at h e)

      few : (a b : Operand) → 2 < length (variables (a ∷ b ∷ [])) → ⊥
      few (constant x) (constant y) many = omega (arith, many)
      few (constant x) (variable y) many = omega (arith, many)
      few (variable x) (constant y) many = omega (arith, many)
      few (variable x) (variable y) many = omega (arith, many)

  pub raw_within : All (HasVariablesUpTo n) (raw_clauses c f g)
  unfolding raw_clauses
  raw_within =
      let rows = flat_map (difference_clauses c f g) (reached_positions c f g) in
      let last = map (difference_literal c f g) (reached_positions c f g) in
      let reached : (k : ℕ) (d : ℕ) → k < length (reached_positions c f g) → (get_or (reached_positions c f g) k d < length c.positions) × (is_reached c f g (get_or (reached_positions c f g) k d) ≡ true) =
      λ k d h. listed_reached c f g (get_or (reached_positions c f g) k d) (Contains-get_or (reached_positions c f g) k d h) in
      All-append (HasVariablesUpTo n) (lines_part c f g) (differences_part c f g)
      (All-flat_map (HasVariablesUpTo n) (line_clauses c f g) (relevant_lines c f g)
      (λ k d h. let listed = listed_relevant c f g (get_or (relevant_lines c f g) k d) (Contains-get_or (relevant_lines c f g) k d h) in line_within (get_or (relevant_lines c f g) k d) listed.0 listed.1))
      (All-append (HasVariablesUpTo n) rows (last ∷ [])
      (All-flat_map (HasVariablesUpTo n) (difference_clauses c f g) (reached_positions c f g) (λ k d h. let at = reached k d h in difference_rows_within (get_or (reached_positions c f g) k d) at.0 at.1))
      (single n last
      (All-map (IsWithin n) (difference_literal c f g) (reached_positions c f g)
      (λ k d h.
      let at = get_or (reached_positions c f g) k d in
      let is = reached k d h in
      difference_within c f g at (difference_variable c f g at) (variable_count c f g) refl refl is.0 is.1))))

-- a clause without repeats is within if the clause is
once_within : (n : ℕ) (clause : Clause) → HasVariablesUpTo n clause → HasVariablesUpTo n (without_repeats clause)
once_within n [] h = h
once_within n (l ∷ ls) h =
    All-cons (λ (m : Literal). IsVariable n m.variable) l (filter (λ m. not (same_literal l m)) (without_repeats ls)) (All-head (λ (m : Literal). IsVariable n m.variable) l ls h)
    (All-filter (λ m. not (same_literal l m)) (λ (m : Literal). IsVariable n m.variable) (without_repeats ls) (once_within n ls (All-tail (λ (m : Literal). IsVariable n m.variable) l ls h)))

-- ---- no variable twice

opposite_or_not : (l m : Literal) → l.variable ≡ m.variable → same_literal l m ≡ false → opposite l ≡ m
opposite_or_not l m e other = elim (same_or_opposite l m e) [
  | inl same ↦ absurd (let t = same_literal-same l m same in let w : ◌≡◌ {A = Bool} true false = sym t ∙ other in cc)
  | inr turned ↦ ap opposite turned.0 ∙ opposite_opposite m
]

-- in a clause without opposite literals the first literal has another variable than each literal that differs from it
first_apart : (l : Literal) (ls : Clause) → is_tautology (l ∷ ls) ≡ false → All (λ (m : Literal). l.variable ≢ m.variable) (filter (λ m. not (same_literal l m)) (without_repeats ls))
first_apart l ls none k d h e =
    let kept = filter (λ m. not (same_literal l m)) (without_repeats ls) in
    let m = get_or kept k d in
    let parts = Contains-from_filter (λ m. not (same_literal l m)) (without_repeats ls) m (Contains-get_or kept k d h) in
    let turned = opposite_or_not l m e (not-true (same_literal l m) parts.1) in
    let there : has_literal (l ∷ ls) (opposite l) ≡ true = any_from (same_literal (opposite l)) (l ∷ ls) m (later l ls m (from_once ls m parts.0)) (same_literal-same (opposite l) m turned) in
    let all = any_from (λ x. has_literal (l ∷ ls) (opposite x)) (l ∷ ls) l (0, omega arith, refl) there in
    let w : ◌≡◌ {A = Bool} true false = sym all ∙ none in
    cc
  where
    from_once : (ls : Clause) (m : Literal) → Contains (without_repeats ls) m → Contains ls m
    from_once [] m h = h
    from_once (x ∷ xs) m h = elim (first_or_later x (filter (λ n. not (same_literal x n)) (without_repeats xs)) m h) [
      | inl here ↦ (0, omega arith, here)
      | inr further ↦ later x xs m (from_once xs m (Contains-from_filter (λ n. not (same_literal x n)) (without_repeats xs) m further).0)
    ]

fewer_opposites : (l : Literal) (ls : Clause) → is_tautology (l ∷ ls) ≡ false → is_tautology ls ≡ false
fewer_opposites l ls none = by (is_tautology ls) refl
  where
    by : (b : Bool) → is_tautology ls ≡ b → is_tautology ls ≡ false
    by false e = e
    by true e =
        let found = passing (λ x. has_literal ls (opposite x)) ls e in
        let other = passing (same_literal (opposite found.0)) ls found.2 in
        let there = any_from (same_literal (opposite found.0)) (l ∷ ls) other.0 (later l ls other.0 other.1) other.2 in
        let all = any_from (λ x. has_literal (l ∷ ls) (opposite x)) (l ∷ ls) found.0 (later l ls found.0 found.1) there in
        let w : ◌≡◌ {A = Bool} true false = sym all ∙ none in
        cc

once_apart : (clause : Clause) → is_tautology clause ≡ false → HasNoVariableTwice (without_repeats clause)
once_apart [] none = λ i j d low h. absurd (omega (arith, h))
once_apart (l ∷ ls) none =
    let apart : Literal → Literal → Type 0 = λ x m. x.variable ≢ m.variable in
    AllPairs-cons apart l (filter (λ m. not (same_literal l m)) (without_repeats ls)) (first_apart l ls none)
    (AllPairs-filter apart (λ m. not (same_literal l m)) (without_repeats ls) (once_apart ls (fewer_opposites l ls none)))

pub miter_proper : (c : Circuit) (f g : Fault) → IsCircuit c → All (IsProper (variable_count c f g)) (miter c f g)
unfolding miter tidy
miter_proper c f g w =
    let n = variable_count c f g in
    let raw = raw_clauses c f g in
    let test = λ (clause : Clause). not (is_tautology clause) in
    let kept = filter test raw in
    All-map (IsProper n) without_repeats kept
    (λ k d h. record {
      inside = once_within n (get_or kept k d) (All-filter test (HasVariablesUpTo n) raw (raw_within c f g w) k d h);
      once = once_apart (get_or kept k d) (not-true (is_tautology (get_or kept k d)) (filter_passes test raw k d h));
    })
