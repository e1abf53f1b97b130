-- The rows of a gate hold exactly if the output has the gate's value of what the operands carry. Only an exclusive or
-- of three or more variables asks more of an assignment: that the helpers carry the partial results.
use Rattle.std.proofs.Common.{◌≡◌, refl, sym, ap, ◌∙◌, subst, ℕ, zero, suc, ◌+◌, ◌-◌, ◌<◌, arith}
use Rattle.std.specs.Prelude.{Bool, true, false, not, List, [], ◌∷◌, ◌++◌, length, map, slice_index_or, ◌||◌, ◌&&◌, if◌then◌else◌}
use Rattle.std.specs.Bool.{beq}
use Rattle.std.specs.List.{list_any}
use Rattle.std.proofs.lemmas.List.Folds.{list_all-append, list_any-append}
use Rattle.std.proofs.Math.Bool.{or-true, or-false}
use Rattle.std.proofs.lemmas.Bool.{and_parts, and_from}
use Rattle.net_model.specs.declared.gate.Kind.{Kind}
use Rattle.net_model.specs.declared.operation.Fold.{Fold}
use Rattle.net_model.specs.declared.operation.Fold.TheVariants.{AllOf, AnyOf, OddOf}
use Rattle.net_model.specs.declared.operation.Operation.{Operation}
use Rattle.net_model.specs.declared.operation.Operation.TheVariants.{Folded, Chosen}
use Rattle.net_model.specs.Gate.{all_ones, some_one, odd_ones, chosen_bit, folded_bit, operation_value, operation_of, inverts, gate_value, inverted}
use Rattle.net_model.specs.Answer.{bit_at}
use Rattle.net_model.proofs.Elements.{odd_one}
use Rattle.clause_pool.specs.Literal.{Literal, pos_literal, opposite}
use Rattle.pair_miter.specs.Variables.{is_parity, is_parity_fold, is_parity_operation}
use Rattle.pair_miter.specs.Operand.{Operand, constant, variable, is_constant}
use Rattle.pair_miter.specs.Rows.{variables, has_constant, has_odd_constants, signed_literal, with_each, decided_of, decided_rows, same_value, xor_of_two, xor_onward, xor_of, odd_rows, operand_literals, case_clause, case_rows, operand_at, chosen_rows, folded_rows, operation_rows, output_literal, gate_rows}
use Rattle.pair_miter.specs.Miter.{literal_bit, is_satisfied_by, is_model}
use Rattle.pair_miter.proofs.TidyAndFresh.{opposite_bit}
use Rattle.pair_miter.proofs.Bits.{holds, holds-is, is-holds, inverted-assoc, inverted-inner, inverted_back, inverted_on, odd_count-cons, odd_ones-cons}

-- what an operand carries
abbrev pub operand_value : List Bool → Operand → Bool
operand_value bits (constant b) = b
operand_value bits (variable x) = bit_at bits (x - 1)

-- ---- helpers

-- the partial results of an exclusive or except the last, starting with a bit
abbrev pub parts : Bool → List Bool → List Bool
parts b [] = []
parts b (v ∷ []) = []
parts b (v ∷ v' ∷ vs) = inverted b v ∷ parts (inverted b v) (v' ∷ vs)

-- what the helpers of an exclusive or of these bits carry
abbrev pub helper_bits : List Bool → List Bool
helper_bits [] = []
helper_bits (v ∷ vs) = parts v vs

length-parts : (b v : Bool) (vs : List Bool) → length (parts b (v ∷ vs)) ≡ length vs
length-parts b v [] = refl
length-parts b v (v' ∷ vs) = ap suc (length-parts (inverted b v) v' vs)

pub length-helper_bits : (vs : List Bool) → length (helper_bits vs) ≡ length vs - 2
length-helper_bits [] = refl
length-helper_bits (v ∷ []) = refl
length-helper_bits (v ∷ v' ∷ vs) = length-parts v v' vs ∙ (let e : length vs ≡ length (v ∷ v' ∷ vs) - 2 = omega arith in e)

module _ (bits : List Bool) where
  -- the variables starting at this one carry these bits
  abbrev pub Carry : ℕ → List Bool → Type 0
  Carry helper carried = (k : ℕ) → k < length carried → bit_at bits (helper + k - 1) ≡ bit_at carried k

  abbrev pub variable_bits : List ℕ → List Bool
  variable_bits xs = map (λ x. bit_at bits (x - 1)) xs

  -- ---- all and any

  or_not_step : (y u v a : Bool) → u ≡ not v → ((y || (u || false)) && (y || not a)) ≡ (y || not (v || a))
  or_not_step true u v a e = refl
  or_not_step false true true a e = cc
  or_not_step false true false a e = refl
  or_not_step false false true a e = refl
  or_not_step false false false a e = cc

  not_holds : (d v : Bool) → holds (not d) v ≡ not (holds d v)
  not_holds true v = refl
  not_holds false true = refl
  not_holds false false = refl

  -- whether some variable carries the deciding value
  is_decided : Bool → List Bool → Bool
  is_decided decides vs = list_any (holds decides) vs

  each_decides : (decides : Bool) (l : Literal) (xs : List ℕ) → is_model bits (with_each l (not decides) xs) ≡ (literal_bit bits l || not (is_decided decides (variable_bits xs)))
  unfolding is_decided
  each_decides decides l [] = sym (or-true (literal_bit bits l))
  each_decides decides l (x ∷ xs) =
      ap (λ b. (literal_bit bits l || (holds (not decides) (bit_at bits (x - 1)) || false)) && b) (each_decides decides l xs)
      ∙ or_not_step (literal_bit bits l) (holds (not decides) (bit_at bits (x - 1))) (holds decides (bit_at bits (x - 1))) (list_any (holds decides) (variable_bits xs)) (not_holds decides (bit_at bits (x - 1)))

  some_decides : (decides : Bool) (xs : List ℕ) → list_any (literal_bit bits) (map (signed_literal decides) xs) ≡ is_decided decides (variable_bits xs)
  unfolding is_decided
  some_decides decides [] = refl
  some_decides decides (x ∷ xs) = ap (λ b. holds decides (bit_at bits (x - 1)) || b) (some_decides decides xs)

  decided_table : (y a : Bool) → ((y || not a) && ((not y || a) && true)) ≡ holds y a
  decided_table true true = refl
  decided_table true false = refl
  decided_table false true = refl
  decided_table false false = refl

  decided_of-holds : (decides : Bool) (l : Literal) (xs : List ℕ) → is_model bits (decided_of decides l xs) ≡ holds (literal_bit bits l) (is_decided decides (variable_bits xs))
  decided_of-holds decides l xs =
      list_all-append (is_satisfied_by bits) (with_each l (not decides) xs) ((opposite l ∷ map (signed_literal decides) xs) ∷ [])
      ∙ (λ i. each_decides decides l xs i && ((opposite_bit bits l i || some_decides decides xs i) && true))
      ∙ decided_table (literal_bit bits l) (is_decided decides (variable_bits xs))

  pub unit_true : (y : Literal) → is_model bits ((y ∷ []) ∷ []) ≡ holds (literal_bit bits y) true
  unit_true y = by (literal_bit bits y)
    where
      by : (b : Bool) → ((b || false) && true) ≡ holds b true
      by true = refl
      by false = refl

  pub unit_false : (y : Literal) → is_model bits ((opposite y ∷ []) ∷ []) ≡ holds (literal_bit bits y) false
  unit_false y = (λ i. (opposite_bit bits y i || false) && true) ∙ by (literal_bit bits y)
    where
      by : (b : Bool) → ((not b || false) && true) ≡ holds b false
      by true = refl
      by false = refl

  or_through : (v h a : Bool) → (v || (if h then true else a)) ≡ (if h then true else (v || a))
  or_through true true a = refl
  or_through true false a = refl
  or_through false h a = refl

  decided_operands : (decides : Bool) (operands : List Operand) → is_decided decides (map (operand_value bits) operands) ≡ (if has_constant decides operands then true else is_decided decides (variable_bits (variables operands)))
  unfolding is_decided
  decided_operands decides [] = refl
  decided_operands true (constant true ∷ operands) = refl
  decided_operands true (constant false ∷ operands) = decided_operands true operands
  decided_operands false (constant true ∷ operands) = decided_operands false operands
  decided_operands false (constant false ∷ operands) = refl
  decided_operands decides (variable x ∷ operands) =
      ap (λ b. holds decides (bit_at bits (x - 1)) || b) (decided_operands decides operands)
      ∙ or_through (holds decides (bit_at bits (x - 1))) (has_constant decides operands) (is_decided decides (variable_bits (variables operands)))

  decided_rows-holds : (decides : Bool) (l : Literal) (operands : List Operand) → is_model bits (decided_rows decides l operands) ≡ holds (literal_bit bits l) (is_decided decides (map (operand_value bits) operands))
  decided_rows-holds decides l operands = by (has_constant decides operands) ∙ ap (holds (literal_bit bits l)) (sym (decided_operands decides operands))
    where
      by : (b : Bool) → is_model bits (if b then (l ∷ []) ∷ [] else decided_of decides l (variables operands)) ≡ holds (literal_bit bits l) (if b then true else is_decided decides (variable_bits (variables operands)))
      by true = unit_true l
      by false = decided_of-holds decides l (variables operands)

  -- all are 1 exactly if none is 0
  none_is_zero : (vs : List Bool) → not (is_decided false vs) ≡ all_ones vs
  unfolding is_decided
  none_is_zero [] = refl
  none_is_zero (true ∷ vs) = none_is_zero vs
  none_is_zero (false ∷ vs) = refl

  one_is_one : (vs : List Bool) → is_decided true vs ≡ some_one vs
  unfolding is_decided
  one_is_one [] = refl
  one_is_one (v ∷ vs) = ap (λ b. v || b) (one_is_one vs)

  holds-not : (a b : Bool) → holds (not a) b ≡ holds a (not b)
  holds-not true b = refl
  holds-not false true = refl
  holds-not false false = refl

  all_rows-holds : (y : Literal) (operands : List Operand) → is_model bits (decided_rows false (opposite y) operands) ≡ holds (literal_bit bits y) (all_ones (map (operand_value bits) operands))
  all_rows-holds y operands =
      let values = map (operand_value bits) operands in
      decided_rows-holds false (opposite y) operands
      ∙ (ap (λ b. holds b (is_decided false values)) (opposite_bit bits y)
      ∙ (holds-not (literal_bit bits y) (is_decided false values) ∙ ap (holds (literal_bit bits y)) (none_is_zero values)))

  any_rows-holds : (y : Literal) (operands : List Operand) → is_model bits (decided_rows true y operands) ≡ holds (literal_bit bits y) (some_one (map (operand_value bits) operands))
  any_rows-holds y operands = decided_rows-holds true y operands ∙ ap (holds (literal_bit bits y)) (one_is_one (map (operand_value bits) operands))

  -- ---- one variable

  same_table : (y v : Bool) → ((not y || (v || false)) && ((y || (not v || false)) && true)) ≡ holds y v
  same_table true true = refl
  same_table true false = refl
  same_table false true = refl
  same_table false false = refl

  same_value-holds : (y : Literal) (x : ℕ) → is_model bits (same_value y x) ≡ holds (literal_bit bits y) (bit_at bits (x - 1))
  same_value-holds y x =
      (λ i. (opposite_bit bits y i || (bit_at bits (x - 1) || false)) && ((literal_bit bits y || (not (bit_at bits (x - 1)) || false)) && true))
      ∙ same_table (literal_bit bits y) (bit_at bits (x - 1))

  -- ---- exclusive or

  lone : (b : Bool) → ((b || false) && true) ≡ b
  lone true = refl
  lone false = refl

  two_table : (a b c : Bool) → ((not a || (b || (c || false))) && ((not a || (not b || (not c || false))) && ((a || (not b || (c || false))) && ((a || (b || (not c || false))) && true)))) ≡ holds a (inverted b c)
  two_table true true c = lone (not c)
  two_table true false c = lone c
  two_table false true true = refl
  two_table false true false = refl
  two_table false false c = lone (not c)

  xor_of_two-holds : (a b c : Literal) → is_model bits (xor_of_two a b c) ≡ holds (literal_bit bits a) (inverted (literal_bit bits b) (literal_bit bits c))
  xor_of_two-holds a b c =
      (λ i. (opposite_bit bits a i || (literal_bit bits b || (literal_bit bits c || false)))
      && ((opposite_bit bits a i || (opposite_bit bits b i || (opposite_bit bits c i || false)))
      && ((literal_bit bits a || (opposite_bit bits b i || (literal_bit bits c || false)))
      && ((literal_bit bits a || (literal_bit bits b || (opposite_bit bits c i || false))) && true))))
      ∙ two_table (literal_bit bits a) (literal_bit bits b) (literal_bit bits c)

  xor_onward-sound : (y : Literal) (helper : ℕ) (before : Literal) (x : ℕ) (xs : List ℕ) → is_model bits (xor_onward y helper before (x ∷ xs)) ≡ true
      → literal_bit bits y ≡ inverted (literal_bit bits before) (odd_ones (variable_bits (x ∷ xs)))
  xor_onward-sound y helper before x [] e =
      holds-is (literal_bit bits y) (inverted (literal_bit bits before) (bit_at bits (x - 1))) (sym (xor_of_two-holds y before (pos_literal x)) ∙ e)
      ∙ ap (inverted (literal_bit bits before)) (sym (odd_one (bit_at bits (x - 1))))
  xor_onward-sound y helper before x (x' ∷ xs) e =
      let two = xor_of_two (pos_literal helper) before (pos_literal x) in
      let rest = xor_onward y (helper + 1) (pos_literal helper) (x' ∷ xs) in
      let both = and_parts (is_model bits two) (is_model bits rest) (sym (list_all-append (is_satisfied_by bits) two rest) ∙ e) in
      let b = literal_bit bits before in
      let v = bit_at bits (x - 1) in
      let odd = odd_ones (variable_bits (x' ∷ xs)) in
      let part : bit_at bits (helper - 1) ≡ inverted b v = holds-is (bit_at bits (helper - 1)) (inverted b v) (sym (xor_of_two-holds (pos_literal helper) before (pos_literal x)) ∙ both.0) in
      xor_onward-sound y (helper + 1) (pos_literal helper) x' xs both.1
      ∙ (ap (λ h. inverted h odd) part
      ∙ (inverted-assoc b v odd
      ∙ ap (inverted b) (sym (odd_ones-cons v (variable_bits (x' ∷ xs))))))

  carry_rest : (helper : ℕ) (b : Bool) (rest : List Bool) → Carry helper (b ∷ rest) → Carry (helper + 1) rest
  carry_rest helper b rest h k below = ap (bit_at bits) (let e : (helper + 1) + k - 1 ≡ helper + suc k - 1 = omega arith in e) ∙ h (suc k) (omega arith)

  xor_onward-complete : (y : Literal) (helper : ℕ) (before : Literal) (x : ℕ) (xs : List ℕ) → Carry helper (parts (literal_bit bits before) (variable_bits (x ∷ xs)))
      → literal_bit bits y ≡ inverted (literal_bit bits before) (odd_ones (variable_bits (x ∷ xs))) → is_model bits (xor_onward y helper before (x ∷ xs)) ≡ true
  xor_onward-complete y helper before x [] carry e =
      xor_of_two-holds y before (pos_literal x)
      ∙ is-holds (literal_bit bits y) (inverted (literal_bit bits before) (bit_at bits (x - 1))) (e ∙ ap (inverted (literal_bit bits before)) (odd_one (bit_at bits (x - 1))))
  xor_onward-complete y helper before x (x' ∷ xs) carry e =
      let two = xor_of_two (pos_literal helper) before (pos_literal x) in
      let rest = xor_onward y (helper + 1) (pos_literal helper) (x' ∷ xs) in
      let b = literal_bit bits before in
      let v = bit_at bits (x - 1) in
      let odd = odd_ones (variable_bits (x' ∷ xs)) in
      let part : bit_at bits (helper - 1) ≡ inverted b v = ap (bit_at bits) (let e : helper - 1 ≡ helper + 0 - 1 = omega arith in e) ∙ carry 0 (omega arith) in
      list_all-append (is_satisfied_by bits) two rest
      ∙ and_from (is_model bits two) (is_model bits rest)
      (xor_of_two-holds (pos_literal helper) before (pos_literal x) ∙ is-holds (bit_at bits (helper - 1)) (inverted b v) part)
      (xor_onward-complete y (helper + 1) (pos_literal helper) x' xs
      (subst (λ h. Carry (helper + 1) (parts h (variable_bits (x' ∷ xs)))) (sym part) (carry_rest helper (inverted b v) (parts (inverted b v) (variable_bits (x' ∷ xs))) carry))
      (e ∙ (ap (inverted b) (odd_ones-cons v (variable_bits (x' ∷ xs))) ∙ (sym (inverted-assoc b v odd) ∙ ap (λ h. inverted h odd) (sym part)))))

  xor_of-sound : (y : Literal) (helper : ℕ) (xs : List ℕ) → is_model bits (xor_of y helper xs) ≡ true → literal_bit bits y ≡ odd_ones (variable_bits xs)
  xor_of-sound y helper [] e = holds-is (literal_bit bits y) false (sym (unit_false y) ∙ e)
  xor_of-sound y helper (x ∷ []) e = holds-is (literal_bit bits y) (bit_at bits (x - 1)) (sym (same_value-holds y x) ∙ e) ∙ sym (odd_one (bit_at bits (x - 1)))
  xor_of-sound y helper (x ∷ x' ∷ xs) e =
      xor_onward-sound y helper (pos_literal x) x' xs e ∙ sym (odd_ones-cons (bit_at bits (x - 1)) (variable_bits (x' ∷ xs)))

  xor_of-complete : (y : Literal) (helper : ℕ) (xs : List ℕ) → Carry helper (helper_bits (variable_bits xs)) → literal_bit bits y ≡ odd_ones (variable_bits xs)
      → is_model bits (xor_of y helper xs) ≡ true
  xor_of-complete y helper [] carry e = unit_false y ∙ is-holds (literal_bit bits y) false e
  xor_of-complete y helper (x ∷ []) carry e = same_value-holds y x ∙ is-holds (literal_bit bits y) (bit_at bits (x - 1)) (e ∙ odd_one (bit_at bits (x - 1)))
  xor_of-complete y helper (x ∷ x' ∷ xs) carry e =
      xor_onward-complete y helper (pos_literal x) x' xs carry (e ∙ odd_ones-cons (bit_at bits (x - 1)) (variable_bits (x' ∷ xs)))

  odd_of_operands : (operands : List Operand) → odd_ones (map (operand_value bits) operands) ≡ inverted (has_odd_constants operands) (odd_ones (variable_bits (variables operands)))
  odd_of_operands [] = refl
  odd_of_operands (constant b ∷ operands) =
      odd_ones-cons b (map (operand_value bits) operands)
      ∙ (ap (inverted b) (odd_of_operands operands)
      ∙ (sym (inverted-assoc b (has_odd_constants operands) (odd_ones (variable_bits (variables operands))))
      ∙ ap (λ o. inverted o (odd_ones (variable_bits (variables operands)))) (ap (λ t. inverted t (has_odd_constants operands)) (sym (is_one b)) ∙ sym (odd_count-cons (is_constant true) (constant b) operands))))
    where
      is_one : (b : Bool) → beq b true ≡ b
      is_one true = refl
      is_one false = refl
  odd_of_operands (variable x ∷ operands) =
      odd_ones-cons (bit_at bits (x - 1)) (map (operand_value bits) operands)
      ∙ (ap (inverted (bit_at bits (x - 1))) (odd_of_operands operands)
      ∙ (inverted-inner (bit_at bits (x - 1)) (has_odd_constants operands) (odd_ones (variable_bits (variables operands)))
      ∙ ((λ i. inverted (sym (odd_count-cons (is_constant true) (variable x) operands) i) (sym (odd_ones-cons (bit_at bits (x - 1)) (variable_bits (variables operands))) i)))))

  turned_bit : (turned : Bool) (y : Literal) → literal_bit bits (if turned then opposite y else y) ≡ inverted turned (literal_bit bits y)
  turned_bit true y = opposite_bit bits y
  turned_bit false y = refl

  odd_rows-sound : (y : Literal) (helper : ℕ) (operands : List Operand) → is_model bits (odd_rows y helper operands) ≡ true → literal_bit bits y ≡ odd_ones (map (operand_value bits) operands)
  odd_rows-sound y helper operands e =
      let p = has_odd_constants operands in
      let out : Literal = if p then opposite y else y in
      inverted_back p (literal_bit bits y) (odd_ones (variable_bits (variables operands))) (sym (turned_bit p y) ∙ xor_of-sound out helper (variables operands) e) ∙ sym (odd_of_operands operands)

  odd_rows-complete : (y : Literal) (helper : ℕ) (operands : List Operand) → Carry helper (helper_bits (variable_bits (variables operands)))
      → literal_bit bits y ≡ odd_ones (map (operand_value bits) operands) → is_model bits (odd_rows y helper operands) ≡ true
  odd_rows-complete y helper operands carry e =
      let p = has_odd_constants operands in
      let out : Literal = if p then opposite y else y in
      xor_of-complete out helper (variables operands) carry (turned_bit p y ∙ inverted_on p (literal_bit bits y) (odd_ones (variable_bits (variables operands))) (e ∙ odd_of_operands operands))

  -- ---- a choice

  -- an operand with a sign holds as a constant or by its literal
  operand_holds : (positive : Bool) (operand : Operand) → (is_constant positive operand || list_any (literal_bit bits) (operand_literals positive operand)) ≡ holds positive (operand_value bits operand)
  operand_holds true (constant true) = refl
  operand_holds true (constant false) = refl
  operand_holds false (constant true) = refl
  operand_holds false (constant false) = refl
  operand_holds positive (variable x) = or-false (holds positive (bit_at bits (x - 1)))

  case_clause-holds : (l : Literal) (unless : Bool) (chooser : Operand) (positive : Bool) (chosen : Operand)
      → is_model bits (case_clause l unless chooser positive chosen) ≡ (literal_bit bits l || (holds unless (operand_value bits chooser) || holds positive (operand_value bits chosen)))
  case_clause-holds l unless chooser positive chosen =
      by (is_constant unless chooser) (is_constant positive chosen) ∙ (λ i. literal_bit bits l || (operand_holds unless chooser i || operand_holds positive chosen i))
    where
      by : (s t : Bool) → is_model bits (if s || t then [] else (l ∷ operand_literals unless chooser ++ operand_literals positive chosen) ∷ [])
          ≡ (literal_bit bits l || ((s || list_any (literal_bit bits) (operand_literals unless chooser)) || (t || list_any (literal_bit bits) (operand_literals positive chosen))))
      by true t = sym (or-true (literal_bit bits l))
      by false true = sym (ap (λ b. literal_bit bits l || b) (or-true (list_any (literal_bit bits) (operand_literals unless chooser))) ∙ or-true (literal_bit bits l))
      by false false = and_true (literal_bit bits l || list_any (literal_bit bits) (operand_literals unless chooser ++ operand_literals positive chosen)) ∙ ap (λ b. literal_bit bits l || b) (list_any-append (literal_bit bits) (operand_literals unless chooser) (operand_literals positive chosen))
        where
          and_true : (b : Bool) → (b && true) ≡ b
          and_true true = refl
          and_true false = refl

  case_table : (y c v : Bool) → ((not y || (c || v)) && (y || (c || not v))) ≡ (c || holds y v)
  case_table true true v = refl
  case_table true false true = refl
  case_table true false false = refl
  case_table false true v = refl
  case_table false false v = refl

  case_rows-holds : (y : Literal) (unless : Bool) (chooser chosen : Operand) → is_model bits (case_rows y unless chooser chosen) ≡ (holds unless (operand_value bits chooser) || holds (literal_bit bits y) (operand_value bits chosen))
  case_rows-holds y unless chooser chosen =
      list_all-append (is_satisfied_by bits) (case_clause (opposite y) unless chooser true chosen) (case_clause y unless chooser false chosen)
      ∙ ((λ i. case_clause-holds (opposite y) unless chooser true chosen i && case_clause-holds y unless chooser false chosen i)
      ∙ ((λ i. (opposite_bit bits y i || (holds unless (operand_value bits chooser) || operand_value bits chosen)) && (literal_bit bits y || (holds unless (operand_value bits chooser) || not (operand_value bits chosen))))
      ∙ case_table (literal_bit bits y) (holds unless (operand_value bits chooser)) (operand_value bits chosen)))

  choice_table : (y s a b : Bool) → ((s || holds y a) && (not s || holds y b)) ≡ holds y (if s then b else a)
  choice_table y true a b = refl
  choice_table true false true b = refl
  choice_table true false false b = refl
  choice_table false false true b = refl
  choice_table false false false b = refl

  carried_at : (operands : List Operand) (place : ℕ) → slice_index_or (map (operand_value bits) operands) place false ≡ operand_value bits (operand_at operands place)
  carried_at [] place = refl
  carried_at (operand ∷ operands) zero = refl
  carried_at (operand ∷ operands) (suc place) = carried_at operands place

  chosen_rows-holds : (y : Literal) (operands : List Operand) → is_model bits (chosen_rows y operands) ≡ holds (literal_bit bits y) (chosen_bit (map (operand_value bits) operands))
  chosen_rows-holds y operands =
      let s = operand_at operands 0 in
      let a = operand_at operands 1 in
      let b = operand_at operands 2 in
      list_all-append (is_satisfied_by bits) (case_rows y true s a) (case_rows y false s b)
      ∙ ((λ i. case_rows-holds y true s a i && case_rows-holds y false s b i)
      ∙ (choice_table (literal_bit bits y) (operand_value bits s) (operand_value bits a) (operand_value bits b)
      ∙ (λ i. holds (literal_bit bits y) (if sym (carried_at operands 0) i then sym (carried_at operands 2) i else sym (carried_at operands 1) i))))

  -- ---- gates

  folded_rows-sound : (fold : Fold) (y : Literal) (helper : ℕ) (operands : List Operand) → is_model bits (folded_rows fold y helper operands) ≡ true → literal_bit bits y ≡ folded_bit fold (map (operand_value bits) operands)
  folded_rows-sound AllOf y helper operands e = holds-is (literal_bit bits y) (all_ones (map (operand_value bits) operands)) (sym (all_rows-holds y operands) ∙ e)
  folded_rows-sound AnyOf y helper operands e = holds-is (literal_bit bits y) (some_one (map (operand_value bits) operands)) (sym (any_rows-holds y operands) ∙ e)
  folded_rows-sound OddOf y helper operands e = odd_rows-sound y helper operands e

  operation_rows-sound : (operation : Operation) (y : Literal) (helper : ℕ) (operands : List Operand) → is_model bits (operation_rows operation y helper operands) ≡ true
      → literal_bit bits y ≡ operation_value operation (map (operand_value bits) operands)
  operation_rows-sound (Folded fold) y helper operands e = folded_rows-sound fold y helper operands e
  operation_rows-sound Chosen y helper operands e = holds-is (literal_bit bits y) (chosen_bit (map (operand_value bits) operands)) (sym (chosen_rows-holds y operands) ∙ e)

  output_bit : (complemented : Bool) (y : ℕ) → literal_bit bits (output_literal complemented y) ≡ inverted complemented (bit_at bits (y - 1))
  output_bit true y = refl
  output_bit false y = refl

  pub gate_rows-sound : (kind : Kind) (y helper : ℕ) (operands : List Operand) → is_model bits (gate_rows kind y helper operands) ≡ true → bit_at bits (y - 1) ≡ gate_value kind (map (operand_value bits) operands)
  unfolding gate_rows
  gate_rows-sound kind y helper operands e =
      inverted_back (inverts kind) (bit_at bits (y - 1)) (operation_value (operation_of kind) (map (operand_value bits) operands))
      (sym (output_bit (inverts kind) y) ∙ operation_rows-sound (operation_of kind) (output_literal (inverts kind) y) helper operands e)

  folded_rows-complete : (fold : Fold) (y : Literal) (helper : ℕ) (operands : List Operand) → (is_parity_fold fold ≡ true → Carry helper (helper_bits (variable_bits (variables operands))))
      → literal_bit bits y ≡ folded_bit fold (map (operand_value bits) operands) → is_model bits (folded_rows fold y helper operands) ≡ true
  folded_rows-complete AllOf y helper operands carry e = all_rows-holds y operands ∙ is-holds (literal_bit bits y) (all_ones (map (operand_value bits) operands)) e
  folded_rows-complete AnyOf y helper operands carry e = any_rows-holds y operands ∙ is-holds (literal_bit bits y) (some_one (map (operand_value bits) operands)) e
  folded_rows-complete OddOf y helper operands carry e = odd_rows-complete y helper operands (carry refl) e

  operation_rows-complete : (operation : Operation) (y : Literal) (helper : ℕ) (operands : List Operand) → (is_parity_operation operation ≡ true → Carry helper (helper_bits (variable_bits (variables operands))))
      → literal_bit bits y ≡ operation_value operation (map (operand_value bits) operands) → is_model bits (operation_rows operation y helper operands) ≡ true
  operation_rows-complete (Folded fold) y helper operands carry e = folded_rows-complete fold y helper operands carry e
  operation_rows-complete Chosen y helper operands carry e = chosen_rows-holds y operands ∙ is-holds (literal_bit bits y) (chosen_bit (map (operand_value bits) operands)) e

  pub gate_rows-complete : (kind : Kind) (y helper : ℕ) (operands : List Operand) → (is_parity kind ≡ true → Carry helper (helper_bits (variable_bits (variables operands))))
      → bit_at bits (y - 1) ≡ gate_value kind (map (operand_value bits) operands) → is_model bits (gate_rows kind y helper operands) ≡ true
  unfolding gate_rows
  gate_rows-complete kind y helper operands carry e =
      operation_rows-complete (operation_of kind) (output_literal (inverts kind) y) helper operands carry
      (output_bit (inverts kind) y ∙ inverted_on (inverts kind) (bit_at bits (y - 1)) (operation_value (operation_of kind) (map (operand_value bits) operands)) e)
