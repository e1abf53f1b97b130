-- The copies of split lines, line by line.
use Rattle.std.proofs.Common.{◌≡◌, ◌∙◌, ℕ, ◌<◌, refl, sym, ap, subst, arith, length, get_or}
use Rattle.std.specs.Prelude.{Bool, true, false, List, [], ◌∷◌, ◌++◌, ◌&&◌, map, filter, All, Contains, if◌then◌else◌}
use Rattle.std.specs.List.{range_with_len}
use Rattle.std.proofs.lemmas.Bool.{and_parts, and_right}
use Rattle.std.proofs.lemmas.List.{map-append, get_or_default}
use Rattle.std.proofs.lemmas.List.Elements.{Contains-get_or, filter-append, All-nil, All-cons, All-head, All-tail, All-append}
use Rattle.net_model.specs.declared.fault.Fault.{Fault}
use Rattle.net_model.specs.Circuit.{Circuit, IsCircuit, line_count}
use Rattle.net_model.specs.Order.{IsOrder}
use Rattle.net_model.specs.Scope.{is_relevant, is_split}
use Rattle.net_model.proofs.Elements.{Contains-from_filter}
use Rattle.net_model.proofs.Listed.{All-range_with_len}
use Rattle.net_model.proofs.Orders.{order_only}
use Rattle.net_model.proofs.SetSoFar.{fits_from}
use Rattle.pair_miter.specs.declared.side.Side.TheVariants.{First, Second}
use Rattle.pair_miter.specs.declared.split.Copies.{Copies}
use Rattle.pair_miter.specs.Variables.{variable_count, line_variable}
use Rattle.pair_scope.specs.PairScope.{AreSplitInOrder}
use Rattle.pair_miter.specs.SplitLines.{AreVariables, AreSplitLines, is_double, copies_of, all_copies}
use Rattle.pair_miter.proofs.Numbers.{variable_within}

-- filtering by a test and then by a stricter one is filtering by the stricter one
filter_again : (p q : ℕ → Bool) → ((x : ℕ) → q x ≡ false → p x ≡ false) → (xs : List ℕ) → filter p (filter q xs) ≡ filter p xs
filter_again p q none [] = refl
filter_again p q none (x ∷ xs) = by (q x) refl (filter_again p q none xs)
  where
    by : (b : Bool) → q x ≡ b → filter p (filter q xs) ≡ filter p xs → filter p (if b then x ∷ filter q xs else filter q xs) ≡ filter p (x ∷ xs)
    by true e rest = ap (λ ys. if p x then x ∷ ys else ys) rest
    by false e rest = rest ∙ sym (ap (λ b. if b then x ∷ filter p xs else filter p xs) (none x e))

module _ (c : Circuit) (f g : Fault) where
  copies_append : (xs ys : List ℕ) → all_copies c f g (xs ++ ys) ≡ all_copies c f g xs ++ all_copies c f g ys
  unfolding all_copies
  copies_append xs ys =
      ap (map (copies_of c f g)) (filter-append (is_double c f g) xs ys) ∙ map-append (copies_of c f g) (filter (is_double c f g) xs) (filter (is_double c f g) ys)

  pub copies_none : all_copies c f g [] ≡ []
  unfolding all_copies
  copies_none = refl

  pub copies_yes : (line : ℕ) → is_relevant c f g line ≡ true → is_split c f g line ≡ true → all_copies c f g (line ∷ []) ≡ copies_of c f g line ∷ []
  unfolding all_copies
  copies_yes line r s = by (is_relevant c f g line) (is_split c f g line) r s
    where
      by : (a b : Bool) → a ≡ true → b ≡ true → map (copies_of c f g) (if a && b then line ∷ [] else []) ≡ copies_of c f g line ∷ []
      by true true r s = refl
      by true false r s = cc
      by false b r s = cc

  pub pushed_yes : (line : ℕ) (old : List Copies) {new : List Copies} {first second : ℕ} → is_relevant c f g line ≡ true → is_split c f g line ≡ true → first ≡ line_variable c f g First line → second ≡ line_variable c f g Second line
      → new ≡ old ++ record { first = first; second = second } ∷ [] → new ≡ old ++ all_copies c f g (line ∷ [])
  pushed_yes line old r s is_first is_second pushed = pushed ∙ ((λ i. old ++ record { first = is_first i; second = is_second i } ∷ []) ∙ ap (λ xs. old ++ xs) (sym (copies_yes line r s)))

  pub copies_no : (line : ℕ) → is_double c f g line ≡ false → all_copies c f g (line ∷ []) ≡ []
  unfolding all_copies
  copies_no line e = ap (λ b. map (copies_of c f g) (if b then line ∷ [] else [])) e

  -- the copies of the first lines, and of one line more
  pub copies_more : (copies now : List Copies) (lines : List ℕ) (line : ℕ) → copies ≡ all_copies c f g lines → now ≡ copies ++ all_copies c f g (line ∷ []) → now ≡ all_copies c f g (lines ++ line ∷ [])
  copies_more copies now lines line so_far is = is ∙ (ap (λ xs. xs ++ all_copies c f g (line ∷ [])) so_far ∙ sym (copies_append lines (line ∷ [])))

  pub copies_within : IsCircuit c → (lines : List ℕ) → All (λ line. line < line_count c) lines → All (AreVariables (variable_count c f g)) (all_copies c f g lines)
  unfolding all_copies
  copies_within w [] inside = All-nil (AreVariables (variable_count c f g))
  copies_within w (line ∷ lines) inside = by (is_double c f g line) refl (copies_within w lines (All-tail (λ line. line < line_count c) line lines inside))
    where
      by : (b : Bool) → is_double c f g line ≡ b → All (AreVariables (variable_count c f g)) (map (copies_of c f g) (filter (is_double c f g) lines))
          → All (AreVariables (variable_count c f g)) (map (copies_of c f g) (if b then line ∷ filter (is_double c f g) lines else filter (is_double c f g) lines))
      by true e rest =
          let relevant = (and_parts (is_relevant c f g line) (is_split c f g line) e).0 in
          let here = All-head (λ line. line < line_count c) line lines inside in
          All-cons (AreVariables (variable_count c f g)) (copies_of c f g line) (map (copies_of c f g) (filter (is_double c f g) lines))
          (variable_within c f g First line (line_variable c f g First line) (variable_count c f g) refl refl here relevant, variable_within c f g Second line (line_variable c f g Second line) (variable_count c f g) refl refl here relevant)
          rest
      by false e rest = rest

  -- the sources and the gates of an order are lines
  pub lines_within : IsCircuit c → (order : List ℕ) → IsOrder c order → All (λ line. line < line_count c) (range_with_len 0 c.sources ++ order)
  lines_within w order is =
      All-append (λ line. line < line_count c) (range_with_len 0 c.sources) order
      (All-range_with_len (λ line. line < line_count c) 0 c.sources (λ n above below. omega (arith, below)))
      (λ k d inside. gate_within k d inside)
    where
      gate_within : (k d : ℕ) → k < length order → get_or order k d < line_count c
      gate_within k d inside = omega (arith, get_or_default order k d 0 inside, (order_only c (fits_from c w) order is k inside).1)

  pub split_within : IsCircuit c → (lines : List Copies) → AreSplitLines c f g lines → All (AreVariables (variable_count c f g)) lines
  split_within w lines is =
      subst (All (AreVariables (variable_count c f g))) (sym is.are) (copies_within w (range_with_len 0 c.sources ++ is.order) (lines_within w is.order is.ordered))

  -- all of the split lines' copies are those of all lines
  pub copies_of_split : (lines : List ℕ) (split : AreSplitInOrder c f g lines) → all_copies c f g lines ≡ all_copies c f g (range_with_len 0 c.sources ++ split.order)
  unfolding all_copies
  copies_of_split lines split =
      ap (λ xs. map (copies_of c f g) (filter (is_double c f g) xs)) split.are
      ∙ ap (map (copies_of c f g)) (filter_again (is_double c f g) (is_split c f g) (λ line e. and_right (is_relevant c f g line) (is_split c f g line) e) (range_with_len 0 c.sources ++ split.order))

  -- each listed line is a split line of the circuit
  pub split_listed : IsCircuit c → (lines : List ℕ) → AreSplitInOrder c f g lines → (i : ℕ) → i < length lines → (get_or lines i 0 < line_count c) × (is_split c f g (get_or lines i 0) ≡ true)
  split_listed w lines split i inside =
      let line = get_or lines i 0 in
      let kept = Contains-from_filter (is_split c f g) (range_with_len 0 c.sources ++ split.order) line (subst (λ xs. Contains xs line) split.are (Contains-get_or lines i 0 inside)) in
      (subst (λ l. l < line_count c) kept.0.2 (lines_within w split.order split.is kept.0.0 line kept.0.1), kept.1)
