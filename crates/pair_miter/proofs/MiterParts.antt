-- The parts of a miter: the clauses of the lines, and those of the differences.
use Rattle.std.proofs.Common.{◌≡◌, ◌∙◌, ◌+◌, ◌<◌, ℕ, List, [], ◌∷◌, ◌++◌, length, get_or, take, drop, refl, ap, sym, append_assoc}
use Rattle.std.specs.Prelude.{flat_map, map}
use Rattle.net_model.specs.declared.fault.Fault.{Fault}
use Rattle.net_model.specs.Circuit.{Circuit}
use Rattle.net_model.specs.Scope.{relevant_lines, reached_positions}
use Rattle.clause_pool.specs.Clauses.{Clause, Clauses}
use Rattle.pair_miter.specs.Adds.{Adds}
use Rattle.pair_miter.specs.Miter.{line_clauses, difference_clauses, lines_part, differences_part, raw_clauses, tidy, miter}
use Rattle.pair_miter.proofs.AddSteps.{InTwo, HasNext, beside, both_parts}
use Rattle.pair_miter.proofs.ClauseParts.{clauses_more, clauses_rest}
use Rattle.pair_miter.proofs.Differences.{difference_literal}

module _ (c : Circuit) (f g : Fault) where
  pub miter_parts : miter c f g ≡ tidy (lines_part c f g ++ differences_part c f g)
  unfolding miter raw_clauses
  miter_parts = refl

  pub parts_of_miter : InTwo (lines_part c f g ++ differences_part c f g) (lines_part c f g) (differences_part c f g)
  parts_of_miter = beside (lines_part c f g) (differences_part c f g)

  -- the clauses of the relevant lines before one, its own, and the rest
  pub part_of_lines : (lines : List ℕ) → lines ≡ relevant_lines c f g → (i : ℕ) → i < length lines → HasNext (lines_part c f g) (flat_map (line_clauses c f g) (take i lines)) (line_clauses c f g (get_or lines i 0))
  part_of_lines lines are i inside = record {
    rest = flat_map (line_clauses c f g) (drop (i + 1) lines);
    are = record { are = ap (flat_map (line_clauses c f g)) (sym are) ∙ clauses_rest lines i inside (line_clauses c f g) };
  }

  -- the clauses of the differences of the reached positions before one, its own, and the rest
  pub part_of_differences : (positions : List ℕ) → positions ≡ reached_positions c f g → (i : ℕ) → i < length positions
      → HasNext (differences_part c f g) (flat_map (difference_clauses c f g) (take i positions)) (difference_clauses c f g (get_or positions i 0))
  part_of_differences positions are i inside =
      let before = flat_map (difference_clauses c f g) (take i positions) ++ difference_clauses c f g (get_or positions i 0) in
      let rest = flat_map (difference_clauses c f g) (drop (i + 1) positions) in
      let last = map (difference_literal c f g) (reached_positions c f g) ∷ [] in
      record {
        rest = rest ++ last;
        are = record { are = ap (λ xs. xs ++ last) (ap (flat_map (difference_clauses c f g)) (sym are) ∙ clauses_rest positions i inside (difference_clauses c f g)) ∙ append_assoc before rest last };
      }

-- ---- clauses of the first of some numbers, written one number after the other

pub added_more : (clauses : ℕ → List Clause) (xs : List ℕ) (i : ℕ) {old now new : Clauses} → i < length xs
    → Adds old now (tidy (flat_map clauses (take i xs))) → Adds now new (tidy (clauses (get_or xs i 0))) → Adds old new (tidy (flat_map clauses (take (i + 1) xs)))
added_more clauses xs i inside adds next = both_parts two adds next
  where
    two : InTwo (flat_map clauses (take (i + 1) xs)) (flat_map clauses (take i xs)) (clauses (get_or xs i 0))
    two = record { are = clauses_more xs i inside clauses }
