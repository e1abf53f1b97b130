-- The clause that there is a difference: the differences of the reached positions, one position more at a time.
use Rattle.std.proofs.Common.{◌≡◌, ◌∙◌, ℕ, ◌+◌, ◌<◌, ◌≤◌, List, [], ◌∷◌, ◌++◌, length, get_or, take, sym, ap}
use Rattle.std.specs.Prelude.{All, map}
use Rattle.std.proofs.lemmas.List.{get_or_default, map-append, take_more}
use Rattle.std.proofs.lemmas.List.Elements.{All-map}
use Rattle.net_model.specs.declared.fault.Fault.{Fault}
use Rattle.net_model.specs.Circuit.{Circuit}
use Rattle.net_model.specs.Scope.{reached_positions}
use Rattle.clause_pool.specs.Literal.{Literal, pos_literal}
use Rattle.clause_pool.specs.Clauses.{Clause}
use Rattle.pair_miter.specs.Variables.{difference_variable, variable_count}
use Rattle.pair_miter.proofs.Numbers.{difference_below}
use Rattle.net_model.proofs.Relevance.{listed_reached}

module _ (c : Circuit) (f g : Fault) where
  abbrev pub difference_literal : ℕ → Literal
  difference_literal at = pos_literal (difference_variable c f g at)

  -- the differences of the first of some positions, and of one more
  pub differences_more : (positions : List ℕ) (i : ℕ) (before now : Clause) (l : Literal) → i < length positions → before ≡ map difference_literal (take i positions) → l ≡ difference_literal (get_or positions i 0)
      → now ≡ before ++ l ∷ [] → now ≡ map difference_literal (take (i + 1) positions)
  differences_more positions i before now l inside so_far given pushed =
      pushed
      ∙ ((λ j. so_far j ++ given j ∷ [])
      ∙ sym (ap (map difference_literal) (take_more positions i 0 inside) ∙ map-append difference_literal (take i positions) (get_or positions i 0 ∷ [])))

  pub differences_within : All (λ (l : Literal). l.variable ≤ variable_count c f g) (map difference_literal (reached_positions c f g))
  differences_within =
      All-map (λ (l : Literal). l.variable ≤ variable_count c f g) difference_literal (reached_positions c f g)
      (λ k d h.
      let at = get_or (reached_positions c f g) k d in
      let listed = listed_reached c f g at (k, h, get_or_default (reached_positions c f g) k at d h) in
      difference_below c f g at listed.0 listed.1)
