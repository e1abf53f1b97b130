-- The variables of a chain's end.
use Rattle.std.proofs.Common.{◌≡◌, ℕ, true, false, not, List, [], ◌∷◌, refl, subst}
use Rattle.std.specs.Prelude.{Bool, Option, Some, None, fold, All, if◌then◌else◌}
use Rattle.std.specs.Option.{option_and_then}
use Rattle.std.proofs.lemmas.List.Elements.{All-append, All-filter}
use Rattle.clause_pool.specs.Literal.{Literal, opposite, same_literal}
use Rattle.clause_pool.specs.Clauses.{Clause, numbered_clause}
use Rattle.clause_pool.specs.Proper.{IsVariable, HasVariablesUpTo}
use Rattle.clause_pool.proofs.Numbered.{all_at_number}
use Rattle.clause_pool.proofs.ProperLemmas.{variables_of_part}
use Rattle.pair_miter.specs.ChainView.{ChainView}
use Rattle.pair_miter.specs.Resolution.{SameLiterals, clause_without, resolvent, can_resolve, clause_after_step, chain_end}

pub within_alike : (variable : ℕ) (a b : Clause) → SameLiterals a b → HasVariablesUpTo variable b → HasVariablesUpTo variable a
within_alike variable a b s all = variables_of_part variable a b (λ l m. (s l).0 m) all

module _ (variable : ℕ) (cs : List Clause) (all : All (HasVariablesUpTo variable) cs) where
  resolvent_within : (pivot : Literal) (a c : Clause) → HasVariablesUpTo variable a → HasVariablesUpTo variable c → HasVariablesUpTo variable (resolvent pivot a c)
  resolvent_within pivot a c x y =
      let within : Literal → Type 0 = λ l. IsVariable variable l.variable in
      All-append within (clause_without pivot a) (clause_without (opposite pivot) c)
      (All-filter (λ m. not (same_literal pivot m)) within a x) (All-filter (λ m. not (same_literal (opposite pivot) m)) within c y)

  -- if there is a clause, its variables are within
  abbrev IsWithin : Option Clause → Type 0
  IsWithin o = (c : Clause) → o ≡ Some c → HasVariablesUpTo variable c

  step_within : (step : Literal × ℕ) (o : Option Clause) → IsWithin o → IsWithin (option_and_then (λ clause. clause_after_step cs clause step) o)
  unfolding clause_after_step
  step_within step None h c e = absurd (let w : ◌≡◌ {A = Option Clause} None (Some c) = e in cc)
  step_within step (Some a) h c e = by (numbered_clause cs step.1) refl e
    where
      taken : (other : Clause) (b : Bool) → HasVariablesUpTo variable other → (if b then Some (resolvent step.0 a other) else None) ≡ Some c → HasVariablesUpTo variable c
      taken other true y e = subst (HasVariablesUpTo variable) (let w : ◌≡◌ {A = Option Clause} (Some (resolvent step.0 a other)) (Some c) = e in cc) (resolvent_within step.0 a other (h a refl) y)
      taken other false y e = absurd (let w : ◌≡◌ {A = Option Clause} None (Some c) = e in cc)

      by : (o : Option Clause) → numbered_clause cs step.1 ≡ o → option_and_then (λ other. if can_resolve step.0 a other then Some (resolvent step.0 a other) else None) o ≡ Some c → HasVariablesUpTo variable c
      by None n e = absurd (let w : ◌≡◌ {A = Option Clause} None (Some c) = e in cc)
      by (Some other) n e = taken other (can_resolve step.0 a other) (all_at_number (HasVariablesUpTo variable) cs step.1 other all n) e

  steps_within : (steps : List (Literal × ℕ)) (o : Option Clause) → IsWithin o → IsWithin (fold (λ end step. option_and_then (λ clause. clause_after_step cs clause step) end) o steps)
  steps_within [] o h = h
  steps_within (step ∷ steps) o h = steps_within steps (option_and_then (λ clause. clause_after_step cs clause step) o) (step_within step o h)

  pub chain_within : (chain : ChainView) (end : Clause) → chain_end cs chain ≡ Some end → HasVariablesUpTo variable end
  unfolding chain_end
  chain_within chain end e = steps_within chain.steps (numbered_clause cs chain.start) (λ c e. all_at_number (HasVariablesUpTo variable) cs chain.start c all e) end e
