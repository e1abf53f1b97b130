-- Resolution is sound: an assignment that satisfies the clauses satisfies the ends of chains over them. So clauses with a
-- refutation have no model, and faults with a refutation of their miter are equal.
use Rattle.std.proofs.Common.{◌≡◌, ◌≢◌, ◌∙◌, ℕ, ◌-◌, Bool, true, false, not, ◌==◌, List, [], ◌∷◌, ◌++◌, refl, sym, ap, subst, inl, inr}
use Rattle.std.specs.Prelude.{Option, Some, None, fold, slice_get, Contains, if◌then◌else◌}
use Rattle.std.specs.Bool.{beq}
use Rattle.std.specs.Cmp.{booleans_Decides}
use Rattle.std.specs.Cmp.Lexicographic.{pointwise}
use Rattle.std.specs.Option.{option_and_then}
use Rattle.std.proofs.lemmas.Bool.{and_from, and_parts, cases_Bool, false_from_ne_true, not_from_false}
use Rattle.std.proofs.lemmas.List.Elements.{Contains-append_left, Contains-append_right, Contains-get_or}
use Rattle.std.proofs.lemmas.List.Folds.{list_all-append}
use Rattle.std.proofs.lemmas.Option.{get_or_from_slice_get, slice_get_within}
use Rattle.std.proofs.lemmas.Slice.Eq.{slice_eq-Decides}
use Rattle.net_model.specs.declared.fault.Fault.{Fault}
use Rattle.net_model.specs.Circuit.{Circuit, IsCircuit}
use Rattle.net_model.specs.Answer.{AreEqual}
use Rattle.net_model.proofs.Elements.{all_parts, any_from, passing, Contains-filter, true_false}
use Rattle.clause_pool.specs.Literal.{Literal, opposite, same_literal}
use Rattle.clause_pool.specs.Clauses.{Clause, numbered_clause}
use Rattle.clause_pool.proofs.Literals.{same_is}
use Rattle.pair_miter.specs.ChainView.{ChainView}
use Rattle.pair_miter.specs.Log.{IsRefutation}
use Rattle.pair_miter.specs.Miter.{miter, literal_bit, is_satisfied_by, is_model}
use Rattle.pair_miter.specs.Resolution.{clause_without, resolvent, can_resolve, clause_after_step, chain_end, log_ends}
use Rattle.pair_miter.proofs.Complete.{separated_has_model}
use Rattle.pair_miter.proofs.TidyAndFresh.{opposite_bit}
use Rattle.pair_miter.proofs.LogEnds.{parts_of}

module _ (bits : List Bool) where
  -- a clause stays true without a literal that is false
  true_without : (l : Literal) (clause : Clause) → literal_bit bits l ≡ false → is_satisfied_by bits clause ≡ true → (m : Literal) × Contains (clause_without l clause) m × (literal_bit bits m ≡ true)
  true_without l clause f t =
      let found = passing (literal_bit bits) clause t in
      let other : same_literal l found.0 ≡ false =
      false_from_ne_true (same_literal l found.0) (λ e. true_false (literal_bit bits l) (ap (literal_bit bits) (same_is l found.0 e) ∙ found.2) f) in
      (found.0, Contains-filter (λ n. not (same_literal l n)) clause found.0 found.1 (not_from_false (same_literal l found.0) other), found.2)

  true_resolvent : (pivot : Literal) (clause other : Clause) → is_satisfied_by bits clause ≡ true → is_satisfied_by bits other ≡ true → is_satisfied_by bits (resolvent pivot clause other) ≡ true
  true_resolvent pivot clause other t u =
      elim (cases_Bool (literal_bit bits pivot)) [
        | inl high ↦
            let m = true_without (opposite pivot) other (opposite_bit bits pivot ∙ ap not high) u in
            any_from (literal_bit bits) (resolvent pivot clause other) m.0 (Contains-append_right (clause_without pivot clause) (clause_without (opposite pivot) other) m.0 m.1) m.2
        | inr low ↦
            let m = true_without pivot clause low t in
            any_from (literal_bit bits) (resolvent pivot clause other) m.0 (Contains-append_left (clause_without pivot clause) (clause_without (opposite pivot) other) m.0 m.1) m.2
      ]

  -- if there is a clause, the assignment satisfies it
  abbrev IsTrueEnd : Option Clause → Type 0
  IsTrueEnd o = (c : Clause) → o ≡ Some c → is_satisfied_by bits c ≡ true

  module _ (cs : List Clause) (model : is_model bits cs ≡ true) where
    numbered_true : (number : ℕ) → IsTrueEnd (numbered_clause cs number)
    numbered_true number c e = by (number == 0) e
      where
        by : (b : Bool) → (if b then None else slice_get cs (number - 1)) ≡ Some c → is_satisfied_by bits c ≡ true
        by true e = absurd (let w : ◌≡◌ {A = Option Clause} None (Some c) = e in cc)
        by false e =
            all_parts (is_satisfied_by bits) cs model c
            (subst (Contains cs) (get_or_from_slice_get cs (number - 1) c [] e) (Contains-get_or cs (number - 1) [] (slice_get_within cs (number - 1) c e)))

    step_true : (step : Literal × ℕ) (o : Option Clause) → IsTrueEnd o → IsTrueEnd (option_and_then (λ clause. clause_after_step cs clause step) o)
    unfolding clause_after_step
    step_true step None h c e = absurd (let w : ◌≡◌ {A = Option Clause} None (Some c) = e in cc)
    step_true step (Some a) h c e = by (numbered_clause cs step.1) refl e
      where
        taken : (other : Clause) (b : Bool) → is_satisfied_by bits other ≡ true → (if b then Some (resolvent step.0 a other) else None) ≡ Some c → is_satisfied_by bits c ≡ true
        taken other true y e = subst (λ x. is_satisfied_by bits x ≡ true) (let w : ◌≡◌ {A = Option Clause} (Some (resolvent step.0 a other)) (Some c) = e in cc) (true_resolvent step.0 a other (h a refl) y)
        taken other false y e = absurd (let w : ◌≡◌ {A = Option Clause} None (Some c) = e in cc)

        by : (o : Option Clause) → numbered_clause cs step.1 ≡ o → option_and_then (λ other. if can_resolve step.0 a other then Some (resolvent step.0 a other) else None) o ≡ Some c → is_satisfied_by bits c ≡ true
        by None n e = absurd (let w : ◌≡◌ {A = Option Clause} None (Some c) = e in cc)
        by (Some other) n e = taken other (can_resolve step.0 a other) (numbered_true step.1 other n) e

    steps_true : (steps : List (Literal × ℕ)) (o : Option Clause) → IsTrueEnd o → IsTrueEnd (fold (λ end step. option_and_then (λ clause. clause_after_step cs clause step) end) o steps)
    steps_true [] o h = h
    steps_true (step ∷ steps) o h = steps_true steps (option_and_then (λ clause. clause_after_step cs clause step) o) (step_true step o h)

    end_true : (chain : ChainView) → IsTrueEnd (chain_end cs chain)
    unfolding chain_end
    end_true chain = steps_true chain.steps (numbered_clause cs chain.start) (numbered_true chain.start)

  ends_true : (cs : List Clause) (log : List ChainView) (ends : List Clause) → is_model bits cs ≡ true → log_ends cs log ≡ Some ends → is_model bits ends ≡ true
  ends_true cs [] ends model are = let none : [] ≡ ends = (let w : ◌≡◌ {A = Option (List Clause)} (Some []) (Some ends) = are in cc) in ap (is_model bits) (sym none)
  ends_true cs (chain ∷ log) ends model are =
      let p = parts_of cs chain log ends are in
      let first = end_true cs model chain p.first p.first_is in
      let both : is_model bits (cs ++ p.first ∷ []) ≡ true = list_all-append (is_satisfied_by bits) cs (p.first ∷ []) ∙ and_from (is_model bits cs) (is_model bits (p.first ∷ [])) model (and_from (is_satisfied_by bits p.first) true first refl) in
      ap (is_model bits) p.are ∙ and_from (is_satisfied_by bits p.first) (is_model bits p.rest) first (ends_true (cs ++ p.first ∷ []) log p.rest both p.rest_are)

  pub no_model : (cs : List Clause) (limit : ℕ) (log : List ChainView) → IsRefutation cs limit log → is_model bits cs ≡ true → ⊥
  no_model cs limit log r model =
      let all = ends_true cs log (r.ends ++ [] ∷ []) model r.are in
      let last = and_parts (is_model bits r.ends) (is_model bits ([] ∷ [])) (sym (list_all-append (is_satisfied_by bits) r.ends ([] ∷ [])) ∙ all) in
      let wrong : ◌≡◌ {A = Bool} false true = last.1 in cc

pub refutation_equal : (c : Circuit) (f g : Fault) (limit : ℕ) (log : List ChainView) → IsCircuit c → IsRefutation (miter c f g) limit log → AreEqual c f g
refutation_equal c f g limit log w r v first second width p q =
    let same = slice_eq-Decides booleans_Decides first second (pointwise beq first second) refl in
    elim (cases_Bool (pointwise beq first second)) [
      | inl t ↦ same.0 t
      | inr n ↦
          let differ : first ≢ second = λ e. true_false (pointwise beq first second) (same.1 e) n in
          let m = separated_has_model c f g v w (record { width = width; first = first; second = second; first_is = p; second_is = q; differ = differ }) in
          absurd (no_model m.bits (miter c f g) limit log r m.satisfies)
    ]
