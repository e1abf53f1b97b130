-- Logs whose chains have ends can be written: their numbers and literals are those of clauses.
use Rattle.std.proofs.Common.{◌≡◌, ◌∙◌, ℕ, suc, ◌+◌, ◌<◌, ◌^◌, Bool, true, false, List, [], ◌∷◌, ◌++◌, length, length-append, refl, sym, ap, arith}
use Rattle.std.specs.Prelude.{Option, Some, None, fold, All, Contains, slice_get, if◌then◌else◌}
use Rattle.std.specs.Option.{option_and_then}
use Rattle.std.proofs.lemmas.Bool.{and_parts}
use Rattle.std.proofs.lemmas.List.Elements.{All-append, All-cons, All-nil, All-contains}
use Rattle.std.proofs.lemmas.List.Sums.{fold_push}
use Rattle.clause_pool.specs.Literal.{Literal, opposite}
use Rattle.clause_pool.specs.Clauses.{Clause, numbered_clause}
use Rattle.clause_pool.specs.Proper.{IsVariable, HasVariablesUpTo}
use Rattle.clause_pool.proofs.Numbered.{numbered_within}
use Rattle.pair_miter.specs.ChainView.{ChainView}
use Rattle.pair_miter.specs.Miter.{has_literal}
use Rattle.pair_miter.specs.Resolution.{resolvent, can_resolve, clause_after_step, chain_end, log_ends}
use Rattle.pair_miter.proofs.SameLiterals.{from_has}
use Rattle.pair_miter.proofs.EndVariables.{chain_within}
use Rattle.pair_miter.proofs.LogEnds.{parts_of}
use Rattle.text_fields.specs.Fields.{IsNumber}
use Rattle.result_records.specs.Spelling.{IsLiteral, HasStepSpelling, HasLiteralSpelling, HasChainSpelling}

module _ (n : ℕ) (small : n < 2 ^ 31) where
  pub literal_spelled : (clause : Clause) (l : Literal) → HasVariablesUpTo n clause → Contains clause l → IsLiteral l
  literal_spelled clause l within has = let is = All-contains (λ (m : Literal). IsVariable n m.variable) clause l within has in (is.0, omega (arith, is.1))

  module _ (cs : List Clause) (all : All (HasVariablesUpTo n) cs) (few : length cs < 2 ^ 32) where
    number_spelled : (number : ℕ) (clause : Clause) → numbered_clause cs number ≡ Some clause → IsNumber number
    number_spelled number clause is = let inside = numbered_within cs number clause is in omega (arith, inside.1)

    none_stays : (steps : List (Literal × ℕ)) → fold (λ end step. option_and_then (λ clause. clause_after_step cs clause step) end) None steps ≡ None
    none_stays [] = refl
    none_stays (step ∷ steps) = none_stays steps

    -- A step that can be made.
    step_spelled : (clause : Clause) (step : Literal × ℕ) (end : Clause) → HasVariablesUpTo n clause → clause_after_step cs clause step ≡ Some end → HasStepSpelling step
    unfolding clause_after_step
    step_spelled clause step end within e = by (numbered_clause cs step.1) refl e
      where
        taken : (other : Clause) (b : Bool) → can_resolve step.0 clause other ≡ b → (if b then Some (resolvent step.0 clause other) else None) ≡ Some end → Contains clause step.0
        taken other true is e = from_has clause step.0 (and_parts (has_literal clause step.0) (has_literal other (opposite step.0)) is).0
        taken other false is e = absurd (let w : ◌≡◌ {A = Option Clause} None (Some end) = e in cc)

        by : (o : Option Clause) → numbered_clause cs step.1 ≡ o → option_and_then (λ other. if can_resolve step.0 clause other then Some (resolvent step.0 clause other) else None) o ≡ Some end → HasStepSpelling step
        by None is e = absurd (let w : ◌≡◌ {A = Option Clause} None (Some end) = e in cc)
        by (Some other) is e = (literal_spelled clause step.0 within (taken other (can_resolve step.0 clause other) refl e), number_spelled step.1 other is)

    chain_more : (start : ChainView) (step : Literal × ℕ) (clause next : Clause) → chain_end cs start ≡ Some clause → clause_after_step cs clause step ≡ Some next → chain_end cs (record start { steps = start.steps ++ step ∷ [] }) ≡ Some next
    unfolding chain_end
    chain_more start step clause next is here =
        fold_push (λ end step. option_and_then (λ clause. clause_after_step cs clause step) end) (numbered_clause cs start.start) start.steps step
        ∙ (ap (option_and_then (λ clause. clause_after_step cs clause step)) is ∙ here)

    -- The steps of a chain that has an end.
    steps_spelled : (steps : List (Literal × ℕ)) (start : ChainView) (clause end : Clause) → chain_end cs start ≡ Some clause → fold (λ end step. option_and_then (λ clause. clause_after_step cs clause step) end) (Some clause) steps ≡ Some end → All HasStepSpelling steps
    unfolding chain_end
    steps_spelled [] start clause end is e = All-nil HasStepSpelling
    steps_spelled (step ∷ steps) start clause end is e = by (clause_after_step cs clause step) refl e (λ next ends left. steps_spelled steps longer next end ends left)
      where
        longer : ChainView
        longer = record start { steps = start.steps ++ step ∷ [] }

        by : (o : Option Clause) → clause_after_step cs clause step ≡ o → fold (λ end step. option_and_then (λ clause. clause_after_step cs clause step) end) o steps ≡ Some end
            → ((next : Clause) → chain_end cs longer ≡ Some next → fold (λ end step. option_and_then (λ clause. clause_after_step cs clause step) end) (Some next) steps ≡ Some end → All HasStepSpelling steps)
            → All HasStepSpelling (step ∷ steps)
        by None here e more = absurd (let w : ◌≡◌ {A = Option Clause} None (Some end) = sym (none_stays steps) ∙ e in cc)
        by (Some next) here e more =
            All-cons HasStepSpelling step steps (step_spelled clause step next (chain_within n cs all start clause is) here) (more next (chain_more start step clause next is here) e)

    steps_from : (chain : ChainView) (end : Clause) → chain_end cs chain ≡ Some end → IsNumber chain.start × All HasStepSpelling chain.steps
    unfolding chain_end
    steps_from chain end e = by (numbered_clause cs chain.start) refl e
      where
        by : (o : Option Clause) → numbered_clause cs chain.start ≡ o → fold (λ end step. option_and_then (λ clause. clause_after_step cs clause step) end) o chain.steps ≡ Some end → IsNumber chain.start × All HasStepSpelling chain.steps
        by None is e = absurd (let w : ◌≡◌ {A = Option Clause} None (Some end) = sym (none_stays chain.steps) ∙ e in cc)
        by (Some first) is e = (number_spelled chain.start first is, steps_spelled chain.steps (record chain { steps = [] }) first end is e)

    pub chain_spelled : (chain : ChainView) (end : Clause) → chain_end cs chain ≡ Some end → HasLiteralSpelling chain.fresh_at → HasChainSpelling chain
    chain_spelled chain end e fresh = let parts = steps_from chain end e in record { start = parts.0; fresh_at = fresh; steps = parts.1 }

  -- Each chain of a log whose literal is one of its end.
  pub log_spelled : (P : ChainView → Type 0) (cs : List Clause) (log : List ChainView) (ends : List Clause) → All (HasVariablesUpTo n) cs → length cs + length log < 2 ^ 32 → log_ends cs log ≡ Some ends
      → ((chain : ChainView) (at : ℕ) (end : Clause) → slice_get log at ≡ Some chain → slice_get ends at ≡ Some end → HasVariablesUpTo n end → HasLiteralSpelling chain.fresh_at × (HasChainSpelling chain → P chain)) → All P log
  log_spelled P cs [] ends all few are step = All-nil P
  log_spelled P cs (chain ∷ log) ends all few are step =
      let p = parts_of cs chain log ends are in
      let within = chain_within n cs all chain p.first p.first_is in
      let own = step chain 0 p.first refl (ap (λ (es : List Clause). slice_get es 0) p.are) within in
      All-cons P chain log (own.1 (chain_spelled cs all (omega arith) chain p.first p.first_is own.0))
      (log_spelled P (cs ++ p.first ∷ []) log p.rest (All-append (HasVariablesUpTo n) cs (p.first ∷ []) all (All-cons (HasVariablesUpTo n) p.first [] within (All-nil (HasVariablesUpTo n))))
      (omega (arith, few, length-append cs (p.first ∷ []))) p.rest_are (λ c at end there is inside. step c (suc at) end there (ap (λ (es : List Clause). slice_get es (suc at)) p.are ∙ is) inside))
