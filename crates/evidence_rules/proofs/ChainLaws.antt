-- A chain ends or stops, never both, and it stops for one rule.
use Rattle.std.proofs.Common.{◌≡◌, ◌∙◌, ℕ, zero, suc, ◌<◌, ◌≤◌, ◌+◌, ◌-◌, ◌⊎◌, inl, inr, refl, sym, ap, arith, get_or, length}
use Rattle.std.specs.Prelude.{Bool, true, false, List, Option, None, Some, slice_get, option_and_then, if◌then◌else◌}
use Rattle.std.specs.Option.{option_map_or}
use Rattle.std.proofs.lemmas.Bool.{cases_lt}
use Rattle.std.proofs.lemmas.List.{take_all, get_or_default}
use Rattle.std.proofs.lemmas.Option.{none-some, slice_get-get_or, slice_get_within, get_or_from_slice_get}
use Rattle.clause_pool.specs.Literal.{Literal, pos_literal}
use Rattle.clause_pool.specs.Clauses.{Clause, numbered_clause}
use Rattle.pair_miter.specs.ChainView.{ChainView}
use Rattle.pair_miter.specs.Resolution.{can_resolve, resolvent, clause_after_step, chain_end}
use Rattle.evidence_rules.specs.declared.refusal.RefusalKind.{RefusalKind}
use Rattle.evidence_rules.specs.declared.refusal.RefusalKind.TheVariants.{NoSuchClause, NoPivot}
use Rattle.evidence_rules.specs.LogRefusal.{ChainStops, no_start, no_clause, no_pivot, chain_before}
use Rattle.evidence_rules.proofs.Steps.{step_more, end_more, resolved_end}

module _ (clauses : List Clause) (chain : ChainView) where
  -- the end of the first steps
  abbrev pub so_far : ℕ → Option Clause
  so_far n = chain_end clauses (chain_before n chain)

  so_far_none : so_far 0 ≡ numbered_clause clauses chain.start
  unfolding chain_end
  so_far_none = refl

  so_far_all : (n : ℕ) → length chain.steps ≤ n → so_far n ≡ chain_end clauses chain
  so_far_all n past = ap (λ steps. chain_end clauses (record chain { steps = steps })) (take_all n chain.steps past)

  -- the step at a place
  step_at : ℕ → Literal × ℕ
  step_at n = get_or chain.steps n (pos_literal 0, 0)

  step_there : (n : ℕ) → n < length chain.steps → step_at n ≡ get_or chain.steps n (step_at n)
  unfolding step_at
  step_there n inside = get_or_default chain.steps n (pos_literal 0, 0) (step_at n) inside

  stays_none : (n more : ℕ) → so_far n ≡ None → so_far (n + more) ≡ None
  stays_none n zero none = let e : n + 0 ≡ n = omega arith in ap so_far e ∙ none
  stays_none n (suc more) none =
      let e : n + suc more ≡ (n + more) + 1 = omega arith in
      let before = stays_none n more none in
      ap so_far e
      ∙ elim (cases_lt (n + more) (length chain.steps)) [
        | inl inside ↦ step_more clauses chain (n + more) (step_at (n + more)) inside (step_there (n + more) inside) ∙ ap (option_and_then (λ clause. clause_after_step clauses clause (step_at (n + more)))) before
        | inr past ↦ so_far_all ((n + more) + 1) (omega (arith, past)) ∙ (sym (so_far_all (n + more) past) ∙ before)
      ]

  stays_none_at : (n m : ℕ) → n ≤ m → so_far n ≡ None → so_far m ≡ None
  stays_none_at n m le none = let e : n + (m - n) ≡ m = omega arith in ap so_far (sym e) ∙ stays_none n (m - n) none

  -- the rule that is broken if the chain has no end after this many steps, but had one before the last of them
  abbrev pub stop_kind : ℕ → RefusalKind
  stop_kind zero = NoSuchClause
  stop_kind (suc at) = option_map_or (λ step. option_map_or (λ other. NoPivot) (numbered_clause clauses step.1) NoSuchClause) (slice_get chain.steps at) NoSuchClause

  pub record Stop (kind : RefusalKind) : Type 0 where
    pub place : ℕ
    pub none : so_far place ≡ None
    pub before : (k : ℕ) → k < place → so_far k ≡ None → ⊥
    pub rule : kind ≡ stop_kind place

  -- after a step that can't be made
  stop_after : (kind : RefusalKind) (at : ℕ) (clause : Clause) → so_far at ≡ Some clause → so_far (at + 1) ≡ None → kind ≡ stop_kind (suc at) → Stop kind
  stop_after kind at clause some none rule = record {
    place = suc at;
    none = let e : suc at ≡ at + 1 = omega arith in ap so_far e ∙ none;
    before = λ k lower absent. none-some clause (sym (stays_none_at k at (omega (arith, lower)) absent) ∙ some);
    rule = rule;
  }

  unnamed : (step : Literal × ℕ) (clause : Clause) → numbered_clause clauses step.1 ≡ None → clause_after_step clauses clause step ≡ None
  unfolding clause_after_step
  unnamed step clause absent = ap (option_and_then (λ other. if can_resolve step.0 clause other then Some (resolvent step.0 clause other) else None)) absent

  unresolved : (step : Literal × ℕ) (clause other : Clause) → numbered_clause clauses step.1 ≡ Some other → can_resolve step.0 clause other ≡ false → clause_after_step clauses clause step ≡ None
  unfolding clause_after_step
  unresolved step clause other is cannot =
      ap (option_and_then (λ other. if can_resolve step.0 clause other then Some (resolvent step.0 clause other) else None)) is
      ∙ ap (λ (b : Bool). if b then Some (resolvent step.0 clause other) else None) cannot

  pub stop_of : (kind : RefusalKind) → ChainStops clauses chain kind → Stop kind
  stop_of kind (no_start absent is) = record { place = 0; none = so_far_none ∙ absent; before = λ k lower. absurd (omega (arith, lower)); rule = is }
  stop_of kind (no_clause at step clause some step_is absent is) =
      let inside = slice_get_within chain.steps at step step_is in
      stop_after kind at clause some (end_more clauses chain at step clause inside (sym (get_or_from_slice_get chain.steps at step step step_is)) some ∙ unnamed step clause absent)
      (is ∙ sym (ap (λ o. option_map_or (λ (next : Literal × ℕ). option_map_or (λ other. NoPivot) (numbered_clause clauses next.1) NoSuchClause) o NoSuchClause) step_is ∙ ap (λ o. option_map_or (λ other. NoPivot) o NoSuchClause) absent))
  stop_of kind (no_pivot at step clause other some step_is named cannot is) =
      let inside = slice_get_within chain.steps at step step_is in
      stop_after kind at clause some (end_more clauses chain at step clause inside (sym (get_or_from_slice_get chain.steps at step step step_is)) some ∙ unresolved step clause other named cannot)
      (is ∙ sym (ap (λ o. option_map_or (λ (next : Literal × ℕ). option_map_or (λ other. NoPivot) (numbered_clause clauses next.1) NoSuchClause) o NoSuchClause) step_is ∙ ap (λ o. option_map_or (λ other. NoPivot) o NoSuchClause) named))

  pub stopped_has_no_end : (kind : RefusalKind) → ChainStops clauses chain kind → chain_end clauses chain ≡ None
  stopped_has_no_end kind stops =
      let s = stop_of kind stops in
      let all = length chain.steps in
      sym (so_far_all (s.place + all) (omega arith)) ∙ stays_none s.place all s.none

  pub stops_once : (kind other : RefusalKind) → ChainStops clauses chain kind → ChainStops clauses chain other → kind ≡ other
  stops_once kind other stops again =
      let s = stop_of kind stops in
      let t = stop_of other again in
      let same : s.place ≡ t.place =
      elim (cases_lt s.place t.place) [
        | inl lower ↦ absurd (t.before s.place lower s.none)
        | inr above ↦ elim (cases_lt t.place s.place) [ inl lower ↦ absurd (s.before t.place lower t.none) | inr below ↦ omega (arith, above, below) ]
      ] in
      s.rule ∙ (ap stop_kind same ∙ sym t.rule)

  ends_so_far : (n : ℕ) → n ≤ length chain.steps → ((end : Clause) × (so_far n ≡ Some end)) ⊎ ((kind : RefusalKind) × ChainStops clauses chain kind)
  ends_so_far zero h = by (numbered_clause clauses chain.start) refl
    where
      by : (o : Option Clause) → numbered_clause clauses chain.start ≡ o → ((end : Clause) × (so_far 0 ≡ Some end)) ⊎ ((kind : RefusalKind) × ChainStops clauses chain kind)
      by None is = inr (NoSuchClause, no_start is refl)
      by (Some end) is = inl (end, so_far_none ∙ is)
  ends_so_far (suc n) h = elim (ends_so_far n (omega (arith, h))) [
    | inr stops ↦ inr stops
    | inl ended ↦ by ended.0 ended.1 (numbered_clause clauses (step_at n).1) refl
  ]
    where
      inside : n < length chain.steps
      inside = omega (arith, h)

      step_is : slice_get chain.steps n ≡ Some (step_at n)
      step_is = slice_get-get_or chain.steps n (step_at n) inside ∙ ap Some (sym (step_there n inside))

      next : so_far (suc n) ≡ so_far (n + 1)
      next = let e : suc n ≡ n + 1 = omega arith in ap so_far e

      resolve : (end other : Clause) → so_far n ≡ Some end → numbered_clause clauses (step_at n).1 ≡ Some other → (b : Bool) → can_resolve (step_at n).0 end other ≡ b
          → ((last : Clause) × (so_far (suc n) ≡ Some last)) ⊎ ((kind : RefusalKind) × ChainStops clauses chain kind)
      resolve end other some named true can =
          inl (resolvent (step_at n).0 end other, next ∙ (end_more clauses chain n (step_at n) end inside (step_there n inside) some ∙ resolved_end clauses chain (step_at n) end other named can))
      resolve end other some named false cannot = inr (NoPivot, no_pivot n (step_at n) end other some step_is named cannot refl)

      by : (end : Clause) → so_far n ≡ Some end → (o : Option Clause) → numbered_clause clauses (step_at n).1 ≡ o → ((last : Clause) × (so_far (suc n) ≡ Some last)) ⊎ ((kind : RefusalKind) × ChainStops clauses chain kind)
      by end some None absent = inr (NoSuchClause, no_clause n (step_at n) end some step_is absent refl)
      by end some (Some other) named = resolve end other some named (can_resolve (step_at n).0 end other) refl

  pub ends_or_stops : ((end : Clause) × (chain_end clauses chain ≡ Some end)) ⊎ ((kind : RefusalKind) × ChainStops clauses chain kind)
  ends_or_stops = elim (ends_so_far (length chain.steps) (omega arith)) [
    | inl ended ↦ inl (ended.0, sym (so_far_all (length chain.steps) (omega arith)) ∙ ended.1)
    | inr stops ↦ inr stops
  ]
