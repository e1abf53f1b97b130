-- The steps of a chain, with sets of literals in place of its clauses.
use Rattle.std.proofs.Common.{◌≡◌, ◌∙◌, ◌<◌, ◌≤◌, ◌+◌, refl, sym, ap, subst, take, get_or}
use Rattle.std.specs.Prelude.{ℕ, Bool, true, false, List, length, fold, Option, None, Some, option_and_then, if◌then◌else◌}
use Rattle.std.proofs.lemmas.Bool.{true_from_ne_false}
use Rattle.std.proofs.lemmas.List.{take_all}
use Rattle.std.proofs.lemmas.List.Sums.{fold_more}
use Rattle.std.proofs.lemmas.Option.{slice_get-get_or}
use Rattle.clause_pool.specs.Literal.{Literal}
use Rattle.clause_pool.specs.Clauses.{Clause, numbered_clause}
use Rattle.pair_miter.specs.ChainView.{ChainView}
use Rattle.pair_miter.specs.Resolution.{can_resolve, resolvent, clause_after_step, chain_end, SameLiterals}
use Rattle.evidence_rules.specs.declared.refusal.RefusalKind.TheVariants.{NoSuchClause, NoPivot}
use Rattle.evidence_rules.specs.LogRefusal.{ChainStops, EndsAs, chain_before}
use Rattle.evidence_rules.specs.LogRefusal.ChainStops.{no_clause, no_pivot}
use Rattle.pair_miter.proofs.SameLiterals.{same_trans, same_refl, can_alike, resolvent_alike}

-- ---- steps

module _ (clauses : List Clause) (chain : ChainView) where
  pub ends_first : (ls start : Clause) → numbered_clause clauses chain.start ≡ Some start → SameLiterals ls start → EndsAs clauses (chain_before 0 chain) ls
  unfolding chain_end
  ends_first ls start is same = (start, is, same)

  -- the end after one more step
  pub step_more : (at : ℕ) (step : Literal × ℕ) → at < length chain.steps → step ≡ get_or chain.steps at step
      → chain_end clauses (chain_before (at + 1) chain) ≡ option_and_then (λ clause. clause_after_step clauses clause step) (chain_end clauses (chain_before at chain))
  unfolding chain_end
  step_more at step inside is =
      let after : Option Clause → Literal × ℕ → Option Clause = λ before next. option_and_then (λ clause. clause_after_step clauses clause next) before in
      fold_more after (numbered_clause clauses chain.start) chain.steps at step inside ∙ ap (after (fold after (numbered_clause clauses chain.start) (take at chain.steps))) (sym is)

  pub end_more : (at : ℕ) (step : Literal × ℕ) (end : Clause) → at < length chain.steps → step ≡ get_or chain.steps at step → chain_end clauses (chain_before at chain) ≡ Some end
      → chain_end clauses (chain_before (at + 1) chain) ≡ clause_after_step clauses end step
  end_more at step end inside is e = step_more at step inside is ∙ ap (option_and_then (λ clause. clause_after_step clauses clause step)) e

  pub resolved_end : (step : Literal × ℕ) (end other : Clause) → numbered_clause clauses step.1 ≡ Some other → can_resolve step.0 end other ≡ true → clause_after_step clauses end step ≡ Some (resolvent step.0 end other)
  unfolding clause_after_step
  resolved_end step end other is can =
      ap (option_and_then (λ clause. if can_resolve step.0 end clause then Some (resolvent step.0 end clause) else None)) is
      ∙ ap (λ (b : Bool). if b then Some (resolvent step.0 end other) else None) can

  pub ends_more : (at : ℕ) (step : Literal × ℕ) (ls new other : Clause) → at < length chain.steps → step ≡ get_or chain.steps at step → EndsAs clauses (chain_before at chain) ls → numbered_clause clauses step.1 ≡ Some other
      → ¬ (can_resolve step.0 ls other ≡ false) → SameLiterals new (resolvent step.0 ls other) → EndsAs clauses (chain_before (at + 1) chain) new
  ends_more at step ls new other inside is (end, was, same) named can resolved = (
    resolvent step.0 end other,
    end_more at step end inside is was ∙ resolved_end step end other named (sym (can_alike step.0 ls end other other same (same_refl other)) ∙ true_from_ne_false (can_resolve step.0 ls other) can),
    same_trans new (resolvent step.0 ls other) (resolvent step.0 end other) resolved (resolvent_alike step.0 ls end other other same (same_refl other)),
  )

  pub ends_last : (at : ℕ) (ls : Clause) → length chain.steps ≤ at → EndsAs clauses (chain_before at chain) ls → EndsAs clauses chain ls
  ends_last at ls past ends = subst (λ steps. EndsAs clauses (record chain { steps = steps }) ls) (take_all at chain.steps past) ends

  -- ---- steps that can't be made

  pub stops_unnamed : (at : ℕ) (step : Literal × ℕ) (ls : Clause) → at < length chain.steps → step ≡ get_or chain.steps at step → EndsAs clauses (chain_before at chain) ls → numbered_clause clauses step.1 ≡ None
      → ChainStops clauses chain NoSuchClause
  stops_unnamed at step ls inside is (end, was, same) none = no_clause at step end was (slice_get-get_or chain.steps at step inside ∙ ap Some (sym is)) none refl

  pub stops_unresolved : (at : ℕ) (step : Literal × ℕ) (ls other : Clause) → at < length chain.steps → step ≡ get_or chain.steps at step → EndsAs clauses (chain_before at chain) ls → numbered_clause clauses step.1 ≡ Some other
      → can_resolve step.0 ls other ≡ false → ChainStops clauses chain NoPivot
  stops_unresolved at step ls other inside is (end, was, same) named cannot =
      no_pivot at step end other was (slice_get-get_or chain.steps at step inside ∙ ap Some (sym is)) named (sym (can_alike step.0 ls end other other same (same_refl other)) ∙ cannot) refl
