-- One chain of a log after another, over a pool that has the miter's clauses and the ends so far.
use Rattle.std.proofs.Common.{◌≡◌, ◌≢◌, ◌∙◌, ℕ, ◌+◌, ◌<◌, ◌≤◌, ◌++◌, List, [], ◌∷◌, length, get_or, refl, sym, ap, subst, arith}
use Rattle.std.specs.Prelude.{Bool, true, false, Option, Some, slice_get, All}
use Rattle.std.proofs.lemmas.List.{append_assoc}
use Rattle.std.proofs.lemmas.Option.{slice_get_read}
use Rattle.clause_pool.specs.Clauses.{Clause}
use Rattle.clause_pool.specs.Proper.{HasVariablesUpTo}
use Rattle.pair_miter.specs.ChainView.{ChainView}
use Rattle.pair_miter.specs.Resolution.{chain_end, SameLiterals, AreAlike}
use Rattle.evidence_rules.specs.declared.refusal.EvidenceKind.{EvidenceKind}
use Rattle.evidence_rules.specs.declared.refusal.EvidenceKind.TheVariants.{Covered, Refuted, Spent}
use Rattle.evidence_rules.specs.declared.refusal.RefusalKind.{RefusalKind}
use Rattle.evidence_rules.specs.declared.refusal.RefusalKind.TheVariants.{WrongCount}
use Rattle.evidence_rules.specs.declared.refusal.Refusal.{Refusal}
use Rattle.evidence_rules.specs.LogRefusal.{AreRightBefore, ChainStops, EndsAs, HasRightLength, IsRightEnd, IsRuleFor, LogRefused, at_step, at_end, end_refusal, is_last, no_clause, no_pivot, no_start}
use Rattle.refute_check.specs.PoolEnds.{HasEndsOf, chains_before, right_chains}
use Rattle.refute_check.proofs.Alike.{refusal_alike, right_alike, stops_alike}
use Rattle.pair_miter.proofs.EndVariables.{within_alike, chain_within}
use Rattle.pair_miter.proofs.Alike.{alike_first, alike_sym, alike_some, chain_alike, alike_more}
use Rattle.pair_miter.proofs.SameLiterals.{same_sym, same_trans}
use Rattle.refute_check.proofs.Chains.{before_first, before_next, first_ends, next_ends}

pub end_within : (variable : ℕ) (pool : List Clause) (chain : ChainView) (literals : Clause) → All (HasVariablesUpTo variable) pool → EndsAs pool chain literals → HasVariablesUpTo variable literals
end_within variable pool chain literals all (end, is, same) = within_alike variable literals end same (chain_within variable pool all chain end is)

-- a log of the right length has at most one chain more than the limit
pub few_chains : (kind : EvidenceKind) (limit : ℕ) (log : List ChainView) → kind ≢ Covered → HasRightLength kind limit log → length log ≤ limit + 1
few_chains Covered limit log other h = absurd (other refl)
few_chains Refuted limit log other h = h.1
few_chains Spent limit log other h = omega (arith, h)

-- before the first chain there is no end
pub ends_none : (kind : EvidenceKind) (clauses : List Clause) (log : List ChainView) → HasEndsOf clauses log 0 clauses
ends_none kind clauses log = record {
  ends = (before_first kind clauses log).ends;
  are = (before_first kind clauses log).are;
  alike = subst (λ ends. AreAlike (clauses ++ ends) clauses) (sym (first_ends kind clauses log)) (alike_first clauses);
}

-- nor if the log is refused for its number of chains
pub ends_uncounted : (kind : EvidenceKind) (clauses : List Clause) (log : List ChainView) (step : ℕ) {refusal : Refusal} → record { kind = WrongCount; step = step } ≡ refusal → HasEndsOf clauses log (right_chains refusal) clauses
ends_uncounted kind clauses log step is = subst (λ (r : Refusal). HasEndsOf clauses log (right_chains r) clauses) is (ends_none kind clauses log)

-- The chain is at this place of the log, the chains before it are right, and the pool has the clauses and their ends.
pub record IsNext (kind : EvidenceKind) (clauses : List Clause) (log : List ChainView) (at : ℕ) (chain : ChainView) (pool : List Clause) : Type 0 where
  pub before : AreRightBefore kind clauses log at
  pub chain_is : slice_get log at ≡ Some chain
  pub are : AreAlike (clauses ++ before.ends) pool

pub next_chain : {kind : EvidenceKind} {clauses : List Clause} {log : List ChainView} {at : ℕ} {chain : ChainView} {pool : List Clause} → at < length log → chain ≡ get_or log at chain → (before : AreRightBefore kind clauses log at)
    → (at < length log → AreAlike (clauses ++ before.ends) pool) → IsNext kind clauses log at chain pool
next_chain {log = log} {at = at} {chain = chain} inside is before are =
    record { before = before; chain_is = slice_get_read log (length log) at chain refl inside is; are = are inside }

-- what is said of an end, by what is returned
pub rule_told : (kind : EvidenceKind) (last : Bool) (pool : List Clause) (chain : ChainView) (literals : Clause) {rule found : Option RefusalKind} → rule ≡ found → IsRuleFor kind last pool chain literals rule → IsRuleFor kind last pool chain literals found
rule_told kind last pool chain literals is told = subst (IsRuleFor kind last pool chain literals) is told

-- a chain that stops, or has a wrong end, isn't refused for a number of chains
stopped_before : {pool : List Clause} {chain : ChainView} {rule : RefusalKind} (step : ℕ) → ChainStops pool chain rule → chains_before rule step ≡ step
stopped_before step (no_start none is) = ap (λ rule. chains_before rule step) is
stopped_before step (no_clause at s clause here there none is) = ap (λ rule. chains_before rule step) is
stopped_before step (no_pivot at s clause other here there numbered wrong is) = ap (λ rule. chains_before rule step) is

ended_before : (kind : EvidenceKind) (last : Bool) (end : Clause) (step : ℕ) → chains_before (end_refusal kind last end) step ≡ step
ended_before Spent last [] step = refl
ended_before Spent last (l ∷ ls) step = refl
ended_before Covered true end step = refl
ended_before Covered false end step = refl
ended_before Refuted true end step = refl
ended_before Refuted false end step = refl

module _ {kind : EvidenceKind} {clauses : List Clause} {log : List ChainView} {at : ℕ} {chain : ChainView} {pool : List Clause} (n : IsNext kind clauses log at chain pool) where
  pub refused_step : (limit : ℕ) (refusal : Refusal) → HasRightLength kind limit log → refusal.step ≡ at → ChainStops pool chain refusal.kind → LogRefused kind clauses limit log refusal
  refused_step limit refusal long here stops =
      at_step at refusal.kind long (record { before = n.before; chain = chain; chain_is = n.chain_is; stops = stops_alike (clauses ++ n.before.ends) pool n.are chain refusal.kind stops })
      (λ i. record { kind = refusal.kind; step = here i })

  -- the pool has the ends of the chains before this one
  pub held_here : HasEndsOf clauses log at pool
  held_here = record { ends = n.before.ends; are = n.before.are; alike = n.are }

  pub stopped_step : (refusal : Refusal) → refusal.step ≡ at → ChainStops pool chain refusal.kind → HasEndsOf clauses log (right_chains refusal) pool
  stopped_step refusal here stops = subst (λ count. HasEndsOf clauses log count pool) (sym (stopped_before refusal.step stops ∙ here)) held_here

  pub stopped_end : (last : Bool) (end : Clause) (rule : RefusalKind) → rule ≡ end_refusal kind last end → (refusal : Refusal) → refusal ≡ record { kind = rule; step = at } → HasEndsOf clauses log (right_chains refusal) pool
  stopped_end last end rule rule_is refusal is =
      subst (λ count. HasEndsOf clauses log count pool) (sym (ap right_chains is ∙ (ap (λ r. chains_before r at) rule_is ∙ ended_before kind last end at))) held_here

  module _ (literals : Clause) (ends : EndsAs pool chain literals) where
    -- the end over the clauses and the ends so far
    pub own_end : (end : Clause) × (chain_end (clauses ++ n.before.ends) chain ≡ Some end) × SameLiterals end literals
    own_end =
        let own = alike_some (chain_end (clauses ++ n.before.ends) chain) (chain_end pool chain) ends.0 (chain_alike (clauses ++ n.before.ends) pool n.are chain) ends.1 in
        (own.0, own.1, same_trans own.0 ends.0 literals own.2 (same_sym literals ends.0 ends.2))

    pub refused_end : (limit : ℕ) (refusal : Refusal) → HasRightLength kind limit log → (rule : RefusalKind) → (IsRightEnd kind (is_last log at) pool chain literals → ⊥) → rule ≡ end_refusal kind (is_last log at) literals → refusal ≡ record { kind = rule; step = at }
        → LogRefused kind clauses limit log refusal
    refused_end limit refusal long rule wrong rule_is is =
        let own = own_end in
        at_end at own.0 long (record {
          before = n.before;
          chain = chain;
          chain_is = n.chain_is;
          end_is = own.1;
          wrong = λ right. wrong (right_alike pool (clauses ++ n.before.ends) (alike_sym n.are) kind (is_last log at) chain literals own.0 (same_sym own.0 literals own.2) right);
        })
        (is ∙ ap (λ rule. record { kind = rule; step = at }) (rule_is ∙ sym (refusal_alike kind (is_last log at) own.0 literals own.2)))

    pub right_step : IsRightEnd kind (is_last log at) pool chain literals → AreRightBefore kind clauses log (at + 1)
    right_step right =
        let own = own_end in
        before_next kind clauses log at chain own.0 n.before n.chain_is own.1 (right_alike (clauses ++ n.before.ends) pool n.are kind (is_last log at) chain own.0 literals own.2 right)

    pub alike_next : (right : IsRightEnd kind (is_last log at) pool chain literals) → AreAlike (clauses ++ (right_step right).ends) (pool ++ literals ∷ [])
    unfolding right_step
    alike_next right =
        let own = own_end in
        let here = right_alike (clauses ++ n.before.ends) pool n.are kind (is_last log at) chain own.0 literals own.2 right in
        subst (λ cs. AreAlike cs (pool ++ literals ∷ []))
        (append_assoc clauses n.before.ends (own.0 ∷ []) ∙ ap (λ ends. clauses ++ ends) (sym (next_ends kind clauses log at chain own.0 n.before n.chain_is own.1 here)))
        (alike_more (clauses ++ n.before.ends) pool own.0 literals n.are own.2)

    -- with the chain's end the pool has those up to this chain
    pub held_next : IsRightEnd kind (is_last log at) pool chain literals → HasEndsOf clauses log (at + 1) (pool ++ literals ∷ [])
    held_next right = record { ends = (right_step right).ends; are = (right_step right).are; alike = alike_next right }
