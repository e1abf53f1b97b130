-- How a log that isn't right is refused: for its number of chains, else at its first wrong chain.
use Rattle.std.specs.Prelude.{◌≡◌, ◌≢◌, ◌<◌, ◌≤◌, ◌+◌, ℕ, Bool, List, [], ◌∷◌, ◌++◌, length, take, None, Some, slice_get, ◌==◌, ⊤, true, false, Option, MatchOption}
use Rattle.std.specs.Bool.{MatchBool}
use Rattle.clause_pool.specs.Literal.{Literal}
use Rattle.clause_pool.specs.Clauses.{Clause, numbered_clause}
use Rattle.pair_miter.specs.ChainView.{ChainView}
use Rattle.pair_miter.specs.Resolution.{can_resolve, chain_end, log_ends, SameLiterals}
use Rattle.pair_miter.specs.Log.{IsRefutation, IsSpentLog, EndsFresh}
use Rattle.evidence_rules.specs.declared.refusal.EvidenceKind.{EvidenceKind}
use Rattle.evidence_rules.specs.declared.refusal.EvidenceKind.TheVariants.{Covered, Refuted, Spent}
use Rattle.evidence_rules.specs.declared.refusal.Refusal.{Refusal}
use Rattle.evidence_rules.specs.declared.refusal.RefusalKind.{RefusalKind}
use Rattle.evidence_rules.specs.declared.refusal.RefusalKind.TheVariants.{NoSuchClause, NoPivot, NotEmpty, EmptyEarly, NotFresh, WrongCount}

-- The log is what this kind of evidence needs; a covering tree needs none.
abbrev pub IsRightLog : EvidenceKind → List Clause → ℕ → List ChainView → Type 0
IsRightLog Covered clauses limit log = ⊤
IsRightLog Refuted clauses limit log = IsRefutation clauses limit log
IsRightLog Spent clauses limit log = IsSpentLog clauses limit log

-- ---- a chain that can't be followed

-- the chain with only its first steps, `at` of them
abbrev pub chain_before : ℕ → ChainView → ChainView
chain_before at chain = record chain { steps = take at chain.steps }

-- The chain stops for this rule, at the first thing that can't be done: `NoSuchClause` for a number without a clause,
-- `NoPivot` for a pivot on which the clauses can't be resolved; at each step the number comes first.
pub data ChainStops (clauses : List Clause) (chain : ChainView) (kind : RefusalKind) : Type 0 where
  no_start : numbered_clause clauses chain.start ≡ None → kind ≡ NoSuchClause → ChainStops clauses chain kind
  no_clause : (at : ℕ) (step : Literal × ℕ) (clause : Clause) → chain_end clauses (chain_before at chain) ≡ Some clause → slice_get chain.steps at ≡ Some step → numbered_clause clauses step.1 ≡ None → kind ≡ NoSuchClause → ChainStops clauses chain kind
  no_pivot : (at : ℕ) (step : Literal × ℕ) (clause other : Clause) → chain_end clauses (chain_before at chain) ≡ Some clause → slice_get chain.steps at ≡ Some step → numbered_clause clauses step.1 ≡ Some other → can_resolve step.0 clause other ≡ false → kind ≡ NoPivot → ChainStops clauses chain kind

-- The chain ends in a clause with these literals.
abbrev pub EndsAs : List Clause → ChainView → List Literal → Type 0
EndsAs clauses chain literals = (end : Clause) × (chain_end clauses chain ≡ Some end) × SameLiterals literals end

-- ---- the chains in order

-- The end of a chain is what the kind asks for: in a refutation the end of the last chain is empty and that of no other
-- is, in a spent log each end is fresh, and for a covering tree any end is right. The flag says whether the chain is
-- the last one.
abbrev pub IsRightEnd : EvidenceKind → Bool → List Clause → ChainView → Clause → Type 0
IsRightEnd Covered last clauses chain end = ⊤
IsRightEnd Refuted last clauses chain end = MatchBool last (end ≡ []) (end ≢ [])
IsRightEnd Spent last clauses chain end = EndsFresh clauses chain end

-- the rule that a wrong end breaks: an end that is empty too early is `EmptyEarly`, a refutation's last end with
-- literals is `NotEmpty`, and the end of a spent log with literals is `NotFresh`
abbrev pub end_refusal : EvidenceKind → Bool → Clause → RefusalKind
end_refusal Spent last [] = EmptyEarly
end_refusal Spent last (l ∷ ls) = NotFresh
end_refusal Covered true end = NotEmpty
end_refusal Covered false end = EmptyEarly
end_refusal Refuted true end = NotEmpty
end_refusal Refuted false end = EmptyEarly

-- The log has as many chains as its kind may have: a refutation has at least one and at most one more than `limit`, a
-- spent log exactly `limit`, and for a covering tree any number is right.
abbrev pub HasRightLength : EvidenceKind → ℕ → List ChainView → Type 0
HasRightLength Covered limit log = ⊤
HasRightLength Refuted limit log = (0 < length log) × (length log ≤ limit + 1)
HasRightLength Spent limit log = length log ≡ limit

abbrev pub is_last : List ChainView → ℕ → Bool
is_last log at = at + 1 == length log

-- The rule is the one that the end breaks, or there is none and the end is right.
abbrev pub IsRuleFor : EvidenceKind → Bool → List Clause → ChainView → Clause → Option RefusalKind → Type 0
IsRuleFor kind last clauses chain end rule = MatchOption rule (IsRightEnd kind last clauses chain end) (λ rule. (¬ IsRightEnd kind last clauses chain end) × (rule ≡ end_refusal kind last end))

-- The chains before the place have ends, and each is right.
pub record AreRightBefore (kind : EvidenceKind) (clauses : List Clause) (log : List ChainView) (at : ℕ) : Type 0 where
  pub ends : List Clause
  pub are : log_ends clauses (take at log) ≡ Some ends
  pub each : (k : ℕ) (chain : ChainView) (end : Clause) → slice_get log k ≡ Some chain → slice_get ends k ≡ Some end → IsRightEnd kind (is_last log k) (clauses ++ take k ends) chain end

-- All chains before the place are right, and the chain there stops for this rule.
pub record ChainStopsAt (kind : EvidenceKind) (clauses : List Clause) (log : List ChainView) (at : ℕ) (refusal : RefusalKind) : Type 0 where
  pub before : AreRightBefore kind clauses log at
  pub chain : ChainView
  pub chain_is : slice_get log at ≡ Some chain
  pub stops : ChainStops (clauses ++ before.ends) chain refusal

-- All chains before the place are right, and the chain there has this end, which is wrong.
pub record EndsWrong (kind : EvidenceKind) (clauses : List Clause) (log : List ChainView) (at : ℕ) (end : Clause) : Type 0 where
  pub before : AreRightBefore kind clauses log at
  pub chain : ChainView
  pub chain_is : slice_get log at ≡ Some chain
  pub end_is : chain_end (clauses ++ before.ends) chain ≡ Some end
  pub wrong : ¬ IsRightEnd kind (is_last log at) (clauses ++ before.ends) chain end

-- The log is refused in this way: for a wrong number of chains, and else at the first chain that stops or has a wrong
-- end.
pub data LogRefused (kind : EvidenceKind) (clauses : List Clause) (limit : ℕ) (log : List ChainView) (refusal : Refusal) : Type 0 where
  wrong_count : ¬ HasRightLength kind limit log → refusal ≡ record { kind = WrongCount; step = length log } → LogRefused kind clauses limit log refusal
  at_step : (at : ℕ) (rule : RefusalKind) → HasRightLength kind limit log → ChainStopsAt kind clauses log at rule → refusal ≡ record { kind = rule; step = at } → LogRefused kind clauses limit log refusal
  at_end : (at : ℕ) (end : Clause) → HasRightLength kind limit log → EndsWrong kind clauses log at end → refusal ≡ record { kind = end_refusal kind (is_last log at) end; step = at } → LogRefused kind clauses limit log refusal
