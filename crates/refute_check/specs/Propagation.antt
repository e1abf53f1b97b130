-- Unit propagation along lists of clauses: which clauses are still to be looked at.
use Rattle.std.specs.Prelude.{◌≡◌, ◌<◌, ◌≤◌, ◌+◌, ◌++◌, ◌∷◌, ℕ, Bool, List, [], Contains, Option, Some, drop, length, slice_index_or, slice_set}
use Rattle.clause_pool.specs.Literal.{Literal, opposite}
use Rattle.clause_pool.specs.Clauses.{Clause}
use Rattle.refute_check.specs.declared.assignment.Assignment.{Assignment}
use Rattle.refute_check.specs.declared.freshness.Propagator.{Propagator}
use Rattle.evidence_rules.specs.declared.refusal.EvidenceKind.{EvidenceKind}
use Rattle.evidence_rules.specs.declared.refusal.EvidenceKind.TheVariants.{Spent}
use Rattle.refute_check.specs.declared.looked.Looked.{Looked}
use Rattle.refute_check.specs.Assignment.{IsAssignment}
use Rattle.refute_check.specs.Held.{IsLiteralOpen, IsQuietAt}
use Rattle.refute_check.specs.Index.{IsIndexOf}
use Rattle.refute_check.specs.Looked.{IsLookedAt}

-- Unit propagation has nothing to do at the clause, or one of its literals is false by a literal that is still to be
-- visited, or the clause's number is among those still to be visited.
pub data IsClauseSettled (values : List (Option Bool)) (coming : List Literal) (numbers : List ℕ) (number : ℕ) (clause : Clause) : Type 0 where
  quiet : IsQuietAt values clause → IsClauseSettled values coming numbers number clause
  falsified : (l : Literal) → Contains clause l → Contains coming (opposite l) → IsClauseSettled values coming numbers number clause
  listed : Contains numbers number → IsClauseSettled values coming numbers number clause

-- Each clause is settled if the literals from place `from` up, and the clauses of these numbers, are still to be
-- visited.
abbrev pub AreClausesSettled : List Clause → Assignment → ℕ → List ℕ → Type 0
AreClausesSettled clauses a from numbers = (k : ℕ) → k < length clauses → IsClauseSettled a.values.items (drop from a.trail.items) numbers (k + 1) (slice_index_or clauses k [])

-- Nothing more is held, or one more literal that was undetermined.
pub data HoldsMore (before after : Assignment) : Type 0 where
  nothing : after ≡ before → HoldsMore before after
  one : (l : Literal) → l.variable < length before.values.items → IsLiteralOpen before.values.items l → after.values.items ≡ slice_set before.values.items l.variable (Some l.positive) → after.trail.items ≡ before.trail.items ++ l ∷ [] → HoldsMore before after

-- At a clause that was looked at, unit propagation has something to do only by literals that were held later.
pub record AreLooked (clauses : List Clause) (a : Assignment) (looked : Looked) : Type 0 where
  pub room : length looked.stamps.items ≡ length clauses + 1
  pub earlier : (number at : ℕ) → IsLookedAt looked number at → at ≤ length a.trail.items
  pub settled : (k at : ℕ) → k < length clauses → IsLookedAt looked (k + 1) at → IsClauseSettled a.values.items (drop at a.trail.items) [] (k + 1) (slice_index_or clauses k [])

-- No literal is held, no clause was looked at, and the index is that of the clauses.
pub record IsPropagatorReady (variables : ℕ) (clauses : List Clause) (p : Propagator) : Type 0 where
  pub assignment : IsAssignment p.held
  pub size : length p.held.values.items ≡ variables + 1
  pub empty : (l : Literal) → IsLiteralOpen p.held.values.items l
  pub room : length p.looked.stamps.items ≡ length clauses + 1
  pub unlooked : (number at : ℕ) → ¬ IsLookedAt p.looked number at
  pub index : IsIndexOf variables clauses p.index.lists p.index.short.items

-- The propagator is ready if this kind of evidence needs unit propagation.
abbrev pub IsReadyFor : EvidenceKind → ℕ → List Clause → Propagator → Type 0
IsReadyFor kind variables clauses p = kind ≡ Spent → IsPropagatorReady variables clauses p
