-- Laws: what accepted evidence shows, and that evidence is refused in at most one way, and only if it isn't right.
use Rattle.std.specs.Prelude.{◌≡◌, ◌≢◌, ◌⊎◌, ℕ, List, None, Some}
use Rattle.net_model.specs.declared.fault.Fault.{Fault}
use Rattle.net_model.specs.Circuit.{Circuit, IsCircuit}
use Rattle.net_model.specs.Answer.{AreEqual}
use Rattle.clause_pool.specs.Clauses.{Clause}
use Rattle.pair_miter.specs.ChainView.{ChainView}
use Rattle.pair_miter.specs.Log.{IsRefutation}
use Rattle.pair_miter.specs.Miter.{miter}
use Rattle.pair_miter.specs.Resolution.{chain_end}
use Rattle.pair_sets.specs.declared.tree.Token.{Token}
use Rattle.evidence_rules.specs.declared.refusal.EvidenceKind.{EvidenceKind}
use Rattle.evidence_rules.specs.declared.refusal.EvidenceKind.TheVariants.{Covered}
use Rattle.evidence_rules.specs.declared.refusal.Refusal.{Refusal}
use Rattle.evidence_rules.specs.declared.refusal.RefusalKind.{RefusalKind}
use Rattle.evidence_rules.specs.TreeRefusal.{IsRightTree, TreeRefused}
use Rattle.evidence_rules.specs.LogRefusal.{ChainStops, IsRightLog, LogRefused}

-- Faults with a refutation of their miter answer alike to every vector.
abbrev pub RefutationEqual : Type 0
RefutationEqual = (c : Circuit) (f g : Fault) (limit : ℕ) (log : List ChainView) → IsCircuit c → IsRefutation (miter c f g) limit log → AreEqual c f g

-- A chain has an end, or it stops.
abbrev pub ChainEndsOrStops : Type 0
ChainEndsOrStops = (clauses : List Clause) (chain : ChainView) → ((end : Clause) × (chain_end clauses chain ≡ Some end)) ⊎ ((kind : RefusalKind) × ChainStops clauses chain kind)

-- A chain that stops has no end.
abbrev pub StoppedChainHasNoEnd : Type 0
StoppedChainHasNoEnd = (clauses : List Clause) (chain : ChainView) (kind : RefusalKind) → ChainStops clauses chain kind → chain_end clauses chain ≡ None

-- A chain stops for at most one rule.
abbrev pub ChainStopsOnce : Type 0
ChainStopsOnce = (clauses : List Clause) (chain : ChainView) (kind other : RefusalKind) → ChainStops clauses chain kind → ChainStops clauses chain other → kind ≡ other

-- A log that is refused as a refutation or as a spent log isn't what that kind of evidence needs.
abbrev pub RefusedLogIsWrong : Type 0
RefusedLogIsWrong = (kind : EvidenceKind) (clauses : List Clause) (limit : ℕ) (log : List ChainView) (refusal : Refusal) → kind ≢ Covered → LogRefused kind clauses limit log refusal
    → ¬ IsRightLog kind clauses limit log

-- For its kind of evidence a log is refused in at most one way: the rule and the step are the same.
abbrev pub OneLogRefusal : Type 0
OneLogRefusal = (kind : EvidenceKind) (clauses : List Clause) (limit : ℕ) (log : List ChainView) (refusal other : Refusal) → LogRefused kind clauses limit log refusal → LogRefused kind clauses limit log other
    → refusal ≡ other

-- A refused tree isn't what its kind of evidence needs.
abbrev pub RefusedTreeIsWrong : Type 0
RefusedTreeIsWrong = (c : Circuit) (f g : Fault) (kind : EvidenceKind) (limit : ℕ) (tokens : List Token) (refusal : Refusal) → TreeRefused c f g kind limit tokens refusal → ¬ IsRightTree c f g kind limit tokens

-- For its kind of evidence a tree is refused in at most one way: the rule and the step are the same.
abbrev pub OneTreeRefusal : Type 0
OneTreeRefusal = (c : Circuit) (f g : Fault) (kind : EvidenceKind) (limit : ℕ) (tokens : List Token) (refusal other : Refusal) → TreeRefused c f g kind limit tokens refusal → TreeRefused c f g kind limit tokens other
    → refusal ≡ other
