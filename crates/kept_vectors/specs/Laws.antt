-- Laws of the vectors that are kept of a list.
use Rattle.std.specs.Prelude.{◌≡◌, ◌<◌, ◌↔◌, ℕ, Bool, List, length, All, Contains}
use Rattle.net_model.specs.Circuit.{Circuit, IsCircuit}
use Rattle.net_model.specs.Answer.{IsAnswer}
use Rattle.net_model.specs.FaultList.{fault_count, fault_numbered}
use Rattle.net_model.specs.ClassTable.{ClassTable, class_at}
use Rattle.net_model.specs.PatternRows.{IsTableOf, SplitsClass}
use Rattle.class_refine.specs.Fields.{IsWhole}
use Rattle.kept_vectors.specs.Keeper.{keeper_with, IsKeeper}
use Rattle.kept_vectors.specs.Kept.{KeptSoFar, nothing_kept, IsKeptOf, Keeps, SplitInTurn}

-- Two numbers answer alike to each of these vectors.
abbrev pub AnswerAlike : Circuit → List (List Bool) → ℕ → ℕ → Type 0
AnswerAlike c vectors m n = (v first second : List Bool) → Contains vectors v → IsAnswer c (fault_numbered c m) v first → IsAnswer c (fault_numbered c n) v second → first ≡ second

-- The table has the circuit's fault numbers, and two are in one class of it exactly if they answer alike to each of
-- these vectors.
pub record IsPartedBy (c : Circuit) (vectors : List (List Bool)) (t : ClassTable) : Type 0 where
  pub numbers : length t.class_of ≡ fault_count c
  pub together : (m n : ℕ) → m < fault_count c → n < fault_count c → (class_at t m ≡ class_at t n) ↔ AnswerAlike c vectors m n

-- Two numbers are in one class of a table of patterns exactly if they answer alike to each of these.
abbrev pub TablesArePartedBy : Type 0
TablesArePartedBy = (c : Circuit) (patterns : List (List Bool)) (t : ClassTable) → IsCircuit c → IsTableOf c patterns t → IsPartedBy c patterns t

-- If nothing is kept before a list, two numbers are in one class of the table of what is kept of it exactly if they
-- answer alike to the whole list: no vector that was left out tells apart two of one class.
abbrev pub KeptTellAsMuch : Type 0
KeptTellAsMuch = (c : Circuit) (vectors : List (List Bool)) (kept : KeptSoFar) → IsCircuit c → Keeps c vectors (nothing_kept (fault_count c)) kept → IsPartedBy c vectors kept.table

-- Two numbers answer alike to what is kept of a list exactly if they answer alike to the whole list.
abbrev pub KeptAnswerAlike : Type 0
KeptAnswerAlike = (c : Circuit) (vectors kept : List (List Bool)) (m n : ℕ) → IsCircuit c → IsKeptOf c vectors kept → m < fault_count c → n < fault_count c → AnswerAlike c kept m n ↔ AnswerAlike c vectors m n

-- If all that is kept of a list is among some patterns, no vector of the list splits a class of these patterns.
abbrev pub NoneOfListSplits : Type 0
NoneOfListSplits = (c : Circuit) (vectors kept patterns : List (List Bool)) (v : List Bool) → IsCircuit c → IsKeptOf c vectors kept → All (Contains patterns) kept → Contains vectors v → SplitsClass c patterns v → ⊥

-- If a list comes twice to a whole table, nothing of it is kept the second time.
abbrev pub KeptOnce : Type 0
KeptOnce = (c : Circuit) (vectors : List (List Bool)) (old new : KeptSoFar) → IsWhole old.table → Keeps c vectors old new → Keeps c vectors new new

-- A keeper keeps nothing of a list whose vectors split no class of what it has kept already.
abbrev pub NothingMoreIsKept : Type 0
NothingMoreIsKept = (c : Circuit) (vectors : List (List Bool)) (kept : KeptSoFar) → IsKeeper (keeper_with c kept) → All (λ v. SplitsClass c kept.vectors v → ⊥) vectors → Keeps c vectors kept kept

-- If each vector of a list has a bit for each source and splits a class of those before it, all are kept.
abbrev pub SplittersAreKept : Type 0
SplittersAreKept = (c : Circuit) (vectors : List (List Bool)) → IsCircuit c → SplitInTurn c vectors → IsKeptOf c vectors vectors
