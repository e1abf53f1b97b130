-- A result under way.
use Rattle.std.specs.Prelude.{◌≡◌, ◌≢◌, ◌<◌, ◌^◌, ◌⊎◌, ℕ, Bool, List, [], ◌++◌, take, None, Some, replicate, slice_get, All, Contains, IsTrue}
use Rattle.diag_shelf.specs.World.{State}
use Rattle.net_model.specs.Circuit.{Circuit, IsCircuit}
use Rattle.net_model.specs.FaultList.{fault_count}
use Rattle.result_records.specs.declared.record.Budgets.{Budgets}
use Rattle.result_records.specs.declared.record.Evidence.{Evidence}
use Rattle.result_records.specs.declared.record.Record.{Record}
use Rattle.result_records.specs.declared.record.Record.TheVariants.{Pattern, Same}
use Rattle.result_records.specs.Limits.{AreWithinLimits}
use Rattle.result_records.specs.Spelling.{text_of}
use Rattle.result_records.specs.Marks.{patterns_in, evidence_in}
use Rattle.result_file.specs.Valid.{AreRightLines}
use Rattle.result_file.specs.Meaning.{is_body_record}
use Rattle.kept_vectors.specs.Kept.{IsKeptOf, Keeps, nothing_kept}
use Rattle.kept_vectors.specs.Keeper.{keeper_with, IsKeeper}
use Rattle.dia_gen.specs.declared.draft.Draft.{Draft}
use Rattle.dia_gen.specs.GenerationSetting.{GenerationSetting}
use Rattle.dia_gen.specs.Settled.{IsSpaceFor}
use Rattle.member_marks.specs.Given.{AreGiven}
use Rattle.dia_gen.specs.Made.{lines_with, SeparatesNext, HasNoSearch, HasNoRefutation}
use Rattle.dia_gen.specs.Writing.{HasGathered}

-- The lines are right and made as the generator makes them: after the kept patterns there are only patterns and
-- evidence, each later pattern separates the next number from its representative, without a budget of cubes no evidence
-- has a search, without a budget of conflicts none is a refutation, and without either there is no later pattern.
pub record AreDraftLines (c : Circuit) (budgets : Budgets) (kept : List (List Bool)) (later : List Record) : Type 0 where
  pub right : AreRightLines c (lines_with c budgets kept later)
  pub body : All (λ r. IsTrue (is_body_record r)) later
  pub patterns : (at : ℕ) (v : List Bool) → slice_get later at ≡ Some (Pattern v) → SeparatesNext c (lines_with c budgets kept (take at later)) v
  pub no_search : (at : ℕ) (e : Evidence) → budgets.cubes ≡ 0 → slice_get later at ≡ Some (Same e) → HasNoSearch e.proof
  pub no_refutation : (at : ℕ) (e : Evidence) → budgets.conflicts ≡ 0 → slice_get later at ≡ Some (Same e) → HasNoRefutation e.proof
  pub no_choice : (at : ℕ) (v : List Bool) → budgets.cubes ≡ 0 → budgets.conflicts ≡ 0 → slice_get later at ≡ Some (Pattern v) → ⊥

-- The draft has what these lines are made from. The vectors `kept` are those of the setting that are kept, and the
-- keeper has them and then the patterns of the later lines. The marks are those that the evidence of the later lines
-- gives, the space is one for pairs of the circuit, and a block is looked at only if there is a budget to find a
-- pattern. The circuit has fewer than 2^27 faults.
pub record IsDrafted (s : GenerationSetting) (d : Draft) (kept : List (List Bool)) (later : List Record) : Type 0 where
  pub first : IsKeptOf s.circuit s.vectors kept
  pub lines : AreDraftLines s.circuit s.budgets kept later
  pub few : fault_count s.circuit < 2 ^ 27
  pub circuit : d.keeper.circuit ≡ s.circuit
  pub keeper : IsKeeper (keeper_with s.circuit d.keeper.kept)
  pub patterns : d.keeper.kept.vectors ≡ kept ++ patterns_in later
  pub marks : AreGiven d.keeper.kept.table (evidence_in later) d.marks
  pub space : IsSpaceFor s.circuit s.budgets d.space
  pub looked : (v : List Bool) → Contains d.keeper.looked v → (s.budgets.cubes ≢ 0) ⊎ (s.budgets.conflicts ≢ 0)

-- The first vectors are kept, no number is marked, no block is looked at, and no line is waiting. The space is one for
-- pairs of the circuit, which has fewer than 2^27 faults, and the budgets are within the limits.
pub record IsBegun (s : GenerationSetting) (d : Draft) : Type 0 where
  pub is_circuit : IsCircuit s.circuit
  pub circuit : d.keeper.circuit ≡ s.circuit
  pub kept : Keeps s.circuit s.vectors (nothing_kept (fault_count s.circuit)) d.keeper.kept
  pub few : fault_count s.circuit < 2 ^ 27
  pub limits : AreWithinLimits s.budgets
  pub marks : d.marks ≡ replicate (fault_count s.circuit) None
  pub space : IsSpaceFor s.circuit s.budgets d.space
  pub looked : d.keeper.looked ≡ []
  pub gathered : d.gathered ≡ []

-- The lines made so far are written, except those that are waiting.
pub record IsDraft (s : GenerationSetting) (d : Draft) (start now : State) : Type 0 where
  pub kept : List (List Bool)
  pub later : List Record
  pub is : IsDrafted s d kept later
  pub written : HasGathered (text_of (lines_with s.circuit s.budgets kept later)) [] d.gathered start now
