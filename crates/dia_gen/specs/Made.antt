-- The files that the generator may write for a circuit and its budgets.
use Rattle.std.specs.Prelude.{◌≡◌, ℕ, Bool, List, [], ◌∷◌, ◌++◌, map, length, take, Some, slice_get, ⊤}
use Rattle.net_model.specs.FaultList.{fault_count, fault_numbered}
use Rattle.net_model.specs.Circuit.{Circuit}
use Rattle.net_model.specs.Answer.{Separates}
use Rattle.net_model.specs.ClassTable.{ClassTable, representative, class_at}
use Rattle.net_model.specs.PatternRows.{IsTableOf}
use Rattle.result_records.specs.declared.record.Budgets.{Budgets}
use Rattle.result_file.specs.declared.checked.Summary.{Summary}
use Rattle.result_records.specs.declared.record.Record.{Record}
use Rattle.result_records.specs.declared.record.Record.TheVariants.{Head, Budget, Pattern, Same}
use Rattle.result_records.specs.declared.record.Evidence.{Evidence}
use Rattle.result_records.specs.declared.record.Proof.{Proof}
use Rattle.result_records.specs.declared.record.Proof.TheVariants as proof
use Rattle.pair_sets.specs.declared.tree.Token.TheVariants.{Rest}
use Rattle.text_fields.specs.Fields.{Text}
use Rattle.result_records.specs.Spelling.{text_of}
use Rattle.result_records.specs.Marks.{patterns_in, evidence_in, next_member}
use Rattle.result_file.specs.Summary.{summary_of}
use Rattle.result_file.specs.Valid.{AreRightLines, IsValid}
use Rattle.result_file.specs.Meaning.{stated_records, IsTrueFile}
use Rattle.word_sim.specs.Stream.{stream}
use Rattle.kept_vectors.specs.Kept.{IsKeptOf}
use Rattle.dia_gen.specs.declared.output.ToppedUp.{ToppedUp}

-- The first two lines of a result.
abbrev pub head_lines : Circuit → Budgets → List Record
head_lines c budgets = Head c.sources (length c.positions) (fault_count c) ∷ Budget budgets ∷ []

-- The first two lines, the kept patterns, and then the later lines.
abbrev pub lines_with : Circuit → Budgets → List (List Bool) → List Record → List Record
lines_with c budgets kept later = head_lines c budgets ++ map Pattern kept ++ later

-- After the lines before it, the vector separates the lowest number that is neither a representative nor marked from
-- its representative.
pub record SeparatesNext (c : Circuit) (before : List Record) (v : List Bool) : Type 0 where
  pub t : ClassTable
  pub table : IsTableOf c (patterns_in before) t
  pub member : ℕ
  pub member_is : next_member t (evidence_in before) ≡ Some member
  pub separates : Separates c v (fault_numbered c (representative t (class_at t member))) (fault_numbered c member)

-- The proof has no tree, or the tree of one open leaf.
abbrev pub HasNoSearch : Proof → Type 0
HasNoSearch proof.Collapse = ⊤
HasNoSearch (proof.Covered tree) = tree ≡ Rest ∷ []
HasNoSearch (proof.Refuted tree log) = tree ≡ Rest ∷ []
HasNoSearch (proof.Spent tree log) = tree ≡ Rest ∷ []

-- The proof isn't a refutation.
abbrev pub HasNoRefutation : Proof → Type 0
HasNoRefutation proof.Collapse = ⊤
HasNoRefutation (proof.Covered tree) = ⊤
HasNoRefutation (proof.Refuted tree log) = ⊥
HasNoRefutation (proof.Spent tree log) = ⊤

-- The generator may write this file for the circuit and the budgets from a list of vectors, and the file amounts to
-- this summary. The file is true and its lines are valid. Its first patterns are those of the list that are kept, and
-- each later pattern separates the next number from its representative. Without a budget of cubes each tree is one open
-- leaf, without a budget of conflicts nothing is refuted, and without both there is no later pattern.
pub record IsMadeFrom (c : Circuit) (vectors : List (List Bool)) (budgets : Budgets) (summary : Summary) (file : Text) : Type 0 where
  -- The file states these budgets, and what it states is true of the circuit.
  pub is_true : IsTrueFile c budgets file
  -- Its lines are valid.
  pub valid : IsValid c (stated_records c is_true.stated)
  -- Its first patterns are the kept vectors of the list, before any evidence.
  pub kept : List (List Bool)
  pub later : List Record
  pub body : is_true.stated.body ≡ map Pattern kept ++ later
  pub kept_are : IsKeptOf c vectors kept
  -- Each later pattern separates from its representative the lowest number that is, at that place, neither a
  -- representative nor marked.
  pub patterns : (at : ℕ) (v : List Bool) → slice_get later at ≡ Some (Pattern v) → SeparatesNext c (lines_with c budgets kept (take at later)) v
  -- Without a budget of cubes each tree is one open leaf.
  pub no_search : (at : ℕ) (e : Evidence) → budgets.cubes ≡ 0 → slice_get later at ≡ Some (Same e) → HasNoSearch e.proof
  -- Without a budget of conflicts no evidence is a refutation.
  pub no_refutation : (at : ℕ) (e : Evidence) → budgets.conflicts ≡ 0 → slice_get later at ≡ Some (Same e) → HasNoRefutation e.proof
  -- Without both budgets there is no later pattern. Then the file is a function of the circuit, the list and the
  -- budgets.
  pub no_choice : (at : ℕ) (v : List Bool) → budgets.cubes ≡ 0 → budgets.conflicts ≡ 0 → slice_get later at ≡ Some (Pattern v) → ⊥
  -- The summary is what the lines amount to.
  pub summary_is : summary ≡ summary_of (stated_records c is_true.stated)

-- The file may be made from the list and amounts to the summary, and the given number of vectors of the list are kept
-- in it.
pub record IsToppedUp (c : Circuit) (vectors : List (List Bool)) (budgets : Budgets) (topped : ToppedUp) (file : Text) : Type 0 where
  pub made : IsMadeFrom c vectors budgets topped.summary file
  pub kept : topped.kept ≡ length made.kept

-- The generator may write this file from the first blocks of the stream, as many as the budget has, and it amounts to
-- this summary.
abbrev pub IsMade : Circuit → Budgets → Summary → Text → Type 0
IsMade c budgets summary file = IsMadeFrom c (stream c.sources budgets.blocks) budgets summary file

-- A beginning of right lines, the last perhaps cut.
pub record IsCutFile (c : Circuit) (part : Text) : Type 0 where
  pub records : List Record
  pub right : AreRightLines c records
  pub count : ℕ
  pub cut : part ≡ take count (text_of records)
