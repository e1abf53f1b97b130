-- The lines of a file that were judged, and the waiting ones.
use Rattle.std.specs.Prelude.{◌≡◌, ◌≤◌, ◌<◌, ◌^◌, ℕ, Bool, List, [], ◌∷◌, ◌++◌, map, length, All, Contains, Option, None, Result, Ok, Err, IsSome, IsTrue, ⊤}
use Rattle.net_model.specs.Ascii.{line_feed}
use Rattle.net_model.specs.Circuit.{Circuit}
use Rattle.net_model.specs.FaultList.{fault_count}
use Rattle.net_model.specs.ClassTable.{ClassTable, class_at, representative}
use Rattle.word_sim.specs.declared.lanes.TheConstants.{LANES}
use Rattle.kept_vectors.specs.Keeper.{keeper_with, IsKeeper}
use Rattle.member_marks.specs.declared.marks.Given.{Given}
use Rattle.member_marks.specs.Given.{given_mark, AreGiven, IsLowestOpen}
use Rattle.result_records.specs.declared.limits.TheConstants.{RESULT_LIMIT}
use Rattle.result_records.specs.declared.record.Evidence.{Evidence}
use Rattle.result_records.specs.declared.record.Record.{Record}
use Rattle.result_records.specs.declared.record.Record.TheVariants.{Pattern}
use Rattle.result_file.specs.declared.fault.ResultFault.{ResultFault}
use Rattle.text_fields.specs.Fields.{Text}
use Rattle.result_records.specs.Spelling.{spelling, text_of}
use Rattle.result_records.specs.Marks.{patterns_in, evidence_in, class_lines, next_member}
use Rattle.result_file.specs.Valid.{AreRightLines}
use Rattle.result_file.specs.Refusal.{FileRefused}
use Rattle.dia_check.specs.EvidenceChecker.{EvidenceChecker}
use Rattle.dia_check.specs.declared.stop.Stop.{Stop}
use Rattle.dia_check.specs.declared.stop.Stop.TheVariants as stop
use Rattle.dia_check.specs.declared.checker.Checker.{Checker}
use Rattle.dia_check.specs.Progress.{IsProgress}

-- The checker of evidence is for the circuit and has an empty pool.
pub record IsReadyFor (c : Circuit) (checker : EvidenceChecker) : Type 0 where
  pub circuit : checker.circuit ≡ c
  pub empty : checker.pool.clauses ≡ []

-- The records are right lines, and the checker has what they state: their patterns with the table of these, their
-- marks, the counts, and a number below which each number is a representative or marked. If there is a class line, each
-- number is. The checker of evidence is ready, and the circuit has fewer than 2^27 faults.
pub record IsChecker (c : Circuit) (seen : List Record) (k : Checker) : Type 0 where
  pub lines : AreRightLines c seen
  pub circuit : k.keeper.circuit ≡ c
  pub keeper : IsKeeper (keeper_with c k.keeper.kept)
  pub patterns : k.keeper.kept.vectors ≡ patterns_in seen
  pub marks : AreGiven k.keeper.kept.table (evidence_in seen) k.marks
  pub begun : (n : ℕ) → n < k.from → IsSome (given_mark k.keeper.kept.table k.marks n)
  pub complete : 0 < class_lines seen → next_member k.keeper.kept.table (evidence_in seen) ≡ None
  pub progress : IsProgress seen k.progress
  pub evidence : IsReadyFor c k.evidence
  pub few : fault_count c < 2 ^ 27

-- Patterns may come after the records, are at most as many as there are lanes, and have a bit for each source and no LF
-- in their lines. Whether they split a class is left open.
pub record AreUnjudged (c : Circuit) (seen : List Record) (waiting : List (List Bool)) : Type 0 where
  pub widths : All (λ v. length v ≡ c.sources) waiting
  pub few : length waiting ≤ LANES
  pub lines : All (λ v. ¬ Contains (spelling (Pattern v)) line_feed) waiting
  pub place : 0 < length waiting → (2 ≤ length seen) × (class_lines seen ≡ 0)

-- The text has at most as many bytes as the limit allows, and is that of the records seen and of the patterns waiting
-- after them.
pub record IsCheckOf (c : Circuit) (text : Text) (k : Checker) : Type 0 where
  pub seen : List Record
  pub is : IsChecker c seen k
  pub waiting : AreUnjudged c seen k.waiting.items
  pub text_is : text ≡ text_of (seen ++ map Pattern k.waiting.items)
  pub short : length text ≤ RESULT_LIMIT

-- The checker is one of some text.
pub record HasCheck (c : Circuit) (k : Checker) : Type 0 where
  pub text : Text
  pub is : IsCheckOf c text k

-- The file is refused with this fault, whatever comes after this text.
pub record IsRefusedText (c : Circuit) (text : Text) (fault : ResultFault) : Type 0 where
  pub refused : (more : Text) → FileRefused c (text ++ more) fault

-- The text was judged: it is that of right lines and of the patterns waiting after them, or the file is refused in it.
-- If memory is missing, this says nothing.
abbrev pub IsJudged : Circuit → Text → Checker → Result (Unit {0}) Stop → Type 0
IsJudged c text k (Ok x) = IsCheckOf c text k
IsJudged c text k (Err (stop.Refused fault)) = IsRefusedText c text fault
IsJudged c text k (Err stop.NoMemory) = ⊤

-- A text that comes after what was judged is judged too, if all of it is within the limit.
pub record JudgesText (c : Circuit) (old new : Checker) (more : Text) (result : Result (Unit {0}) Stop) : Type 0 where
  pub judged : (text : Text) → IsCheckOf c text old → length (text ++ more) ≤ RESULT_LIMIT → IsJudged c (text ++ more) new result

-- The text that was judged stays judged, or the file is refused for a waiting pattern.
pub record JudgesWaiting (c : Circuit) (old new : Checker) (result : Result (Unit {0}) Stop) : Type 0 where
  pub judged : (text : Text) → IsCheckOf c text old → IsJudged c text new result

-- The line of a record, with its LF.
abbrev pub record_line : Record → Text
record_line r = spelling r ++ line_feed ∷ []

-- The evidence names the lowest number that is neither a representative nor marked, with its representative.
pub record NamesOpen (t : ClassTable) (given : List (Option Given)) (evidence : Evidence) : Type 0 where
  pub lowest : IsLowestOpen t given evidence.member
  pub partner : evidence.partner ≡ representative t (class_at t evidence.member)

-- Each line was judged, up to the end.
pub record IsJudgedWhole (c : Circuit) (text : Text) (k : Checker) : Type 0 where
  pub is : IsCheckOf c text k
  pub none : k.waiting.items ≡ []
  pub ended : IsTrue k.progress.ended

-- The file ends after this text and these bytes: right lines up to the end and no byte more, or it is refused. If
-- memory is missing, this says nothing.
abbrev pub IsWholly : Circuit → Text → Text → Checker → Result (Unit {0}) Stop → Type 0
IsWholly c text rest k (Ok x) = (rest ≡ []) × IsJudgedWhole c text k
IsWholly c text rest k (Err (stop.Refused fault)) = FileRefused c (text ++ rest) fault
IsWholly c text rest k (Err stop.NoMemory) = ⊤

-- The end of the file is judged, if all of it is within the limit.
pub record JudgesEnd (c : Circuit) (old new : Checker) (rest : Text) (result : Result (Unit {0}) Stop) : Type 0 where
  pub judged : (text : Text) → IsCheckOf c text old → length (text ++ rest) ≤ RESULT_LIMIT → IsWholly c text rest new result
