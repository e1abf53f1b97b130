-- What follows for the bridges of a log from their list.
use Rattle.std.proofs.Common.{◌≡◌, ◌∙◌, ◌<◌, ℕ, Bool, List, [], length, sym, ap, ap₂, subst}
use Rattle.std.specs.Prelude.{All}
use Rattle.std.proofs.lemmas.List.Elements.{All-contains}
use Rattle.net_model.specs.declared.fault.Site.TheVariants.{Stem}
use Rattle.net_model.specs.declared.fault.Fault.TheVariants.{Free, Stuck}
use Rattle.net_model.specs.Circuit.{Circuit, IsCircuit}
use Rattle.net_model.specs.Answer.{bit_at}
use Rattle.net_model.proofs.Evaluation.{Agrees-exists}
use Rattle.dict_rows.specs.AnswerTable.{Answers, AreAnswers}
use Rattle.ranked_diag.specs.PartialLog.{Line}
use Rattle.suspect_scores.specs.Scores.{failing}
use Rattle.suspect_scores.proofs.LoggedLemmas.{lines_inside}
use Rattle.suspect_scores.proofs.OwnLines.{expected_lists_nothing}
use Rattle.bridging_faults.specs.BridgeList.{BridgeList, list_with}
use Rattle.bridging_faults.specs.Explains.{vector_of}
use Rattle.bridging_faults.specs.Laws.{NothingFails, DominatesAsStuck, IsShown}
use Rattle.bridging_faults.specs.Printed.{AreBridgesOf}
use Rattle.bridging_faults.specs.Texts.{bridges_text}
use Rattle.net_model.specs.ClassTable.{ClassTable}
use Rattle.result_records.specs.declared.record.Record.{Record}
use Rattle.result_records.specs.Laws.{OneSpelling, SpellingIsLine}
use Rattle.result_records.specs.Marks.{patterns_in}
use Rattle.run_steps.specs.ResultLogs.{AreValidBytes, IsLogAt}
use Rattle.text_fields.specs.Fields.{Text}
use Rattle.dia_runs.specs.BridgePromises.{ListsNoBridge, WinnersExplainAsStuck}
use Rattle.dia_runs.proofs.ResultLogs.{records_once}

-- The laws by which more is promised of bridges than their list.
pub record BridgeLaws : Type 0 where
  pub nothing : NothingFails
  pub winners : DominatesAsStuck
  pub spelling : OneSpelling
  pub line : SpellingIsLine

-- The lines of a log for a result have numbers of its patterns.
pub lines_at : BridgeLaws → {c : Circuit} {result bytes : Text} {lines : List Line} → IsLogAt c result bytes lines → (of : AreValidBytes c result) → All (λ line. line.0 < length (patterns_in of.records)) lines
lines_at laws {c} {result} {bytes} {lines} at of =
    let same : at.of.records ≡ of.records = records_once laws.spelling laws.line at.of of in
    subst (λ (records : List Record). All (λ (line : Line). line.0 < length (patterns_in records)) lines) same (lines_inside (length (patterns_in at.of.records)) (length c.positions) lines at.log.are)

-- No classes: the expected log needs none.
abbrev no_classes : ClassTable
no_classes = record { class_of = []; births = []; patterns = 0 }

pub no_bridge : BridgeLaws → {c : Circuit} {names : List Text} {patterns : List (List Bool)} {lines : List Line} {within most : ℕ} {text : Text} → (is : AreBridgesOf c names patterns lines within most text) → ListsNoBridge is.table lines text
unfolding bridges_text
no_bridge laws {c} {names} {patterns} {lines} {within} {most} {text} is =
    let table = is.table in
    let unfailing = λ (none : failing table lines ≡ []).
    let listed : is.list ≡ list_with [] 0 0 = laws.nothing c patterns table lines within most is.list none is.bridges in
    is.text_is ∙ ap₂ (λ (list : BridgeList) (n : ℕ). bridges_text names list n (length lines)) listed (ap (λ (ls : List Line). length ls) none) in
    record {
      unfailing = unfailing;
      expected = λ same. unfailing (ap (failing table) same ∙ (expected_lists_nothing no_classes table).none_failing);
    }

pub winners_explain : BridgeLaws → {c : Circuit} {patterns : List (List Bool)} {table : Answers} {lines : List Line} → IsCircuit c → AreAnswers c patterns table → All (λ line. line.0 < length patterns) lines
    → WinnersExplainAsStuck c patterns table lines
winners_explain laws {c} {patterns} {table} {lines} circuit answers listed b bit number line wins below fault has =
    let inside : line.0 < length patterns = All-contains (λ (l : Line). l.0 < length patterns) lines line listed has in
    let good = Agrees-exists c Free (vector_of patterns line) circuit in
    let shown : IsShown c patterns table b line good.0 = record { circuit = circuit; bridge = wins.bridge; loopless = wins.loopless; answers = answers; listed = inside; agrees = good.1 } in
    let shows : bit_at good.0 b.first ≡ bit = wins.shows line good.0 has good.1 in
    laws.winners c patterns table b line good.0 number shown below wins.dominant (fault ∙ ap (λ (x : Bool). Stuck (Stem b.second) x) (sym shows))
