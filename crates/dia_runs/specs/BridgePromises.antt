-- What is promised of the bridges of a log in addition to their list.
use Rattle.std.specs.Prelude.{◌≡◌, ◌↔◌, ◌<◌, ℕ, Bool, List, [], length, IsTrue, Contains}
use Rattle.net_model.specs.declared.fault.Site.TheVariants.{Stem}
use Rattle.net_model.specs.declared.fault.Fault.TheVariants.{Free, Stuck}
use Rattle.net_model.specs.Circuit.{Circuit}
use Rattle.net_model.specs.Answer.{bit_at, Agrees}
use Rattle.net_model.specs.FaultList.{fault_numbered}
use Rattle.dict_rows.specs.AnswerTable.{Answers}
use Rattle.ranked_diag.specs.PartialLog.{Line}
use Rattle.suspect_scores.specs.Scores.{failing, explains}
use Rattle.suspect_scores.specs.Laws.{own_lines}
use Rattle.bridging_faults.specs.declared.bridge.BridgeKind.TheVariants.{Dominant}
use Rattle.bridging_faults.specs.declared.bridge.Bridge.{Bridge}
use Rattle.bridging_faults.specs.Bridge.{IsBridgeOf, IsLoopless}
use Rattle.bridging_faults.specs.Explains.{vector_of, Explains}
use Rattle.bridging_faults.specs.Texts.{bridges_end}
use Rattle.text_fields.specs.Fields.{Text}

-- If no pattern of the log fails, or the log is the one that a chip without a fault gives, no bridge is listed.
pub record ListsNoBridge (table : Answers) (lines : List Line) (text : Text) : Type 0 where
  pub unfailing : failing table lines ≡ [] → text ≡ bridges_end 0 0 0 0 (length lines)
  pub expected : lines ≡ own_lines table 0 → text ≡ bridges_end 0 0 0 0 (length lines)

-- The bridge is a dominant one of the circuit without a loop. Its first line, which wins, shows this bit without a
-- fault at every logged pattern.
pub record WinsWith (c : Circuit) (patterns : List (List Bool)) (lines : List Line) (b : Bridge) (bit : Bool) : Type 0 where
  pub bridge : IsBridgeOf c b
  pub loopless : IsLoopless c b
  pub dominant : b.kind ≡ Dominant
  pub shows : (line : Line) (good : List Bool) → Contains lines line → Agrees c Free (vector_of patterns line) good → bit_at good b.first ≡ bit

-- A bridge with `WinsWith` explains exactly the logged patterns that the stem of its second line, stuck at this bit,
-- explains.
abbrev pub WinnersExplainAsStuck : Circuit → List (List Bool) → Answers → List Line → Type 0
WinnersExplainAsStuck c patterns table lines = (b : Bridge) (bit : Bool) (number : ℕ) (line : Line) → WinsWith c patterns lines b bit → number < table.numbers → fault_numbered c number ≡ Stuck (Stem b.second) bit → Contains lines line
    → Explains c patterns b line ↔ IsTrue (explains table number line)
