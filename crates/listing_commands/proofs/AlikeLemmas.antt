-- Classes whose members answer alike, and what follows by the classes of the patterns themselves.
use Rattle.std.proofs.Common.{ℕ, Bool, List, ◌++◌, sym, subst}
use Rattle.net_model.specs.Circuit.{Circuit, IsCircuit}
use Rattle.net_model.specs.FaultList.{fault_count}
use Rattle.net_model.specs.ClassTable.{ClassTable}
use Rattle.net_model.specs.PatternRows.{IsTableOf}
use Rattle.net_model.proofs.Listed.{some_number}
use Rattle.class_refine.proofs.Refined.{whole-first}
use Rattle.kept_vectors.specs.Kept.{KeptSoFar, nothing_kept, Keeps}
use Rattle.kept_vectors.specs.Laws.{IsPartedBy}
use Rattle.kept_vectors.proofs.KeepLemmas.{whole_after}
use Rattle.table_dicts.proofs.OneTable.{answers_exist}
use Rattle.ranked_diag.specs.PartialLog.{Line}
use Rattle.suspect_scores.specs.Listed.{AreSuspects}
use Rattle.suspect_scores.specs.Laws.{StandsFirst}
use Rattle.suspect_scores.proofs.ScoreLemmas.{circuits_are_classed}
use Rattle.suspect_scores.proofs.ClassedLemmas.{classed_are_alike}
use Rattle.suspect_scores.proofs.SingleFault.{single_fault_stands_first}
use Rattle.text_fields.specs.Fields.{Text}
use Rattle.run_steps.proofs.CheckedLemmas.{answers_of_table, are_answers}
use Rattle.listing_commands.specs.Suspects.{ClassesAnswerAlike, AreSuspectsOf}
use Rattle.listing_commands.specs.Applied.{AreSuspectsAt}
use Rattle.listing_commands.proofs.PartedLemmas.{parted_are_alike}

-- The members of the classes of patterns answer alike to them.
pub own_alike : {c : Circuit} {patterns : List (List Bool)} {t : ClassTable} → IsCircuit c → IsTableOf c patterns t → ClassesAnswerAlike c patterns t
own_alike {c} {patterns} {t} is of =
    let table = answers_of_table of in
    let are = are_answers of in
    record { table = table; answers = are; alike = classed_are_alike t table (circuits_are_classed c patterns t table is of are) }

abbrev kept_with : List (List Bool) → ClassTable → KeptSoFar
kept_with vectors table = record { vectors = vectors; table = table }

-- So do the members of the classes that they make together with patterns before them.
pub joined_alike : {c : Circuit} {vectors : List (List Bool)} {t : ClassTable} (before kept : List (List Bool)) → IsCircuit c → Keeps c (before ++ vectors) (nothing_kept (fault_count c)) (kept_with kept t) → IsPartedBy c (before ++ vectors) t → ClassesAnswerAlike c vectors t
joined_alike {c} {vectors} {t} before kept is keeps parted =
    let made = answers_exist c is vectors in
    let whole = whole_after c is (before ++ vectors) (nothing_kept (fault_count c)) (kept_with kept t) (whole-first (fault_count c) (some_number c)) keeps in
    record { table = made.0; answers = made.1; alike = parted_are_alike c before vectors t made.0 is parted whole.0 made.1 }

-- By the classes of the patterns a number's own class comes first.
pub own_classes : {c : Circuit} {patterns : List (List Bool)} {t : ClassTable} {lines : List Line} {most : ℕ} {text : Text} → IsCircuit c → IsTableOf c patterns t → AreSuspectsAt c patterns t lines most text → AreSuspectsOf c patterns t lines most text
own_classes {c} {patterns} {t} {lines} {most} {text} is of at =
    let classed = circuits_are_classed c patterns t at.table is of at.answers in
    record {
      table = at.table;
      answers = at.answers;
      listed = at.listed;
      suspects = at.suspects;
      text_is = at.text_is;
      members = at.members;
      single = λ number h own other some.
          subst (λ (l : List Line). AreSuspects t at.table l most at.listed → StandsFirst t at.table l number at.listed) (sym own) (single_fault_stands_first t at.table number most at.listed classed h other some) at.suspects;
    }
