-- What follows from a run's record for `dict`, `convert` and `diagnose`.
use Rattle.std.proofs.Common.{◌≡◌, List, [], ◌∷◌, ◌++◌, Option, Some, refl, sym, ap, subst, ◌∙◌}
use Rattle.std.specs.FinMap.{get}
use Rattle.std.proofs.lemmas.Option.{same_Some}
use Rattle.diag_shelf.specs.World.{Files, World}
use Rattle.diag_shelf.proofs.FileMaps.{get_at_insert}
use Rattle.result_file.specs.Laws.{ValidIsTrue}
use Rattle.dict_rows.specs.declared.dict.Dict.{Dict}
use Rattle.dict_file.specs.Laws.{RefusedIsWrong, OneDictionary}
use Rattle.dict_file.specs.declared.fault.DictVersion.TheVariants.{Two}
use Rattle.dict_file.specs.Spelling.{dict_spelling, IsFileOf}
use Rattle.dict_file.specs.Reading.{IsRefusedBy}
use Rattle.text_fields.specs.Fields.{Text}
use Rattle.request_words.specs.Request.{Request, make_dict, convert, diagnose}
use Rattle.dictionary_commands.specs.Dictionaries.{IsDiagnosis}
use Rattle.run_steps.specs.Ending.{Ending}
use Rattle.run_steps.specs.Outcome.{Outcome, Leaves, after_made, ConsoleGained}
use Rattle.run_steps.specs.Plan.{Plan, refused_file, accepted_file, CallsFor}
use Rattle.run_steps.specs.Plans.{with_dictionary, with_log, says}
use Rattle.dia_runs.specs.Requests.{plan_of}
use Rattle.run_steps.specs.Ran.{IsDone}
use Rattle.dia_runs.specs.DictionaryRuns.{MakesDictionary, ConvertsDictionary, PrintsDiagnosis, DiagnosesAlike}
use Rattle.dia_runs.proofs.Clauses.{accepted_by, true_result, done_for}

-- The file that was made, and the text that was printed.
pub file_made : (o : Outcome) {name file : Text} {old new : World} → o.made ≡ (name, file) ∷ [] → Leaves o.made o.console old new → get new.files name ≡ Some file
file_made o {name} {file} {old} {new} is leaves = ap (λ (f : Files). get f name) (leaves.files ∙ ap (λ (m : List (Text × Text)). after_made m old.files) is) ∙ get_at_insert old.files name file

pub printed_text : (o : Outcome) {text : Text} {old new : World} → o.console ≡ text → Leaves o.made o.console old new → ConsoleGained text old new
printed_text o {text} {old} {new} is leaves = leaves.console ∙ ap (λ (t : Text). old.console ++ t) is

module _ {asked : Option Request} {ending : Ending} {old new : World} (called : IsDone (plan_of asked) ending old new) where
  pub dictionary_made : ValidIsTrue → MakesDictionary asked ending old new
  dictionary_made law kind bench result dict is z =
      let d = done_for called (make_dict kind bench result dict) is z in
      let w = accepted_by d.1 d.2 in
      let v = accepted_by w.then d.2 in
      let made = v.then.2 in
      record {
        read = true_result law w.read.held w.read.accepted v.read.held v.read.accepted made.spelled made.valid;
        file = v.then.0;
        saved = file_made d.0 (ap (λ (p : Outcome). p.made) v.then.3) d.3;
        text = v.then.1;
        made = made;
        printed = printed_text d.0 (ap (λ (p : Outcome). p.console) v.then.3) d.3;
      }

  pub converted_of : ConvertsDictionary asked ending old new
  converted_of name new_name is z =
      let d = done_for called (convert name new_name) is z in
      let w = accepted_by d.1 d.2 in
      record {
        dictionary = w.read;
        saved = file_made d.0 (ap (λ (p : Outcome). p.made) w.then.3) d.3 ∙ ap Some w.then.2.file_is;
        printed = printed_text d.0 (ap (λ (p : Outcome). p.console) w.then.3 ∙ w.then.2.text_is) d.3;
      }

  pub diagnosed_of : PrintsDiagnosis asked ending old new
  diagnosed_of dict log is z =
      let d = done_for called (diagnose dict log) is z in
      let w = accepted_by d.1 d.2 in
      let v = accepted_by w.then d.2 in
      record {
        dictionary = w.read;
        observed = v.read;
        printed = printed_text d.0 (ap (λ (p : Outcome). p.console) v.then.2 ∙ v.then.1) d.3;
      }

-- ---- two files of one dictionary

module _ (wrong : RefusedIsWrong) (one : OneDictionary) (files : Files) (d : Dict) (next : Dict → Plan) where
  -- What is called for with one file is called for with the other.
  moved : (name other bytes whole : Text) → get files name ≡ Some bytes → IsFileOf d bytes → get files other ≡ Some whole → IsFileOf d whole → (o : Outcome) → CallsFor files (with_dictionary name next) o → CallsFor files (with_dictionary other next) o
  moved name other bytes whole held is there also o (refused_file read console found refused at) =
      absurd (wrong bytes d refused.fault (subst (λ (b : Text). IsRefusedBy b refused.fault) (same_Some read bytes (sym found ∙ held)) refused.refused) is)
  moved name other bytes whole held is there also o (accepted_file read x found accepted then) =
      let same : x ≡ d = (one bytes _ _ x d (subst (IsFileOf x) (same_Some read bytes (sym found ∙ held)) accepted).1 is.1).1 in
      accepted_file whole d there also (subst (λ (e : Dict). CallsFor files (next e) o) same then)

pub diagnoses_alike : RefusedIsWrong → OneDictionary → DiagnosesAlike
diagnoses_alike wrong one files first second log bytes d held is there short o =
    let also : IsFileOf d (dict_spelling Two d) = (Two, record { has = is.1.has; bytes_are = refl; short = short }) in
    let reads_log : Dict → Plan = λ e. with_log log e (λ observed. says (IsDiagnosis e observed)) in
    (moved wrong one files d reads_log first second bytes (dict_spelling Two d) held is there also o, moved wrong one files d reads_log second first (dict_spelling Two d) bytes there also held is o)
