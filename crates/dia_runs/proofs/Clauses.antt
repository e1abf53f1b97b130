-- What follows from a run's record, clause by clause.
use Rattle.std.proofs.Common.{IsTrue, ◌≡◌, ◌≢◌, ◌⊎◌, List, [], ◌∷◌, ◌++◌, Option, Some, None, Ok, Err, refl, sym, ap, subst, ◌∙◌, inl, inr}
use Rattle.std.specs.FinMap.{get, insert}
use Rattle.diag_shelf.specs.World.{Files, World, State}
use Rattle.diag_shelf.proofs.FileMaps.{get_at_insert, get_off_insert}
use Rattle.net_model.specs.declared.circuit.Design.{Design}
use Rattle.result_records.specs.declared.record.Budgets.{Budgets}
use Rattle.result_records.specs.declared.record.Record.{Record}
use Rattle.result_records.specs.Spelling.{text_of}
use Rattle.result_file.specs.Summary.{summary_of}
use Rattle.result_file.specs.Laws.{ValidIsTrue}
use Rattle.result_file.specs.Valid.{IsValid}
use Rattle.dia_gen.proofs.Written.{made_closed}
use Rattle.text_fields.specs.Fields.{Text}
use Rattle.request_words.specs.Request.{Request, gen, top_up, check, make_dict, convert, diagnose, list_faults, simulate, synth, compact, rank, adapt, follow, expect, suspects, cover, bridges, expect_at, suspects_at, cover_at, bridges_at}
use Rattle.synth_netlist.specs.Synth.{synth_text}
use Rattle.result_commands.specs.Texts.{valid_text}
use Rattle.run_steps.specs.Netlists.{IsDesign}
use Rattle.run_steps.specs.Results.{IsResult}
use Rattle.run_steps.specs.declared.ending.FileKind.{FileKind}
use Rattle.run_steps.specs.declared.ending.RunFault.TheVariants.{NotUnderstood, Refused, ReadFailed, WriteFailed, NoMemory}
use Rattle.run_steps.specs.Ending.{Ending, done, not_understood, refused, read_failed, IsRefusal, IsDecided}
use Rattle.run_steps.specs.Outcome.{Outcome, said, IsCut, IsPartOf, Leaves, KeepsFiles, ConsoleGained, after_made, written_after}
use Rattle.run_steps.specs.Plan.{Judges, refused_file, accepted_file, CallsFor, MayLeave, IsLeftBy, IsRefusedWith, AreAccepted}
use Rattle.result_commands.specs.Plans.{MakesResult, IsGenerated}
use Rattle.dia_runs.specs.Requests.{plan_of, endings_of, Ran}
use Rattle.run_steps.specs.Ran.{IsAmong, IsBroken, IsDone}
use Rattle.dia_runs.specs.Promises.{KeepsUnlessDone, WasRead, LeavesResult, GeneratesResult, HoldsTrueResult, ChecksResult, Synthesizes, PrintsFaults, FilesAreJudgedOnce, DecidedByFiles, IsRefusedRequest, KeepsRefused, IsComplete}
use Rattle.dia_runs.proofs.Judged.{EvidenceLaws, sound_design, circuit_of}
use Rattle.dia_runs.proofs.PlanLemmas.{both_end, refused_where}

-- The file was read and accepted, and `Then` holds of what it was accepted as.
pub record WasDone (files : Files) (name : Text) {X : Type 0} (Accepted : Text → X → Type 0) (Then : X → Type 0) : Type 0 where
  pub read : WasRead files name Accepted
  pub then : Then read.thing

pub accepted_by : {files : Files} {name : Text} {kind : FileKind} {X : Type 0} {Refused : Text → Text → Type 0} {Accepted : Text → X → Type 0} {Then : X → Type 0} {o : Outcome} → Judges files name X Refused Accepted (λ console. o ≡ said (refused kind) console) Then → o.ending ≡ done → WasDone files name Accepted Then
accepted_by {files} {name} {kind} {X} {Refused} {Accepted} {Then} {o} (refused_file bytes console held wrong is) z =
    let bad : refused kind ≡ done = sym (ap (λ (p : Outcome). p.ending) is) ∙ z in
    absurd (cc)
accepted_by {files} {name} {kind} {X} {Refused} {Accepted} {Then} {o} (accepted_file bytes x held accepted then) z = record { read = record { bytes = bytes; held = held; thing = x; accepted = accepted }; then = then }

last_made : (before : List (Text × Text)) (result file : Text) (files : Files) → get (after_made (before ++ (result, file) ∷ []) files) result ≡ Some file
last_made [] result file files = get_at_insert files result file
last_made (m ∷ before) result file files = last_made before result file (insert files m.0 m.1)

-- The file of a result that was made, and what was printed of it.
pub held_by : {before : List (Text × Text)} {result : Text} {AreMade : Text → Text → Type 0} {o : Outcome} {old new : World} → (made : MakesResult before result AreMade o) → Leaves o.made o.console old new → get new.files result ≡ Some made.file
held_by {before} {result} {AreMade} {o} {old} {new} made leaves =
    ap (λ (f : Files). get f result) (leaves.files ∙ ap (λ (p : Outcome). after_made p.made old.files) made.outcome) ∙ last_made before result made.file old.files

pub printed_by : {before : List (Text × Text)} {result : Text} {AreMade : Text → Text → Type 0} {o : Outcome} {old new : World} → (made : MakesResult before result AreMade o) → Leaves o.made o.console old new → ConsoleGained made.text old new
printed_by {before} {result} {AreMade} {o} {old} {new} made leaves = leaves.console ∙ ap (λ (p : Outcome). old.console ++ p.console) made.outcome

leaves_result : EvidenceLaws → {bytes result : Text} {budgets : Budgets} {before : List (Text × Text)} {design : Design} {o : Outcome} {old new : World} → IsDesign bytes design → MakesResult before result (IsGenerated design.circuit budgets) o → Leaves o.made o.console old new → LeavesResult bytes result budgets old new
leaves_result laws {bytes} {result} {budgets} {before} {design} {o} {old} {new} accepted does leaves = record {
  design = design;
  accepted = accepted;
  file = does.file;
  saved = held_by does leaves;
  summary = does.made.summary;
  made = does.made.made;
  closed = made_closed (sound_design laws accepted) does.made.made;
  printed = printed_by does leaves ∙ ap (λ (t : Text). old.console ++ t) does.made.text_is;
}

-- A netlist and a result that were accepted.
abbrev pub true_result : {files : Files} {bench result bytes read spelled : Text} {design : Design} {records : List Record} → (law : ValidIsTrue) → get files bench ≡ Some bytes → (accepted : IsDesign bytes design) → get files result ≡ Some read
    → IsResult design.circuit read spelled → spelled ≡ text_of records → (valid : IsValid design.circuit records) → HoldsTrueResult bench result files
true_result {files} {bench} {result} {bytes} {read} {spelled} {design} {records} law held accepted there found is valid =
    let true_of = law design.circuit records (circuit_of accepted) valid in
    record {
      bytes = bytes;
      held = held;
      design = design;
      accepted = accepted;
      file = spelled;
      there = there ∙ ap Some found.same;
      valid = found.valid;
      budgets = true_of.0.budgets;
      is_true = record { stated = true_of.0; text = is ∙ ap text_of true_of.1; budgets_are = refl; is_true = true_of.2 };
    }

module _ {asked : Option Request} {ending : Ending} {old new : World} (called : IsDone (plan_of asked) ending old new) where
  -- What was done if the work is done.
  pub done_for : (request : Request) → asked ≡ Some request → ending ≡ done → (o : Outcome) × CallsFor old.files (plan_of (Some request)) o × (o.ending ≡ done) × Leaves o.made o.console old new
  done_for request is z =
      let d = called (subst IsDecided (sym z) tt) in
      (d.0, subst (λ (r : Option Request). CallsFor old.files (plan_of r) d.0) is d.1, d.2 ∙ z, d.3)

  pub made_of : EvidenceLaws → GeneratesResult asked ending old new
  made_of laws bench result budgets is z =
      let d = done_for (gen bench result budgets) is z in
      let w = accepted_by d.1 d.2 in
      record { bytes = w.read.bytes; held = w.read.held; leaves = leaves_result laws w.read.accepted w.then d.3 }

  pub synth_made : EvidenceLaws → Synthesizes asked ending old new
  synth_made laws n bench result is z =
      let d = done_for (synth n bench result) is z in
      let does = d.1.2 in
      let files : new.files ≡ insert (insert old.files bench (synth_text n)) result does.file = d.3.files ∙ ap (λ (p : Outcome). after_made p.made old.files) does.outcome in
      record {
        netlist = λ other. ap (λ (f : Files). get f bench) files ∙ get_off_insert (insert old.files bench (synth_text n)) result does.file bench other ∙ get_at_insert old.files bench (synth_text n);
        leaves = leaves_result laws d.1.1 does d.3;
      }

  pub faults_of : PrintsFaults asked ending old new
  faults_of bench is z =
      let d = done_for (list_faults bench) is z in
      let w = accepted_by d.1 d.2 in
      record {
        netlist = w.read;
        text = w.then.0;
        lists = w.then.1;
        printed = d.3.console ∙ ap (λ (p : Outcome). old.console ++ p.console) w.then.2;
      }

  pub checked_of : ValidIsTrue → ChecksResult asked ending old new
  checked_of law bench result is z =
      let d = done_for (check bench result) is z in
      let w = accepted_by d.1 d.2 in
      let v = accepted_by w.then d.2 in
      let says = v.then.1 in
      let true_of = law w.read.thing.circuit says.records (circuit_of w.read.accepted) says.valid in
      record {
        read = true_result law w.read.held w.read.accepted v.read.held v.read.accepted says.spelled says.valid;
        printed = d.3.console ∙ ap (λ (p : Outcome). old.console ++ p.console) v.then.2 ∙ ap (λ (t : Text). old.console ++ t) (says.text_is ∙ ap (λ rs. valid_text (summary_of rs)) true_of.1);
      }

-- ---- endings

-- Each ending of the list is such.
abbrev AreAll : (Ending → Type 0) → List Ending → Type 0
AreAll P [] = Unit {0}
AreAll P (x ∷ xs) = P x × AreAll P xs

among_all : (P : Ending → Type 0) (endings : List Ending) (ending : Ending) → AreAll P endings → IsAmong ending endings → P ending
among_all P [] ending all among = absurd among
among_all P (x ∷ endings) ending all (inl e) = subst P (sym e) all.0
among_all P (x ∷ endings) ending all (inr among) = among_all P endings ending all.1 among

-- The ending isn't that of words that ask for nothing.
abbrev IsOfRequest : Ending → Type 0
IsOfRequest (Ok x) = Unit {0}
IsOfRequest (Err NotUnderstood) = ⊥
IsOfRequest (Err (Refused kind)) = Unit {0}
IsOfRequest (Err ReadFailed) = Unit {0}
IsOfRequest (Err WriteFailed) = Unit {0}
IsOfRequest (Err NoMemory) = Unit {0}

of_request : (request : Request) → AreAll IsOfRequest (endings_of (Some request))
of_request (gen bench result budgets) = (tt, (tt, (tt, (tt, (tt, tt)))))
of_request (top_up bench vectors result budgets) = (tt, (tt, (tt, (tt, (tt, (tt, tt))))))
of_request (check bench result) = (tt, (tt, (tt, (tt, (tt, (tt, tt))))))
of_request (make_dict kind bench result dict) = (tt, (tt, (tt, (tt, (tt, (tt, tt))))))
of_request (convert old new) = (tt, (tt, (tt, (tt, (tt, tt)))))
of_request (diagnose dict log) = (tt, (tt, (tt, (tt, (tt, (tt, tt))))))
of_request (list_faults bench) = (tt, (tt, (tt, (tt, (tt, tt)))))
of_request (simulate bench vectors) = (tt, (tt, (tt, (tt, (tt, (tt, tt))))))
of_request (synth n bench result) = (tt, (tt, (tt, tt)))
of_request (compact bench result new) = (tt, (tt, (tt, (tt, (tt, (tt, tt))))))
of_request (rank dict log within) = (tt, (tt, (tt, (tt, (tt, (tt, tt))))))
of_request (adapt bench result plan) = (tt, (tt, (tt, (tt, (tt, (tt, tt))))))
of_request (follow plan log) = (tt, (tt, (tt, (tt, (tt, (tt, tt))))))
of_request (expect bench result log) = (tt, (tt, (tt, (tt, (tt, (tt, tt))))))
of_request (suspects bench result log most) = (tt, (tt, (tt, (tt, (tt, (tt, (tt, tt)))))))
of_request (cover bench result log) = (tt, (tt, (tt, (tt, (tt, (tt, (tt, tt)))))))
of_request (bridges bench result log most within) = (tt, (tt, (tt, (tt, (tt, (tt, (tt, tt)))))))
of_request (expect_at bench result log vectors) = (tt, (tt, (tt, (tt, (tt, (tt, (tt, tt)))))))
of_request (suspects_at bench result log most vectors) = (tt, (tt, (tt, (tt, (tt, (tt, (tt, tt)))))))
of_request (cover_at bench result log vectors) = (tt, (tt, (tt, (tt, (tt, (tt, (tt, tt)))))))
of_request (bridges_at bench result log most within vectors) = (tt, (tt, (tt, (tt, (tt, (tt, (tt, tt)))))))

pub words_of : (asked : Option Request) {ending : Ending} → IsAmong ending (endings_of asked) → ending ≡ not_understood → asked ≡ None
words_of None {ending} among is = refl
words_of (Some request) {ending} among is = absurd (subst IsOfRequest is (among_all IsOfRequest (endings_of (Some request)) ending (of_request request) among))

pub not_understood_of : (asked : Option Request) {ending : Ending} → IsAmong ending (endings_of asked) → asked ≡ None → (ending ≡ not_understood) ⊎ IsBroken ending
not_understood_of None {ending} (inl e) is = inl e
not_understood_of None {ending} (inr (inl e)) is = inr (inl e)
not_understood_of None {ending} (inr (inr (inl e))) is = inr (inr e)
not_understood_of None {ending} (inr (inr (inr e))) is = absurd e
not_understood_of (Some request) {ending} among is = absurd (cc)

-- How a run has ended: words and files decide that, or a read failed, or the run broke off.
pub data HasEnded (ending : Ending) : Type 0 where
  by_files : IsDecided ending → HasEnded ending
  by_read : ending ≡ read_failed → HasEnded ending
  by_break : IsBroken ending → HasEnded ending

ended : (ending : Ending) → HasEnded ending
ended (Ok tt) = by_files tt
ended (Err NotUnderstood) = by_files tt
ended (Err (Refused kind)) = by_files tt
ended (Err ReadFailed) = by_read refl
ended (Err WriteFailed) = by_break (inl refl)
ended (Err NoMemory) = by_break (inr refl)

-- ---- no file is changed except by a run whose work is done

kept_by : {made : List (Text × Text)} {text : Text} {old new : World} → made ≡ [] → Leaves made text old new → KeepsFiles old new
kept_by {made} {text} {old} {new} none l = record {
  files = l.files ∙ ap (λ (m : List (Text × Text)). after_made m old.files) none;
  written = l.written ∙ ap (λ (m : List (Text × Text)). written_after m old.written) none;
}

cut_nothing : (made whole : List (Text × Text)) → whole ≡ [] → IsCut made whole → made ≡ []
cut_nothing [] whole e cut = refl
cut_nothing (m ∷ made) [] e cut = absurd cut
cut_nothing (m ∷ made) (w ∷ whole) e cut = absurd (cc)

unfinished : {ending : Ending} → (ending ≡ not_understood) ⊎ (IsRefusal ending ⊎ (ending ≡ read_failed)) → ending ≡ done → ⊥
unfinished {ending} (inl e) is = cc
unfinished {ending} (inr (inl e)) is = subst IsRefusal is e
unfinished {ending} (inr (inr e)) is = cc

module _ (once : FilesAreJudgedOnce) where
  unmade : (asked : Option Request) (files : Files) (o : Outcome) → CallsFor files (plan_of asked) o → (o.ending ≡ done → ⊥) → o.made ≡ []
  unmade None files o called not = ap (λ (p : Outcome). p.made) called
  unmade (Some request) files o called not =
      both_end files (λ k console. o ≡ said (refused k) console) (λ k console. o ≡ said (refused k) console) (λ Done Cut. Done o) (λ Done Cut. Done o)
      (λ k text other is also. ap (λ (p : Outcome). p.made) is)
      (λ Done Cut finished does also. absurd (not (finished o does)))
      (plan_of (Some request)) (once request) called called

  kept_where : (asked : Option Request) {ending : Ending} {a b : State} → Ran asked ending a b → IsTrue a.tells → (ending ≡ done → ⊥) → HasEnded ending → ¬ IsBroken ending → KeepsFiles a.world b.world
  kept_where asked {ending} {a} {b} r told not (by_files decided) whole =
      let d = r.done told decided in
      kept_by (unmade asked a.world.files d.0 d.1 (λ z. not (sym d.2 ∙ z))) d.3
  kept_where asked {ending} {a} {b} r told not (by_read is) whole = (r.unread (inl is) told).kept
  kept_where asked {ending} {a} {b} r told not (by_break broken) whole = absurd (whole broken)

  unbroken : {ending : Ending} → (ending ≡ not_understood) ⊎ (IsRefusal ending ⊎ (ending ≡ read_failed)) → IsBroken ending → ⊥
  unbroken {ending} (inl e) (inl is) = cc
  unbroken {ending} (inl e) (inr is) = cc
  unbroken {ending} (inr (inl e)) (inl is) = subst IsRefusal is e
  unbroken {ending} (inr (inl e)) (inr is) = subst IsRefusal is e
  unbroken {ending} (inr (inr e)) (inl is) = cc
  unbroken {ending} (inr (inr e)) (inr is) = cc

  pub keeps_unless_done : (asked : Option Request) {ending : Ending} {a b : State} → Ran asked ending a b → IsTrue a.tells → KeepsUnlessDone ending a.world b.world
  keeps_unless_done asked {ending} {a} {b} r told refusal = kept_where asked r told (unfinished refusal) (ended ending) (unbroken refusal)

  -- ---- the files that are read decide

  module _ (request : Request) (files : Files) (o : Outcome) (called : CallsFor files (plan_of (Some request)) o) where
    refused_so : o.ending ≢ done → (kind : FileKind) × (o.ending ≡ refused kind) × IsRefusedWith files (plan_of (Some request)) kind o.console
    refused_so not = refused_where files o (plan_of (Some request)) (once request) called not

    ending_by : (kind : FileKind) (console : Text) → IsRefusedWith files (plan_of (Some request)) kind console → o.ending ≡ refused kind
    ending_by kind console wrong =
        both_end files (λ k text. (kind ≡ k) × (console ≡ text)) (λ k text. o ≡ said (refused k) text) (λ Done Cut. ⊥) (λ Done Cut. Done o)
        (λ k text other first is. ap (λ (p : Outcome). p.ending) is ∙ sym (ap refused first.0))
        (λ Done Cut finished none does. absurd none)
        (plan_of (Some request)) (once request) wrong called

    nothing_called : (kind : FileKind) (console : Text) → IsRefusedWith files (plan_of (Some request)) kind console → o.made ≡ []
    nothing_called kind console wrong =
        both_end files (λ k text. (kind ≡ k) × (console ≡ text)) (λ k text. o ≡ said (refused k) text) (λ Done Cut. ⊥) (λ Done Cut. Done o)
        (λ k text other first is. ap (λ (p : Outcome). p.made) is)
        (λ Done Cut finished none does. absurd none)
        (plan_of (Some request)) (once request) wrong called

    done_by : AreAccepted files (plan_of (Some request)) → o.ending ≡ done
    done_by accepted =
        both_end files (λ k text. ⊥) (λ k text. o ≡ said (refused k) text) (λ Done Cut. Unit {0}) (λ Done Cut. Done o)
        (λ k text other none is. absurd none)
        (λ Done Cut finished all does. finished o does)
        (plan_of (Some request)) (once request) accepted called

  may_nothing : (request : Request) (files : Files) (made : List (Text × Text)) (t : Text) (kind : FileKind) (console : Text) → IsRefusedWith files (plan_of (Some request)) kind console → MayLeave files (plan_of (Some request)) made t → made ≡ []
  may_nothing request files made t kind console wrong may =
      both_end files (λ k text. (kind ≡ k) × (console ≡ text)) (λ k text. IsPartOf (said (refused k) text) made t) (λ Done Cut. ⊥) (λ Done Cut. IsLeftBy Done Cut made t)
      (λ k text other first part. cut_nothing made [] refl part.files)
      (λ Done Cut finished none left. absurd none)
      (plan_of (Some request)) (once request) wrong may

  pub decided_by_files : {asked : Option Request} {ending : Ending} {old new : World} → IsDone (plan_of asked) ending old new → DecidedByFiles asked ending old new
  decided_by_files {asked = None} run some = absurd (some refl)
  decided_by_files {asked = Some request} {ending} {old} {new} run some = record {
    only = λ decided not.
        let d = run decided in
        let r = refused_so request old.files d.0 d.1 (λ z. not (sym d.2 ∙ z)) in
        (r.0, d.0.console, sym d.2 ∙ r.1, r.2, d.3.console);
    by_refusal = λ kind console wrong decided. let d = run decided in sym d.2 ∙ ending_by request old.files d.0 d.1 kind console wrong;
    accepted = λ all decided. let d = run decided in sym d.2 ∙ done_by request old.files d.0 d.1 all;
  }

  -- ---- no file is changed if something is refused

  none_called : (asked : Option Request) (old : World) (o : Outcome) → IsRefusedRequest asked old → CallsFor old.files (plan_of asked) o → o.made ≡ []
  none_called None old o wrong called = ap (λ (p : Outcome). p.made) called
  none_called (Some request) old o wrong called = nothing_called request old.files o called wrong.0 wrong.1.0 wrong.1.1

  none_left : (asked : Option Request) (old : World) (made : List (Text × Text)) (t : Text) → IsRefusedRequest asked old → MayLeave old.files (plan_of asked) made t → made ≡ []
  none_left None old made t wrong (inl may) = cut_nothing made may.0.made (ap (λ (p : Outcome). p.made) may.1) may.2.files
  none_left None old made t wrong (inr cut) = absurd cut
  none_left (Some request) old made t wrong may = may_nothing request old.files made t wrong.0 wrong.1.0 wrong.1.1 may

  refused_kept : (asked : Option Request) {ending : Ending} {a b : State} → Ran asked ending a b → IsTrue a.tells → HasEnded ending → KeepsRefused asked a.world b.world
  refused_kept asked {ending} {a} {b} r told (by_files decided) wrong = let d = r.done told decided in kept_by (none_called asked a.world d.0 wrong d.1) d.3
  refused_kept asked {ending} {a} {b} r told (by_read is) wrong = (r.unread (inl is) told).kept
  refused_kept asked {ending} {a} {b} r told (by_break broken) wrong = elim (r.broken_off told broken) [
    | inl same ↦ same.kept
    | inr x ↦ kept_by (none_left asked a.world x.0 x.1 wrong x.2) x.3
  ]

  pub keeps_refused : (asked : Option Request) {ending : Ending} {a b : State} → Ran asked ending a b → IsTrue a.tells → KeepsRefused asked a.world b.world
  keeps_refused asked {ending} r told = refused_kept asked r told (ended ending)

  -- ---- the work is done

  complete_by : {asked : Option Request} {ending : Ending} {a b : State} → Ran asked ending a b → HasEnded ending → IsComplete asked ending a b
  complete_by {asked} {ending} {a} {b} r (by_files decided) some told accepted reads writes = inl ((decided_by_files (r.done told) some).accepted accepted decided)
  complete_by {asked} {ending} {a} {b} r (by_read is) some told accepted reads writes = absurd (reads (r.causes.read_fault is))
  complete_by {asked} {ending} {a} {b} r (by_break (inl is)) some told accepted reads writes = absurd (writes (r.causes.write_fault is))
  complete_by {asked} {ending} {a} {b} r (by_break (inr is)) some told accepted reads writes = inr is

  pub is_complete : {asked : Option Request} {ending : Ending} {a b : State} → Ran asked ending a b → IsComplete asked ending a b
  is_complete {asked} {ending} r = complete_by r (ended ending)
