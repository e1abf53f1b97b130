-- What follows from the record of a run with a list of vectors that were applied.
use Rattle.std.proofs.Common.{◌≡◌, ◌∙◌, ℕ, suc, zero, ◌+◌, ◌<◌, ◌≤◌, ◌==◌, Bool, true, false, List, [], ◌∷◌, ◌++◌, length, Option, Some, refl, sym, ap, append_assoc, arith, if◌then◌else◌}
use Rattle.std.specs.Prelude.{All, find, unwrap_or}
use Rattle.std.specs.List.{range_with_len}
use Rattle.std.proofs.lemmas.List.Elements.{All-nil, All-cons, All-contains, All-append}
use Rattle.diag_shelf.specs.World.{World}
use Rattle.net_model.specs.Circuit.{Circuit}
use Rattle.net_model.specs.FaultList.{fault_count}
use Rattle.net_model.specs.ClassTable.{ClassTable}
use Rattle.result_records.specs.declared.record.Mark.TheVariants as mark
use Rattle.result_records.specs.declared.record.Record.{Record}
use Rattle.result_records.specs.declared.record.Record.TheVariants.{Pattern}
use Rattle.result_records.specs.Marks.{patterns_in}
use Rattle.result_file.specs.Laws.{ValidIsTrue}
use Rattle.result_file.specs.Meaning.{StatedResult, stated_mark, stated_class, lowest_mate, IsTrueResult}
use Rattle.result_file.specs.Valid.{AreRightLines}
use Rattle.result_file.proofs.FileLemmas.{next_right}
use Rattle.suspect_scores.proofs.LoggedLemmas.{lines_inside}
use Rattle.text_fields.specs.Fields.{Text}
use Rattle.request_words.specs.Request.{Request, expect_at, suspects_at, cover_at, bridges_at}
use Rattle.run_steps.specs.Ending.{Ending}
use Rattle.run_steps.specs.Outcome.{Outcome}
use Rattle.run_steps.specs.Ran.{IsDone}
use Rattle.listing_commands.specs.Applied.{AreClassesWith}
use Rattle.dia_runs.specs.Requests.{plan_of}
use Rattle.dia_runs.specs.AppliedRuns.{EqualStayTogether, WritesExpectedAt, PrintsSuspectsAt, PrintsCoverAt, PrintsBridgesAt}
use Rattle.dia_runs.proofs.Judged.{circuit_of}
use Rattle.dia_runs.proofs.Clauses.{done_for, accepted_by, true_result}
use Rattle.dia_runs.proofs.DictionaryClauses.{file_made, printed_text}
use Rattle.dia_runs.proofs.BridgeClauses.{BridgeLaws, no_bridge, winners_explain}

-- ---- a number that is stated to be equal

module _ (c : Circuit) where
  abbrev IsWide : List Bool → Type 0
  IsWide v = length v ≡ c.sources

  module _ (all : List Record) (right : AreRightLines c all) where
    -- One record more.
    put : (before : List Record) (r : Record) (rest : List Record) → all ≡ before ++ r ∷ rest → all ≡ (before ++ r ∷ []) ++ rest
    put before r rest e = e ∙ sym (append_assoc before (r ∷ []) rest)

    wide_from : (before rest : List Record) → all ≡ before ++ rest → All IsWide (patterns_in rest)
    wide_from before [] e = All-nil IsWide
    wide_from before (Pattern bits ∷ rest) e = All-cons IsWide bits (patterns_in rest) (next_right before (Pattern bits) rest right e).right.content.width (wide_from (before ++ Pattern bits ∷ []) rest (put before (Pattern bits) rest e))
    wide_from before (r ∷ rest) e = wide_from (before ++ r ∷ []) rest (put before r rest e)

lower_of : (found : Bool) (n bound : ℕ) (later : Option ℕ) (d : ℕ) → n < bound → unwrap_or later d < bound → unwrap_or (if found then Some n else later) d < bound
lower_of true n bound later d low rest = low
lower_of false n bound later d low rest = rest

found_below : (p : ℕ → Bool) (a k d bound : ℕ) → a + k ≤ bound → d < bound → unwrap_or (find p (range_with_len a k)) d < bound
found_below p a zero d bound within below = below
found_below p a (suc k) d bound within below = lower_of (p a) a bound (find p (range_with_len (a + 1) k)) d (omega (arith, within)) (found_below p (a + 1) k d bound (omega (arith, within)) below)

mate_below : (c : Circuit) (s : StatedResult) (n : ℕ) → IsTrueResult c s → n < fault_count c → lowest_mate s n < fault_count c
mate_below c s n is below = found_below (λ m. stated_class s m == stated_class s n) 0 (length s.members) n (fault_count c) (omega (arith, is.numbers)) below

pub equal_stay : {c : Circuit} {result : Text} {vectors : List (List Bool)} {t : ClassTable} {s : StatedResult} → IsTrueResult c s → AreClassesWith c result vectors t → All (λ v. length v ≡ c.sources) vectors → EqualStayTogether c s t
equal_stay {c} {result} {vectors} {t} {s} is are wide n below equal =
    let records = are.of.records in
    let all : All (IsWide c) (patterns_in records ++ vectors) = All-append (IsWide c) (patterns_in records) vectors (wide_from c records are.of.valid.lines [] records refl) wide in
    (are.parted.together n (lowest_mate s n) below (mate_below c s n is below)).1
    (λ v first second has a b. is.equal n below equal v first second (All-contains (IsWide c) (patterns_in records ++ vectors) v all has) a b)

-- ---- runs

module _ {asked : Option Request} {ending : Ending} {old new : World} (called : IsDone (plan_of asked) ending old new) where
  pub expected_at_of : ValidIsTrue → WritesExpectedAt asked ending old new
  expected_at_of law bench result log vectors is z =
      let d = done_for called (expect_at bench result log vectors) is z in
      let w = accepted_by d.1 d.2 in
      let v = accepted_by w.then d.2 in
      let l = accepted_by v.then d.2 in
      let valid = v.read.accepted.valid in
      record {
        read = true_result law w.read.held w.read.accepted v.read.held v.read.accepted valid.text valid.valid;
        list = l.read;
        file = l.then.0;
        saved = file_made d.0 (ap (λ (p : Outcome). p.made) l.then.3) d.3;
        text = l.then.1;
        made = l.then.2;
        printed = printed_text d.0 (ap (λ (p : Outcome). p.console) l.then.3) d.3;
      }

  pub suspected_at_of : ValidIsTrue → PrintsSuspectsAt asked ending old new
  suspected_at_of law bench result log most vectors is z =
      let d = done_for called (suspects_at bench result log most vectors) is z in
      let w = accepted_by d.1 d.2 in
      let v = accepted_by w.then d.2 in
      let l = accepted_by v.then d.2 in
      let p = accepted_by l.then d.2 in
      let listed = p.then.1 in
      let of = listed.classes_are.of in
      let read = true_result law w.read.held w.read.accepted v.read.held v.read.accepted of.spelled of.valid in
      record {
        read = read;
        list = l.read;
        lines = p.read;
        text = p.then.0;
        listed = listed;
        equal = equal_stay read.is_true.is_true listed.classes_are l.read.accepted.wide;
        printed = printed_text d.0 (ap (λ (o : Outcome). o.console) p.then.2) d.3;
      }

  pub covered_at_of : ValidIsTrue → PrintsCoverAt asked ending old new
  covered_at_of law bench result log vectors is z =
      let d = done_for called (cover_at bench result log vectors) is z in
      let w = accepted_by d.1 d.2 in
      let v = accepted_by w.then d.2 in
      let l = accepted_by v.then d.2 in
      let p = accepted_by l.then d.2 in
      let covers = p.then.1 in
      let of = covers.classes_are.of in
      let read = true_result law w.read.held w.read.accepted v.read.held v.read.accepted of.spelled of.valid in
      record {
        read = read;
        list = l.read;
        lines = p.read;
        text = p.then.0;
        covers = covers;
        equal = equal_stay read.is_true.is_true covers.classes_are l.read.accepted.wide;
        printed = printed_text d.0 (ap (λ (o : Outcome). o.console) p.then.2) d.3;
      }

  pub bridged_at_of : ValidIsTrue → BridgeLaws → PrintsBridgesAt asked ending old new
  bridged_at_of law laws bench result log most within vectors is z =
      let d = done_for called (bridges_at bench result log most within vectors) is z in
      let w = accepted_by d.1 d.2 in
      let v = accepted_by w.then d.2 in
      let l = accepted_by v.then d.2 in
      let p = accepted_by l.then d.2 in
      let listed = p.then.1 in
      record {
        read = true_result law w.read.held w.read.accepted v.read.held v.read.accepted listed.of.spelled listed.of.valid;
        list = l.read;
        lines = p.read;
        text = p.then.0;
        listed = listed;
        nothing = no_bridge laws listed.are;
        winners = winners_explain laws (circuit_of w.read.accepted) listed.are.answers (lines_inside (length l.read.thing) (length w.read.thing.circuit.positions) p.read.thing p.read.accepted.are);
        printed = printed_text d.0 (ap (λ (o : Outcome). o.console) p.then.2) d.3;
      }
