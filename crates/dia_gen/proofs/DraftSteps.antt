-- A draft with one line more, and a draft that is broken off.
use Rattle.std.proofs.Common.{◌≡◌, ◌∙◌, ◌<◌, ◌-◌, length, length-append, get_or, ℕ, List, [], ◌∷◌, ◌++◌, Bool, Result, Ok, Err, sym, ap, subst, arith}
use Rattle.std.specs.Prelude.{OnOk, IfErr, Option, Some, slice_set, Contains}
use Rattle.std.proofs.lemmas.List.{append-nil, append_assoc}
use Rattle.std.proofs.lemmas.List.Elements.{filter_map-append}
use Rattle.std.proofs.Math.Seq.{get_or-append_seam}
use Rattle.diag_shelf.specs.World.{State}
use Rattle.diag_shelf.specs.declared.shelf.ShelfFault.{ShelfFault}
use Rattle.diag_shelf.specs.declared.shelf.ShelfFault.TheVariants.{NoMemory}
use Rattle.net_model.specs.Circuit.{Circuit}
use Rattle.net_model.specs.FaultList.{fault_count, fault_numbered}
use Rattle.net_model.specs.ClassTable.{class_at, class_count, representative}
use Rattle.class_refine.proofs.Refined.{representative-member}
use Rattle.result_records.specs.declared.record.Evidence.{Evidence}
use Rattle.result_records.specs.declared.record.Proof.{Proof}
use Rattle.result_records.specs.declared.record.Record.{Record}
use Rattle.result_records.specs.declared.record.Record.TheVariants.{Pattern, Same}
use Rattle.result_records.specs.Marks.{pattern_of, evidence_of, patterns_in, evidence_in, mark_of}
use Rattle.text_fields.specs.Fields.{Text}
use Rattle.result_records.specs.Spelling.{text_of}
use Rattle.result_file.specs.Valid.{AreRightLines}
use Rattle.result_records.proofs.RecordLists.{text-append}
use Rattle.kept_vectors.specs.Kept.{Keeps}
use Rattle.kept_vectors.specs.Keeper.{Keeper, SeparatesMember}
use Rattle.class_refine.proofs.PatternTables.{table_numbers}
use Rattle.kept_vectors.proofs.KeepLemmas.{leads_rise}
use Rattle.kept_vectors.proofs.Separating.{IsAdded, separating_added}
use Rattle.dia_gen.specs.declared.draft.Draft.{Draft}
use Rattle.member_marks.specs.declared.marks.Given.{Given}
use Rattle.dia_gen.specs.GenerationSetting.{GenerationSetting}
use Rattle.member_marks.specs.Given.{IsLowestOpen}
use Rattle.dia_gen.specs.Made.{lines_with}
use Rattle.dia_gen.specs.Marked.{DoMarksStay}
use Rattle.dia_gen.specs.Settled.{IsApartBy, IsProofFor}
use Rattle.dia_gen.specs.Writing.{HasGathered, Gathers, BrokeOff}
use Rattle.dia_gen.specs.Draft.{AreDraftLines, IsDrafted, IsDraft}
use Rattle.dia_gen.proofs.FallenLemmas.{mark_stays}
use Rattle.member_marks.proofs.MarkLemmas.{lowest_is_next, lead_inside, given_risen, given_more}
use Rattle.dia_gen.proofs.DraftLemmas.{lines_more, pattern_added, evidence_added, drafted_on}
use Rattle.dia_gen.proofs.WritingLemmas.{gathered_then, broken, broken_here, stopped}

-- If memory is missing, the lines so far are written.
pub draft_broken : {s : GenerationSetting} {d : Draft} {start now : State} → IsDraft s d start now → BrokeOff s.circuit NoMemory start now
draft_broken {s} d = broken_here (lines_with s.circuit s.budgets d.kept d.later) d.is.lines.right d.written

-- The lines with one line more, and none after it.
pub one_right : (s : GenerationSetting) (kept : List (List Bool)) (later : List Record) (r : Record) → AreDraftLines s.circuit s.budgets kept (later ++ r ∷ []) → AreRightLines s.circuit (lines_with s.circuit s.budgets kept later ++ r ∷ [] ++ [])
one_right s kept later r lines = subst (AreRightLines s.circuit) (lines_more s.circuit s.budgets kept later r ∙ sym (append-nil (lines_with s.circuit s.budgets kept later ++ r ∷ []))) lines.right

pub in_any_case : {P : Type 0} (result : Result (Unit {0}) ShelfFault) → P → OnOk result P
in_any_case (Ok x) p = p
in_any_case (Err fault) p = tt

module _ {s : GenerationSetting} {d : Draft} {wait : Text} {start mid now : State} (kept : List (List Bool)) (later : List Record) (r : Record) (drafted : IsDrafted s d kept (later ++ r ∷ [])) (written : HasGathered (text_of (lines_with s.circuit s.budgets kept later)) [] wait start mid) where
  pub line_drafted : {after : Text} (result : Result (Unit {0}) ShelfFault) → Gathers (text_of (r ∷ [])) result wait after mid now → OnOk result (IsDraft s (record d { gathered = after }) start now)
  line_drafted {after} (Ok x) wrote = record {
    kept = kept;
    later = later ++ r ∷ [];
    is = drafted_on after drafted;
    written = subst (λ (t : Text). HasGathered t [] after start now) (sym (ap text_of (lines_more s.circuit s.budgets kept later r) ∙ text-append (lines_with s.circuit s.budgets kept later) (r ∷ []))) (gathered_then written wrote.ok);
  }
  line_drafted (Err fault) wrote = tt

  pub line_stopped : {after : Text} (result : Result (Unit {0}) ShelfFault) → Gathers (text_of (r ∷ [])) result wait after mid now → IfErr result (λ fault. BrokeOff s.circuit fault start now)
  line_stopped (Ok x) wrote = tt
  line_stopped (Err fault) wrote = broken (lines_with s.circuit s.budgets kept later) (r ∷ []) [] (one_right s kept later r drafted.lines) written wrote

module _ {s : GenerationSetting} {d : Draft} {start now : State} (draft : IsDraft s d start now) where
  -- The waiting text is written, or its writing broke off.
  pub draft_written : {after : Text} {later : State} (result : Result (Unit {0}) ShelfFault) → Gathers [] result d.gathered after now later → OnOk result (IsDraft s (record d { gathered = after }) start later)
  draft_written {after} {later} (Ok x) wrote = record {
    kept = draft.kept;
    later = draft.later;
    is = drafted_on after draft.is;
    written = subst (λ (t : Text). HasGathered t [] after start later) (append-nil (text_of (lines_with s.circuit s.budgets draft.kept draft.later))) (gathered_then draft.written wrote.ok);
  }
  draft_written (Err fault) wrote = tt

  pub draft_stopped : {after : Text} {later : State} (result : Result (Unit {0}) ShelfFault) → Gathers [] result d.gathered after now later → IfErr result (λ fault. BrokeOff s.circuit fault start later)
  draft_stopped (Ok x) wrote = tt
  draft_stopped (Err fault) wrote = stopped (lines_with s.circuit s.budgets draft.kept draft.later) draft.is.lines.right draft.written wrote

module _ {s : GenerationSetting} {d : Draft} {kept : List (List Bool)} {later : List Record} (is : IsDrafted s d kept later) (member : ℕ) (lowest : IsLowestOpen d.keeper.kept.table d.marks member) where
  abbrev lead : ℕ
  lead = representative d.keeper.kept.table (class_at d.keeper.kept.table member)

  pub inside : member < fault_count s.circuit
  inside = omega (arith, lowest.inside, table_numbers is.keeper.table)

  lead_below : lead < fault_count s.circuit
  lead_below = omega (arith, table_numbers is.keeper.table, lead_inside d.keeper.kept.table is.keeper.whole member lowest.inside)

  pub inside_kept : member < fault_count d.keeper.circuit
  inside_kept = subst (λ (c : Circuit). member < fault_count c) (sym is.circuit) inside

  -- A vector of the block that is looked at is found within the budgets.
  pub looked_apart : (v : List Bool) → Contains d.keeper.looked v → SeparatesMember d.keeper.circuit d.keeper.kept.table member v → IsApartBy s.circuit (fault_numbered s.circuit lead) (fault_numbered s.circuit member) s.budgets v
  looked_apart v there separates =
      let now = subst (λ (c : Circuit). SeparatesMember c d.keeper.kept.table member v) is.circuit separates in
      record { budget = is.looked v there; width = now.width; separates = now }

  -- A kept vector that separates the lowest open number from its representative.
  module _ (v : List Bool) (apart : IsApartBy s.circuit (fault_numbered s.circuit lead) (fault_numbered s.circuit member) s.budgets v) (keeper : Keeper) (keeps : Keeps d.keeper.circuit (v ∷ []) d.keeper.kept keeper.kept) where
    added : IsAdded s.circuit v d.keeper.kept keeper.kept
    added =
        let together = (representative-member d.keeper.kept.table is.keeper.whole (class_at d.keeper.kept.table member) (is.keeper.whole.classes member lowest.inside)).1 in
        separating_added v is.keeper (subst (λ (c : Circuit). Keeps c (v ∷ []) d.keeper.kept keeper.kept) is.circuit keeps) lead member lead_below inside together apart.width apart.separates

    pub more_classes : class_count d.keeper.kept.table < class_count keeper.kept.table
    more_classes = added.more

    -- The vector is the last of those kept.
    last_added : (vectors : List (List Bool)) → vectors ≡ keeper.kept.vectors → get_or vectors (length vectors - 1) [] ≡ v
    last_added vectors is =
        let now : vectors ≡ d.keeper.kept.vectors ++ v ∷ [] = is ∙ added.vectors in
        let place : length vectors - 1 ≡ length d.keeper.kept.vectors = omega (arith, ap length now, length-append d.keeper.kept.vectors (v ∷ [])) in
        rw place (rw now (get_or-append_seam d.keeper.kept.vectors v [] []))

    pub some_added : (vectors : List (List Bool)) → vectors ≡ keeper.kept.vectors → 0 < length vectors
    some_added vectors is = omega (arith, ap length (is ∙ added.vectors), length-append d.keeper.kept.vectors (v ∷ []))

    pub marks_stay : DoMarksStay d.keeper.kept.table keeper.kept.table d.marks d.marks
    marks_stay = λ n below old some. mark_stays d.keeper.kept.table keeper.kept.table d.marks n (added.leads n below old) some

    pattern_drafted : keeper.circuit ≡ d.keeper.circuit → keeper.looked ≡ d.keeper.looked → IsDrafted s (record d { keeper = keeper }) kept (later ++ Pattern v ∷ [])
    pattern_drafted circuit looked =
        let t = d.keeper.kept.table in
        let evidence : evidence_in (later ++ Pattern v ∷ []) ≡ evidence_in later = filter_map-append evidence_of later (Pattern v ∷ []) ∙ append-nil (evidence_in later) in
        let patterns : patterns_in (later ++ Pattern v ∷ []) ≡ patterns_in later ++ v ∷ [] = filter_map-append pattern_of later (Pattern v ∷ []) in
        record {
          first = is.first;
          lines = pattern_added s.circuit s.budgets kept later t (rw is.patterns at is.keeper.table) is.few is.lines v member (lowest_is_next t (evidence_in later) d.marks is.marks member lowest) apart (rw is.patterns at added.splits);
          few = is.few;
          circuit = circuit ∙ is.circuit;
          keeper = added.keeper;
          patterns = added.vectors ∙ ap (λ (vs : List (List Bool)). vs ++ v ∷ []) is.patterns ∙ append_assoc kept (patterns_in later) (v ∷ []) ∙ ap (λ (vs : List (List Bool)). kept ++ vs) (sym patterns);
          marks = rw evidence (given_risen (record { numbers = added.finer.numbers; rise = leads_rise added.keeper.whole added.finer }) is.marks);
          space = is.space;
          looked = rw looked is.looked;
        }

    -- The line of the vector is made, or the draft is broken off.
    pub pattern_written : keeper.circuit ≡ d.keeper.circuit → keeper.looked ≡ d.keeper.looked → {after : Text} {start mid now : State} → HasGathered (text_of (lines_with s.circuit s.budgets kept later)) [] d.gathered start mid → (vectors : List (List Bool)) → vectors ≡ keeper.kept.vectors
        → (result : Result (Unit {0}) ShelfFault) → Gathers (text_of (Pattern (get_or vectors (length vectors - 1) []) ∷ [])) result d.gathered after mid now → OnOk result (IsDraft s (record d { keeper = keeper; gathered = after }) start now) × IfErr result (λ fault. BrokeOff s.circuit fault start now)
    pattern_written circuit looked {after} written vectors vectors_are result wrote =
        let drafted = pattern_drafted circuit looked in
        let line = rw (last_added vectors vectors_are) at wrote in
        (line_drafted kept later (Pattern v) drafted written result line, line_stopped kept later (Pattern v) drafted written result line)

  -- Evidence for the lowest open number with its representative.
  module _ (proof : Proof) (number : ℕ) (lead_is : number ≡ lead) (right : IsProofFor s.circuit s.budgets number member proof) where
    abbrev pub evidence_for : Evidence
    evidence_for = record { member = member; partner = number; proof = proof }

    pub lines_given : AreDraftLines s.circuit s.budgets kept (later ++ Same evidence_for ∷ [])
    lines_given =
        evidence_added s.circuit s.budgets kept later d.keeper.kept.table (rw is.patterns at is.keeper.table) is.few is.lines evidence_for inside (omega (arith, lead_is, lead_below))
        (lowest_is_next d.keeper.kept.table (evidence_in later) d.marks is.marks member lowest) lead_is right

    pub evidence_drafted : (marks : List (Option Given)) → marks ≡ slice_set d.marks member (Some (record { partner = number; mark = mark_of proof })) → IsDrafted s (record d { marks = marks }) kept (later ++ Same evidence_for ∷ [])
    evidence_drafted marks gives =
        let evidence : evidence_in (later ++ Same evidence_for ∷ []) ≡ evidence_in later ++ evidence_for ∷ [] = filter_map-append evidence_of later (Same evidence_for ∷ []) in
        let patterns : patterns_in (later ++ Same evidence_for ∷ []) ≡ patterns_in later = filter_map-append pattern_of later (Same evidence_for ∷ []) ∙ append-nil (patterns_in later) in
        record {
          first = is.first;
          lines = lines_given;
          few = is.few;
          circuit = is.circuit;
          keeper = is.keeper;
          patterns = is.patterns ∙ ap (λ (vs : List (List Bool)). kept ++ vs) (sym patterns);
          marks = rw (gives, evidence) (given_more number member proof is.marks lowest.inside lowest.unmarked lead_is);
          space = is.space;
          looked = is.looked;
        }
