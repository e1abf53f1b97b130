-- What a valid result has for its compaction.
use Rattle.std.proofs.Common.{◌≡◌, ◌∙◌, ℕ, suc, ◌-◌, ◌<◌, ◌≤◌, Bool, true, false, cond, eqb, List, [], ◌∷◌, ◌++◌, length, map, take, drop, get_or, Some, refl, sym, ap, ap₂, subst, arith}
use Rattle.std.specs.Prelude.{All, zip, is_none}
use Rattle.std.specs.List.{AllByRecursion}
use Rattle.std.proofs.lemmas.List.{length-append, length-map, get_or_at, get_or_default}
use Rattle.std.proofs.lemmas.List.Elements.{All-nil, All-cons}
use Rattle.net_model.specs.Circuit.{Circuit, IsCircuit}
use Rattle.net_model.specs.FaultList.{fault_count}
use Rattle.net_model.specs.ClassTable.{ClassTable, class_table, number_range}
use Rattle.net_model.specs.PatternRows.{AreAnswerRows, IsTableOf}
use Rattle.class_refine.proofs.Ranges.{range_below}
use Rattle.kept_vectors.specs.Kept.{SplitInTurn}
use Rattle.class_refine.proofs.PatternTables.{table_numbers}
use Rattle.result_records.specs.declared.record.Budgets.{Budgets}
use Rattle.result_records.specs.declared.record.Mark.{Mark}
use Rattle.result_file.specs.declared.checked.Summary.{Summary}
use Rattle.result_records.specs.declared.record.Evidence.{Evidence}
use Rattle.result_records.specs.declared.record.Record.{Record}
use Rattle.result_records.specs.declared.record.Record.TheVariants.{Head, Budget, Pattern, Same, Class, Member, End}
use Rattle.text_fields.specs.Fields.{Text}
use Rattle.result_records.specs.Spelling.{text_of}
use Rattle.result_records.specs.Marks.{patterns_in, evidence_in, number_mark, next_member}
use Rattle.result_file.specs.Lines.{budgets_in}
use Rattle.result_file.specs.Meaning.{stated_records, class_records, member_records}
use Rattle.result_file.specs.Valid.{AreRightLines}
use Rattle.result_file.specs.Laws.{ValidIsTrue}
use Rattle.result_file.proofs.RightLines.{IsNextLine}
use Rattle.result_file.specs.declared.checked.Checked.{Checked}
use Rattle.result_file.specs.Accepted.{IsAccepted}
use Rattle.compact_tests.specs.Remaining.{Answered, answered_vectors, answered_rows, remaining, remaining_behind, with_needed, classes_by}
use Rattle.compact_tests.specs.declared.thin.Thin.{Thin}
use Rattle.compact_tests.specs.ThinResult.{marks_in, needed_evidence, thin_result, IsThin}
use Rattle.compact_tests.specs.Laws.{ThinAmountsToSame}
use Rattle.compact_tests.specs.Compacted.{IsCompacted}
use Rattle.compact_tests.specs.Thinning.{IsAnswered, AreAnswersOf, AreRemainingPlaces, patterns_at}
use Rattle.compact_tests.specs.Keeping.{vectors_at}
use Rattle.compact_tests.specs.Stated.{IsReadableLine, IsReadable}
use Rattle.compact_tests.proofs.FindLemmas.{found_in}
use Rattle.compact_tests.proofs.SplitLemmas.{parts_at, patterns_table}
use Rattle.compact_tests.proofs.LastEvidence.{next_right}
use Rattle.compact_tests.proofs.StatedMarks.{stated_marks}
use Rattle.compact_tests.proofs.ThinLemmas.{answered, zipped_vectors, table_by, answered_remaining, thin_patterns}
use Rattle.compact_tests.proofs.ThinAmounts.{zipped_rows}
use Rattle.compact_tests.proofs.ThinValid.{map_item, pattern_widths, in_turn, marks_count}
use Rattle.compact_tests.proofs.TextLemmas.{text_parts}

-- ---- the patterns with their answers

pub zip_answered : (c : Circuit) (patterns : List (List Bool)) (t : ClassTable) (of : IsTableOf c patterns t) → IsAnswered c patterns t (zip patterns of.rows)
zip_answered c patterns t of = record {
  vectors = zipped_vectors c patterns of.rows of.answers;
  answers = subst (AreAnswerRows c patterns) (sym (zipped_rows c patterns of.rows of.answers)) of.answers;
  table = of.table ∙ ap (class_table (fault_count c)) (sym (zipped_rows c patterns of.rows of.answers));
}

pub vectors_at_are : (all : List Answered) (places : List ℕ) → vectors_at (answered_vectors all) places ≡ answered_vectors (patterns_at all places)
vectors_at_are all [] = refl
vectors_at_are all (place ∷ places) = ap₂ (λ (v : List Bool) (vs : List (List Bool)). v ∷ vs) (map_item (λ (p : Answered). p.0) all place ([], [])) (vectors_at_are all places)

-- ---- the lines can be read

member_below : (t : ClassTable) (evidence : List Evidence) (n : ℕ) → next_member t evidence ≡ Some n → n < length t.class_of
unfolding next_member
member_below t evidence n next =
    let f = found_in (λ m. is_none (number_mark t evidence m)) (number_range t) n next in
    let k = length f.before in
    let is : get_or (number_range t) k 0 ≡ n = ap (λ (xs : List ℕ). get_or xs k 0) f.parts ∙ get_or_at f.before n f.behind 0 k refl in
    let inside : k < length (number_range t) = omega (arith, ap length f.parts, length-append f.before (n ∷ f.behind)) in
    subst (λ m. m < length t.class_of) is (range_below (length t.class_of) k 0 inside)

module _ (c : Circuit) where
  readable_by : (before : List Record) (r : Record) → IsNextLine c before r → IsReadableLine (fault_count c) r
  readable_by before (Head s p n) next = record { spelled = next.spelled; known = All-nil (λ (e : Evidence). e.member < fault_count c) }
  readable_by before (Budget b) next = record { spelled = next.spelled; known = All-nil (λ (e : Evidence). e.member < fault_count c) }
  readable_by before (Pattern v) next = record { spelled = next.spelled; known = All-nil (λ (e : Evidence). e.member < fault_count c) }
  readable_by before (Same e) next =
      let inside = member_below next.right.t (evidence_in before) e.member next.right.content.next.member in
      record { spelled = next.spelled; known = All-cons (λ (e : Evidence). e.member < fault_count c) e [] (omega (arith, inside, table_numbers next.right.table)) (All-nil (λ (e : Evidence). e.member < fault_count c)) }
  readable_by before (Class n birth) next = record { spelled = next.spelled; known = All-nil (λ (e : Evidence). e.member < fault_count c) }
  readable_by before (Member n class m) next = record { spelled = next.spelled; known = All-nil (λ (e : Evidence). e.member < fault_count c) }
  readable_by before End next = record { spelled = next.spelled; known = All-nil (λ (e : Evidence). e.member < fault_count c) }

  pub all_readable : (bytes : Text) (records : List Record) → bytes ≡ text_of records → AreRightLines c records → IsReadable bytes (fault_count c) records
  all_readable bytes records text lines = record {
    text = text;
    lines = λ k d h.
        let same : get_or records k End ≡ get_or records k d = get_or_default records k End d h in
        subst (IsReadableLine (fault_count c)) same (readable_by (take k records) (get_or records k End) (next_right (take k records) (get_or records k End) (drop (suc k) records) lines (parts_at records k End h)));
  }

-- ---- what remains

no_longer_by : (numbers classes : ℕ) (before : List Answered) (pattern : Answered) (behind : List Answered) (n : ℕ) → length behind ≤ n → length (with_needed numbers classes before pattern behind) ≤ suc n
no_longer_by numbers classes before pattern behind n h = by (eqb (classes_by numbers (before ++ behind)) classes)
  where
    by : (b : Bool) → length (cond b behind (pattern ∷ behind)) ≤ suc n
    by true = omega (arith, h)
    by false = omega (arith, h)

no_longer : (numbers classes : ℕ) (before patterns : List Answered) → length (remaining_behind numbers classes before patterns) ≤ length patterns
no_longer numbers classes before [] = omega arith
no_longer numbers classes before (pattern ∷ patterns) =
    no_longer_by numbers classes before pattern (remaining_behind numbers classes (before ++ pattern ∷ []) patterns) (length patterns) (no_longer numbers classes (before ++ pattern ∷ []) patterns)

pub remaining_few : (numbers : ℕ) (all : List Answered) → length (remaining numbers all) ≤ length all
unfolding remaining
remaining_few numbers all = no_longer numbers (classes_by numbers all) [] all

all_from : {X : Type 0} (P : X → Type 0) (xs : List X) → AllByRecursion P xs → All P xs
all_from P [] each = All-nil P
all_from P (x ∷ xs) each = All-cons P x xs each.0 (all_from P xs each.1)

-- A checked result has answers.
pub checked_answers : (c : Circuit) (records : List Record) (checked : Checked) → IsAccepted c records checked → AreAnswersOf c checked.patterns checked.classes
checked_answers c records checked a =
    let of : IsTableOf c checked.patterns checked.classes = subst (λ (vs : List (List Bool)). IsTableOf c vs checked.classes) (sym a.patterns) a.table in
    record {
      widths = subst (λ (vs : List (List Bool)). All (λ v. length v ≡ c.sources) vs) (sym a.patterns) (all_from (λ v. length v ≡ c.sources) (patterns_in records) (pattern_widths c records a.valid.lines [] records refl));
      all = zip checked.patterns of.rows;
      answered = zip_answered c checked.patterns checked.classes of;
    }

module _ (law : ValidIsTrue) (c : Circuit) (circuit : IsCircuit c) (records : List Record) (checked : Checked) (a : IsAccepted c records checked) (needed : List ℕ) (places : AreRemainingPlaces c checked.patterns checked.classes needed) where
  abbrev numbers : ℕ
  numbers = fault_count c

  abbrev rows : List (List (List Bool))
  rows = a.table.rows

  abbrev all : List Answered
  all = zip (patterns_in records) rows

  abbrev remain : List Answered
  remain = remaining numbers all

  abbrev t : ClassTable
  t = class_table numbers (answered_rows remain)

  abbrev pub left : List Record
  left = stated_records c (thin_result numbers rows records)

  abbrev is_thin : IsThin c records left
  is_thin = record { rows = rows; answers = a.table.answers; thin_is = refl }

  all_answered : IsAnswered c checked.patterns checked.classes all
  all_answered =
      let is = zip_answered c (patterns_in records) checked.classes a.table in
      record { vectors = is.vectors ∙ sym a.patterns; answers = subst (λ (vs : List (List Bool)). AreAnswerRows c vs (answered_rows all)) (sym a.patterns) is.answers; table = is.table }

  vectors_are : vectors_at checked.patterns needed ≡ answered_vectors remain
  vectors_are = ap (λ (vs : List (List Bool)). vectors_at vs needed) (sym all_answered.vectors) ∙ (vectors_at_are all needed ∙ ap answered_vectors (places.remain all all_answered))

  pub needed_in_turn : SplitInTurn c (vectors_at checked.patterns needed)
  needed_in_turn =
      let told = law c records circuit a.valid in
      subst (SplitInTurn c) (sym vectors_are) (in_turn c circuit records left a.valid.lines is_thin told.0 told.1 told.2.numbers (ap marks_in told.1 ∙ stated_marks c told.0 told.2.body))

  pub marks_many : length (marks_in records) ≡ numbers
  marks_many =
      let told = law c records circuit a.valid in
      marks_count c circuit records left a.valid.lines is_thin told.0 told.1 told.2.numbers (ap marks_in told.1 ∙ stated_marks c told.0 told.2.body)

  module _ (classes : ClassTable) (of : IsTableOf c (vectors_at checked.patterns needed) classes) where
    classes_are : classes ≡ t
    classes_are = table_by c circuit remain (answered_remaining c all (answered c (patterns_in records) rows a.table.answers)) classes (subst (λ (vs : List (List Bool)). IsTableOf c vs classes) vectors_are of)

    -- How many patterns remain.
    pub patterns_many : classes.patterns ≡ length (patterns_in left)
    patterns_many =
        ap (λ (u : ClassTable). u.patterns) classes_are ∙ (patterns_table numbers (answered_rows remain) ∙ (length-map remain (λ (p : Answered). p.1)
        ∙ (sym (length-map remain (λ (p : Answered). p.0)) ∙ sym (ap length (thin_patterns c rows records)))))

    all_many : length all ≡ length (patterns_in records)
    all_many = sym (length-map all (λ (p : Answered). p.0)) ∙ ap length (zipped_vectors c (patterns_in records) rows a.table.answers)

    pub patterns_few : classes.patterns ≤ checked.summary.patterns
    patterns_few =
        omega (arith, ap (λ (u : ClassTable). u.patterns) classes_are, patterns_table numbers (answered_rows remain), length-map remain (λ (p : Answered). p.1), remaining_few numbers all, all_many, ap (λ (s : Summary). s.patterns) a.summary)

    -- The first lines of the text.
    front : Budgets → List (List Bool) → List Record
    front budgets vectors = Head c.sources (length c.positions) numbers ∷ Budget budgets ∷ map Pattern vectors

    back : ClassTable → List Mark → List Record
    back u marks = class_records u.births ++ member_records (zip u.class_of marks) ++ End ∷ []

    left_text : text_of left ≡ text_of (front (budgets_in records) (answered_vectors remain)) ++ text_of (map Same (needed_evidence t (evidence_in records))) ++ text_of (back t (marks_in records))
    unfolding thin_result front back
    left_text = text_parts (Head c.sources (length c.positions) numbers ∷ Budget (budgets_in records) ∷ map Pattern (answered_vectors remain)) (map Same (needed_evidence t (evidence_in records))) (class_records t.births) (member_records (zip t.class_of (marks_in records))) (End ∷ [])

    pub text_is : (first evidence last : Text) (marks : List Mark) → first ≡ text_of (Head c.sources (length c.positions) numbers ∷ Budget checked.budgets ∷ map Pattern (vectors_at checked.patterns needed))
        → evidence ≡ first ++ text_of (map Same (needed_evidence classes (evidence_in records))) → marks ≡ marks_in records → last ≡ text_of (class_records classes.births ++ member_records (zip classes.class_of marks) ++ End ∷ []) → evidence ++ last ≡ text_of left
    unfolding front back
    text_is first evidence last marks first_is evidence_is marks_are last_is =
        let f : first ≡ text_of (front (budgets_in records) (answered_vectors remain)) = first_is ∙ (λ i. text_of (front (a.budgets i) (vectors_are i))) in
        let e : evidence ≡ text_of (front (budgets_in records) (answered_vectors remain)) ++ text_of (map Same (needed_evidence t (evidence_in records))) =
        evidence_is ∙ (λ i. f i ++ text_of (map Same (needed_evidence (classes_are i) (evidence_in records)))) in
        let l : last ≡ text_of (back t (marks_in records)) = last_is ∙ (λ i. text_of (back (classes_are i) (marks_are i))) in
        (λ i. e i ++ l i) ∙ sym left_text

    pub compacted : ThinAmountsToSame → (file : Text) (thin : Thin) → file ≡ text_of records → thin.text ≡ text_of left → thin.summary ≡ record checked.summary { patterns = classes.patterns } → thin.dropped ≡ checked.summary.patterns - classes.patterns → IsCompacted c file thin
    compacted amounts file thin file_is text_of_left summary dropped = record {
      records = records;
      spelled = file_is;
      valid = a.valid;
      left = left;
      are = is_thin;
      text_is = text_of_left;
      summary_is = summary ∙ ((λ i. record (a.summary i) { patterns = patterns_many i }) ∙ sym (amounts c records left circuit a.valid is_thin));
      dropped_is = dropped ∙ (λ i. (a.summary i).patterns - patterns_many i);
    }
