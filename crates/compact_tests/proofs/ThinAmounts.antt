-- The summary of what is left of a valid result.
use Rattle.std.proofs.Common.{◌≡◌, ◌∙◌, ℕ, Bool, true, cond, List, [], ◌∷◌, length, map, refl, sym, ap, subst, arith}
use Rattle.std.specs.Prelude.{count_by, zip}
use Rattle.std.proofs.lemmas.List.{append-nil, length-map}
use Rattle.std.proofs.lemmas.List.Elements.{filter_map-append}
use Rattle.std.proofs.lemmas.List.Sums.{sum_by-append}
use Rattle.net_model.specs.Circuit.{Circuit, IsCircuit}
use Rattle.net_model.specs.FaultList.{fault_count}
use Rattle.net_model.specs.ClassTable.{class_table, class_count}
use Rattle.net_model.specs.PatternRows.{AreAnswerRows, IsTableOf}
use Rattle.net_model.proofs.Listed.{some_number}
use Rattle.net_model.proofs.OneAnswer.{one_table}
use Rattle.result_records.specs.declared.record.Mark.{Mark}
use Rattle.result_records.specs.declared.record.Record.{Record}
use Rattle.result_records.specs.declared.record.Record.TheVariants.{End}
use Rattle.result_records.specs.Marks.{pattern_of, patterns_in, evidence_in, is_class, class_lines, member_lines}
use Rattle.result_file.specs.Summary.{is_equal, is_open, summary_of}
use Rattle.result_file.specs.Valid.{IsValid}
use Rattle.result_file.specs.Laws.{ValidIsTrue}
use Rattle.compact_tests.specs.Remaining.{Answered, answered_vectors, answered_rows, remaining}
use Rattle.compact_tests.specs.ThinResult.{needed_evidence, marks_in, result_with, thin_result, IsThin}
use Rattle.compact_tests.proofs.TableLemmas.{numbers-table}
use Rattle.compact_tests.proofs.RemainingLemmas.{make_all}
use Rattle.compact_tests.proofs.LastEvidence.{next_right}
use Rattle.compact_tests.proofs.StatedMarks.{stated_marks}
use Rattle.compact_tests.proofs.SameAmounts.{body_of, zip_marks, is_equal_mark, is_open_mark, numbers_stated, equal_stated, open_stated, classes_stated}

pub zipped_rows : (c : Circuit) (patterns : List (List Bool)) (rows : List (List (List Bool))) → AreAnswerRows c patterns rows → answered_rows (zip patterns rows) ≡ rows
zipped_rows c [] [] a = refl
zipped_rows c [] (row ∷ rows) a = absurd a
zipped_rows c (v ∷ patterns) [] a = absurd a
zipped_rows c (v ∷ patterns) (row ∷ rows) a = ap (λ (rs : List (List (List Bool))). row ∷ rs) (zipped_rows c patterns rows a.1)

pub left_amounts : ValidIsTrue → (c : Circuit) (records thin : List Record) → IsCircuit c → IsValid c records → IsThin c records thin → summary_of thin ≡ record (summary_of records) { patterns = length (patterns_in thin) }
unfolding thin_result
left_amounts law c records thin circuit valid is =
    let told = law c records circuit valid in
    let s = told.0 in
    let all : List Answered = zip (patterns_in records) is.rows in
    let left = remaining (fault_count c) all in
    let t = class_table (fault_count c) (answered_rows left) in
    let new = result_with records t (answered_vectors left) in
    let body = body_of (answered_vectors left) (needed_evidence t (evidence_in records)) in
    let marks : marks_in records ≡ map (λ m. m.1) s.members = ap marks_in told.1 ∙ stated_marks c s told.2.body in
    let size : length t.class_of ≡ length (marks_in records) =
    numbers-table (fault_count c) (answered_rows left) ∙ sym told.2.numbers ∙ sym (length-map s.members (λ (m : ℕ × Mark). m.1)) ∙ sym (ap (λ (ms : List Mark). length ms) marks) in
    let same_marks : map (λ m. m.1) new.members ≡ map (λ m. m.1) s.members = zip_marks t.class_of (marks_in records) size ∙ marks in
    let numbers : member_lines thin ≡ member_lines records =
    ap member_lines is.thin_is ∙ numbers_stated c new body ∙ ap (count_by (λ m. true)) same_marks ∙ sym (numbers_stated c s told.2.body) ∙ sym (ap member_lines told.1) in
    let equal : count_by is_equal thin ≡ count_by is_equal records =
    ap (count_by is_equal) is.thin_is ∙ equal_stated c new body ∙ ap (count_by is_equal_mark) same_marks ∙ sym (equal_stated c s told.2.body) ∙ sym (ap (count_by is_equal) told.1) in
    let open_ones : count_by is_open thin ≡ count_by is_open records =
    ap (count_by is_open) is.thin_is ∙ open_stated c new body ∙ ap (count_by is_open_mark) same_marks ∙ sym (open_stated c s told.2.body) ∙ sym (ap (count_by is_open) told.1) in
    let last = next_right valid.before End [] valid.lines valid.ended in
    let patterns : patterns_in valid.before ≡ patterns_in records =
    sym (append-nil (patterns_in valid.before)) ∙ sym (filter_map-append pattern_of valid.before (End ∷ [])) ∙ sym (ap patterns_in valid.ended) in
    let u = class_table (fault_count c) is.rows in
    let table : last.right.t ≡ u = one_table c circuit (subst (λ (vs : List (List Bool)). IsTableOf c vs last.right.t) patterns last.right.table) (record { rows = is.rows; answers = is.answers; table = refl }) in
    let old_classes : class_lines records ≡ class_count u =
    omega (arith, ap class_lines valid.ended, sum_by-append (λ r. cond (is_class r) 1 0) valid.before (End ∷ []), last.right.place.0, ap class_count table) in
    let kept : class_count t ≡ class_count u = make_all (fault_count c) all (some_number c) ∙ ap (λ (rs : List (List (List Bool))). class_count (class_table (fault_count c) rs)) (zipped_rows c (patterns_in records) is.rows is.answers) in
    let classes : class_lines thin ≡ class_lines records = ap class_lines is.thin_is ∙ classes_stated c new body ∙ kept ∙ sym old_classes in
    λ i. record { numbers = numbers i; patterns = length (patterns_in thin); classes = classes i; equal = equal i; spent = open_ones i }
