use Rattle.std.proofs.Common.{◌≡◌, ◌∙◌, ◌<◌, ◌++◌, ◌∷◌, [], Bool, List, length, map, refl, sym, ap, subst, arith}
use Rattle.std.specs.Prelude.{All, zip, ◌-◌}
use Rattle.net_model.specs.FaultList.{fault_count}
use Rattle.net_model.specs.PatternRows.{IsTableOf}
use Rattle.kept_vectors.specs.Kept.{SplitInTurn}
use Rattle.class_refine.proofs.PatternTables.{table_numbers}
use Rattle.result_file.specs.Meaning.{class_records, member_records}
use Rattle.result_records.specs.declared.record.Record.TheVariants.{Head, Budget, Pattern, Same, End}
use Rattle.result_records.specs.Marks.{evidence_in}
use Rattle.result_records.specs.Spelling.{text_of}
use Rattle.compact_tests.specs.Thinning.{AreAnswersOf}
use Rattle.compact_tests.specs.Keeping.{vectors_at}
use Rattle.compact_tests.specs.Stated.{IsReadable}
use Rattle.compact_tests.specs.ThinResult.{marks_in, needed_evidence}
use Rattle.compact_tests.proofs.CompactLemmas.{checked_answers, all_readable, needed_in_turn, marks_many, patterns_few, text_is, compacted}
use Rattle.compact_tests.proofs.compacting.thin_with.Goals as goal
use Rattle.compact_tests.proofs.compacting.thin_with.Goals.{After-as_slice-patterns, After-len-numbers, In_ok-classes}

-- The places are within the patterns.
within : (c : After-as_slice-patterns) → All (λ place. place < length c.as_slice-patterns.result.now) c.args.needed.now
within c = subst (λ (vs : List (List Bool)). All (λ place. place < length vs) c.args.needed.now) (sym c.as_slice-patterns.ensures) c.requires.needed.within

number_of_faults : (c : After-len-numbers) → c.len-numbers.result ≡ fault_count c.args.circuit.now
number_of_faults c = c.len-numbers.ensures.value ∙ ap length c.requires.faults

readable : (c : After-len-numbers) → IsReadable c.args.bytes.now c.len-numbers.result c.requires.accepted.records
readable c =
    let a = c.requires.accepted in
    subst (λ n. IsReadable c.args.bytes.now n a.records) (sym (number_of_faults c)) (all_readable c.args.circuit.now c.args.bytes.now a.records a.text_is a.accepted.valid.lines)

-- The classes are those of the needed patterns.
table_is : (c : In_ok-classes) → IsTableOf c.args.circuit.now (vectors_at c.args.checked.now.patterns c.args.needed.now) c.in_ok-classes.classes
table_is c = subst (λ (vs : List (List Bool)). IsTableOf c.args.circuit.now (vectors_at vs c.args.needed.now) c.in_ok-classes.classes) c.as_slice-patterns.ensures c.in_ok-classes.ensures

pub first_lines-requires : goal.first_lines-requires
first_lines-requires c = within (goal.at.first_lines-requires c).After-as_slice-patterns

pub classes_at-requires-clause-answered : goal.classes_at-requires-clause-answered
classes_at-requires-clause-answered c =
    let a = c.requires.accepted in
    subst (λ (vs : List (List Bool)). AreAnswersOf c.args.circuit.now vs c.args.checked.now.classes) (sym c.as_slice-patterns.ensures) (checked_answers c.args.circuit.now a.records c.args.checked.now a.accepted)

pub classes_at-requires-clause-places : goal.classes_at-requires-clause-places
classes_at-requires-clause-places c = within (goal.at.classes_at-requires-clause-places c).After-as_slice-patterns

pub classes_at-requires-clause-split : goal.classes_at-requires-clause-split
classes_at-requires-clause-split c =
    let a = c.requires.accepted in
    subst (λ (vs : List (List Bool)). SplitInTurn c.args.circuit.now (vectors_at vs c.args.needed.now)) (sym c.as_slice-patterns.ensures)
    (needed_in_turn c.valid_is_true.ensures.records c.args.circuit.now c.in_ok-text.ensures.circuit a.records c.args.checked.now a.accepted c.args.needed.now c.requires.needed)

pub push_numbers-requires-clause-numbers : goal.push_numbers-requires-clause-numbers
push_numbers-requires-clause-numbers c =
    let at = goal.at.push_numbers-requires-clause-numbers c in
    number_of_faults at.After-len-numbers ∙ sym (table_numbers (table_is at.In_ok-classes))

pub push_numbers-requires-clause-stated : goal.push_numbers-requires-clause-stated
push_numbers-requires-clause-stated c =
    let at = goal.at.push_numbers-requires-clause-stated c in
    let a = c.requires.accepted in (
      a.records,
      readable at.After-len-numbers,
      marks_many c.valid_is_true.ensures.records c.args.circuit.now c.in_ok-text.ensures.circuit a.records c.args.checked.now a.accepted c.args.needed.now c.requires.needed ∙ sym (number_of_faults at.After-len-numbers),
    )

pub overflow_sub-result : goal.overflow_sub-result
overflow_sub-result c =
    let at = goal.at.overflow_sub-result c in
    let a = c.requires.accepted in
    omega (arith, c.patterns-remain.ensures.value, patterns_few c.valid_is_true.ensures.records c.args.circuit.now c.in_ok-text.ensures.circuit a.records c.args.checked.now a.accepted c.args.needed.now c.requires.needed c.in_ok-classes.classes (table_is at.In_ok-classes))

pub returns : goal.returns
returns c =
    let at = goal.at.returns c in
    let circuit = c.args.circuit.now in
    let checked = c.args.checked.now in
    let a = c.requires.accepted in
    let law = c.valid_is_true.ensures.records in
    let is = c.in_ok-text.ensures.circuit in
    let of = table_is at.In_ok-classes in
    let classes = c.in_ok-classes.classes in
    let numbers = number_of_faults at.After-len-numbers in
    let patterns = c.as_slice-patterns.ensures in
    let first : c.in_ok-text.text.items ≡ text_of (Head circuit.sources (length circuit.positions) (fault_count circuit) ∷ Budget checked.budgets ∷ map Pattern (vectors_at checked.patterns c.args.needed.now)) =
    c.in_ok-text.ensures.lines ∙ (λ i. text_of (Head circuit.sources (length circuit.positions) (numbers i) ∷ Budget checked.budgets ∷ map Pattern (vectors_at (patterns i) c.args.needed.now))) in
    let evidence = c.in_ok-text.text.items ++ text_of (map Same (needed_evidence classes (evidence_in a.records))) in
    let last = text_of (class_records classes.births ++ member_records (zip classes.class_of (marks_in a.records)) ++ End ∷ []) in
    let whole = text_is law circuit is a.records checked a.accepted c.args.needed.now c.requires.needed classes of c.in_ok-text.text.items evidence last (marks_in a.records) first refl refl refl in
    let remain = c.patterns-remain.ensures.value in
    compacted law circuit is a.records checked a.accepted c.args.needed.now c.requires.needed classes of c.thin_is_sound.ensures.amounts c.args.bytes.now
    (record { text = c.new.result; summary = record checked.summary { patterns = c.patterns-remain.result }; dropped = checked.summary.patterns - c.patterns-remain.result })
    a.text_is (c.new.ensures ∙ (c.in_ok-push_numbers.ensures a.records (readable at.After-len-numbers) ∙ whole)) (λ i. record checked.summary { patterns = remain i }) (λ i. checked.summary.patterns - remain i)
