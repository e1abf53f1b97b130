use Rattle.std.proofs.Common.{◌∙◌, ◌++◌, ◌∷◌, [], List, Option, length, sym, ap, ap₂, subst, arith}
use Rattle.std.specs.Prelude.{zip}
use Rattle.result_records.specs.declared.record.Mark.{Mark}
use Rattle.result_records.specs.declared.record.Record.TheVariants.{End}
use Rattle.result_records.specs.Marks.{evidence_in}
use Rattle.result_file.specs.Meaning.{class_records, member_records}
use Rattle.text_fields.specs.Fields.{Text}
use Rattle.result_records.specs.Spelling.{text_of}
use Rattle.compact_tests.specs.declared.lines.Span.{Span}
use Rattle.compact_tests.specs.Stated.{AreEvidenceLines}
use Rattle.compact_tests.proofs.text.push_numbers.Goals as goal

pub read_stated-requires : goal.read_stated-requires
read_stated-requires c = (c.requires.stated.0, c.requires.stated.1)

pub push_evidence-requires-clause-count : goal.push_evidence-requires-clause-count
push_evidence-requires-clause-count c = ap length c.as_slice.ensures.value ∙ ((c.in_ok-stated.ensures c.requires.stated.0 c.requires.stated.1).count ∙ c.requires.numbers)

pub push_evidence-requires-clause-few : goal.push_evidence-requires-clause-few
push_evidence-requires-clause-few c = omega (arith, ap length c.as_slice.ensures.value, (c.in_ok-stated.ensures c.requires.stated.0 c.requires.stated.1).count, c.ranges.numbers)

pub push_evidence-requires-clause-lines : goal.push_evidence-requires-clause-lines
push_evidence-requires-clause-lines c =
    let records = c.requires.stated.0 in
    (evidence_in records, subst (λ (xs : List (Option Span)). AreEvidenceLines c.args.bytes.now (evidence_in records) xs) (sym c.as_slice.ensures.value) (c.in_ok-stated.ensures records c.requires.stated.1).evidence)

pub last_lines-requires-clause-whole : goal.last_lines-requires-clause-whole
last_lines-requires-clause-whole c = ap length c.as_slice-2.ensures.value ∙ (ap length (c.in_ok-stated.ensures c.requires.stated.0 c.requires.stated.1).marks ∙ (c.requires.stated.2 ∙ c.requires.numbers))

pub last_lines-requires-clause-few : goal.last_lines-requires-clause-few
last_lines-requires-clause-few c = omega (arith, ap length c.as_slice-2.ensures.value, ap length (c.in_ok-stated.ensures c.requires.stated.0 c.requires.stated.1).marks, c.requires.stated.2, c.ranges.numbers)

pub returns : goal.returns
returns c = λ records is.
    let t = c.args.classes.now in
    let stated = c.in_ok-stated.ensures records is in
    let lines = subst (λ (xs : List (Option Span)). AreEvidenceLines c.args.bytes.now (evidence_in records) xs) (sym c.as_slice.ensures.value) stated.evidence in
    let last = c.as_bytes.ensures.value ∙ (c.in_ok-last.ensures ∙ ap (λ (ms : List Mark). text_of (class_records t.births ++ member_records (zip t.class_of ms) ++ End ∷ [])) (c.as_slice-2.ensures.value ∙ stated.marks)) in
    c.in_ok-extend_from_slice.ensures.items ∙ ap₂ (λ (front back : Text). front ++ back) (c.in_ok-push_evidence.ensures (evidence_in records) lines) last
