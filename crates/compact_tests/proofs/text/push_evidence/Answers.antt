use Rattle.std.proofs.Common.{◌≡◌, ◌∙◌, ◌++◌, ℕ, length, map, sym, ap, arith}
use Rattle.std.specs.Prelude.{filter_map}
use Rattle.std.proofs.lemmas.List.{append-nil}
use Rattle.std.specs.List.{range_with_len}
use Rattle.result_records.specs.Spelling.{text_of}
use Rattle.result_records.specs.declared.record.Record.TheVariants.{Same}
use Rattle.compact_tests.specs.ThinResult.{last_evidence, evidence_for}
use Rattle.compact_tests.proofs.TextLemmas.{evidence_more}
use Rattle.compact_tests.proofs.text.push_evidence.Goals as goal

pub loop-number-init : goal.loop-number-init
loop-number-init c = record { within = omega arith; text = λ evidence are. sym (append-nil c.args.text.now.items) }

pub push_needed-requires-clause-line : goal.push_needed-requires-clause-line
push_needed-requires-clause-line c = (last_evidence c.requires.lines.0 c.loop-number.number, c.requires.lines.1 c.loop-number.number c.loop-number-test.true)

pub loop-number-preserved : goal.loop-number-preserved
loop-number-preserved c = record {
  within = omega (arith, c.loop-number-test.true);
  text = λ evidence are.
      let number = c.loop-number.number in
      evidence_more c.args.classes.now evidence number c.args.text.now.items (c.loop-number.invariant.text evidence are) (c.in_ok-push_needed.ensures (last_evidence evidence number) (are number c.loop-number-test.true));
}

pub returns : goal.returns
returns c = λ evidence are.
    let all : c.loop-number.number ≡ length c.args.classes.now.class_of = omega (arith, c.loop-number-test.false, c.loop-number.invariant.within, c.requires.count) in
    c.loop-number.invariant.text evidence are ∙ ap (λ (n : ℕ). c.args.text.now.items ++ text_of (map Same (filter_map (evidence_for c.args.classes.now evidence) (range_with_len 0 n)))) all
