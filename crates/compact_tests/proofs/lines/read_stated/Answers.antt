use Rattle.std.proofs.Common.{◌∙◌, ◌+◌, length, sym, ap, subst}
use Rattle.std.specs.Prelude.{slice_range}
use Rattle.result_records.specs.Spelling.{spelling}
use Rattle.compact_tests.specs.Stated.{IsReadableLine}
use Rattle.compact_tests.proofs.StatedLemmas.{has_next, first_once, stated_more, all_stated}
use Rattle.compact_tests.proofs.lines.read_stated.Goals as goal

pub line_end-end-requires : goal.line_end-end-requires
line_end-end-requires c =
    let next =
    has_next c.record_is_spelled_once.ensures.line c.args.bytes.now c.args.numbers c.loop-start.start c.requires.0 c.requires.1 c.loop-start.stated (c.loop-start.invariant.stated c.requires.0 c.requires.1) c.loop-start-test.true in
    (c.loop-start.start + length (spelling next.r), next.at.first)

pub note-requires-clause-line : goal.note-requires-clause-line
note-requires-clause-line c =
    let bytes = c.args.bytes.now in
    let start = c.loop-start.start in
    let next = has_next c.record_is_spelled_once.ensures.line bytes c.args.numbers start c.requires.0 c.requires.1 c.loop-start.stated (c.loop-start.invariant.stated c.requires.0 c.requires.1) c.loop-start-test.true in
    let place = first_once bytes start c.line_end-end.result (start + length (spelling next.r)) c.line_end-end.ensures next.at.first in
    (next.r, subst (λ n. IsReadableLine n next.r) (sym c.loop-start.invariant.count) next.readable, sym next.at.line ∙ ap (slice_range bytes start) (sym place))

pub loop-start-preserved : goal.loop-start-preserved
loop-start-preserved c = record {
  count = c.in_ok-note.ensures.count ∙ c.loop-start.invariant.count;
  stated = λ records is.
      stated_more c.record_is_spelled_once.ensures.line c.args.bytes.now c.args.numbers c.loop-start.start records is c.loop-start.stated c.line_end-end.result c.note.new.self (c.loop-start.invariant.stated records is) c.loop-start-test.true c.line_end-end.ensures c.in_ok-note.ensures;
}

pub returns : goal.returns
returns c = λ records is.
    all_stated c.record_is_spelled_once.ensures.line c.args.bytes.now c.args.numbers c.loop-start.start records is c.loop-start.stated (c.loop-start.invariant.stated records is) c.loop-start-test.false
