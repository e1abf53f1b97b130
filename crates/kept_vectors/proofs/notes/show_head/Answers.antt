use Rattle.std.proofs.Common.{ap, ◌∙◌, ◌++◌, ◌≡◌, length, arith}
use Rattle.std.specs.Prelude.{slice_range}
use Rattle.std.proofs.lemmas.List.{length-append}
use Rattle.kept_vectors.specs.Notes.{IsHeadReport}
use Rattle.kept_vectors.proofs.NoteLemmas.{head_report, range_behind}
use Rattle.kept_vectors.proofs.notes.show_head.Goals as goal
use Rattle.kept_vectors.proofs.notes.show_head.Goals.{After-as_slice}

-- the part of the notes is what was added
part : (c : After-as_slice) → slice_range c.note_differences.new.notes.items c.len-start.result c.len-end.result ≡ c.in_ok-note_differences.ensures.0
part c =
    let notes = c.in_ok-note_differences.ensures in
    rw notes.1 (range_behind c.args.notes.now.items notes.0 c.len-start.result c.len-end.result (omega (arith, c.len-start.ensures, c.args.notes.now.ok.0)) (omega (arith, c.len-end.ensures, c.note_differences.new.notes.ok.0, ap length notes.1)))

-- what it reports
reports : (c : After-as_slice) → IsHeadReport c.args.good.now c.args.head c.args.needed c.in_ok-note_differences.ensures.0
reports c =
    let notes = c.in_ok-note_differences.ensures in
    head_report c.args.good.now c.flip.new.self c.args.head c.args.needed notes.0 (c.flip.ensures.circuit ∙ c.requires.circuit) c.flip.ensures.differences notes.2

pub returns-clause-shown : goal.returns-clause-shown
returns-clause-shown c =
    let at = (goal.at.returns-clause-shown c).After-as_slice in
    let notes = c.note_differences.new.notes.items in
    let made = c.shown_in.ensures in
    let span : slice_range notes c.shown_in.result.start c.shown_in.result.end ≡ slice_range notes c.len-start.result c.len-end.result = (λ i. slice_range notes (made.start i) (made.end i)) in
    let longer : length notes ≡ length (c.args.notes.now.items ++ c.in_ok-note_differences.ensures.0) = ap length c.in_ok-note_differences.ensures.1 in
    record {
      within = (
        omega (arith, made.start, made.end, c.len-start.ensures, c.len-end.ensures, longer, length-append c.args.notes.now.items c.in_ok-note_differences.ensures.0, c.args.notes.now.ok.0, c.note_differences.new.notes.ok.0),
        omega (arith, made.end, c.len-end.ensures, c.note_differences.new.notes.ok.0),
      );
      report = rw (span, part at) (reports at);
      any = λ lane h. rw span (rw c.as_slice.ensures.value at (made.any lane h));
    }
