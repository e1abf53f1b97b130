use Rattle.std.proofs.Common.{◌≡◌, ◌∙◌, ◌+◌, ◌<◌, ◌++◌, [], ◌∷◌, length, sym, subst}
use Rattle.std.specs.Prelude.{All}
use Rattle.std.proofs.lemmas.Result.{IfOk-weaker}
use Rattle.result_records.specs.declared.record.Evidence.{Evidence}
use Rattle.result_records.specs.declared.record.Record.{Record}
use Rattle.result_records.specs.Marks.{evidence_in}
use Rattle.compact_tests.specs.declared.lines.Span.{Span}
use Rattle.compact_tests.specs.Stated.{IsStated, NotesLine, TakesRecord}
use Rattle.compact_tests.proofs.StatedLemmas.{span_of}
use Rattle.compact_tests.proofs.lines.Stated.note.Goals as goal

pub take-requires : goal.take-requires
take-requires c =
    let q = c.requires.line in
    let read = c.in-Ok.ensures.read in
    let same : q.0 ≡ c.in-Ok.r = c.record_is_spelled_once.ensures.once q.0 c.in-Ok.r q.1.spelled read.0 (q.2 ∙ sym read.1) in
    subst (λ (r : Record). All (λ (e : Evidence). e.member < length c.args.self.now.evidence.items) (evidence_in (r ∷ []))) same q.1.known

pub returns : goal.returns
returns c =
    let r = c.in-Ok.r in
    let read = c.in-Ok.ensures.read in
    let start = c.args.start in
    let end = c.args.end in
    let bytes = c.args.bytes.now in
    let old = c.args.self.now in
    let new = c.take.new.self in
    let line : Span = record { start = start; end = end + 1 } in
    IfOk-weaker c.take.result (λ x. TakesRecord r line old new) (λ x. NotesLine bytes start end old new)
    (λ x takes. record {
      count = takes.count;
      stated = λ numbers before q spelled eq is.
          let same : q ≡ r = c.record_is_spelled_once.ensures.once q r spelled read.0 (eq ∙ sym read.1) in
          subst (λ (s : Record). IsStated bytes numbers (before ++ s ∷ []) new) (sym same) (takes.stated bytes numbers before (span_of bytes start end r c.requires.start c.requires.end c.requires.here read.1) is);
    }) c.take.ensures
