use Rattle.std.proofs.Common.{◌≡◌, ◌∙◌, ◌+◌, ◌<◌, ◌≤◌, ◌++◌, [], Result, Ok, IsTrue, take, length, length-append, refl, arith}
use Rattle.std.proofs.lemmas.Result.{err_from_is_err_and}
use Rattle.std.specs.Prelude.{IsErrOf, drop}
use Rattle.std.proofs.lemmas.List.{take-append-le, length-take}
use Rattle.diag_shelf.specs.World.{State}
use Rattle.diag_shelf.specs.Calls.{SameFacts, IsReadCall}
use Rattle.diag_shelf.proofs.Steps.{facts_same, facts_after_read, reads_more, on_error}
use Rattle.result_records.specs.declared.limits.TheConstants.{RESULT_LIMIT}
use Rattle.dia_check.specs.declared.answer.FileFault.{FileFault}
use Rattle.dia_check.specs.declared.answer.FileFault.TheVariants as file
use Rattle.dia_check.proofs.AnswerLemmas.{opened_never_fails}
use Rattle.dia_check.proofs.RestLemmas.{takes_nothing, takes_more, takes_few, takes_no_more, takes_end, takes_limit}
use Rattle.dia_check.proofs.checking.read_rest.Goals as goal

-- A call that reads leaves these facts.
called : {a b : State} → SameFacts a b → IsReadCall {T = Unit {0}} (Ok tt) a b
called s = record { tells = s.tells; sure = s.sure; writes = s.writes; later = omega (arith, s.reads); ok = s.reads; failed = λ e. absurd (cc); memory = λ h e. absurd (cc) }

no_fault : (fault : FileFault) → ¬ IsErrOf (let r : Result (Unit {0}) FileFault = Ok tt in r) fault
no_fault fault bad = cc

pub loop-taken-init : goal.loop-taken-init
loop-taken-init g c = record {
  facts = facts_same (g.S.Shelf.state c.args.shelf.now);
  only = λ told. record { files = refl; written = refl; console = refl };
  opened = c.requires.opened;
  so_far = record { fed = []; reading = c.requires.reading; taken_is = refl; told = λ told. takes_nothing (g.S.Shelf.state c.args.shelf.now).world (c.requires.opened told) };
  few = omega arith;
}

pub loop-taken-preserved : goal.loop-taken-preserved
loop-taken-preserved g c =
    let before = c.loop-taken.invariant in
    let so_far = before.so_far in
    let piece = c.read.new.piece in
    let count = c.in_ok-count.count in
    let bound = c.in_ok-count.ensures.bound in
    let cut = take-append-le count piece (drop c.wanted.result c.loop-taken.piece) bound in
    let read = λ (told : IsTrue (g.S.Shelf.state c.args.shelf.now).tells). c.in_ok-count.ensures.taken (before.facts.tells ∙ told) in
    record {
      facts = facts_after_read count _ _ _ before.facts c.in_ok-count.ensures.call;
      only = λ told. record { files = (read told).only.files ∙ (before.only told).files; written = (read told).only.written ∙ (before.only told).written; console = (read told).only.console ∙ (before.only told).console };
      opened = λ told. (read told).still_opened;
      so_far = record {
        fed = so_far.fed ++ take count piece;
        reading = rw cut at (c.in_ok-feed.ensures so_far.fed so_far.reading);
        taken_is = omega (arith, so_far.taken_is, bound, length-append so_far.fed (take count piece), length-take count piece);
        told = λ told. takes_more piece count (so_far.told told) (read told);
      };
      few = omega (arith, bound, c.read.auto.piece, c.wanted.array_long, length-take c.wanted.result c.loop-taken.piece);
    }

pub returns : goal.returns
returns g c =
    let so_far = c.loop-taken.invariant.so_far in
    let test = c.loop-taken-test.false in
    let full : length so_far.fed ≡ RESULT_LIMIT + 1 = omega (arith, so_far.taken_is, c.loop-taken.invariant.few) in
    record {
      call = called c.loop-taken.invariant.facts;
      others = c.loop-taken.invariant.only;
      read = record { fed = so_far.fed; reading = so_far.reading; few = omega (arith, full); all = λ told. takes_limit (so_far.told told) full };
      err = tt;
      never = λ sure. no_fault file.Failed;
      result = λ fault. no_fault (file.Result fault);
    }

pub returns-then-count-eq0 : goal.returns-then-count-eq0
returns-then-count-eq0 g c =
    let before = c.loop-taken.invariant in
    let so_far = before.so_far in
    let piece = c.read.new.piece in
    let count = c.in_ok-count.count in
    let read = λ (told : IsTrue (g.S.Shelf.state c.args.shelf.now).tells). c.in_ok-count.ensures.taken (before.facts.tells ∙ told) in
    let some : 0 < length piece = omega (arith, c.read.auto.piece, c.wanted.array_long, length-take c.wanted.result c.loop-taken.piece) in
    record {
      call = called (facts_after_read count _ _ _ before.facts c.in_ok-count.ensures.call);
      others = λ told. record { files = (read told).only.files ∙ (before.only told).files; written = (read told).only.written ∙ (before.only told).written; console = (read told).only.console ∙ (before.only told).console };
      read = record { fed = so_far.fed; reading = so_far.reading; few = omega (arith, so_far.taken_is, before.few); all = λ told. takes_end piece count (so_far.told told) (read told) c.if-count-eq0.true some };
      err = tt;
      never = λ sure. no_fault file.Failed;
      result = λ fault. no_fault (file.Result fault);
    }

pub returns-in_err-count-clause-err : goal.returns-in_err-count-clause-err
returns-in_err-count-clause-err g c =
    let before = c.loop-taken.invariant in
    let so_far = before.so_far in
    on_error c.from_residual.result (λ told.
    takes_no_more (takes_few (c.requires.opened told) (before.only told) (so_far.told told) (omega (arith, so_far.taken_is, before.few))) (c.in_err-count.ensures.err (before.facts.tells ∙ told)))

pub returns-in_err-feed-clause-err : goal.returns-in_err-feed-clause-err
returns-in_err-feed-clause-err g c =
    let before = c.loop-taken.invariant in
    let so_far = before.so_far in
    let piece = c.read.new.piece in
    let count = c.in_ok-count.count in
    let bound = c.in_ok-count.ensures.bound in
    let few : length (so_far.fed ++ take count piece) ≤ RESULT_LIMIT + 1 =
    omega (arith, so_far.taken_is, bound, length-append so_far.fed (take count piece), length-take count piece, c.read.auto.piece, c.wanted.array_long, length-take c.wanted.result c.loop-taken.piece) in
    on_error c.from_residual-in_err-feed.result (λ told.
    let read = c.in_ok-count.ensures.taken (before.facts.tells ∙ told) in
    takes_few (c.requires.opened told) (reads_more (before.only told) read.only) (takes_more piece count (so_far.told told) read) few)

pub returns-in_err-count-clause-never : goal.returns-in_err-count-clause-never
returns-in_err-count-clause-never g c =
    let p = err_from_is_err_and c.from_residual.result c.from_residual.ensures.1 in
    let before = c.loop-taken.invariant in
    rw (p.1, p.2) (λ sure. opened_never_fails c.in_err-count.field-0.0 (c.in_err-count.ensures.sure (before.facts.sure ∙ sure)) (before.opened (g.met.S.Shelf.sure_tells _ sure)))
