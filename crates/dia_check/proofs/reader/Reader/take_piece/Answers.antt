use Rattle.std.proofs.Common.{◌≤◌, ◌∷◌, length, length-append, refl, ap, arith}
use Rattle.std.proofs.lemmas.Result.{err_from_is_err_and}
use Rattle.dia_check.proofs.CheckLemmas.{few_lines, has_after}
use Rattle.dia_check.proofs.ReaderLemmas.{has_check, line_held, inside_held, inside_short, line_refused, waiting_stopped, piece_taken, piece_beyond}
use Rattle.dia_check.proofs.reader.Reader.take_piece.Goals as goal

pub loop-line-init : goal.loop-line-init
loop-line-init c = record {
  held = λ fed is. inside_held is c.args.piece.now c.inside-inside.result c.inside-inside.ensures _ refl c.in_ok-feed.ensures.ok;
  room = refl;
  refused = refl;
}

pub returns-in_err-line : goal.returns-in_err-line
returns-in_err-line c =
    let p = err_from_is_err_and c.from_residual-in_err-line.result c.from_residual-in_err-line.ensures.1 in
    rw (p.1, p.2) (record { taken = λ fed is. tt; refused = c.loop-line.invariant.refused })

pub judge_line-requires : goal.judge_line-requires
judge_line-requires c =
    let first = rw c.in-Some.is at c.in_ok-line.ensures.ok in
    record { check = has_check (c.loop-line.invariant.held c.requires.fed c.requires.is); one = rw c.deref.ensures.value first.one }

pub returns-in_err-judge_line : goal.returns-in_err-judge_line
returns-in_err-judge_line c =
    let p = err_from_is_err_and c.from_residual-in_err-judge_line.result c.from_residual-in_err-judge_line.ensures.1 in
    let first = rw c.in-Some.is at c.in_ok-line.ensures.ok in
    let judges = rw c.deref.ensures.value at c.in_err-judge_line.ensures in
    rw (p.1, p.2) (record {
      taken = λ fed is. line_refused is c.args.piece.now c.inside-inside.result c.inside-inside.ensures (c.loop-line.invariant.held fed is) _ c.in-Some.line.items c.take_line.new.self first judges;
      refused = c.loop-line.invariant.refused;
    })

pub loop-line-preserved : goal.loop-line-preserved
loop-line-preserved c =
    let first = rw c.in-Some.is at c.in_ok-line.ensures.ok in
    let judges = rw c.deref.ensures.value at c.in_ok-judge_line.ensures in
    record {
      held = λ fed is.
          let short = inside_short is c.args.piece.now c.inside-inside.result c.inside-inside.ensures in
          line_held (c.loop-line.invariant.held fed is) short c.in-Some.line.items c.take_line.new.self first c.judge_line.new.self _ judges _ refl refl;
      room = c.loop-line.invariant.room;
      refused = c.loop-line.invariant.refused;
    }

pub loop-line-smaller : goal.loop-line-smaller
loop-line-smaller c =
    let first = rw c.in-Some.is at c.in_ok-line.ensures.ok in
    omega (arith, ap length first.cut, length-append c.in-Some.line.items (10 ∷ c.take_line.new.self))

pub flush-requires : goal.flush-requires
flush-requires c = record { check = has_check (c.loop-line.invariant.held c.requires.fed c.requires.is) }

pub returns-in_err-flush : goal.returns-in_err-flush
returns-in_err-flush c =
    let p = err_from_is_err_and c.from_residual-in_err-flush.result c.from_residual-in_err-flush.ensures.1 in
    rw (p.1, p.2) (record {
      taken = λ fed is. waiting_stopped is c.args.piece.now c.inside-inside.result c.inside-inside.ensures (c.loop-line.invariant.held fed is) _ c.in_err-flush.ensures.judged;
      refused = c.loop-line.invariant.refused;
    })

pub refused-requires : goal.refused-requires
refused-requires c = few_lines (has_after (has_check (c.loop-line.invariant.held c.requires.fed c.requires.is)) c.in_ok-flush.ensures.judged)

pub returns-then-inside-piece : goal.returns-then-inside-piece
returns-then-inside-piece c =
    let none = rw c.in_default.is at c.in_ok-line.ensures.ok in
    rw c.refused.ensures (record {
      taken = λ fed is. piece_beyond is c.args.piece.now c.inside-inside.result c.inside-inside.ensures (c.loop-line.invariant.held fed is) none.0 c.in_ok-flush.ensures.judged c.in_ok-flush.ensures.none c.if-inside-piece.true;
      refused = c.loop-line.invariant.refused;
    })

pub returns : goal.returns
returns c =
    let none = rw c.in_default.is at c.in_ok-line.ensures.ok in
    let all : length c.args.piece.now ≤ c.inside-inside.result = let h = c.if-inside-piece.false in omega (arith, h) in
    record {
      taken = λ fed is.
          let h = c.loop-line.invariant.held fed is in
          piece_taken is c.args.piece.now c.inside-inside.result c.inside-inside.ensures (record { text = h.text; check = h.check; fed_is = rw none.1 h.fed_is }) (rw none.1 none.0) all c.loop-line.invariant.room;
      refused = c.loop-line.invariant.refused;
    }
