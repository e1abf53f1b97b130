use Rattle.std.proofs.Common.{refl, sym}
use Rattle.dia_check.proofs.ReaderLemmas.{reading_longer, reading_more, reading_refused}
use Rattle.dia_check.proofs.reader.Reader.feed.Goals as goal

pub returns-then-is_some : goal.returns-then-is_some
returns-then-is_some c = λ fed is. reading_longer c.args.piece.now (sym c.if-is_some.ensures) is

pub returns-in-Ok : goal.returns-in-Ok
returns-in-Ok c = λ fed is. reading_more c.args.piece.now (sym c.if-is_some.ensures) is c.in-Ok.ensures

pub returns-in-Err-Refused : goal.returns-in-Err-Refused
returns-in-Err-Refused c = λ fed is.
    let takes = rw c.in-Err-Refused.field-0-is at c.in-Err-Refused.ensures in
    reading_refused c.args.piece.now (sym c.if-is_some.ensures) is takes _ refl
