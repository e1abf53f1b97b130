use Rattle.std.proofs.Common.{◌≡◌, ◌++◌, ◌-◌, length, take}
use Rattle.text_fields.specs.Fields.{Text}
use Rattle.dia_check.specs.Reader.{IsHeld, HasJudgedLines}
use Rattle.dia_check.proofs.reader.Reader.take_piece.Given as goal

abbrev pub invariant-loop-line : goal.invariant-loop-line
invariant-loop-line l = record {
  held : (fed : Text) → HasJudgedLines l.subject fed l.fn.self → IsHeld l.subject (fed ++ take l.inside l.piece) l.self;
  room : l.self.room ≡ l.fn.self.room - l.inside;
  refused : l.self.refused ≡ l.fn.self.refused;
}

abbrev pub decreases-loop-line : goal.decreases-loop-line
decreases-loop-line l = length l.self.lines
