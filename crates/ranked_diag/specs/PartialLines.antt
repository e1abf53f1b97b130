-- Lines of partial logs as they are read, one after another.
use Rattle.std.specs.Prelude.{◌≡◌, ℕ, ◌<◌, ◌≤◌, ◌↔◌, ◌⊎◌, ◌==◌, List, length, map, if◌then◌else◌}
use Rattle.net_model.specs.Ascii.{digit_zero, digit_one}
use Rattle.text_fields.specs.Fields.{Text}
use Rattle.ranked_diag.specs.declared.partial.Seen.{Seen}
use Rattle.ranked_diag.specs.declared.partial.Seen.TheVariants.{Zero, One, Unseen}
use Rattle.ranked_diag.specs.PartialLog.{Line, BeginsWithPartial, MayFollow}
use Rattle.ranked_diag.specs.Seen.{letter_x}

-- what was seen, by its digit
abbrev pub digit_seen : ℕ → Seen
digit_seen digit = if digit == digit_one then One else if digit == digit_zero then Zero else Unseen

-- what was seen at each position, by its digit
abbrev pub digits_seen : Text → List Seen
digits_seen digits = map digit_seen digits

-- The byte is a digit of what was seen: `0`, `1` or `x`.
abbrev pub IsSeenDigit : ℕ → Type 0
IsSeenDigit byte = (byte ≡ digit_zero) ⊎ ((byte ≡ digit_one) ⊎ (byte ≡ letter_x))

-- The patterns that may follow these lines are those in `least..patterns`.
abbrev pub GoOnFrom : ℕ → List Line → ℕ → Type 0
GoOnFrom patterns before least = (pattern : ℕ) → MayFollow patterns before pattern ↔ ((least ≤ pattern) × (pattern < patterns))

-- The text begins with the line of a pattern in `least..patterns`, with a digit for each position, and continues with
-- `rest`.
pub record IsRightPartialLine (patterns positions least : ℕ) (text : Text) (pattern : ℕ) (digits rest : Text) : Type 0 where
  pub begins : BeginsWithPartial text (pattern, digits_seen digits) rest
  pub low : least ≤ pattern
  pub high : pattern < patterns
  pub width : length digits ≡ positions
