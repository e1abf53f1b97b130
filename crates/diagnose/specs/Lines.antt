-- Texts of lines, each with a row of bits.
use Rattle.std.specs.Prelude.{◌≡◌, ℕ, ◌+◌, ◌<◌, ◌≤◌, Bool, List, [], ◌∷◌, ◌++◌, length, take, count_by, ◌==◌, ⊤}
use Rattle.net_model.specs.Ascii.{line_feed}
use Rattle.net_model.specs.Rows.{AreWide}
use Rattle.text_fields.specs.Fields.{Text}
use Rattle.diagnose.specs.declared.fault.LogKind.{LogKind}
use Rattle.diagnose.specs.declared.fault.LogKind.TheVariants.{TooLong}
use Rattle.diagnose.specs.declared.fault.LogFault.{LogFault}
use Rattle.diagnose.specs.declared.fault.LogFault.TheVariants.{At, NoMemory}
use Rattle.diagnose.specs.declared.lines.TheConstants.{TEXT_LIMIT}

-- the most bytes of a tester's log, of a list of vectors or of a plan
abbrev pub text_limit : ℕ
text_limit = TEXT_LIMIT

-- the line of a byte, counted from 1
abbrev pub line_number : Text → ℕ → ℕ
line_number text byte = count_by (λ b. b == line_feed) (take byte text) + 1

-- How a line with a row of bits is spelled, by its number, counted from 0, and its bits.
abbrev pub LineForm : Type 0
LineForm = ℕ → List Bool → Text

-- the lines of rows, numbered starting at `n`, each with its LF
abbrev pub lines_from : LineForm → ℕ → List (List Bool) → Text
lines_from line n [] = []
lines_from line n (row ∷ rows) = line n row ++ line_feed ∷ lines_from line (n + 1) rows

-- The text is the lines of these rows, each of this width, followed by `rest`.
pub record BeginsWithRows (line : LineForm) (width : ℕ) (text : Text) (rows : List (List Bool)) (rest : Text) : Type 0 where
  pub wide : AreWide width rows
  pub text_is : text ≡ lines_from line 0 rows ++ rest

-- Why the rest of a text is refused after the given number of right lines.
abbrev pub RestRule : Type 1
RestRule = ℕ → Text → LogKind → Type 0

-- A text of lines is refused by this rule at this line.
pub data LinesRefused (line : LineForm) (width : ℕ) (Rest : RestRule) (text : Text) (kind : LogKind) (number : ℕ) : Type 0 where
  -- It is too long: the line is that of the first byte beyond the limit.
  too_long : text_limit < length text → kind ≡ TooLong → number ≡ line_number text text_limit → LinesRefused line width Rest text kind number
  -- What is after some right lines is refused: the line is the next one.
  at_line : (rows : List (List Bool)) (rest : Text) → length text ≤ text_limit → BeginsWithRows line width text rows rest → Rest (length rows) rest kind → number ≡ length rows + 1
      → LinesRefused line width Rest text kind number

-- A fault has the rule and the line of a refusal, or says that memory is missing.
abbrev pub TellsLogFault : (LogKind → ℕ → Type 0) → LogFault → Type 0
TellsLogFault Refused (At kind line) = Refused kind line
TellsLogFault Refused NoMemory = ⊤
