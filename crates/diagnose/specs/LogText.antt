-- Tester logs: a line for each pattern, with the pattern's number and the observed bits.
use Rattle.std.specs.Prelude.{◌≡◌, ◌≢◌, ℕ, ◌<◌, ◌≤◌, ◌^◌, Bool, List, [], ◌∷◌, ◌++◌, length, decimal}
use Rattle.net_model.specs.Ascii.{line_feed, space}
use Rattle.net_model.specs.BitText.{bits_text}
use Rattle.dict_rows.specs.Rows.{AreRows}
use Rattle.diagnose.specs.declared.fault.LogKind.{LogKind}
use Rattle.diagnose.specs.declared.fault.LogKind.TheVariants.{Syntax, Order, Width, Missing}
use Rattle.text_fields.specs.Fields.{Text, digit_bits}
use Rattle.diagnose.specs.Lines.{text_limit, lines_from, LinesRefused}

-- a line of a log, without its LF
abbrev pub log_line : ℕ → List Bool → Text
log_line pattern bits = decimal pattern ++ space ∷ bits_text bits

-- The text is the log of these observed rows, one for each pattern, with a bit for each position, and isn't longer than
-- the limit.
pub record IsLog (patterns positions : ℕ) (text : Text) (observed : List (List Bool)) : Type 0 where
  pub short : length text ≤ text_limit
  pub rows : AreRows patterns positions observed
  pub text_is : text ≡ lines_from log_line 0 observed

-- The text begins with the line of this pattern, which is below 2^32, and of these bits, and continues with `more`.
abbrev pub BeginsWithLine : Text → ℕ → List Bool → Text → Type 0
BeginsWithLine text pattern bits more = (pattern < 2 ^ 32) × (text ≡ log_line pattern bits ++ line_feed ∷ more)

-- The text begins with no line of a log.
abbrev pub HasNoLine : Text → Type 0
HasNoLine text = (pattern : ℕ) (bits : List Bool) (more : Text) → BeginsWithLine text pattern bits more → ⊥

-- The line of a log that a text begins with.
pub record FirstLogLine (text : Text) : Type 0 where
  pub pattern : ℕ
  pub bits : List Bool
  pub more : Text
  pub begins : BeginsWithLine text pattern bits more

-- The text isn't empty, and begins with no line of a log.
pub record IsUnreadableLog (text : Text) : Type 0 where
  pub some : text ≢ []
  pub none : HasNoLine text

-- What is after the lines of the first `before` patterns is refused by this rule.
pub data LogRestRefused (patterns positions before : ℕ) (rest : Text) (kind : LogKind) : Type 0 where
  -- Nothing is there, though there is another pattern.
  missing : rest ≡ [] → before < patterns → kind ≡ Missing → LogRestRefused patterns positions before rest kind
  -- It begins with no line of a log, before the last pattern or after it.
  no_line : IsUnreadableLog rest → before ≤ patterns → kind ≡ Syntax → LogRestRefused patterns positions before rest kind
  -- It begins with a line, though there is no other pattern.
  too_many : FirstLogLine rest → before ≡ patterns → kind ≡ Order → LogRestRefused patterns positions before rest kind
  -- It begins with the line of another pattern than the next one.
  misplaced : (line : FirstLogLine rest) → before < patterns → line.pattern ≢ before → kind ≡ Order → LogRestRefused patterns positions before rest kind
  -- It begins with the line of the next pattern, which has too few or too many bits.
  wrong_width : (line : FirstLogLine rest) → before < patterns → line.pattern ≡ before → length line.bits ≢ positions → kind ≡ Width → LogRestRefused patterns positions before rest kind

-- The log is refused by this rule at this line.
abbrev pub TesterLogRefused : ℕ → ℕ → Text → LogKind → ℕ → Type 0
TesterLogRefused patterns positions = LinesRefused log_line positions (LogRestRefused patterns positions)

-- The text begins with the line of this pattern, with as many digits as there are positions, and continues with `rest`.
pub record IsRightLogLine (positions pattern : ℕ) (text digits rest : Text) : Type 0 where
  pub begins : BeginsWithLine text pattern (digit_bits digits) rest
  pub width : length digits ≡ positions
