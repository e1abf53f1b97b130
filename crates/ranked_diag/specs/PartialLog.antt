-- Partial tester logs: lines of some patterns, ascending, with the bits that were observed.
use Rattle.std.specs.Prelude.{◌≡◌, ◌≢◌, ℕ, ◌+◌, ◌<◌, ◌≤◌, ◌^◌, List, [], ◌∷◌, ◌++◌, length, map, flat_map, decimal, All}
use Rattle.std.specs.List.Sorted.{IsStrictlyIncreasing}
use Rattle.net_model.specs.Ascii.{line_feed, space}
use Rattle.diagnose.specs.declared.fault.LogKind.{LogKind}
use Rattle.diagnose.specs.declared.fault.LogKind.TheVariants.{TooLong, Syntax, Order, Width}
use Rattle.text_fields.specs.Fields.{Text}
use Rattle.diagnose.specs.Lines.{text_limit, line_number}
use Rattle.ranked_diag.specs.declared.partial.Seen.{Seen}
use Rattle.ranked_diag.specs.Seen.{seen_text}

-- a line of a partial log: a pattern's number, and what was seen at each position
abbrev pub Line : Type 0
Line = ℕ × List Seen

-- the text of a line of a partial log, without its LF
abbrev pub partial_line : Line → Text
partial_line line = decimal line.0 ++ space ∷ seen_text line.1

-- the text of lines, each with its LF
abbrev pub partial_text : List Line → Text
partial_text lines = flat_map (λ line. partial_line line ++ line_feed ∷ []) lines

-- the patterns of the lines, in their order
abbrev pub patterns_of : List Line → List ℕ
patterns_of lines = map (λ line. line.0) lines

-- The patterns are strictly ascending and below the limit.
pub record AreInOrder (patterns : ℕ) (named : List ℕ) : Type 0 where
  pub ascend : IsStrictlyIncreasing named
  pub below : All (λ pattern. pattern < patterns) named

-- The lines' patterns are in order, and each line has as many positions as given.
pub record ArePartial (patterns positions : ℕ) (lines : List Line) : Type 0 where
  pub order : AreInOrder patterns (patterns_of lines)
  pub wide : All (λ line. length line.1 ≡ positions) lines

-- The text is the partial log of these lines, and isn't longer than the limit.
pub record IsPartialLog (patterns positions : ℕ) (text : Text) (lines : List Line) : Type 0 where
  pub short : length text ≤ text_limit
  pub are : ArePartial patterns positions lines
  pub text_is : text ≡ partial_text lines

-- ---- refusals

-- The text begins with this line, whose pattern is below 2^32, and continues with `more`.
abbrev pub BeginsWithPartial : Text → Line → Text → Type 0
BeginsWithPartial text line more = (line.0 < 2 ^ 32) × (text ≡ partial_line line ++ line_feed ∷ more)

-- The text begins with no line of a partial log.
abbrev pub HasNoPartial : Text → Type 0
HasNoPartial text = (line : Line) (more : Text) → BeginsWithPartial text line more → ⊥

-- The pattern may come after those of these lines.
abbrev pub MayFollow : ℕ → List Line → ℕ → Type 0
MayFollow patterns before pattern = AreInOrder patterns (patterns_of before ++ pattern ∷ [])

-- What is after the lines `before` is refused by this rule: `Syntax` if it begins with no line, `Order` if it begins
-- with a line whose pattern may not follow, `Width` if its pattern may follow but the line has another number of
-- positions.
pub data PartialRestRefused (patterns positions : ℕ) (before : List Line) (rest : Text) (kind : LogKind) : Type 0 where
  no_line : rest ≢ [] → HasNoPartial rest → kind ≡ Syntax → PartialRestRefused patterns positions before rest kind
  misplaced : (line : Line) (more : Text) → BeginsWithPartial rest line more → ¬ MayFollow patterns before line.0 → kind ≡ Order → PartialRestRefused patterns positions before rest kind
  wrong_width : (line : Line) (more : Text) → BeginsWithPartial rest line more → MayFollow patterns before line.0 → length line.1 ≢ positions → kind ≡ Width → PartialRestRefused patterns positions before rest kind

-- The partial log is refused by this rule at this line. Either it is too long, and the line is that of the first byte
-- beyond the limit. Or what is after some right lines is refused, and the line is the next one.
pub data PartialRefused (patterns positions : ℕ) (text : Text) (kind : LogKind) (number : ℕ) : Type 0 where
  too_long : text_limit < length text → kind ≡ TooLong → number ≡ line_number text text_limit → PartialRefused patterns positions text kind number
  at_line : (before : List Line) (rest : Text) → length text ≤ text_limit → ArePartial patterns positions before → text ≡ partial_text before ++ rest → PartialRestRefused patterns positions before rest kind
      → number ≡ length before + 1 → PartialRefused patterns positions text kind number
