-- Bytes that come in pieces, and the lines that are taken out of them.
use Rattle.std.specs.Prelude.{◌≡◌, ◌≢◌, ◌<◌, ◌≤◌, ℕ, length, slice_index, List, [], ◌∷◌, ◌++◌, flat_map, filter_map, Option, None, Some, Contains}
use Rattle.net_model.specs.Ascii.{line_feed}
use Rattle.text_fields.specs.Fields.{Text}

-- What is held begins with the line and its LF, and the rest follows. The line itself has no LF.
pub record IsFirstLine (held line rest : Text) : Type 0 where
  pub one : ¬ Contains line line_feed
  pub cut : held ≡ line ++ line_feed ∷ rest

-- What happens to bytes that are held: a piece is fed, or the first line is taken.
pub data Event : Type 0 where
  fed : List ℕ → Event
  taken : List ℕ → Event

-- The event leads from the bytes `before` to the bytes `after`: the piece is appended, or the first line is taken
-- out.
abbrev pub Leads : Text → Event → Text → Type 0
Leads before (fed piece) after = after ≡ before ++ piece
Leads before (taken line) after = IsFirstLine before line after

-- The events lead from the bytes `before` to the bytes `after`.
abbrev pub LeadTo : Text → List Event → Text → Type 0
LeadTo before [] after = after ≡ before
LeadTo before (event ∷ events) after = (next : Text) × Leads before event next × LeadTo next events after

-- The piece that was fed, or nothing.
abbrev pub event_piece : Event → Text
event_piece (fed piece) = piece
event_piece (taken line) = []

-- The line that was taken, or none.
abbrev pub event_line : Event → Option Text
event_line (fed piece) = None
event_line (taken line) = Some line

-- All bytes that were fed.
abbrev pub fed_text : List Event → Text
fed_text events = flat_map event_piece events

-- The lines that were taken.
abbrev pub taken_lines : List Event → List Text
taken_lines events = filter_map event_line events

-- The lines, each with its LF.
abbrev pub lines_text : List Text → Text
lines_text lines = flat_map (λ line. line ++ line_feed ∷ []) lines

-- No byte from place `from` up to place `to`, which isn't included, is an LF.
abbrev pub IsWithoutLineFeed : Text → ℕ → ℕ → Type 0
IsWithoutLineFeed bytes from to = (k : ℕ) → from ≤ k → k < to → slice_index bytes k ≢ line_feed

-- The first LF, starting at place `from`, is at place `at`.
pub record IsFirstFrom (bytes : Text) (from at : ℕ) : Type 0 where
  pub behind : from ≤ at
  pub inside : at < length bytes
  pub before : IsWithoutLineFeed bytes from at
  pub here : slice_index bytes at ≡ line_feed
