-- Which lexemes single bytes of a text begin, and which bytes are skipped.
use Rattle.std.specs.Prelude.{◌≡◌, ℕ, ◌≤◌, ◌<◌, Bool, false, not, ◌&&◌, ◌||◌, length, slice_index, ◌==◌, if◌then◌else◌}
use Rattle.std.specs.List.{prefix_len}
use Rattle.net_model.specs.Ascii.{line_feed}
use Rattle.text_fields.specs.Fields.{Text}
use Rattle.bench_reader.specs.declared.fault.Place.{Place}
use Rattle.bench_reader.specs.declared.scanner.LexemeKind.{LexemeKind}
use Rattle.bench_reader.specs.declared.scanner.LexemeKind.TheVariants.{OpenBracket, CloseBracket, Comma, Equals, Name, BadByte}
use Rattle.bench_reader.specs.Tokens.{is_blank, is_name_byte, hash, opening_parenthesis, closing_parenthesis, comma, equals_sign}
use Rattle.bench_reader.specs.Scanning.{tokens_at, IsPlace}

-- the kind of lexeme that a byte begins, if it isn't skipped
abbrev pub kind_at : ℕ → LexemeKind
kind_at b = if b == opening_parenthesis then OpenBracket else if b == closing_parenthesis then CloseBracket else if b == comma then Comma else if b == equals_sign then Equals else if is_name_byte b then Name else BadByte

-- the length of the lexeme of this kind with which a text begins
abbrev pub length_at : LexemeKind → Text → ℕ
length_at Name text = prefix_len is_name_byte text
length_at _ text = 1

-- whether a byte outside a comment is skipped
abbrev pub is_skipped : ℕ → Bool
is_skipped b = is_blank b || b == hash

-- whether the bytes after a skipped one are inside a comment
abbrev pub inside_behind : Bool → ℕ → Bool
inside_behind inside b = not (b == line_feed) && (inside || b == hash)

-- The first byte, starting at `byte`, that is neither blank nor in a comment is at `next`, or the text ends there.
pub record IsSkipped (text : Text) (byte : ℕ) (next : Place) : Type 0 where
  pub tokens : tokens_at text byte ≡ tokens_at text next.byte
  pub place : IsPlace text next
  pub within : next.byte ≤ length text
  pub stops : next.byte < length text → is_skipped (slice_index text next.byte) ≡ false
