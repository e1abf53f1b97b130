-- The pieces of a netlist's text: its tokens, and the blanks between them. Together they are the whole text.
use Rattle.std.specs.Prelude.{ℕ, ◌+◌, Bool, true, false, not, ◌&&◌, ◌||◌, List, [], ◌∷◌, length, filter, take, count_by, nat_le, ◌==◌, if◌then◌else◌}
use Rattle.net_model.specs.Ascii.{line_feed, space}
use Rattle.text_fields.specs.Fields.{Text}

-- ---- bytes

-- the byte of a tab
abbrev pub tab : ℕ
tab = 9

-- the byte that some systems write before a line feed
abbrev pub carriage_return : ℕ
carriage_return = 13

-- the byte of `#`
abbrev pub hash : ℕ
hash = 35

-- the byte of `(`
abbrev pub opening_parenthesis : ℕ
opening_parenthesis = 40

-- the byte of `)`
abbrev pub closing_parenthesis : ℕ
closing_parenthesis = 41

-- the byte of `,`
abbrev pub comma : ℕ
comma = 44

-- the byte of `=`
abbrev pub equals_sign : ℕ
equals_sign = 61

-- space, tab, LF and CR
abbrev pub is_blank : ℕ → Bool
is_blank b = b == space || b == tab || b == line_feed || b == carriage_return

-- the printable bytes except ( ) , = and #
unfoldable pub is_name_byte : ℕ → Bool
is_name_byte b = nat_le 0x21 b && nat_le b 0x7E && not (b == opening_parenthesis || b == closing_parenthesis || b == comma || b == equals_sign || b == hash)

-- The text with blanks for its comments; a comment goes from a # up to the next LF. The flag says whether the text
-- begins inside a comment.
unfoldable pub without_comments : Bool → Text → Text
without_comments inside [] = []
without_comments true (b ∷ bytes) = if b == line_feed then b ∷ without_comments false bytes else space ∷ without_comments true bytes
without_comments false (b ∷ bytes) = if b == hash then space ∷ without_comments true bytes else b ∷ without_comments false bytes

-- ---- pieces

-- A piece of a text: a blank, a bracket, a comma, an equals sign, a name, or any other byte.
pub data Piece : Type 0 where
  blank_piece : Piece
  open_bracket : Piece
  close_bracket : Piece
  comma_mark : Piece
  equals_mark : Piece
  name_run : Text → Piece
  bad_byte : Piece

-- a byte of a name, and the pieces after it: it joins a name that begins there
abbrev pub join_name : ℕ → List Piece → List Piece
join_name b (name_run text ∷ pieces) = name_run (b ∷ text) ∷ pieces
join_name b pieces = name_run (b ∷ []) ∷ pieces

-- a byte, and the pieces after it
abbrev pub with_byte : ℕ → List Piece → List Piece
with_byte b pieces =
    if is_blank b then blank_piece ∷ pieces
    else if b == opening_parenthesis then open_bracket ∷ pieces
    else if b == closing_parenthesis then close_bracket ∷ pieces
    else if b == comma then comma_mark ∷ pieces
    else if b == equals_sign then equals_mark ∷ pieces
    else if is_name_byte b then join_name b pieces
    else bad_byte ∷ pieces

-- the pieces of a text without comments; names are the longest runs of their bytes
unfoldable pub pieces : Text → List Piece
pieces [] = []
pieces (b ∷ bytes) = with_byte b (pieces bytes)

-- how many bytes a piece has
abbrev pub piece_length : Piece → ℕ
piece_length (name_run text) = length text
piece_length _ = 1

-- ---- tokens

-- a piece, and the number of its first byte
abbrev pub Token : Type 0
Token = Piece × ℕ

-- the pieces with their places; the first one begins at `byte`
abbrev pub placed_pieces : ℕ → List Piece → List Token
placed_pieces byte [] = []
placed_pieces byte (piece ∷ pieces) = (piece, byte) ∷ placed_pieces (byte + piece_length piece) pieces

abbrev pub is_blank_piece : Piece → Bool
is_blank_piece blank_piece = true
is_blank_piece _ = false

-- the tokens of a text: its pieces that aren't blank
unfoldable pub tokens_of : Text → List Token
tokens_of text = filter (λ token. not (is_blank_piece token.0)) (placed_pieces 0 (pieces (without_comments false text)))

-- the line of a byte, counted from 1
abbrev pub line_of : Text → ℕ → ℕ
line_of text byte = count_by (λ b. b == line_feed) (take byte text) + 1
