-- The tokens of a text starting at a byte, and what a reader knows that goes from token to token.
use Rattle.std.specs.Prelude.{◌≡◌, ℕ, ◌≤◌, Bool, false, not, List, [], ◌∷◌, length, filter, drop, slice_range}
use Rattle.text_fields.specs.Fields.{Text}
use Rattle.bench_reader.specs.declared.fault.Place.{Place}
use Rattle.bench_reader.specs.declared.scanner.LexemeKind.{LexemeKind}
use Rattle.bench_reader.specs.declared.scanner.LexemeKind.TheVariants.{OpenBracket, CloseBracket, Comma, Equals, Name, BadByte, End}
use Rattle.bench_reader.specs.declared.scanner.Lexeme.{Lexeme}
use Rattle.bench_reader.specs.Tokens.{without_comments, Piece, blank_piece, open_bracket, close_bracket, comma_mark, equals_mark, name_run, bad_byte, pieces, Token, placed_pieces, is_blank_piece, line_of}
use Rattle.bench_reader.specs.Grammar.{Named}
use Rattle.bench_reader.specs.Reading.{place_of}

-- the tokens of `rest`, whose first byte has the number `byte`; the flag says whether it begins inside a comment
unfoldable pub tokens_in : Bool → ℕ → Text → List Token
tokens_in inside byte rest = filter (λ token. not (is_blank_piece token.0)) (placed_pieces byte (pieces (without_comments inside rest)))

-- the tokens of a text starting at a byte that is in no comment
abbrev pub tokens_at : Text → ℕ → List Token
tokens_at text byte = tokens_in false byte (drop byte text)

-- The place has the line of its byte.
abbrev pub IsPlace : Text → Place → Type 0
IsPlace text place = place ≡ place_of text place.byte

-- ---- lexemes

-- the bytes of a lexeme
abbrev pub text_in : Text → Lexeme → Text
text_in text a = slice_range text a.place.byte a.end

-- the bytes of a lexeme, with the number of the first one
abbrev pub named_in : Text → Lexeme → Named
named_in text a = (text_in text a, a.place.byte)

-- the piece that a lexeme of this kind with these bytes is
abbrev pub lexeme_piece : LexemeKind → Text → Piece
lexeme_piece OpenBracket run = open_bracket
lexeme_piece CloseBracket run = close_bracket
lexeme_piece Comma run = comma_mark
lexeme_piece Equals run = equals_mark
lexeme_piece Name run = name_run run
lexeme_piece BadByte run = bad_byte
lexeme_piece End run = blank_piece

-- the token of a lexeme
abbrev pub token_in : Text → Lexeme → Token
token_in text a = (lexeme_piece a.kind (text_in text a), a.place.byte)

-- the tokens starting with a token; none if it is the end of the text
abbrev pub tokens_with : LexemeKind → Token → List Token → List Token
tokens_with End token more = []
tokens_with _ token more = token ∷ more

-- the tokens starting at a lexeme
abbrev pub tokens_from : Text → Lexeme → List Token
tokens_from text a = tokens_with a.kind (token_in text a) (tokens_at text a.end)

-- A lexeme is at its place, inside the text and on one line; the end of the text is after its last byte.
pub record IsLexeme (text : Text) (a : Lexeme) : Type 0 where
  pub place : IsPlace text a.place
  pub forward : a.place.byte ≤ a.end
  pub within : a.end ≤ length text
  pub line : line_of text a.end ≡ a.place.line
  pub end : a.kind ≡ End → a.place.byte ≡ length text

-- The lexeme is the next one, starting at `byte`.
pub record IsNext (text : Text) (byte : ℕ) (a : Lexeme) : Type 0 where
  pub tokens : tokens_at text byte ≡ tokens_from text a
  pub lexeme : IsLexeme text a
