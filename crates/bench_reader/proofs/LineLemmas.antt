-- A line for each statement spells the statements.
use Rattle.std.proofs.Common.{◌≡◌, ◌∙◌, ℕ, ◌+◌, Bool, true, false, List, [], ◌∷◌, ◌++◌, length, refl, sym, ap, append_assoc}
use Rattle.std.specs.Prelude.{map, flat_map, All, codes, ◌&&◌, IsTrue}
use Rattle.std.specs.List.{prefix_len, list_all}
use Rattle.std.proofs.Common.{one-add, arith}
use Rattle.std.proofs.Math.Seq.{take-append_seam, drop-append_seam}
use Rattle.std.proofs.lemmas.List.Elements.{All-head, All-tail}
use Rattle.text_fields.specs.Fields.{Text}
use Rattle.bench_reader.specs.Tokens.{is_name_byte, Piece, open_bracket, close_bracket, comma_mark, equals_mark, name_run}
use Rattle.bench_reader.specs.Scanning.{tokens_in}
use Rattle.bench_reader.specs.Spelled.{Written, written_input, written_output, written_gate, spelled, spelled_pins, Spells, IsRun, HasRuns, pins_end, written_line}
use Rattle.bench_reader.proofs.ScanLemmas.{skip_byte, no_tokens, name_tokens, begins, whole_text}

-- the text has these pieces that aren't blank, at whatever byte it begins
abbrev pub Shows : Text → List Piece → Type 0
Shows text ps = (byte : ℕ) → map (λ token. token.0) (tokens_in false byte text) ≡ ps

nothing_shows : Shows [] []
nothing_shows byte = ap (map (λ token. token.0)) (no_tokens false byte)

module _ (rest : Text) (ps : List Piece) (h : Shows rest ps) where
  open_shows : Shows (40 ∷ rest) (open_bracket ∷ ps)
  open_shows byte = ap (map (λ token. token.0)) (begins byte 40 rest refl refl 1 refl) ∙ ap (λ qs. open_bracket ∷ qs) (h (byte + 1))

  close_shows : Shows (41 ∷ rest) (close_bracket ∷ ps)
  close_shows byte = ap (map (λ token. token.0)) (begins byte 41 rest refl refl 1 refl) ∙ ap (λ qs. close_bracket ∷ qs) (h (byte + 1))

  comma_shows : Shows (44 ∷ rest) (comma_mark ∷ ps)
  comma_shows byte = ap (map (λ token. token.0)) (begins byte 44 rest refl refl 1 refl) ∙ ap (λ qs. comma_mark ∷ qs) (h (byte + 1))

  equals_shows : Shows (61 ∷ rest) (equals_mark ∷ ps)
  equals_shows byte = ap (map (λ token. token.0)) (begins byte 61 rest refl refl 1 refl) ∙ ap (λ qs. equals_mark ∷ qs) (h (byte + 1))

  feed_shows : Shows (10 ∷ rest) ps
  feed_shows byte = ap (map (λ token. token.0)) (skip_byte false byte 10 rest refl) ∙ h (byte + 1)

-- a run ends before a byte that isn't a byte of names
run_ends : (t : Text) (b : ℕ) (rest : Text) → IsTrue (list_all is_name_byte t) → is_name_byte b ≡ false → prefix_len is_name_byte (t ++ b ∷ rest) ≡ length t
run_ends [] b rest all off = rw off refl
run_ends (x ∷ t) b rest all off = by (is_name_byte x) refl all (run_ends t b rest)
  where
    by : (on : Bool) → is_name_byte x ≡ on → (on && list_all is_name_byte t) ≡ true → (IsTrue (list_all is_name_byte t) → is_name_byte b ≡ false → prefix_len is_name_byte (t ++ b ∷ rest) ≡ length t) → prefix_len is_name_byte (x ∷ t ++ b ∷ rest) ≡ length (x ∷ t)
    by true e all then = rw (e, then all off, one-add) refl
    by false e all then = cc

run_shows : (t : Text) (b : ℕ) (rest : Text) (ps : List Piece) → IsRun t → is_name_byte b ≡ false → Shows (b ∷ rest) ps → Shows (t ++ b ∷ rest) (name_run t ∷ ps)
run_shows t b rest ps is off h byte =
    ap (map (λ token. token.0)) (name_tokens byte (t ++ b ∷ rest) (length t) (sym (run_ends t b rest is.1 off)) is.0) ∙ rw (take-append_seam t (b ∷ rest), drop-append_seam t (b ∷ rest)) (ap (λ qs. name_run t ∷ qs) (h (byte + length t)))

-- ---- statements

-- the marks end a name
no_open : is_name_byte 40 ≡ false
unfolding is_name_byte
no_open = refl

no_close : is_name_byte 41 ≡ false
unfolding is_name_byte
no_close = refl

no_comma : is_name_byte 44 ≡ false
unfolding is_name_byte
no_comma = refl

no_equals : is_name_byte 61 ≡ false
unfolding is_name_byte
no_equals = refl

input_is_run : IsRun (codes "INPUT")
unfolding is_name_byte
input_is_run = (omega arith, refl)

output_is_run : IsRun (codes "OUTPUT")
unfolding is_name_byte
output_is_run = (omega arith, refl)

module _ (rest : Text) (ps : List Piece) (h : Shows rest ps) where
  end_shows : Shows (41 ∷ 10 ∷ rest) (close_bracket ∷ ps)
  end_shows = close_shows (10 ∷ rest) ps (feed_shows rest ps h)

  last_shows : (n : Text) → IsRun n → Shows ((n ++ codes ")\n") ++ rest) (name_run n ∷ close_bracket ∷ ps)
  last_shows n is = rw (append_assoc n (codes ")\n") rest) (run_shows n 41 (10 ∷ rest) (close_bracket ∷ ps) is no_close end_shows)

  pins_show : (pins : List Text) → All IsRun pins → Shows (pins_end pins ++ rest) (spelled_pins pins ++ ps)
  pins_show [] are = end_shows
  pins_show (pin ∷ []) are = last_shows pin (All-head IsRun pin [] are)
  pins_show (pin ∷ other ∷ pins) are =
      let more = pins_show (other ∷ pins) (All-tail IsRun pin (other ∷ pins) are) in
      rw (append_assoc pin (codes "," ++ pins_end (other ∷ pins)) rest)
      (run_shows pin 44 (pins_end (other ∷ pins) ++ rest) (comma_mark ∷ spelled_pins (other ∷ pins) ++ ps) (All-head IsRun pin (other ∷ pins) are) no_comma (comma_shows (pins_end (other ∷ pins) ++ rest) (spelled_pins (other ∷ pins) ++ ps) more))

  line_shows : (w : Written) → HasRuns w → Shows (written_line w ++ rest) (spelled w ++ ps)
  line_shows (written_input n) is =
      run_shows (codes "INPUT") 40 ((n ++ codes ")\n") ++ rest) (open_bracket ∷ name_run n ∷ close_bracket ∷ ps) input_is_run no_open (open_shows ((n ++ codes ")\n") ++ rest) (name_run n ∷ close_bracket ∷ ps) (last_shows n is))
  line_shows (written_output n) is =
      run_shows (codes "OUTPUT") 40 ((n ++ codes ")\n") ++ rest) (open_bracket ∷ name_run n ∷ close_bracket ∷ ps) output_is_run no_open (open_shows ((n ++ codes ")\n") ++ rest) (name_run n ∷ close_bracket ∷ ps) (last_shows n is))
  line_shows (written_gate n word pins) is =
      let end = pins_end pins in
      let opened = open_shows (end ++ rest) (spelled_pins pins ++ ps) (pins_show pins is.2) in
      let named = run_shows word 40 (end ++ rest) (open_bracket ∷ spelled_pins pins ++ ps) is.1 no_open opened in
      let whole = run_shows n 61 (word ++ 40 ∷ (end ++ rest)) (equals_mark ∷ name_run word ∷ open_bracket ∷ spelled_pins pins ++ ps) is.0 no_equals (equals_shows (word ++ 40 ∷ (end ++ rest)) (name_run word ∷ open_bracket ∷ spelled_pins pins ++ ps) named) in
      rw (append_assoc n (codes "=" ++ (word ++ (codes "(" ++ end))) rest, append_assoc word (codes "(" ++ end) rest) whole

lines_show : (ws : List Written) → All HasRuns ws → Shows (flat_map written_line ws) (flat_map spelled ws)
lines_show [] are = nothing_shows
lines_show (w ∷ ws) are = line_shows (flat_map written_line ws) (flat_map spelled ws) (lines_show ws (All-tail HasRuns w ws are)) w (All-head HasRuns w ws are)

pub lines_spell : (ws : List Written) → All HasRuns ws → Spells (flat_map written_line ws) ws
lines_spell ws are = ap (map (λ token. token.0)) (whole_text (flat_map written_line ws)) ∙ lines_show ws are 0
