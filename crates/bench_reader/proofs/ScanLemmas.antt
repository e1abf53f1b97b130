-- The tokens of a text by its first bytes.
use Rattle.std.proofs.Common.{◌≡◌, ◌∙◌, ℕ, ◌+◌, ◌-◌, ◌<◌, ◌≤◌, Bool, true, false, List, [], ◌∷◌, length, take, drop, get_or, refl, ap, sym, arith, one-add, add-one, zero-add, length-take, length-drop}
use Rattle.std.specs.Prelude.{nat_le, not, ◌&&◌, ◌||◌, ◌==◌, filter, count_by, slice_range, if◌then◌else◌}
use Rattle.std.specs.List.{prefix_len}
use Rattle.std.proofs.lemmas.Bool.{eqb-true, or_parts}
use Rattle.std.proofs.lemmas.Bool.Decides.{nat_tests}
use Rattle.std.proofs.lemmas.List.Folds.{length-prefix_len}
use Rattle.std.proofs.lemmas.List.Sums.{sum_by-append, sum_by-cons, count_by-le-length, count_by_more_yes, count_by_more_no, prefix_len-le-length}
use Rattle.std.proofs.Math.Seq.{take-add, take-length, drop-cons, drop-length}
use Rattle.std.proofs.lemmas.List.{drop-drop}
use Rattle.text_fields.specs.Fields.{Text}
use Rattle.bench_reader.specs.declared.fault.Place.{Place}
use Rattle.bench_reader.specs.Tokens.{is_blank, is_name_byte, without_comments, Piece, name_run, with_byte, pieces, placed_pieces, is_blank_piece, tokens_of, line_of}
use Rattle.bench_reader.specs.declared.scanner.LexemeKind.{LexemeKind}
use Rattle.bench_reader.specs.declared.scanner.LexemeKind.TheVariants.{OpenBracket, CloseBracket, Comma, Equals, Name, BadByte, End}
use Rattle.bench_reader.specs.Scanning.{tokens_in, tokens_at, tokens_with, lexeme_piece, IsPlace, IsNext}
use Rattle.bench_reader.specs.Bytes.{kind_at, length_at, is_skipped, inside_behind, IsSkipped}
use Rattle.bench_reader.proofs.Pieces.{name_first}

abbrev pub is_feed : ℕ → Bool
is_feed b = b == 10

-- ---- skipped bytes

blank_first : (byte b : ℕ) (ps : List Piece) → is_blank b ≡ true
    → filter (λ token. not (is_blank_piece token.0)) (placed_pieces byte (with_byte b ps)) ≡ filter (λ token. not (is_blank_piece token.0)) (placed_pieces (byte + 1) ps)
blank_first byte b ps e = rw e refl

feed_blank : (b : ℕ) → (b == 10) ≡ true → is_blank b ≡ true
feed_blank b e = rw (eqb-true b 10 e) refl

pub skip_byte : (inside : Bool) (byte b : ℕ) (rest : Text) → (inside || is_skipped b) ≡ true → tokens_in inside byte (b ∷ rest) ≡ tokens_in (inside_behind inside b) (byte + 1) rest
unfolding tokens_in pieces without_comments
skip_byte true byte b rest e = by (b == 10) refl
  where
    by : (t : Bool) → (b == 10) ≡ t
        → filter (λ token. not (is_blank_piece token.0)) (placed_pieces byte (pieces (if t then b ∷ without_comments false rest else 32 ∷ without_comments true rest)))
        ≡ filter (λ token. not (is_blank_piece token.0)) (placed_pieces (byte + 1) (pieces (without_comments (not t && true) rest)))
    by true f = blank_first byte b (pieces (without_comments false rest)) (feed_blank b f)
    by false f = refl
skip_byte false byte b rest e = by (b == 35) refl
  where
    again : (s : Bool) → (b == 10) ≡ s → is_blank b ≡ true
        → filter (λ token. not (is_blank_piece token.0)) (placed_pieces byte (with_byte b (pieces (without_comments false rest))))
        ≡ filter (λ token. not (is_blank_piece token.0)) (placed_pieces (byte + 1) (pieces (without_comments (not s && false) rest)))
    again true g h = blank_first byte b (pieces (without_comments false rest)) h
    again false g h = blank_first byte b (pieces (without_comments false rest)) h

    or_false : (x : Bool) → (x || false) ≡ true → x ≡ true
    or_false true e = refl
    or_false false e = cc

    by : (t : Bool) → (b == 35) ≡ t
        → filter (λ token. not (is_blank_piece token.0)) (placed_pieces byte (pieces (if t then 32 ∷ without_comments true rest else b ∷ without_comments false rest)))
        ≡ filter (λ token. not (is_blank_piece token.0)) (placed_pieces (byte + 1) (pieces (without_comments (not (b == 10) && t) rest)))
    by true f = let g : (b == 10) ≡ false = rw (eqb-true b 35 f) refl in rw g refl
    by false f = again (b == 10) refl (or_false (is_blank b) (rw f at e))

pub no_tokens : (inside : Bool) (byte : ℕ) → tokens_in inside byte [] ≡ []
unfolding tokens_in pieces without_comments
no_tokens true byte = refl
no_tokens false byte = refl

-- ---- names

-- comments change nothing in a name
record SameFront (text : Text) (n : ℕ) : Type 0 where
  len : prefix_len is_name_byte (without_comments false text) ≡ n
  front : take n (without_comments false text) ≡ take n text
  back : drop n (without_comments false text) ≡ without_comments false (drop n text)

no_hash : (b : ℕ) → is_name_byte b ≡ true → (b == 35) ≡ false
unfolding is_name_byte
no_hash b e = by (b == 40 || b == 41 || b == 44 || b == 61) (b == 35) (nat_le 33 b && nat_le b 126) e
  where
    by : (x y z : Bool) → (z && not (x || y)) ≡ true → y ≡ false
    by x false z e = refl
    by true true true e = cc
    by true true false e = cc
    by false true true e = cc
    by false true false e = cc

blank_is_none : is_name_byte 32 ≡ false
unfolding is_name_byte
blank_is_none = refl

same_front : (text : Text) → SameFront text (prefix_len is_name_byte text)
unfolding without_comments
same_front [] = record { len = refl; front = refl; back = refl }
same_front (b ∷ rest) = by (is_name_byte b) refl (same_front rest)
  where
    stop : (t : Bool) → (b == 35) ≡ t → is_name_byte b ≡ false → prefix_len is_name_byte (if t then 32 ∷ without_comments true rest else b ∷ without_comments false rest) ≡ 0
    stop true f e = rw blank_is_none refl
    stop false f e = rw e refl

    by : (t : Bool) → is_name_byte b ≡ t → SameFront rest (prefix_len is_name_byte rest) → SameFront (b ∷ rest) (if t then 1 + prefix_len is_name_byte rest else 0)
    by true e r = rw one-add (let hash = no_hash b e in record { len = rw (hash, e, r.len) (one-add (prefix_len is_name_byte rest)); front = rw hash (ap (λ t. b ∷ t) r.front); back = rw hash r.back })
    by false e r = record { len = stop (b == 35) refl e; front = refl; back = refl }

pub name_tokens : (byte : ℕ) (text : Text) (n : ℕ) → n ≡ prefix_len is_name_byte text → 0 < n → tokens_in false byte text ≡ (name_run (take n text), byte) ∷ tokens_in false (byte + n) (drop n text)
unfolding tokens_in
name_tokens byte text n e h =
    let same = rw (← e) at (same_front text) in
    let long : length (take n text) ≡ n = rw e (length-prefix_len is_name_byte text) in
    rw (name_first (without_comments false text) n (sym same.len) h, same.front, same.back, long) refl

-- ---- the first token

module _ (byte b : ℕ) (rest : Text) (blank : is_blank b ≡ false) (hash : (b == 35) ≡ false) where
  abbrev pub Begins : LexemeKind → Type 0
  Begins kind = (n : ℕ) → n ≡ length_at kind (b ∷ rest) → tokens_in false byte (b ∷ rest) ≡ tokens_with kind (lexeme_piece kind (take n (b ∷ rest)), byte) (tokens_in false (byte + n) (drop n (b ∷ rest)))

  begins_name : is_name_byte b ≡ true → Begins Name
  begins_name e n h = name_tokens byte (b ∷ rest) n h (rw (h, e) (omega arith))

  pub begins : Begins (kind_at b)
  unfolding tokens_in pieces without_comments
  begins = by40 (b == 40) refl
    where
      by_name : (t : Bool) → is_name_byte b ≡ t → (b == 40) ≡ false → (b == 41) ≡ false → (b == 44) ≡ false → (b == 61) ≡ false → Begins (if t then Name else BadByte)
      by_name true e e1 e2 e3 e4 n h = begins_name e n h
      by_name false e e1 e2 e3 e4 n h = rw (h, hash, blank, e1, e2, e3, e4, e) refl

      by61 : (t : Bool) → (b == 61) ≡ t → (b == 40) ≡ false → (b == 41) ≡ false → (b == 44) ≡ false → Begins (if t then Equals else if is_name_byte b then Name else BadByte)
      by61 true e e1 e2 e3 n h = rw (h, hash, blank, e1, e2, e3, e) refl
      by61 false e e1 e2 e3 n h = by_name (is_name_byte b) refl e1 e2 e3 e n h

      by44 : (t : Bool) → (b == 44) ≡ t → (b == 40) ≡ false → (b == 41) ≡ false → Begins (if t then Comma else if b == 61 then Equals else if is_name_byte b then Name else BadByte)
      by44 true e e1 e2 n h = rw (h, hash, blank, e1, e2, e) refl
      by44 false e e1 e2 n h = by61 (b == 61) refl e1 e2 e n h

      by41 : (t : Bool) → (b == 41) ≡ t → (b == 40) ≡ false → Begins (if t then CloseBracket else if b == 44 then Comma else if b == 61 then Equals else if is_name_byte b then Name else BadByte)
      by41 true e e1 n h = rw (h, hash, blank, e1, e) refl
      by41 false e e1 n h = by44 (b == 44) refl e1 e n h

      by40 : (t : Bool) → (b == 40) ≡ t → Begins (if t then OpenBracket else if b == 41 then CloseBracket else if b == 44 then Comma else if b == 61 then Equals else if is_name_byte b then Name else BadByte)
      by40 true e n h = rw (h, hash, blank, e) refl
      by40 false e n h = by41 (b == 41) refl e n h

-- ---- lines

pub line_at : (text : Text) (start k count : ℕ) → count_by is_feed (take k (drop start text)) ≡ count → line_of text (start + k) ≡ line_of text start + count
line_at text start k count e =
    let whole : count_by is_feed (take (start + k) text) ≡ count_by is_feed (take start text) + count_by is_feed (take k (drop start text)) =
    ap (count_by is_feed) (take-add start k text) ∙ sum_by-append (λ b. if is_feed b then 1 else 0) (take start text) (take k (drop start text)) in
    omega (arith, whole, e)

pub line_le : (text : Text) (byte : ℕ) → line_of text byte ≤ byte + 1
line_le text byte = omega (arith, count_by-le-length is_feed (take byte text), length-take byte text)

no_feed : (b : ℕ) → is_name_byte b ≡ true → (b == 10) ≡ false
unfolding is_name_byte
no_feed b e = by (nat_le 33 b) refl e
  where
    by : (t : Bool) → nat_le 33 b ≡ t → (t && nat_le b 126 && not (b == 40 || b == 41 || b == 44 || b == 61 || b == 35)) ≡ true → (b == 10) ≡ false
    by true e f = grind (arith, nat_tests)
    by false e f = cc

counted : (b : ℕ) (xs : Text) → (b == 10) ≡ false → count_by is_feed (b ∷ xs) ≡ count_by is_feed xs
counted b xs e = sum_by-cons (λ x. if is_feed x then 1 else 0) b xs ∙ rw e (zero-add (count_by is_feed xs))

name_line : (text : Text) → count_by is_feed (take (prefix_len is_name_byte text) text) ≡ 0
name_line [] = refl
name_line (b ∷ rest) = by (is_name_byte b) refl (name_line rest)
  where
    by : (t : Bool) → is_name_byte b ≡ t → count_by is_feed (take (prefix_len is_name_byte rest) rest) ≡ 0 → count_by is_feed (take (if t then 1 + prefix_len is_name_byte rest else 0) (b ∷ rest)) ≡ 0
    by true e h = rw one-add (counted b (take (prefix_len is_name_byte rest) rest) (no_feed b e) ∙ h)
    by false e h = refl

-- a lexeme has no LF
pub one_line : (kind : LexemeKind) (b : ℕ) (rest : Text) → is_blank b ≡ false → count_by is_feed (take (length_at kind (b ∷ rest)) (b ∷ rest)) ≡ 0
one_line Name b rest e = name_line (b ∷ rest)
one_line _ b rest e = counted b [] (blank_no_feed (b == 10) refl)
  where
    blank_no_feed : (t : Bool) → (b == 10) ≡ t → (b == 10) ≡ false
    blank_no_feed true f = let h : is_blank b ≡ true = feed_blank b f in cc
    blank_no_feed false f = f

-- ---- the whole text

pub whole_text : (text : Text) → tokens_of text ≡ tokens_at text 0
unfolding tokens_of tokens_in
whole_text text = refl

-- ---- places

pub place_line : (text : Text) (place : Place) → IsPlace text place → line_of text place.byte ≡ place.line
place_line text place e = sym (ap (λ p. p.line) e)

pub is_place : (text : Text) (place : Place) → line_of text place.byte ≡ place.line → IsPlace text place
is_place text place e = ap (λ (line : ℕ). record { byte = place.byte; line = line }) (sym e)

pub next_place : (text : Text) (p q : Place) → IsPlace text p → p.byte < length text → q.byte ≡ p.byte + 1 → q.line ≡ p.line + (if get_or text p.byte 0 == 10 then 1 else 0) → IsPlace text q
next_place text p q e h b l = is_place text q (ap (line_of text) b ∙ by (get_or text p.byte 0 == 10) refl ∙ ap (λ k. k + (if get_or text p.byte 0 == 10 then 1 else 0)) (place_line text p e) ∙ sym l)
  where
    by : (t : Bool) → (get_or text p.byte 0 == 10) ≡ t → line_of text (p.byte + 1) ≡ line_of text p.byte + (if t then 1 else 0)
    by true f = omega (arith, count_by_more_yes is_feed text p.byte 0 h f)
    by false f = omega (arith, count_by_more_no is_feed text p.byte 0 h f)

pub byte_front : (text : Text) (byte : ℕ) → byte < length text → drop byte text ≡ get_or text byte 0 ∷ drop (byte + 1) text
byte_front text byte h = rw add-one (drop-cons text byte 0 h)

-- ---- the next lexeme

pub length_at_le : (kind : LexemeKind) (text : Text) → 0 < length text → length_at kind text ≤ length text
length_at_le Name text h = prefix_len-le-length is_name_byte text
length_at_le _ text h = omega arith

pub next_end : (text : Text) (byte : ℕ) (place : Place) → IsSkipped text byte place → place.byte ≡ length text → IsNext text byte (record { kind = End; place = place; end = place.byte })
next_end text byte place s e = record {
  tokens = s.tokens ∙ ap (tokens_in false place.byte) (ap (λ n. drop n text) e ∙ drop-length text) ∙ no_tokens false place.byte;
  lexeme = record { place = s.place; forward = omega arith; within = s.within; line = place_line text place s.place; end = λ k. e };
}

slice_front : (text : Text) (byte n : ℕ) → slice_range text byte (byte + n) ≡ take n (drop byte text)
slice_front text byte n = let e : byte + n - byte ≡ n = omega arith in rw e refl

kind_no_end : (b : ℕ) → kind_at b ≡ End → ⊥
kind_no_end b = by (b == 40) (b == 41) (b == 44) (b == 61) (is_name_byte b)
  where
    by : (t1 t2 t3 t4 t5 : Bool) → (if t1 then OpenBracket else if t2 then CloseBracket else if t3 then Comma else if t4 then Equals else if t5 then Name else BadByte) ≡ End → ⊥
    by true t2 t3 t4 t5 e = cc
    by false true t3 t4 t5 e = cc
    by false false true t4 t5 e = cc
    by false false false true t5 e = cc
    by false false false false true e = cc
    by false false false false false e = cc

pub next_some : (text : Text) (byte : ℕ) (place : Place) (kind : LexemeKind) (n : ℕ) → IsSkipped text byte place → place.byte < length text → kind ≡ kind_at (get_or text place.byte 0) → n ≡ length_at kind (drop place.byte text)
    → IsNext text byte (record { kind = kind; place = place; end = place.byte + n })
next_some text byte place kind n s h k e =
    let b = get_or text place.byte 0 in
    let rest = drop (place.byte + 1) text in
    let front = byte_front text place.byte h in
    let long = length-drop place.byte text in
    let plain = or_parts (is_blank b) (b == 35) (s.stops h) in
    let n_is : n ≡ length_at (kind_at b) (b ∷ rest) = rw (← k, ← front) e in
    record {
      tokens = s.tokens ∙ ap (tokens_in false place.byte) front ∙ begins place.byte b rest plain.0 plain.1 n n_is
          ∙ rw (← front, ← k, slice_front text place.byte n, drop-drop n place.byte text) refl;
      lexeme = record {
        place = s.place;
        forward = omega arith;
        within = omega (arith, e, long, length_at_le kind (drop place.byte text) (omega (arith, long)));
        line = omega (arith, line_at text place.byte n 0 (rw (front, n_is) (one_line (kind_at b) b rest plain.0)), place_line text place s.place);
        end = λ f. absurd (kind_no_end b (sym k ∙ f));
      };
    }

pub rest_all : (n : ℕ) (text : Text) → take (length text - n) (drop n text) ≡ drop n text
rest_all n text = rw (← length-drop n text) (take-length (drop n text))
