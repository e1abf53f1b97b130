-- The pieces of a text by its first bytes.
use Rattle.std.proofs.Common.{◌≡◌, ◌∙◌, ℕ, zero, suc, ◌+◌, ◌<◌, ◌≤◌, Bool, true, false, List, [], ◌∷◌, length, take, drop, refl, ap, arith, one-add}
use Rattle.std.specs.Prelude.{nat_le, not, ◌&&◌, ◌||◌, ◌==◌, if◌then◌else◌}
use Rattle.std.specs.List.{prefix_len}
use Rattle.std.proofs.lemmas.Bool.Decides.{nat_tests}
use Rattle.std.proofs.lemmas.List.Sums.{prefix_len-le-length}
use Rattle.std.proofs.lemmas.Bool.{and_parts}
use Rattle.text_fields.specs.Fields.{Text}
use Rattle.bench_reader.specs.Tokens.{is_blank, is_name_byte, Piece, blank_piece, open_bracket, close_bracket, comma_mark, equals_mark, name_run, bad_byte, join_name, with_byte, pieces}

abbrev pub begins_with_name : List Piece → Bool
begins_with_name (name_run text ∷ pieces) = true
begins_with_name _ = false

-- a test that fails in each case fails for the choice
choose : (p : List Piece → Bool) (t1 t2 t3 t4 t5 t6 : Bool) (x1 x2 x3 x4 x5 x6 x7 : List Piece)
    → (t1 ≡ true → p x1 ≡ false) → (t2 ≡ true → p x2 ≡ false) → (t3 ≡ true → p x3 ≡ false) → (t4 ≡ true → p x4 ≡ false) → (t5 ≡ true → p x5 ≡ false) → (t6 ≡ true → p x6 ≡ false) → p x7 ≡ false
    → p (if t1 then x1 else if t2 then x2 else if t3 then x3 else if t4 then x4 else if t5 then x5 else if t6 then x6 else x7) ≡ false
choose p true t2 t3 t4 t5 t6 x1 x2 x3 x4 x5 x6 x7 h1 h2 h3 h4 h5 h6 h7 = h1 refl
choose p false true t3 t4 t5 t6 x1 x2 x3 x4 x5 x6 x7 h1 h2 h3 h4 h5 h6 h7 = h2 refl
choose p false false true t4 t5 t6 x1 x2 x3 x4 x5 x6 x7 h1 h2 h3 h4 h5 h6 h7 = h3 refl
choose p false false false true t5 t6 x1 x2 x3 x4 x5 x6 x7 h1 h2 h3 h4 h5 h6 h7 = h4 refl
choose p false false false false true t6 x1 x2 x3 x4 x5 x6 x7 h1 h2 h3 h4 h5 h6 h7 = h5 refl
choose p false false false false false true x1 x2 x3 x4 x5 x6 x7 h1 h2 h3 h4 h5 h6 h7 = h6 refl
choose p false false false false false false x1 x2 x3 x4 x5 x6 x7 h1 h2 h3 h4 h5 h6 h7 = h7

-- a test that fails if a name comes first fails for a joined name
joined : (p : List Piece → Bool) → ((text : Text) (ps : List Piece) → p (name_run text ∷ ps) ≡ false) → (b : ℕ) (ps : List Piece) → p (join_name b ps) ≡ false
joined p none b (name_run text ∷ ps) = none (b ∷ text) ps
joined p none b _ = none (b ∷ []) _

module _ (b : ℕ) (ps : List Piece) where
  not_name : is_name_byte b ≡ false → begins_with_name (with_byte b ps) ≡ false
  not_name e = choose begins_with_name (is_blank b) (b == 40) (b == 41) (b == 44) (b == 61) (is_name_byte b) _ _ _ _ _ _ _ (λ t. refl) (λ t. refl) (λ t. refl) (λ t. refl) (λ t. refl) (λ t. cc) refl

-- a byte of a name is none of the other bytes
apart : (b n : ℕ) → nat_le 33 b ≡ true → n < 33 → (b == n) ≡ false
apart b n h l = grind (arith, nat_tests)

names_join : (b : ℕ) (ps : List Piece) (t1 t2 t3 t4 t5 t6 t7 low high : Bool) → (low && high && not (t2 || t3 || t4 || t5 || t7)) ≡ true → t1 ≡ false
    → (if t1 then blank_piece ∷ ps else if t2 then open_bracket ∷ ps else if t3 then close_bracket ∷ ps else if t4 then comma_mark ∷ ps else if t5 then equals_mark ∷ ps else if t6 then join_name b ps else bad_byte ∷ ps)
    ≡ (if t6 then join_name b ps else bad_byte ∷ ps)
names_join b ps false false false false false t6 t7 low high e f = refl
names_join b ps true t2 t3 t4 t5 t6 t7 low high e f = cc
names_join b ps false t2 t3 t4 t5 t6 t7 false high e f = cc
names_join b ps false t2 t3 t4 t5 t6 t7 true false e f = cc
names_join b ps false true t3 t4 t5 t6 t7 true true e f = cc
names_join b ps false false true t4 t5 t6 t7 true true e f = cc
names_join b ps false false false true t5 t6 t7 true true e f = cc
names_join b ps false false false false true t6 t7 true true e f = cc

name_joins : (b : ℕ) (ps : List Piece) → is_name_byte b ≡ true → with_byte b ps ≡ join_name b ps
unfolding is_name_byte
name_joins b ps e =
    let low : nat_le 33 b ≡ true = (and_parts _ _ (and_parts _ _ e).0).0 in
    let blank : is_blank b ≡ false = rw (apart b 32 low (omega arith), apart b 9 low (omega arith), apart b 10 low (omega arith), apart b 13 low (omega arith)) refl in
    names_join b ps (is_blank b) (b == 40) (b == 41) (b == 44) (b == 61) (nat_le 33 b && nat_le b 126 && not (b == 40 || b == 41 || b == 44 || b == 61 || b == 35)) (b == 35) (nat_le 33 b) (nat_le b 126) e blank ∙ rw e refl

alone : (b : ℕ) (ps : List Piece) → begins_with_name ps ≡ false → join_name b ps ≡ name_run (b ∷ []) ∷ ps
alone b (name_run text ∷ ps) e = cc
alone b _ e = refl

-- a name of these bytes before pieces, or the pieces alone if there are no bytes
abbrev pub with_run : Text → List Piece → List Piece
with_run [] ps = ps
with_run (b ∷ bytes) ps = name_run (b ∷ bytes) ∷ ps

grow : (b : ℕ) (run : Text) (ps : List Piece) → begins_with_name ps ≡ false → join_name b (with_run run ps) ≡ name_run (b ∷ run) ∷ ps
grow b [] ps e = alone b ps e
grow b (x ∷ xs) ps e = refl

pub record Cut (text : Text) (n : ℕ) : Type 0 where
  pub run : pieces text ≡ with_run (take n text) (pieces (drop n text))
  pub stops : begins_with_name (pieces (drop n text)) ≡ false

pub cut_name : (text : Text) → Cut text (prefix_len is_name_byte text)
unfolding pieces
cut_name [] = record { run = refl; stops = refl }
cut_name (b ∷ bytes) = by (is_name_byte b) refl (cut_name bytes)
  where
    by : (t : Bool) → is_name_byte b ≡ t → Cut bytes (prefix_len is_name_byte bytes) → Cut (b ∷ bytes) (if t then 1 + prefix_len is_name_byte bytes else 0)
    by true e rest = rw one-add (record { run = name_joins b (pieces bytes) e ∙ ap (join_name b) rest.run ∙ grow b _ _ rest.stops; stops = rest.stops })
    by false e rest = record { run = refl; stops = not_name b (pieces bytes) e }

pub name_first : (text : Text) (n : ℕ) → n ≡ prefix_len is_name_byte text → 0 < n → pieces text ≡ name_run (take n text) ∷ pieces (drop n text)
name_first text n e h = rw (← e) at (cut_name text).run ∙ run_is text n (rw e (prefix_len-le-length is_name_byte text)) h
  where
    run_is : (text : Text) (n : ℕ) → n ≤ length text → 0 < n → with_run (take n text) (pieces (drop n text)) ≡ name_run (take n text) ∷ pieces (drop n text)
    run_is [] n l h = absurd (omega arith)
    run_is (b ∷ bytes) zero l h = absurd (omega arith)
    run_is (b ∷ bytes) (suc n) l h = refl

pub no_name : (text : Text) → prefix_len is_name_byte text ≡ 0 → begins_with_name (pieces text) ≡ false
no_name text e = rw e at (cut_name text).stops

-- ---- how many pieces there are

each_choice : (P : List Piece → Type 0) (t1 t2 t3 t4 t5 t6 : Bool) (x1 x2 x3 x4 x5 x6 x7 : List Piece) → P x1 → P x2 → P x3 → P x4 → P x5 → P x6 → P x7
    → P (if t1 then x1 else if t2 then x2 else if t3 then x3 else if t4 then x4 else if t5 then x5 else if t6 then x6 else x7)
each_choice P true t2 t3 t4 t5 t6 x1 x2 x3 x4 x5 x6 x7 h1 h2 h3 h4 h5 h6 h7 = h1
each_choice P false true t3 t4 t5 t6 x1 x2 x3 x4 x5 x6 x7 h1 h2 h3 h4 h5 h6 h7 = h2
each_choice P false false true t4 t5 t6 x1 x2 x3 x4 x5 x6 x7 h1 h2 h3 h4 h5 h6 h7 = h3
each_choice P false false false true t5 t6 x1 x2 x3 x4 x5 x6 x7 h1 h2 h3 h4 h5 h6 h7 = h4
each_choice P false false false false true t6 x1 x2 x3 x4 x5 x6 x7 h1 h2 h3 h4 h5 h6 h7 = h5
each_choice P false false false false false true x1 x2 x3 x4 x5 x6 x7 h1 h2 h3 h4 h5 h6 h7 = h6
each_choice P false false false false false false x1 x2 x3 x4 x5 x6 x7 h1 h2 h3 h4 h5 h6 h7 = h7

joined_grows : (b : ℕ) (ps : List Piece) → length (join_name b ps) ≤ suc (length ps)
joined_grows b (name_run text ∷ ps) = omega arith
joined_grows b _ = omega arith

byte_grows : (b : ℕ) (ps : List Piece) → length (with_byte b ps) ≤ suc (length ps)
byte_grows b ps = each_choice (λ qs. length qs ≤ suc (length ps)) (is_blank b) (b == 40) (b == 41) (b == 44) (b == 61) (is_name_byte b) _ _ _ _ _ _ _
    (omega arith) (omega arith) (omega arith) (omega arith) (omega arith) (joined_grows b ps) (omega arith)

pub few_pieces : (text : Text) → length (pieces text) ≤ length text
unfolding pieces
few_pieces [] = omega arith
few_pieces (b ∷ bytes) = let h = few_pieces bytes in let g = byte_grows b (pieces bytes) in omega (arith, g, h)
