-- Words that are written into rows of bits.
use Rattle.std.proofs.Common.{◌≡◌, ◌≢◌, ◌∙◌, ℕ, ◌-◌, ◌+◌, ◌*◌, ◌/◌, ◌%◌, ◌<◌, ◌≤◌, ◌^◌, true, false, List, [], length, get_or, set, sym, ap, arith, inl, inr}
use Rattle.std.specs.Prelude.{nat_lt, ◌&&◌}
use Rattle.std.proofs.lemmas.Bool.{cases_lt, cases_eq}
use Rattle.std.proofs.lemmas.Bool.Decides.{nat_tests}
use Rattle.std.proofs.lemmas.List.{get_or-set_same, get_or-set_other, get_or_past, length-set}
use Rattle.std.proofs.lemmas.List.FromFn.{fill_by_all}
use Rattle.std.proofs.lemmas.Nat.{same_from_place, mod_below}
use Rattle.net_model.specs.Rows.{bit_of, word_bit, rows_of, row_at, row_bit, AreWords, IsWordSet}
use Rattle.net_model.proofs.RowLemmas.{IsPlace, length-rows_of, length-row, get_or-rows_of, get_or-row}

-- the lowest `count` bits of a word
pub record HasLowBits (count bits word : ℕ) : Type 0 where
  pub fits : word < 2 ^ 64
  pub low : (k : ℕ) → k < 64 → bit_of word k ≡ (nat_lt k count && bit_of bits k)

module _ (stride width rows : ℕ) (words : List ℕ) (row word bits low : ℕ) (are : AreWords stride width rows words)
    (place : IsPlace stride width rows row (word * 64) words) (has : HasLowBits (width - word * 64) bits low) where
  at_word : (word * 64) / 64 ≡ word
  at_word = omega arith

  after : List ℕ
  after = set words (row * stride + word) low

  within : row * stride + word < length words
  within = omega (arith, place.within, at_word)

  word_bit-written : (k : ℕ) → k / 64 ≡ word → word_bit after (row * stride) k ≡ (nat_lt (k % 64) (width - word * 64) && bit_of bits (k % 64))
  unfolding after
  word_bit-written k e =
      ap (λ w. bit_of (get_or (set words (row * stride + word) low) (row * stride + w) 0) (k % 64)) e
      ∙ (ap (λ w. bit_of w (k % 64)) (get_or-set_same words (row * stride + word) low 0 within) ∙ has.low (k % 64) (mod_below k 64 (omega arith)))

  -- every other bit is as before
  word_bit-kept : (r k : ℕ) → k / 64 < stride → (r ≡ row → k / 64 ≡ word → ⊥) → word_bit after (r * stride) k ≡ word_bit words (r * stride) k
  unfolding after
  word_bit-kept r k h apart =
      let ne : r * stride + k / 64 ≢ row * stride + word =
      λ same. let both = same_from_place r (k / 64) row word stride h (omega (arith, place.word, at_word)) same in apart both.0 both.1 in
      ap (λ w. bit_of w (k % 64)) (get_or-set_other words (row * stride + word) (r * stride + k / 64) low 0 ne)

  in_stride : (k : ℕ) → k < width → k / 64 < stride
  in_stride k h = omega (arith, h, are.enough)

  -- the bits of the written row at the places of the word
  bit-written : (k : ℕ) → k < width → k / 64 ≡ word → row_bit (rows_of stride width rows after) row k ≡ bit_of bits (k % 64)
  bit-written k h e =
      let below : nat_lt (k % 64) (width - word * 64) ≡ true = let at = k % 64 in let l : k % 64 < width - word * 64 = omega (arith, h, e) in grind (arith, l, nat_tests) in
      get_or-row stride width rows after row k place.row_in h ∙ (word_bit-written k e ∙ ap (λ b. b && bit_of bits (k % 64)) below)

  bit-beside : (k : ℕ) → k / 64 ≢ word → row_bit (rows_of stride width rows after) row k ≡ row_bit (rows_of stride width rows words) row k
  bit-beside k ne =
      elim (cases_lt k width) [
        | inl h ↦
            get_or-row stride width rows after row k place.row_in h
            ∙ (word_bit-kept row k (in_stride k h) (λ _ e. ne e) ∙ sym (get_or-row stride width rows words row k place.row_in h))
        | inr past ↦
            get_or_past (row_at (rows_of stride width rows after) row) k false (omega (arith, past, length-row stride width rows after row [] place.row_in))
            ∙ sym (get_or_past (row_at (rows_of stride width rows words) row) k false (omega (arith, past, length-row stride width rows words row [] place.row_in)))
      ]

  row-kept : (r : ℕ) → r ≢ row → row_at (rows_of stride width rows after) r ≡ row_at (rows_of stride width rows words) r
  row-kept r ne =
      elim (cases_lt r rows) [
        | inl h ↦
            get_or-rows_of stride width rows after r [] h
            ∙ sym (fill_by_all (λ k. word_bit after (r * stride) k) (row_at (rows_of stride width rows words) r) width false (length-row stride width rows words r [] h)
            (λ k l. get_or-row stride width rows words r k h l ∙ sym (word_bit-kept r k (in_stride k l) (λ e _. ne e))))
        | inr past ↦
            get_or_past (rows_of stride width rows after) r [] (omega (arith, past, length-rows_of stride width rows after))
            ∙ sym (get_or_past (rows_of stride width rows words) r [] (omega (arith, past, length-rows_of stride width rows words)))
      ]

  row-length : (r : ℕ) → length (row_at (rows_of stride width rows after) r) ≡ length (row_at (rows_of stride width rows words) r)
  row-length r =
      elim (cases_lt r rows) [
        | inl h ↦ length-row stride width rows after r [] h ∙ sym (length-row stride width rows words r [] h)
        | inr past ↦
            ap length (get_or_past (rows_of stride width rows after) r [] (omega (arith, past, length-rows_of stride width rows after)))
            ∙ sym (ap length (get_or_past (rows_of stride width rows words) r [] (omega (arith, past, length-rows_of stride width rows words))))
      ]

  pub is_word_set : IsWordSet (rows_of stride width rows words) (rows_of stride width rows (set words (row * stride + word) low)) row word bits
  unfolding after
  is_word_set = record {
    shape = record { count = length-rows_of stride width rows after ∙ sym (length-rows_of stride width rows words); widths = row-length };
    here = λ k h e. bit-written k (omega (arith, h, length-row stride width rows words row [] place.row_in)) e;
    beside = bit-beside;
    others = row-kept;
  }

  -- no bit past the end of a row is set
  spare : (r k : ℕ) → r < rows → width ≤ k → k / 64 < stride → word_bit after (r * stride) k ≡ false
  spare r k h past l =
      elim (cases_eq (k / 64) word) [
        | inr ne ↦ word_bit-kept r k l (λ _ e. ne e) ∙ are.spare r k h past l
        | inl e ↦
            elim (cases_eq r row) [
              | inr ne ↦ word_bit-kept r k l (λ same _. ne same) ∙ are.spare r k h past l
              | inl same ↦
                  let no : nat_lt (k % 64) (width - word * 64) ≡ false = let n : width - word * 64 ≤ k % 64 = omega (arith, past, e) in grind (arith, n, nat_tests) in
                  ap (λ i. word_bit after (i * stride) k) same ∙ (word_bit-written k e ∙ ap (λ b. b && bit_of bits (k % 64)) no)
            ]
      ]

  pub are_words-word : AreWords stride width rows (set words (row * stride + word) low)
  unfolding after
  are_words-word = record {
    enough = are.enough;
    count = length-set words (row * stride + word) low ∙ are.count;
    fits = λ k. elim (cases_eq k (row * stride + word)) [
      | inl same ↦
          let e = ap (λ i. get_or (set words (row * stride + word) low) i 0) same ∙ get_or-set_same words (row * stride + word) low 0 within in
          omega (arith, e, has.fits)
      | inr ne ↦ let e = get_or-set_other words (row * stride + word) k low 0 ne in omega (arith, e, are.fits k)
    ];
    spare = spare;
  }
