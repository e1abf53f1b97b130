-- Words of rows, and rows that are compared and written by words.
use Rattle.std.proofs.Common.{◌≡◌, ◌≢◌, ◌∙◌, ℕ, ◌+◌, ◌-◌, ◌*◌, ◌/◌, ◌%◌, ◌<◌, ◌≤◌, ◌^◌, Bool, true, false, eqb, List, length, get_or, sym, ap, arith, inl, inr}
use Rattle.std.specs.Prelude.{nat_lt, ◌&&◌}
use Rattle.std.proofs.lemmas.Bool.{cases_lt, cases_eq, false_from_ne_true}
use Rattle.std.proofs.lemmas.Bool.Decides.{nat_tests}
use Rattle.std.proofs.lemmas.List.{get_or_past}
use Rattle.std.proofs.lemmas.Nat.{div-mul-add, mod-mul-add}
use Rattle.std.proofs.lemmas.Nat.Bits.{bit_at-zero}
use Rattle.net_model.specs.Answer.{bit_at}
use Rattle.net_model.specs.ClassTable.{same_bits}
use Rattle.net_model.specs.Rows.{bit_of, word_bit, row_at, row_bit, IsPacked}
use Rattle.net_model.proofs.Copies.{same_bits_same_list}
use Rattle.net_model.proofs.SingleWords.{same_number}
use Rattle.dict_rows.specs.declared.answer_table.AnswerTable.TheInside.{Inside}
use Rattle.dict_rows.specs.AnswerTable.{answer_to}
use Rattle.dict_rows.specs.AnswerTableFields.{table_of, AreCells}
use Rattle.dict_rows.specs.Rows.{IsWordOf}
use Rattle.dict_rows.proofs.RowLemmas.{width_at}
use Rattle.dict_rows.proofs.TableLemmas.{patterns_are, bit_is, is_table, place_inside}
use Rattle.dict_rows.proofs.EntryLemmas.{same_bits-Decides}

-- The bit at a place of a word.
pub bit_in : {row : List Bool} {word bits : ℕ} → IsWordOf row word bits → (k : ℕ) → k / 64 ≡ word → bit_of bits (k % 64) ≡ bit_at row k
bit_in {row} {word} {bits} is k e =
    let place : word * 64 + k % 64 ≡ k = omega (arith, e) in
    is.are (k % 64) (omega arith) ∙ ap (bit_at row) place

-- A bit of a packed row, and none past its end.
pub packed_bit : {row : List Bool} {words : List ℕ} → IsPacked row words → (at : ℕ) → word_bit words 0 at ≡ bit_at row at
packed_bit {row} {words} packed at = elim (cases_lt (at / 64) (length words)) [
  | inl inside ↦ packed.bits at inside
  | inr past ↦
      let none : get_or words (0 + at / 64) 0 ≡ 0 = get_or_past words (0 + at / 64) 0 (omega (arith, past)) in
      ap (λ (w : ℕ). bit_of w (at % 64)) none ∙ (ap (λ n. eqb n 1) (bit_at-zero (at % 64)) ∙ sym (get_or_past row at false (omega (arith, past, packed.count))))
]

-- A word of a packed row.
pub word_of_packed : {row : List Bool} {words : List ℕ} → IsPacked row words → (word : ℕ) → IsWordOf row word (get_or words word 0)
word_of_packed {row} {words} packed word = record {
  are = λ k below.
      let at : (word * 64 + k) / 64 ≡ word = div-mul-add word 64 k below in
      let place : 0 + (word * 64 + k) / 64 ≡ word = omega (arith, at) in
      let rest : (word * 64 + k) % 64 ≡ k = mod-mul-add word 64 k below in
      (λ i. bit_of (get_or words (sym place i) 0) (sym rest i)) ∙ packed_bit packed (word * 64 + k);
}

module _ (row other : List Bool) (word : ℕ) {a b : ℕ} (is : IsWordOf row word a) (and : IsWordOf other word b) where
  -- Words that differ are of rows that differ.
  pub differ_by : a < 2 ^ 64 → b < 2 ^ 64 → a ≢ b → same_bits row other ≡ false
  differ_by ha hb ne =
      false_from_ne_true (same_bits row other) (λ yes.
      ne (same_number 64 a b ha hb (λ k h. is.are k h ∙ (ap (λ (bits : List Bool). bit_at bits (word * 64 + k)) ((same_bits-Decides row other).0 yes) ∙ sym (and.are k h)))))

  -- If the rows agree before a word and in it, they agree up to its end.
  pub alike_more : ((k : ℕ) → k < word * 64 → bit_at row k ≡ bit_at other k) → a ≡ b → (k : ℕ) → k < (word + 1) * 64 → bit_at row k ≡ bit_at other k
  alike_more before same k h = elim (cases_eq (k / 64) word) [
    | inl here ↦ sym (bit_in is k here) ∙ (ap (λ n. bit_of n (k % 64)) same ∙ bit_in and k here)
    | inr ne ↦ before k (omega (arith, h, ne))
  ]

-- Rows that agree in all words are the same.
pub alike_all : (row other : List Bool) (end : ℕ) → ((k : ℕ) → k < end → bit_at row k ≡ bit_at other k) → length row ≤ end → length row ≡ length other → same_bits row other ≡ true
alike_all row other end alike over long = (same_bits-Decides row other).1 (same_bits_same_list row other long (λ k h. alike k (omega (arith, h, over))))

-- ---- a word of an answer

module _ (a : Inside) (are : AreCells a) (pattern number word : ℕ) (hp : pattern < a.patterns) (hn : number < a.numbers) where
  pub answer_word_is : (words : List ℕ) (at bits low : ℕ) → IsPacked (row_at a.cells number) words → at ≡ pattern * a.positions + word * 64
      → ((k : ℕ) → k < 64 → bit_of bits k ≡ word_bit words 0 (at + k)) → ((k : ℕ) → k < 64 → bit_of low k ≡ (nat_lt k (a.positions - word * 64) && bit_of bits k))
      → IsWordOf (answer_to (table_of a) pattern number) word low
  answer_word_is words at bits low packed begin read kept = record {
    are = λ k h. elim (cases_lt k (a.positions - word * 64)) [
      | inl inside ↦
          let hk : word * 64 + k < a.positions = omega (arith, inside) in
          let yes : nat_lt k (a.positions - word * 64) ≡ true = grind (arith, inside, nat_tests) in
          let place : at + k ≡ pattern * a.positions + (word * 64 + k) = omega (arith, begin) in
          let within : at + k < length (row_at a.cells number) = omega (arith, place, place_inside pattern a.patterns (word * 64 + k) a.positions hp hk, width_at are number hn) in
          kept k h ∙ (ap (λ b. b && bit_of bits k) yes
          ∙ (read k h ∙ (packed.bits (at + k) (omega (arith, within, packed.count))
          ∙ (ap (row_bit a.cells number) place ∙ sym (bit_is a are pattern number (word * 64 + k) hp hn hk)))))
      | inr past ↦
          let no : nat_lt k (a.positions - word * 64) ≡ false = grind (arith, past, nat_tests) in
          let long = (is_table a are).positions pattern number (omega (arith, hp, patterns_are a are)) hn in
          kept k h ∙ (ap (λ b. b && bit_of bits k) no ∙ sym (get_or_past (answer_to (table_of a) pattern number) (word * 64 + k) false (omega (arith, past, long))))
    ];
  }
