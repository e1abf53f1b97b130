-- Rows written word by word.
use Rattle.std.proofs.Common.{◌≡◌, ◌≢◌, ◌∙◌, ℕ, ◌+◌, ◌*◌, ◌/◌, ◌%◌, ◌<◌, ◌≤◌, ◌⊎◌, Bool, false, List, length, refl, sym, ap, subst, arith, inl, inr}
use Rattle.std.proofs.lemmas.Bool.{cases_lt, cases_eq}
use Rattle.std.proofs.lemmas.List.{get_or_past}
use Rattle.net_model.specs.Answer.{bit_at}
use Rattle.net_model.proofs.Copies.{same_bits_same_list}
use Rattle.net_model.specs.Rows.{bit_of, row_at, row_bit, IsWordSet}
use Rattle.dict_rows.specs.Rows.{AreBitsSet, IsRowBegun, IsRowSet, IsRowTested}
use Rattle.dict_rows.specs.declared.answer_table.AnswerTable.TheInside.{Inside}
use Rattle.dict_rows.specs.AnswerTable.{Answers, IsNumberSet, answer_bit}
use Rattle.dict_rows.specs.AnswerTableFields.{table_of, AreCells}
use Rattle.dict_rows.proofs.RowLemmas.{same_shape, shape_later, rows_later, width_at}
use Rattle.dict_rows.proofs.TableLemmas.{patterns_are, bit_is, place_inside}

-- ---- a row, word by word

pub words_more : {old mid new : List (List Bool)} {row word bits : ℕ} {whole : List Bool} → IsRowBegun old mid row (word * 64) whole → IsWordSet mid new row word bits → length (row_at old row) ≡ length whole
    → ((k : ℕ) → k < length whole → k / 64 ≡ word → bit_of bits (k % 64) ≡ bit_at whole k) → IsRowBegun old new row ((word + 1) * 64) whole
words_more {old} {mid} {new} {row} {word} {bits} {whole} so_far one long is = record {
  shape = shape_later so_far.shape one.shape;
  begun = λ k h. elim (cases_lt k (length whole)) [
    | inl low ↦ elim (cases_eq (k / 64) word) [
      | inl here ↦ one.here k (omega (arith, low, long, so_far.shape.widths row)) here ∙ is k low here
      | inr ne ↦ one.beside k ne ∙ so_far.begun k (omega (arith, h, ne))
    ]
    | inr over ↦ get_or_past (row_at new row) k false (omega (arith, over, long, so_far.shape.widths row, one.shape.widths row)) ∙ sym (get_or_past whole k false (omega (arith, over)))
  ];
  others = λ r ne. one.others r ne ∙ so_far.others r ne;
}

-- ---- a row that is tested place by place

-- If each bit is what a test returns, these bits are the row.
pub tested_row : {answers : ℕ → Bool → Type 0} {old new : List (List Bool)} {row : ℕ} (bits : List Bool) → IsRowTested answers old new row (length (row_at old row)) → length (row_at old row) ≡ length bits
    → ((at : ℕ) (bit : Bool) → at < length bits → answers at bit → bit ≡ bit_at bits at) → IsRowSet old new row bits
tested_row {answers} {old} {new} {row} bits set long is = record {
  shape = set.shape;
  here = same_bits_same_list (row_at new row) bits (set.shape.widths row ∙ long)
      (λ at h. let inside : at < length (row_at old row) = omega (arith, h, set.shape.widths row) in is at (row_bit new row at) (omega (arith, inside, long)) (set.here at inside inside));
  others = set.others;
}

-- ---- a block

pub bits_none : (rows : List (List Bool)) (row start : ℕ) (bits : ℕ → Bool) → AreBitsSet rows rows row start 0 bits
bits_none rows row start bits = record { shape = same_shape; here = λ k h inside. absurd (omega (arith, h)); before = λ at h. refl; others = λ r ne. refl }

pub bits_more : {old mid new : List (List Bool)} {row bits : ℕ} {wanted : ℕ → Bool} (begin word : ℕ) → AreBitsSet old mid row (begin * 64) (word * 64) wanted → IsWordSet mid new row (begin + word) bits
    → ((k : ℕ) → k < 64 → bit_of bits k ≡ wanted (word * 64 + k)) → AreBitsSet old new row (begin * 64) ((word + 1) * 64) wanted
bits_more {old} {mid} {new} {row} {bits} {wanted} begin word so_far one is = record {
  shape = shape_later so_far.shape one.shape;
  here = λ k h inside.
      let at = begin * 64 + k in
      elim (cases_eq (at / 64) (begin + word)) [
        | inl here ↦
            let place : word * 64 + at % 64 ≡ k = omega (arith, here) in
            one.here at (omega (arith, inside, so_far.shape.widths row)) here ∙ (is (at % 64) (omega arith) ∙ ap wanted place)
        | inr ne ↦ one.beside at ne ∙ so_far.here k (omega (arith, h, ne)) inside
      ];
  before = λ at h. one.beside at (λ e. omega (arith, e, h)) ∙ so_far.before at h;
  others = λ r ne. one.others r ne ∙ so_far.others r ne;
}

-- ---- a block of a table

-- What was set as right by one test is right by each test that follows from it.
pub number_as : {right : ℕ → ℕ → ℕ → Bool → Type 0} {count : ℕ} {old new : Answers} {place first positions : ℕ} (over : ℕ → ℕ → ℕ → Bool → Type 0) → ((lane k : ℕ) (bit : Bool) → lane < count → k < positions → right lane place k bit → over lane place k bit)
    → IsNumberSet right count old new place first positions → IsNumberSet over count old new place first positions
number_as {right} {count} {old} {new} {place} {first} {positions} over asked set = record {
  sizes = set.sizes;
  here = λ lane k hl hk. asked lane k (answer_bit new (first + lane) place k) hl hk (set.here lane k hl hk);
  others = set.others;
}

module _ (a : Inside) (are : AreCells a) (new : List (List Bool)) (number first count start words : ℕ) (wanted : ℕ → Bool) (hn : number < a.numbers) (at : start ≡ first * a.positions)
    (enough : count * a.positions ≤ words) (within : first + count ≤ a.patterns) (is : AreBitsSet a.cells new number start words wanted) where
  cells_set : AreCells (record a { cells = new })
  cells_set = rows_later is.shape are

  -- The place of a lane and a position in the row of the number.
  place_is : (lane k : ℕ) → (first + lane) * a.positions + k ≡ start + (lane * a.positions + k)
  place_is lane k = omega (arith, at)

  bit_here : (lane k : ℕ) → lane < count → k < a.positions → row_bit new number ((first + lane) * a.positions + k) ≡ wanted (lane * a.positions + k)
  bit_here lane k hl hk =
      let inside : (first + lane) * a.positions + k < a.patterns * a.positions = place_inside (first + lane) a.patterns k a.positions (omega (arith, hl, within)) hk in
      ap (row_bit new number) (place_is lane k)
      ∙ is.here (lane * a.positions + k) (omega (arith, place_inside lane count k a.positions hl hk, enough)) (omega (arith, inside, place_is lane k, width_at are number hn))

  bit_other : (p n k : ℕ) → k < a.positions → (p < first) ⊎ (n ≢ number) → row_bit new n (p * a.positions + k) ≡ row_bit a.cells n (p * a.positions + k)
  bit_other p n k hk apart = elim (cases_eq n number) [
    | inr ne ↦ ap (λ (row : List Bool). bit_at row (p * a.positions + k)) (is.others n ne)
    | inl same ↦ elim apart [
      | inr ne ↦ absurd (ne same)
      | inl low ↦
          let earlier : p * a.positions + k < start = omega (arith, place_inside p first k a.positions low hk, at) in
          subst (λ m. row_bit new m (p * a.positions + k) ≡ row_bit a.cells m (p * a.positions + k)) (sym same) (is.before (p * a.positions + k) earlier)
    ]
  ]

  pub block_set : IsNumberSet (λ lane n k bit. bit ≡ wanted (lane * a.positions + k)) count (table_of a) (table_of (record a { cells = new })) number first a.positions
  block_set = record {
    sizes = record { patterns_are = patterns_are (record a { cells = new }) cells_set ∙ sym (patterns_are a are); numbers_are = refl; positions_are = refl };
    here = λ lane k hl hk. bit_is (record a { cells = new }) cells_set (first + lane) number k (omega (arith, hl, within)) hn hk ∙ bit_here lane k hl hk;
    others = λ p n k hp hm hk apart.
        let inside : p < a.patterns = omega (arith, hp, patterns_are a are) in
        bit_is (record a { cells = new }) cells_set p n k inside hm hk ∙ (bit_other p n k hk apart ∙ sym (bit_is a are p n k inside hm hk));
  }
