-- What the fields of a table show.
use Rattle.std.proofs.Common.{◌≡◌, ◌∙◌, ℕ, zero, suc, ◌+◌, ◌*◌, ◌/◌, ◌<◌, ◌≤◌, Bool, false, List, [], ◌∷◌, ◌++◌, length, get_or, map, take, drop, refl, sym, ap, subst, arith, add-one, inl, inr}
use Rattle.std.specs.Prelude.{flat_map, All}
use Rattle.std.specs.List.{range_with_len}
use Rattle.std.proofs.Math.Seq.{take-add}
use Rattle.std.proofs.Math.Nat.{zero-mul, mul_comm}
use Rattle.std.proofs.lemmas.Bool.{cases_lt, cases_eq}
use Rattle.std.proofs.lemmas.Nat.{mul-le, mul-add-lt, div-mul-add}
use Rattle.std.proofs.lemmas.List.{get_or-map, get_or-take, get_or-drop, length-map, length-drop, length-take-le, take_all, append-nil, get_or_past, get_or_default}
use Rattle.std.proofs.lemmas.List.Concat.{flat_map-append}
use Rattle.std.proofs.lemmas.List.FromFn.{length-map-range_with_len, get_or-map-range_with_len, map-range_with_len_more, fill_by_all}
use Rattle.net_model.specs.Answer.{bit_at}
use Rattle.dict_rows.specs.declared.answer_table.AnswerTable.TheInside.{Inside}
use Rattle.net_model.specs.Rows.{row_at, row_bit}
use Rattle.dict_rows.specs.Rows.{IsBitSet}
use Rattle.dict_rows.specs.AnswerTable.{Answers, answer_in, answer_to, answer_bit, IsTable, HasBitSet, ArePicked}
use Rattle.dict_rows.specs.AnswerTableFields.{answer_part, table_of, AreCells}
use Rattle.dict_rows.specs.Entries.{full_entry}
use Rattle.dict_rows.proofs.RowLemmas.{rows_later, width_at}

-- The place of a bit of a pattern.
pub place_inside : (pattern patterns position positions : ℕ) → pattern < patterns → position < positions → pattern * positions + position < patterns * positions
place_inside pattern patterns position positions hp hk = subst (λ n. pattern * positions + position < n) (mul_comm positions patterns) (mul-add-lt pattern positions position patterns hp hk)

module _ (a : Inside) (are : AreCells a) where
  pub patterns_are : length (table_of a).rows ≡ a.patterns
  patterns_are = length-map-range_with_len (λ pattern. map (answer_part a.positions pattern) a.cells) 0 a.patterns

  -- What is within the table's sizes is within those of its fields.
  pub in_fields : (t : Answers) → table_of a ≡ t → (end number : ℕ) → end ≤ length t.rows → number < t.numbers → (end ≤ a.patterns) × (number < a.numbers)
  in_fields t is end number he hn = (omega (arith, he, ap (λ (u : Answers). length u.rows) is, patterns_are), omega (arith, hn, ap (λ (u : Answers). u.numbers) is))

  -- The bit of a position is within the row of its number.
  pub bit_inside : (t : Answers) → table_of a ≡ t → (pattern number position : ℕ) → pattern < length t.rows → number < t.numbers → position < t.positions → pattern * a.positions + position < length (row_at a.cells number)
  bit_inside t is pattern number position hp hn hk =
      let inside = in_fields t is (pattern + 1) number (omega (arith, hp)) hn in
      let here : position < a.positions = omega (arith, hk, ap (λ (u : Answers). u.positions) is) in
      omega (arith, place_inside pattern a.patterns position a.positions (omega (arith, inside.0)) here, width_at are number inside.1)

  pub row_is : (pattern : ℕ) → pattern < a.patterns → get_or (table_of a).rows pattern [] ≡ map (answer_part a.positions pattern) a.cells
  row_is pattern h = get_or-map-range_with_len (λ pattern. map (answer_part a.positions pattern) a.cells) 0 a.patterns pattern pattern [] h (omega arith)

  pub answer_is : (pattern number : ℕ) → pattern < a.patterns → number < a.numbers → answer_to (table_of a) pattern number ≡ answer_part a.positions pattern (row_at a.cells number)
  answer_is pattern number hp hn =
      ap (λ (row : List (List Bool)). get_or row number []) (row_is pattern hp)
      ∙ get_or-map (answer_part a.positions pattern) a.cells number [] [] (omega (arith, hn, are.count_is))

  part_width : (pattern : ℕ) (bits : List Bool) → pattern < a.patterns → length bits ≡ a.patterns * a.positions → length (answer_part a.positions pattern bits) ≡ a.positions
  part_width pattern bits h long =
      length-take-le a.positions (drop (pattern * a.positions) bits) (omega (arith, length-drop (pattern * a.positions) bits, long, mul-le (pattern + 1) a.positions a.patterns a.positions (omega (arith, h)) (omega arith)))

  pub bit_is : (pattern number position : ℕ) → pattern < a.patterns → number < a.numbers → position < a.positions
      → answer_bit (table_of a) pattern number position ≡ row_bit a.cells number (pattern * a.positions + position)
  bit_is pattern number position hp hn hk =
      ap (λ (bits : List Bool). bit_at bits position) (answer_is pattern number hp hn)
      ∙ (get_or-take a.positions (drop (pattern * a.positions) (row_at a.cells number)) position false hk
      ∙ get_or-drop (pattern * a.positions) (row_at a.cells number) position false)

  -- Past the sizes there is no bit.
  pub no_bit : (pattern number position : ℕ) → ((pattern < a.patterns) × (number < a.numbers) × (position < a.positions) → answer_bit (table_of a) pattern number position ≡ false)
      → answer_bit (table_of a) pattern number position ≡ false
  no_bit pattern number position inside = elim (cases_lt pattern a.patterns) [
    | inr over ↦
        ap (λ (row : List (List Bool)). bit_at (get_or row number []) position) (get_or_past (table_of a).rows pattern [] (omega (arith, over, patterns_are)))
    | inl hp ↦ elim (cases_lt number a.numbers) [
      | inr over ↦ ap (λ (bits : List Bool). bit_at bits position)
          (ap (λ (row : List (List Bool)). get_or row number []) (row_is pattern hp) ∙ get_or_past (map (answer_part a.positions pattern) a.cells) number [] (omega (arith, over, are.count_is, length-map a.cells (answer_part a.positions pattern))))
      | inl hn ↦ elim (cases_lt position a.positions) [
        | inl hk ↦ inside (hp, hn, hk)
        | inr over ↦ get_or_past (answer_to (table_of a) pattern number) position false
            (omega (arith, over, ap length (answer_is pattern number hp hn), part_width pattern (row_at a.cells number) hp (width_at are number hn)))
      ]
    ]
  ]

  pub is_table : IsTable (table_of a)
  is_table = record {
    numbers = λ pattern h. ap length (row_is pattern (omega (arith, h, patterns_are))) ∙ (length-map a.cells (answer_part a.positions pattern) ∙ are.count_is);
    positions = λ pattern number hp hn.
        let inside : pattern < a.patterns = omega (arith, hp, patterns_are) in
        ap length (answer_is pattern number inside hn) ∙ part_width pattern (row_at a.cells number) inside (width_at are number hn);
  }

  -- The answers to the first patterns, one after another.
  parts : (number : ℕ) → number < a.numbers → (done : ℕ) → flat_map (λ row. answer_in row number) (map (λ pattern. map (answer_part a.positions pattern) a.cells) (range_with_len 0 done)) ≡ take (done * a.positions) (row_at a.cells number)
  parts number hn zero = sym (ap (λ n. take n (row_at a.cells number)) (zero-mul a.positions))
  parts number hn (suc done) =
      let bits = row_at a.cells number in
      let f : ℕ → List (List Bool) = λ pattern. map (answer_part a.positions pattern) a.cells in
      let one : flat_map (λ row. answer_in row number) (f done ∷ []) ≡ answer_part a.positions done bits =
      append-nil (answer_in (f done) number) ∙ get_or-map (answer_part a.positions done) a.cells number [] [] (omega (arith, hn, are.count_is)) in
      let more : map f (range_with_len 0 (suc done)) ≡ map f (range_with_len 0 done) ++ f done ∷ [] =
      sym (ap (λ n. map f (range_with_len 0 n)) (add-one done)) ∙ map-range_with_len_more f 0 done done (omega arith) in
      ap (flat_map (λ row. answer_in row number)) more
      ∙ (flat_map-append (λ row. answer_in row number) (map f (range_with_len 0 done)) (f done ∷ [])
      ∙ ((λ i. parts number hn done i ++ one i)
      ∙ (sym (take-add (done * a.positions) a.positions bits)
      ∙ ap (λ n. take n bits) (omega arith))))

  pub entry_is : (number : ℕ) → number < a.numbers → row_at a.cells number ≡ full_entry (table_of a).rows number
  entry_is number hn =
      let bits = row_at a.cells number in
      sym (parts number hn a.patterns ∙ take_all (a.patterns * a.positions) bits (omega (arith, width_at are number hn)))

  pub cells_are : a.cells ≡ map (full_entry (table_of a).rows) (range_with_len 0 a.numbers)
  cells_are = fill_by_all (full_entry (table_of a).rows) a.cells a.numbers [] are.count_is entry_is

-- Two places are the same only if the pattern and the position are.
same_place : (positions p k q j : ℕ) → k < positions → j < positions → p * positions + k ≡ q * positions + j → (p ≡ q) × (k ≡ j)
same_place positions p k q j hk hj e =
    let first : p ≡ q = sym (div-mul-add p positions k hk) ∙ (ap (λ n. n / positions) e ∙ div-mul-add q positions j hj) in
    (first, omega (arith, e, ap (λ n. n * positions) first))

module _ (a : Inside) (are : AreCells a) (new : List (List Bool)) (pattern number position : ℕ) (bit : Bool) (hp : pattern < a.patterns) (hn : number < a.numbers) (hk : position < a.positions)
    (is : IsBitSet a.cells new number (pattern * a.positions + position) bit) where
  pub cells_after : AreCells (record a { cells = new })
  cells_after = rows_later is.shape are

  pub set_at : HasBitSet (table_of a) (table_of (record a { cells = new })) pattern number position bit
  set_at = record {
    sizes = record { patterns_are = patterns_are (record a { cells = new }) cells_after ∙ sym (patterns_are a are); numbers_are = refl; positions_are = refl };
    here = bit_is (record a { cells = new }) cells_after pattern number position hp hn hk ∙ is.here;
    others = λ p n k lp ln lk apart.
        let ip : p < a.patterns = omega (arith, lp, patterns_are a are) in
        bit_is (record a { cells = new }) cells_after p n k ip ln lk
        ∙ (elim (cases_eq n number) [
          | inr ne ↦ ap (λ (row : List Bool). bit_at row (p * a.positions + k)) (is.others n ne)
          | inl same ↦ subst (λ m. row_bit new m (p * a.positions + k) ≡ row_bit a.cells m (p * a.positions + k)) (sym same)
              (is.beside (p * a.positions + k) (λ (e : p * a.positions + k ≡ pattern * a.positions + position). let at = same_place a.positions p k pattern position lk hk e in
              elim apart [ inl np ↦ np at.0 | inr rest ↦ elim rest [ inl nn ↦ nn same | inr nk ↦ nk at.1 ] ]))
        ]
        ∙ sym (bit_is a are p n k ip ln lk));
  }

-- ---- the answers of some numbers

module _ (a : Inside) (are : AreCells a) (numbers : List ℕ) (within : All (λ number. number < a.numbers) numbers) (cells : List (List Bool)) (is : cells ≡ map (row_at a.cells) numbers) where
  abbrev picked : Inside
  picked = record { cells = cells; patterns = a.patterns; numbers = length numbers; positions = a.positions }

  picked_long : length cells ≡ length numbers
  picked_long = ap length is ∙ length-map numbers (row_at a.cells)

  picked_row : (n : ℕ) → n < length numbers → row_at cells n ≡ row_at a.cells (get_or numbers n 0)
  picked_row n h = ap (λ (rows : List (List Bool)). row_at rows n) is ∙ get_or-map (row_at a.cells) numbers n 0 [] h

  pub cells_picked : AreCells picked
  cells_picked = record {
    count_is = picked_long;
    width_is = λ k d h.
        let inside : k < length numbers = omega (arith, h, picked_long) in
        ap length (get_or_default cells k d [] h ∙ picked_row k inside) ∙ width_at are (get_or numbers k 0) (within k 0 inside);
  }

  pub are_picked : ArePicked (table_of a) numbers (table_of picked)
  are_picked = record {
    sizes = record { patterns_are = patterns_are picked cells_picked ∙ sym (patterns_are a are); numbers_are = refl; positions_are = refl };
    each = λ pattern n hp hn.
        let inside : pattern < a.patterns = omega (arith, hp, patterns_are a are) in
        answer_is picked cells_picked pattern n inside hn ∙ (ap (answer_part a.positions pattern) (picked_row n hn) ∙ sym (answer_is a are pattern (get_or numbers n 0) inside (within n 0 hn)));
  }
