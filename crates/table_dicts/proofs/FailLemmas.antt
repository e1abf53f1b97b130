-- Pass/fail entries, made from where answers differ from the fault-free ones.
use Rattle.std.proofs.Common.{◌≡◌, ◌∙◌, ℕ, ◌<◌, Bool, false, not, List, [], ◌∷◌, ◌++◌, length, get_or, map, refl, sym, ap, subst, arith}
use Rattle.std.specs.Prelude.{flat_map, All}
use Rattle.std.proofs.lemmas.List.{ext_get_or, get_or-map, get_or_default, length-map}
use Rattle.std.proofs.lemmas.List.Concat.{flat_map-cons}
use Rattle.std.proofs.lemmas.List.Elements.{All-head, All-tail}
use Rattle.std.proofs.lemmas.Slice.Zip.{AllZip-long}
use Rattle.net_model.specs.declared.fault.Fault.TheVariants.{Free}
use Rattle.net_model.specs.Circuit.{Circuit}
use Rattle.net_model.specs.Answer.{bit_at, IsAnswer}
use Rattle.net_model.specs.FaultList.{faults, fault_count, fault_numbered}
use Rattle.net_model.specs.ClassTable.{same_bits}
use Rattle.net_model.specs.PatternRows.{IsAnswerRow}
use Rattle.net_model.proofs.Copies.{same_bits_same_list}
use Rattle.net_model.proofs.Listed.{some_number}
use Rattle.class_refine.proofs.Ranges.{zip_at}
use Rattle.class_refine.proofs.PatternTables.{answer_width, answer_in_row}
use Rattle.dict_rows.specs.AnswerTable.{Answers, answer_in, answer_to, answer_bit, IsTable, AreAnswers}
use Rattle.dict_rows.specs.Entries.{answers_of, full_entry, free_baselines, pass_fail_entry}
use Rattle.table_dicts.specs.Blocks.{IsListedBit, AreRightBits}
use Rattle.table_dicts.specs.declared.simulating.Kept.TheVariants.{Bits, Fails}
use Rattle.dict_rows.proofs.EntryLemmas.{length-answers, answer_at, answers_are, length-entry, entry_bit}

-- ---- entries of one bit for each pattern

one_bit : (xs : List Bool) → length xs ≡ 1 → xs ≡ bit_at xs 0 ∷ []
one_bit [] e = absurd (omega (arith, e))
one_bit (x ∷ []) e = refl
one_bit (x ∷ y ∷ xs) e = absurd (omega (arith, e))

single : (rows : List (List (List Bool))) (number : ℕ) → All (λ row. length (answer_in row number) ≡ 1) rows → flat_map (λ row. answer_in row number) rows ≡ map (λ row. bit_at (answer_in row number) 0) rows
single [] number all = refl
single (row ∷ rows) number all =
    let head = one_bit (answer_in row number) (All-head (λ row. length (answer_in row number) ≡ 1) row rows all) in
    flat_map-cons (λ row. answer_in row number) row rows ∙ (λ i. head i ++ single rows number (All-tail (λ row. length (answer_in row number) ≡ 1) row rows all) i)

module _ (bits : Answers) (is : IsTable bits) (one : bits.positions ≡ 1) (number : ℕ) (h : number < bits.numbers) where
  pub entry_is : full_entry bits.rows number ≡ map (λ row. bit_at (answer_in row number) 0) bits.rows
  entry_is = single bits.rows number (λ k d below. subst (λ row. length (answer_in row number) ≡ 1) (get_or_default bits.rows k [] d below) (is.positions k number below h ∙ one))

  pub entry_bit_is : (pattern : ℕ) → pattern < length bits.rows → bit_at (full_entry bits.rows number) pattern ≡ answer_bit bits pattern number 0
  entry_bit_is pattern below = ap (λ (xs : List Bool). bit_at xs pattern) entry_is ∙ get_or-map (λ row. bit_at (answer_in row number) 0) bits.rows pattern [] false below

  pub length-entry_is : length (full_entry bits.rows number) ≡ length bits.rows
  length-entry_is = ap length entry_is ∙ length-map bits.rows (λ row. bit_at (answer_in row number) 0)

-- Number 0 is the fault-free circuit.
first_is_free : (c : Circuit) → fault_numbered c 0 ≡ Free
unfolding faults
first_is_free c = refl

module _ (c : Circuit) (patterns : List (List Bool)) (t : Answers) (are : AreAnswers c patterns t) where
  pub patterns_are : length t.rows ≡ length patterns
  patterns_are = AllZip-long (IsAnswerRow c) patterns t.rows are.rows

  row_is : (p : ℕ) → p < length patterns → IsAnswerRow c (get_or patterns p []) (get_or t.rows p [])
  row_is p h = zip_at (IsAnswerRow c) patterns t.rows p [] [] are.rows h

  pub answer_is : (p n : ℕ) → p < length patterns → n < fault_count c → IsAnswer c (fault_numbered c n) (get_or patterns p []) (answer_to t p n)
  answer_is p n hp hn = answer_in_row c (get_or patterns p []) (get_or t.rows p []) (row_is p hp) n hn

  free_is : (p : ℕ) → p < length patterns → IsAnswer c Free (get_or patterns p []) (answer_to t p 0)
  free_is p h = subst (λ f. IsAnswer c f (get_or patterns p []) (answer_to t p 0)) (first_is_free c) (answer_is p 0 h (some_number c))

  pub is_table : IsTable t
  is_table = record {
    numbers = λ p h. AllZip-long (λ f answer. IsAnswer c f (get_or patterns p []) answer) (faults c) (get_or t.rows p []) (row_is p (omega (arith, h, patterns_are))) ∙ sym are.numbers;
    positions = λ p n hp hn. answer_width (answer_is p n (omega (arith, hp, patterns_are)) (omega (arith, hn, are.numbers))) ∙ sym are.positions;
  }

  -- Right answers of listed numbers are the answers of these numbers.
  module _ (numbers : List ℕ) (inside : All (λ number. number < fault_count c) numbers) (listed : Answers) (whole : IsTable listed)
      (right : AreRightBits (IsListedBit Bits c patterns numbers) (length patterns) (length numbers) (length c.positions) (length patterns) listed) where
    pub answer_listed : (p place : ℕ) → p < length patterns → place < length numbers → answer_to listed p place ≡ answer_to t p (get_or numbers place 0)
    answer_listed p place hp h =
        let number = get_or numbers place 0 in
        let of = answer_is p number hp (inside place 0 h) in
        let long : length (answer_to listed p place) ≡ length c.positions = whole.positions p place (omega (arith, hp, right.sizes.patterns_are)) (omega (arith, h, right.sizes.numbers_are)) ∙ right.sizes.positions_are in
        same_bits_same_list (answer_to listed p place) (answer_to t p number) (long ∙ sym (answer_width of)) (λ k hk. right.each p place k hp h (omega (arith, hk, long)) (answer_to t p number) of)

    pub answers_listed : (place : ℕ) → place < length numbers → answers_of listed.rows place ≡ answers_of t.rows (get_or numbers place 0)
    answers_listed place h =
        let number = get_or numbers place 0 in
        ext_get_or [] (answers_of listed.rows place) (answers_of t.rows number) (length-answers listed place ∙ (right.sizes.patterns_are ∙ (sym patterns_are ∙ sym (length-answers t number)))) (λ p hp.
        let live : p < length patterns = omega (arith, hp, length-answers listed place, right.sizes.patterns_are) in
        answer_at listed p place (omega (arith, live, right.sizes.patterns_are)) ∙ (answer_listed p place live h ∙ sym (answer_at t p number (omega (arith, live, patterns_are)))))

  -- Right answers of number 0 are the fault-free baselines.
  pub baselines_are : (free : Answers) → IsTable free → AreRightBits (IsListedBit Bits c patterns (0 ∷ [])) (length patterns) 1 (length c.positions) (length patterns) free → answers_of free.rows 0 ≡ free_baselines t.rows
  baselines_are free is right = answers_listed (0 ∷ []) (λ k d h. let zero : k ≡ 0 = omega (arith, h) in rw zero (some_number c)) free is right 0 (omega arith)

  -- Right bits of listed numbers are the pass/fail entries of these numbers.
  module _ (numbers : List ℕ) (within : All (λ number. number < fault_count c) numbers) (bits : Answers) (is : IsTable bits)
      (right : AreRightBits (IsListedBit Fails c patterns numbers) (length patterns) (length numbers) 1 (length patterns) bits) where
    pub fails_are : (place : ℕ) → place < length numbers → full_entry bits.rows place ≡ pass_fail_entry t.rows (get_or numbers place 0)
    fails_are place h =
        let sizes = right.sizes in
        let number = get_or numbers place 0 in
        let own : place < bits.numbers = omega (arith, h, sizes.numbers_are) in
        let zero_in : 0 < t.numbers = omega (arith, some_number c, are.numbers) in
        let baselines = answers_are t is_table 0 zero_in in
        let long = length-entry_is bits is sizes.positions_are place own in
        same_bits_same_list (full_entry bits.rows place) (pass_fail_entry t.rows number) (long ∙ (sizes.patterns_are ∙ (sym patterns_are ∙ sym (length-entry t (free_baselines t.rows) baselines number)))) (λ p hp.
        let inside : p < length patterns = omega (arith, hp, long, sizes.patterns_are) in
        let in_table : p < length t.rows = omega (arith, inside, patterns_are) in
        entry_bit_is bits is sizes.positions_are place own p (omega (arith, hp, long))
        ∙ (right.each p place 0 inside h (omega arith) (answer_to t p number) (answer_to t p 0) (answer_is p number inside (within place 0 h)) (free_is p inside)
        ∙ (ap (λ (b : List Bool). not (same_bits (answer_to t p number) b)) (sym (answer_at t p 0 in_table)) ∙ entry_bit t (free_baselines t.rows) baselines p number in_table)))
