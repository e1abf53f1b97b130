-- Two numbers are of one class exactly if their full-response entries are equal.
use Rattle.std.proofs.Common.{◌≡◌, ◌∙◌, ◌↔◌, ℕ, zero, suc, ◌*◌, ◌<◌, Bool, List, [], ◌∷◌, ◌++◌, length, get_or, map, take, fold, refl, sym, ap, subst, arith}
use Rattle.std.specs.Prelude.{flat_map, All}
use Rattle.std.specs.List.{range_with_len}
use Rattle.std.proofs.Math.Nat.{zero-mul}
use Rattle.std.proofs.lemmas.List.{ext_get_or, get_or-map, length-map, get_or-replicate, length-replicate, length-append, append_cancel_left}
use Rattle.std.proofs.Math.Seq.{take-append_seam}
use Rattle.std.proofs.lemmas.List.Concat.{flat_map-cons}
use Rattle.std.proofs.lemmas.List.Elements.{All-head, All-tail}
use Rattle.std.proofs.lemmas.List.FromFn.{length-map-range_with_len, get_or-map-range_with_len}
use Rattle.net_model.specs.Circuit.{Circuit, IsCircuit}
use Rattle.net_model.specs.FaultList.{fault_count}
use Rattle.net_model.specs.PatternRows.{IsTableOf}
use Rattle.net_model.specs.ClassTable.{ClassTable, class_at, first_table, refined_table, class_table}
use Rattle.class_refine.proofs.Pieces.{IsSound}
use Rattle.class_refine.proofs.Refined.{numbers-refined, class-refined, after_same, same_after, sound-refined, sound-first}
use Rattle.net_model.proofs.OneAnswer.{one_table}
use Rattle.class_refine.proofs.PatternTables.{table_numbers}
use Rattle.net_model.specs.Rows.{row_at}
use Rattle.dict_rows.specs.Rows.{AreRows}
use Rattle.dict_rows.specs.AnswerTable.{Answers, answer_in, IsTable, AreAnswers}
use Rattle.dict_rows.specs.Entries.{answers_of, full_entry}
use Rattle.table_dicts.specs.Blocks.{IsListedBit, AreRightBits}
use Rattle.table_dicts.specs.declared.simulating.Kept.TheVariants.{Bits}
use Rattle.table_dicts.specs.ByClass.{AreRowsOfClasses}
use Rattle.dict_rows.specs.Grouped.{AreFirstsOf}
use Rattle.dict_rows.proofs.EntryLemmas.{length-answers, answer_at as answer_of_at, answers_are}
use Rattle.table_dicts.proofs.FailLemmas.{is_table, answers_listed}

-- ---- classes and answers

-- Two numbers answer alike in each row.
abbrev pub AreAlike : List (List (List Bool)) → ℕ → ℕ → Type 0
AreAlike rows m n = (p : ℕ) → p < length rows → answer_in (get_or rows p []) m ≡ answer_in (get_or rows p []) n

module _ (m n : ℕ) where
  one_more : (row : List (List Bool)) (rows : List (List (List Bool))) → answer_in row m ≡ answer_in row n → AreAlike rows m n → (p : ℕ) → p < length (row ∷ rows) → answer_in (get_or (row ∷ rows) p []) m ≡ answer_in (get_or (row ∷ rows) p []) n
  one_more row rows first rest zero h = first
  one_more row rows first rest (suc p) h = rest p (omega (arith, h))

  -- Numbers that are together after more rows were together before, and answered alike since.
  together_was : (rows : List (List (List Bool))) (t : ClassTable) → IsSound t → m < length t.class_of → n < length t.class_of
      → class_at (fold refined_table t rows) m ≡ class_at (fold refined_table t rows) n → (class_at t m ≡ class_at t n) × AreAlike rows m n
  together_was [] t sound hm hn same = (same, λ p h. absurd (omega (arith, h)))
  together_was (row ∷ rows) t sound hm hn same =
      let long = numbers-refined t row in
      let later = together_was rows (refined_table t row) (sound-refined t row sound) (omega (arith, hm, long)) (omega (arith, hn, long)) same in
      let now = same_after t row sound m n hm hn (sym (class-refined t row m hm) ∙ (later.0 ∙ class-refined t row n hn)) in
      (now.0, one_more row rows now.1 later.1)

  -- Numbers that were together and answered alike since are together.
  together_since : (rows : List (List (List Bool))) (t : ClassTable) → m < length t.class_of → n < length t.class_of → class_at t m ≡ class_at t n → AreAlike rows m n
      → class_at (fold refined_table t rows) m ≡ class_at (fold refined_table t rows) n
  together_since [] t hm hn same alike = same
  together_since (row ∷ rows) t hm hn same alike =
      let long = numbers-refined t row in
      let now = class-refined t row m hm ∙ (after_same t row m n hm hn same (alike 0 (omega arith)) ∙ sym (class-refined t row n hn)) in
      together_since rows (refined_table t row) (omega (arith, hm, long)) (omega (arith, hn, long)) now (λ p h. alike (suc p) (omega (arith, h)))

-- Two numbers are of one class exactly if they answer alike in each row.
pub together_where_alike : (numbers m n : ℕ) (rows : List (List (List Bool))) → m < numbers → n < numbers → (class_at (class_table numbers rows) m ≡ class_at (class_table numbers rows) n) ↔ AreAlike rows m n
together_where_alike numbers m n rows hm hn =
    let long = length-replicate {A = ℕ} numbers 0 in
    let im : m < length (first_table numbers).class_of = omega (arith, hm, long) in
    let in_first : n < length (first_table numbers).class_of = omega (arith, hn, long) in (
      λ same. (together_was m n rows (first_table numbers) (sound-first numbers) im in_first same).1,
      λ alike. together_since m n rows (first_table numbers) im in_first (get_or-replicate {A = ℕ} numbers m 0 0 hm ∙ sym (get_or-replicate {A = ℕ} numbers n 0 0 hn)) alike,
    )

-- ---- answers and entries

-- Pieces one after another.
abbrev joined : List (List Bool) → List Bool
joined parts = flat_map (λ part. part) parts

joined_more : (x : List Bool) (xs : List (List Bool)) → joined (x ∷ xs) ≡ x ++ joined xs
joined_more x xs = let same : List Bool → List Bool = λ part. part in flat_map-cons same x xs

-- An entry has the answers one after another.
entry_of_answers : (rows : List (List (List Bool))) (n : ℕ) → full_entry rows n ≡ joined (answers_of rows n)
entry_of_answers [] n = refl
entry_of_answers (row ∷ rows) n =
    flat_map-cons (λ row. answer_in row n) row rows ∙ (ap (λ (rest : List Bool). answer_in row n ++ rest) (entry_of_answers rows n) ∙ sym (joined_more (answer_in row n) (answers_of rows n)))

-- If the whole is the same, pieces of one width are the same.
same_parts : (width : ℕ) (xs ys : List (List Bool)) → length xs ≡ length ys → All (λ x. length x ≡ width) xs → All (λ y. length y ≡ width) ys → joined xs ≡ joined ys → xs ≡ ys
same_parts width [] [] long wx wy e = refl
same_parts width [] (y ∷ ys) long wx wy e = absurd (omega (arith, long))
same_parts width (x ∷ xs) [] long wx wy e = absurd (omega (arith, long))
same_parts width (x ∷ xs) (y ∷ ys) long wx wy e =
    let whole : x ++ joined xs ≡ y ++ joined ys = sym (joined_more x xs) ∙ (e ∙ joined_more y ys) in
    let wide : length x ≡ length y = All-head (λ z. length z ≡ width) x xs wx ∙ sym (All-head (λ z. length z ≡ width) y ys wy) in
    let first : x ≡ y = sym (take-append_seam x (joined xs)) ∙ (ap (take (length x)) whole ∙ (ap (λ n. take n (y ++ joined ys)) wide ∙ take-append_seam y (joined ys))) in
    let rest : joined xs ≡ joined ys = append_cancel_left x (joined xs) (joined ys) (whole ∙ ap (λ (z : List Bool). z ++ joined ys) (sym first)) in
    let more = same_parts width xs ys (omega (arith, long)) (All-tail (λ z. length z ≡ width) x xs wx) (All-tail (λ z. length z ≡ width) y ys wy) rest in
    λ i. first i ∷ more i

length-parts : (width : ℕ) (xs : List (List Bool)) → All (λ x. length x ≡ width) xs → length (joined xs) ≡ length xs * width
length-parts width [] all = sym (zero-mul width)
length-parts width (x ∷ xs) all =
    omega (arith, ap length (joined_more x xs), length-append x (joined xs), All-head (λ z. length z ≡ width) x xs all, length-parts width xs (All-tail (λ z. length z ≡ width) x xs all))

module _ (t : Answers) (is : IsTable t) where
  -- An entry has a bit for each pattern and position.
  pub length-full : (n : ℕ) → n < t.numbers → length (full_entry t.rows n) ≡ length t.rows * t.positions
  length-full n h =
      ap length (entry_of_answers t.rows n)
      ∙ (length-parts t.positions (answers_of t.rows n) (answers_are t is n h).width_is ∙ ap (λ k. k * t.positions) (length-answers t n))

  -- Equal entries are those of equal answers.
  pub same_answers : (m n : ℕ) → m < t.numbers → n < t.numbers → full_entry t.rows m ≡ full_entry t.rows n → answers_of t.rows m ≡ answers_of t.rows n
  same_answers m n hm hn same =
      let one = answers_are t is m hm in
      let two = answers_are t is n hn in
      same_parts t.positions (answers_of t.rows m) (answers_of t.rows n) (one.count_is ∙ sym two.count_is) one.width_is two.width_is (sym (entry_of_answers t.rows m) ∙ (same ∙ entry_of_answers t.rows n))

  alike_entries : (m n : ℕ) → m < t.numbers → n < t.numbers → AreAlike t.rows m n ↔ (full_entry t.rows m ≡ full_entry t.rows n)
  alike_entries m n hm hn =
      let one = answers_are t is m hm in
      let two = answers_are t is n hn in (
        λ alike. entry_of_answers t.rows m ∙ (ap joined
            (ext_get_or [] (answers_of t.rows m) (answers_of t.rows n) (one.count_is ∙ sym two.count_is) (λ p h.
            let inside : p < length t.rows = omega (arith, h, one.count_is) in
            answer_of_at t p m inside ∙ (alike p inside ∙ sym (answer_of_at t p n inside)))) ∙ sym (entry_of_answers t.rows n)),
        λ same p h. sym (answer_of_at t p m h) ∙ (ap (λ (answers : List (List Bool)). row_at answers p) (same_answers m n hm hn same) ∙ answer_of_at t p n h),
      )

-- The entries of all numbers.
abbrev pub entries_of : Answers → List (List Bool)
entries_of t = map (full_entry t.rows) (range_with_len 0 t.numbers)

module _ (c : Circuit) (is : IsCircuit c) (patterns : List (List Bool)) (t : Answers) (are : AreAnswers c patterns t) where
  table : IsTable t
  table = is_table c patterns t are

  pub entry_at : (n : ℕ) → n < t.numbers → row_at (entries_of t) n ≡ full_entry t.rows n
  entry_at n h = get_or-map-range_with_len (full_entry t.rows) 0 t.numbers n n [] h (omega arith)

  pub entries_are : AreRows t.numbers (length t.rows * t.positions) (entries_of t)
  entries_are = record {
    count_is = length-map-range_with_len (full_entry t.rows) 0 t.numbers;
    width_is = λ k d h.
        let inside : k < t.numbers = omega (arith, h, length-map-range_with_len (full_entry t.rows) 0 t.numbers) in
        ap length (get_or-map-range_with_len (full_entry t.rows) 0 t.numbers k k d inside (omega arith)) ∙ length-full t table k inside;
  }

  -- The answers have one table.
  pub entries_of_classes : (classes : ClassTable) → IsTableOf c patterns classes → AreRowsOfClasses classes (entries_of t)
  entries_of_classes classes of =
      let numbers = table_numbers of in
      let own : IsTableOf c patterns (class_table (fault_count c) t.rows) = record { rows = t.rows; answers = are.rows; table = refl } in
      let same : classes ≡ class_table t.numbers t.rows = one_table c is of own ∙ ap (λ n. class_table n t.rows) (sym are.numbers) in
      record {
        one_each = entries_are.count_is ∙ (are.numbers ∙ sym numbers);
        equal = λ m n hm hn.
            let im : m < t.numbers = omega (arith, hm, numbers, are.numbers) in
            let in_t : n < t.numbers = omega (arith, hn, numbers, are.numbers) in
            let classes_where = together_where_alike t.numbers m n t.rows im in_t in
            let entries_where = alike_entries t table m n im in_t in (
              λ together. entry_at m im ∙ (entries_where.0 (classes_where.0 (subst (λ (u : ClassTable). class_at u m ≡ class_at u n) same together)) ∙ sym (entry_at n in_t)),
              λ equal. subst (λ (u : ClassTable). class_at u m ≡ class_at u n) (sym same) (classes_where.1 (entries_where.1 (sym (entry_at m im) ∙ (equal ∙ entry_at n in_t)))),
            );
      }

  -- Right bits of listed numbers are the entries of these numbers.
  module _ (numbers : List ℕ) (inside : All (λ number. number < fault_count c) numbers) (listed : Answers) (whole : IsTable listed)
      (right : AreRightBits (IsListedBit Bits c patterns numbers) (length patterns) (length numbers) (length c.positions) (length patterns) listed) where
    pub entry_listed : (place : ℕ) → place < length numbers → full_entry listed.rows place ≡ full_entry t.rows (get_or numbers place 0)
    entry_listed place h =
        entry_of_answers listed.rows place ∙ (ap joined (answers_listed c patterns t are numbers inside listed whole right place h) ∙ sym (entry_of_answers t.rows (get_or numbers place 0)))

    pub cells_listed : (cells : List (List Bool)) → cells ≡ map (full_entry listed.rows) (range_with_len 0 listed.numbers) → cells ≡ map (λ n. row_at (entries_of t) n) numbers
    cells_listed cells is =
        let long : length cells ≡ length numbers = ap length is ∙ (length-map-range_with_len (full_entry listed.rows) 0 listed.numbers ∙ right.sizes.numbers_are) in
        ext_get_or [] cells (map (λ n. row_at (entries_of t) n) numbers) (long ∙ sym (length-map numbers (λ n. row_at (entries_of t) n))) (λ place h.
        let h_in : place < length numbers = omega (arith, h, long) in
        ap (λ (rows : List (List Bool)). row_at rows place) is
        ∙ (get_or-map-range_with_len (full_entry listed.rows) 0 listed.numbers place place [] (omega (arith, h_in, right.sizes.numbers_are)) (omega arith)
        ∙ (entry_listed place h_in
        ∙ (sym (entry_at (get_or numbers place 0) (omega (arith, inside place 0 h_in, are.numbers))) ∙ sym (get_or-map (λ n. row_at (entries_of t) n) numbers place 0 [] h_in)))))

-- ---- groups of the numbers of a circuit by their classes

module _ (c : Circuit) (is : IsCircuit c) (patterns : List (List Bool)) (classes : ClassTable) (of : IsTableOf c patterns classes) (numbers : ℕ) (all : numbers ≡ fault_count c) (groups firsts : List ℕ)
    (sorted : (rows : List (List Bool)) → AreRowsOfClasses classes rows → AreFirstsOf rows numbers groups firsts) where
  -- The groups are those of equal entries.
  pub firsts_by : (t : Answers) → AreAnswers c patterns t → AreFirstsOf (entries_of t) (length (entries_of t)) groups firsts
  firsts_by t are =
      let long : numbers ≡ length (entries_of t) = all ∙ (sym are.numbers ∙ sym (entries_are c is patterns t are).count_is) in
      subst (λ n. AreFirstsOf (entries_of t) n groups firsts) long (sorted (entries_of t) (entries_of_classes c is patterns t are classes of))
