-- The candidates of a pattern by their numbers.
use Rattle.std.proofs.Common.{◌≡◌, ◌∙◌, ℕ, ◌+◌, ◌<◌, ◌≤◌, Bool, eqb, set, List, [], ◌∷◌, ◌++◌, length, get_or, refl, sym, ap, subst, arith, inl, inr, Contains}
use Rattle.std.proofs.lemmas.Bool.{cases_lt, cases_eq, eqb-true, eq-eqb}
use Rattle.std.proofs.lemmas.List.{ext_get_or, length_push, length-set, get_or_append_left, get_or_push, get_or-set_same, get_or-set_other, get_or_default}
use Rattle.std.proofs.lemmas.List.Elements.{Contains-get_or}
use Rattle.std.proofs.lemmas.List.FromFn.{get_or-map-range_with_len, length-map-range_with_len}
use Rattle.std.specs.Cmp.Derive.{one_truth}
use Rattle.net_model.specs.ClassTable.{ClassTable, class_count, representative, same_bits}
use Rattle.dict_rows.specs.AnswerTable.{answer_in}
use Rattle.dict_rows.specs.Grouped.{AreGroupsOf, AreDifferent}
use Rattle.dict_rows.proofs.EntryLemmas.{same_bits-Decides}
use Rattle.samediff_dict.specs.declared.numbering.Candidates.{Candidates}
use Rattle.answer_numbers.specs.Distinct.{distinct_answers}
use Rattle.samediff_dict.specs.Chosen.{candidates}
use Rattle.samediff_dict.specs.Numbered.{class_answers, AreNumbersOf, AreCandidates, AreChosen, baselines_at}
use Rattle.answer_numbers.proofs.DistinctLemmas.{from_distinct, distinct-few}
use Rattle.samediff_dict.proofs.DistinctLemmas.{entries_distinct, group_below}

abbrev pub none : Candidates
none = record { numbers = []; count = 0 }

-- the groups of answers number the distinct ones
pub numbers_of_groups : (answers : List (List Bool)) (groups : List ℕ) (entries : List (List Bool)) (c : Candidates) → AreGroupsOf answers groups entries → c.numbers ≡ groups → c.count ≡ length entries → AreNumbersOf answers c
numbers_of_groups answers groups entries c are numbers count =
    let same : entries ≡ distinct_answers answers = entries_distinct answers groups entries are in
    record {
      count_is = count ∙ ap length same;
      different = subst AreDifferent same are.grouped.different;
      one_each = ap length numbers ∙ are.grouped.one_each;
      within = λ place h. omega (arith, group_below answers groups entries are place h, ap length same, ap (λ (xs : List ℕ). get_or xs place 0) numbers);
      own = λ place h. ap (λ (es : List (List Bool)). get_or es (get_or c.numbers place 0) []) (sym same) ∙ (ap (λ (xs : List ℕ). get_or entries (get_or xs place 0) []) numbers ∙ are.own place h);
    }

-- there are at most as many of them as answers
pub groups_few : {answers : List (List Bool)} {groups : List ℕ} {entries : List (List Bool)} → AreGroupsOf answers groups entries → length entries ≤ length answers
groups_few {answers} {groups} {entries} are = omega (arith, ap length (entries_distinct answers groups entries are), distinct-few answers)

-- the distinct answers of the classes are the candidates
pub candidates_of_numbers : (t : ClassTable) (row : List (List Bool)) (c : Candidates) → AreNumbersOf (class_answers t row) c → AreCandidates t row c
unfolding candidates
candidates_of_numbers t row c are =
    let answer : ℕ → List Bool = λ class. answer_in row (representative t class) in
    let long : length (class_answers t row) ≡ class_count t = length-map-range_with_len answer 0 (class_count t) in
    record {
      count_is = are.count_is;
      different = are.different;
      one_each = are.one_each ∙ long;
      within = λ class h. are.within class (omega (arith, h, long));
      own = λ class h. are.own class (omega (arith, h, long)) ∙ get_or-map-range_with_len answer 0 (class_count t) class class [] h (omega arith);
    }

-- there is a class for each candidate
pub some_class : (t : ClassTable) (row : List (List Bool)) (c : Candidates) (answer : ℕ) → AreCandidates t row c → answer < length (candidates t row) → Contains c.numbers answer
unfolding candidates
some_class t row c answer are h =
    let own : ℕ → List Bool = λ class. answer_in row (representative t class) in
    let w = from_distinct (class_answers t row) (get_or (candidates t row) answer []) (Contains-get_or (distinct_answers (class_answers t row)) answer [] h) in
    let below : w.0 < class_count t = omega (arith, w.1, length-map-range_with_len own 0 (class_count t)) in
    let answers : own w.0 ≡ get_or (candidates t row) answer [] = sym (get_or-map-range_with_len own 0 (class_count t) w.0 w.0 [] below (omega arith)) ∙ (get_or_default (class_answers t row) w.0 [] (get_or (candidates t row) answer []) w.1 ∙ w.2) in
    let number : get_or c.numbers w.0 0 ≡ answer = are.different.apart (get_or c.numbers w.0 0) answer (are.within w.0 below) h (are.own w.0 below ∙ answers) in
    (w.0, omega (arith, below, are.one_each), get_or_default c.numbers w.0 answer 0 (omega (arith, below, are.one_each)) ∙ number)

-- one more at the end of a list
pub each_push : {X : Type 0} (P : ℕ → X → Type 0) (xs : List X) (x : X) (done : ℕ) → length xs ≡ done → ((k : ℕ) (d : X) → k < done → P k (get_or xs k d)) → P done x → (k : ℕ) (d : X) → k < done + 1 → P k (get_or (xs ++ x ∷ []) k d)
each_push P xs x done long each here k d h = elim (cases_lt k done) [
  | inl low ↦ subst (P k) (sym (get_or_append_left xs (x ∷ []) d k (omega (arith, low, long)))) (each k d low)
  | inr over ↦
      let e : done ≡ k = omega (arith, h, over) in
      subst (λ j. P j (get_or (xs ++ x ∷ []) j d)) e (subst (P done) (sym (get_or_push xs x d done long)) here)
]

-- the same after others
pub added_push : {X : Type 0} (P : ℕ → X → Type 0) (old : ℕ) (xs : List X) (x : X) (done : ℕ) → length xs ≡ old + done → ((k : ℕ) (d : X) → k < done → P k (get_or xs (old + k) d)) → P done x
    → (k : ℕ) (d : X) → k < done + 1 → P k (get_or (xs ++ x ∷ []) (old + k) d)
added_push P old xs x done long each here k d h = elim (cases_lt k done) [
  | inl low ↦ subst (P k) (sym (get_or_append_left xs (x ∷ []) d (old + k) (omega (arith, low, long)))) (each k d low)
  | inr over ↦
      let e : done ≡ k = omega (arith, h, over) in
      subst (λ j. P j (get_or (xs ++ x ∷ []) (old + j) d)) e (subst (P done) (sym (get_or_push xs x d (old + done) long)) here)
]

-- a class answers a candidate exactly if it has its number
pub code_is : (t : ClassTable) (row : List (List Bool)) (c : Candidates) → AreCandidates t row c → (class answer : ℕ) → class < class_count t → answer < length (candidates t row)
    → eqb (get_or c.numbers class 0) answer ≡ same_bits (answer_in row (representative t class)) (get_or (candidates t row) answer [])
code_is t row c are class answer h ha =
    let code = get_or c.numbers class 0 in
    let own = answer_in row (representative t class) in
    let test = same_bits-Decides own (get_or (candidates t row) answer []) in
    one_truth (eqb code answer) (same_bits own (get_or (candidates t row) answer []))
    (λ so. test.1 (sym (are.own class h) ∙ ap (λ k. get_or (candidates t row) k []) (eqb-true code answer so)))
    (λ so. eq-eqb code answer (are.different.apart code answer (are.within class h) ha (are.own class h ∙ test.0 so)))

-- ---- baselines by their numbers

module _ (t : ClassTable) (rows : List (List (List Bool))) where
  abbrev pub candidate : ℕ → ℕ → List Bool
  candidate pattern answer = get_or (candidates t (get_or rows pattern [])) answer []

  pub length-baselines : (chosen : List ℕ) → length (baselines_at t rows chosen) ≡ length chosen
  length-baselines chosen = length-map-range_with_len (λ pattern. candidate pattern (get_or chosen pattern 0)) 0 (length chosen)

  pub base_at : (chosen : List ℕ) (pattern : ℕ) → pattern < length chosen → get_or (baselines_at t rows chosen) pattern [] ≡ candidate pattern (get_or chosen pattern 0)
  base_at chosen pattern h = get_or-map-range_with_len (λ q. candidate q (get_or chosen q 0)) 0 (length chosen) pattern pattern [] h (omega arith)

  pub baselines_push : (chosen : List ℕ) (answer : ℕ) → baselines_at t rows (chosen ++ answer ∷ []) ≡ baselines_at t rows chosen ++ candidate (length chosen) answer ∷ []
  baselines_push chosen answer =
      let bs = baselines_at t rows chosen in
      let long = length-baselines chosen in
      let more = length_push chosen answer in
      ext_get_or [] (baselines_at t rows (chosen ++ answer ∷ [])) (bs ++ candidate (length chosen) answer ∷ []) (omega (arith, length-baselines (chosen ++ answer ∷ []), more, length_push bs (candidate (length chosen) answer), long))
      (λ k h.
      let inside : k < length (chosen ++ answer ∷ []) = omega (arith, h, length-baselines (chosen ++ answer ∷ [])) in
      base_at (chosen ++ answer ∷ []) k inside ∙ elim (cases_lt k (length chosen)) [
        | inl low ↦
            ap (candidate k) (get_or_append_left chosen (answer ∷ []) 0 k low)
            ∙ (sym (base_at chosen k low) ∙ sym (get_or_append_left bs (candidate (length chosen) answer ∷ []) [] k (omega (arith, low, long))))
        | inr over ↦
            let e : k ≡ length chosen = omega (arith, inside, more, over) in
            ap (candidate k) (get_or_push chosen answer 0 k (sym e)) ∙ (ap (λ q. candidate q answer) e ∙ sym (get_or_push bs (candidate (length chosen) answer) [] k (omega (arith, e, long))))
      ])

  pub baselines_set : (chosen : List ℕ) (pattern answer : ℕ) → pattern < length chosen → baselines_at t rows (set chosen pattern answer) ≡ set (baselines_at t rows chosen) pattern (candidate pattern answer)
  baselines_set chosen pattern answer h =
      let bs = baselines_at t rows chosen in
      let long = length-baselines chosen in
      let wide = length-set chosen pattern answer in
      ext_get_or [] (baselines_at t rows (set chosen pattern answer)) (set bs pattern (candidate pattern answer)) (omega (arith, length-baselines (set chosen pattern answer), wide, length-set bs pattern (candidate pattern answer), long))
      (λ k hk.
      let inside : k < length chosen = omega (arith, hk, length-baselines (set chosen pattern answer), wide) in
      base_at (set chosen pattern answer) k (omega (arith, inside, wide)) ∙ elim (cases_eq k pattern) [
        | inl e ↦ subst (λ q. candidate q (get_or (set chosen pattern answer) q 0) ≡ get_or (set bs pattern (candidate pattern answer)) q []) (sym e)
            (ap (candidate pattern) (get_or-set_same chosen pattern answer 0 h) ∙ sym (get_or-set_same bs pattern (candidate pattern answer) [] (omega (arith, h, long))))
        | inr ne ↦
            ap (candidate k) (get_or-set_other chosen pattern k answer 0 ne) ∙ (sym (base_at chosen k inside) ∙ sym (get_or-set_other bs pattern k (candidate pattern answer) [] ne))
      ])

  pub chosen_push : (chosen : List ℕ) (answer : ℕ) → AreChosen t rows chosen → answer < length (candidates t (get_or rows (length chosen) [])) → AreChosen t rows (chosen ++ answer ∷ [])
  chosen_push chosen answer are is k h = elim (cases_lt k (length chosen)) [
    | inl low ↦ subst (λ a. a < length (candidates t (get_or rows k []))) (sym (get_or_append_left chosen (answer ∷ []) 0 k low)) (are k low)
    | inr over ↦
        let e : length chosen ≡ k = omega (arith, h, length_push chosen answer, over) in
        subst (λ q. get_or (chosen ++ answer ∷ []) q 0 < length (candidates t (get_or rows q []))) e
        (subst (λ a. a < length (candidates t (get_or rows (length chosen) []))) (sym (get_or_push chosen answer 0 (length chosen) refl)) is)
  ]

  pub chosen_set : (chosen : List ℕ) (pattern answer : ℕ) → AreChosen t rows chosen → pattern < length chosen → answer < length (candidates t (get_or rows pattern [])) → AreChosen t rows (set chosen pattern answer)
  chosen_set chosen pattern answer are hp is k h = elim (cases_eq k pattern) [
    | inl e ↦ subst (λ q. get_or (set chosen pattern answer) q 0 < length (candidates t (get_or rows q []))) (sym e)
        (subst (λ a. a < length (candidates t (get_or rows pattern []))) (sym (get_or-set_same chosen pattern answer 0 hp)) is)
    | inr ne ↦ subst (λ a. a < length (candidates t (get_or rows k []))) (sym (get_or-set_other chosen pattern k answer 0 ne)) (are k (omega (arith, h, length-set chosen pattern answer)))
  ]
