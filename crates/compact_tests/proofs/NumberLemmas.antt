-- Groups that are cut by rows of the numbers of answers.
use Rattle.std.proofs.Common.{◌≡◌, ◌≢◌, ◌∙◌, ◌^◌, ℕ, ◌+◌, ◌<◌, ◌≤◌, inl, inr, Bool, true, false, List, [], length, get_or, replicate, sym, ap, subst, arith}
use Rattle.std.specs.Prelude.{All, AllPairs}
use Rattle.std.proofs.lemmas.Bool.{cases_lt, cases_eq, false≢true}
use Rattle.std.proofs.lemmas.List.{ext_get_or, get_or-replicate, length-replicate}
use Rattle.net_model.specs.Rows.{bit_of, row_at, IsWordSet}
use Rattle.net_model.specs.ClassTable.{ClassTable, class_at}
use Rattle.net_model.proofs.SingleWords.{same_number}
use Rattle.class_refine.specs.Fields.{IsWhole}
use Rattle.class_refine.specs.Steps.{HasCut}
use Rattle.class_refine.proofs.Refined.{sound_from, class-refined, same_after, after_same}
use Rattle.answer_numbers.specs.AnswerNumbers.{AnswerNumbers, vector_in, AreLeadAnswers, IsAnswerNumber}
use Rattle.answer_numbers.specs.Distinct.{distinct_answers}
use Rattle.answer_numbers.proofs.DistinctLemmas.{distinct_apart}
use Rattle.compact_tests.specs.Sharing.{has_two}
use Rattle.compact_tests.proofs.SharingLemmas.{group_shared}
use Rattle.compact_tests.specs.Numbered.{IsNumberRow, AreNumberRows, HasParted}

module _ (n : AnswerNumbers) (lane : ℕ) (groups : ClassTable) (listed : List ℕ) (count : ℕ) where
  pub rows_none : (rows : List (List Bool)) → rows ≡ replicate count (replicate 32 false) → AreNumberRows n lane groups listed count 0 rows
  rows_none rows are = record {
    count_is = ap length are ∙ length-replicate {A = List Bool} count (replicate 32 false);
    widths = λ row h. ap (λ (rs : List (List Bool)). length (row_at rs row)) are ∙ (ap length (get_or-replicate {A = List Bool} count row (replicate 32 false) [] h) ∙ length-replicate {A = Bool} 32 false);
    each = λ place h shared. absurd (omega (arith, h));
  }

  module _ (within : All (λ number. number < count) listed) (ascend : AllPairs (λ x y. x < y) listed) (old new : List (List Bool)) (done number : ℕ) (inside : done < length listed) (small : number < 2 ^ 32) (is : IsAnswerNumber n lane done number)
      (set : IsWordSet old new (get_or listed done 0) 0 number) (so_far : AreNumberRows n lane groups listed count done old) where
    pub rows_more : AreNumberRows n lane groups listed count (done + 1) new
    rows_more =
        let own = get_or listed done 0 in
        let wide = so_far.widths own (within done 0 inside) in record {
          count_is = set.shape.count ∙ so_far.count_is;
          widths = λ row h. set.shape.widths row ∙ so_far.widths row h;
          each = λ place h shared. elim (cases_eq place done) [
            | inl e ↦ subst (λ (p : ℕ). IsNumberRow n lane new (get_or listed p 0) p) (sym e) (record {
              number = number;
              small = small;
              is = is;
              bits = λ at l. set.here at (omega (arith, l, wide)) (omega (arith, l)) ∙ ap (bit_of number) (omega (arith, l));
            })
            | inr ne ↦
                let low : place < done = omega (arith, h, ne) in
                let row = so_far.each place low shared in
                let other : get_or listed place 0 ≢ own = λ e. absurd (omega (arith, e, ascend place done 0 low inside)) in
                record { number = row.number; small = row.small; is = row.is; bits = λ at l. ap (λ (r : List Bool). get_or r at false) (set.others (get_or listed place 0) other) ∙ row.bits at l }
          ];
        }

  -- A number that is alone in its group needs no number in its row.
  pub rows_passed : (rows : List (List Bool)) (done : ℕ) → has_two groups (class_at groups (get_or listed done 0)) ≡ false → AreNumberRows n lane groups listed count done rows → AreNumberRows n lane groups listed count (done + 1) rows
  rows_passed rows done alone so_far = record {
    count_is = so_far.count_is;
    widths = so_far.widths;
    each = λ place h shared. elim (cases_eq place done) [
      | inl e ↦ absurd (false≢true (sym alone ∙ (ap (λ (p : ℕ). has_two groups (class_at groups (get_or listed p 0))) (sym e) ∙ shared)))
      | inr ne ↦ so_far.each place (omega (arith, h, ne)) shared
    ];
  }

-- Two rows with the numbers of the answers at two places.
module _ (n : AnswerNumbers) (lane : ℕ) (rows answers : List (List Bool)) (given : AreLeadAnswers n.circuit n.leads (vector_in n lane) answers) (a b p q : ℕ) (row_a : IsNumberRow n lane rows a p) (row_b : IsNumberRow n lane rows b q)
    (wide_a : length (row_at rows a) ≡ 32) (wide_b : length (row_at rows b) ≡ 32) where
  same_numbers : row_at rows a ≡ row_at rows b → row_a.number ≡ row_b.number
  same_numbers e = same_number 32 row_a.number row_b.number row_a.small row_b.small (λ k h. sym (row_a.bits k h) ∙ (ap (λ (r : List Bool). get_or r k false) e ∙ row_b.bits k h))

  answers_of : row_a.number ≡ row_b.number → row_at answers p ≡ row_at answers q
  answers_of e = sym (row_a.is answers given).own ∙ (ap (row_at (distinct_answers answers)) e ∙ (row_b.is answers given).own)

  pub same_answers : row_at rows a ≡ row_at rows b → row_at answers p ≡ row_at answers q
  same_answers e = answers_of (same_numbers e)

  pub same_rows : row_at answers p ≡ row_at answers q → row_at rows a ≡ row_at rows b
  same_rows e =
      let one = row_a.is answers given in
      let other = row_b.is answers given in
      let number : row_a.number ≡ row_b.number = distinct_apart answers row_a.number row_b.number one.within other.within (one.own ∙ (e ∙ sym other.own)) in
      ext_get_or false (row_at rows a) (row_at rows b) (omega (arith, wide_a, wide_b))
      (λ k h. let l : k < 32 = omega (arith, h, wide_a) in row_a.bits k l ∙ (ap (λ (m : ℕ). bit_of m k) number ∙ sym (row_b.bits k l)))

  -- Whether the rows are the same depends only on the numbers.
  pub split_or_same : (row_at rows a ≢ row_at rows b → ⊥) → row_at answers p ≡ row_at answers q
  split_or_same never = elim (cases_eq row_a.number row_b.number) [ inl e ↦ answers_of e | inr ne ↦ absurd (never (λ e. ne (same_numbers e))) ]

-- Numbers that are together before and after a cut.
module _ (old new : ClassTable) (rows : List (List Bool)) (added : ℕ) (whole : IsWhole old) (cut : HasCut old new rows added) where
  pub same_before : (a b : ℕ) → a < length old.class_of → b < length old.class_of → class_at new a ≡ class_at new b → (class_at old a ≡ class_at old b) × (0 < added → row_at rows a ≡ row_at rows b)
  same_before a b ha hb same = elim (cases_lt 0 added) [
    | inl more ↦
        let e = cut.refined more in
        let both = same_after old rows (sound_from old whole) a b ha hb (sym (class-refined old rows a ha) ∙ (sym (ap (λ (t : ClassTable). class_at t a) e) ∙ (same ∙ (ap (λ (t : ClassTable). class_at t b) e ∙ class-refined old rows b hb)))) in
        (both.0, (λ m. both.1))
    | inr none ↦
        let e = cut.unchanged (omega (arith, none)) in
        (sym (ap (λ (t : ClassTable). class_at t a) e) ∙ (same ∙ ap (λ (t : ClassTable). class_at t b) e), (λ m. absurd (omega (arith, none, m))))
  ]

  pub same_behind : (a b : ℕ) → a < length old.class_of → b < length old.class_of → class_at old a ≡ class_at old b → row_at rows a ≡ row_at rows b → class_at new a ≡ class_at new b
  same_behind a b ha hb before alike = elim (cases_lt 0 added) [
    | inl more ↦
        let e = cut.refined more in
        ap (λ (t : ClassTable). class_at t a) e
        ∙ (class-refined old rows a ha ∙ (after_same old rows a b ha hb before alike ∙ (sym (class-refined old rows b hb) ∙ sym (ap (λ (t : ClassTable). class_at t b) e))))
    | inr none ↦ let e = cut.unchanged (omega (arith, none)) in ap (λ (t : ClassTable). class_at t a) e ∙ (before ∙ sym (ap (λ (t : ClassTable). class_at t b) e))
  ]

  -- If nothing was cut, numbers that are together have the same row.
  pub unsplit : added ≤ 0 → (a b : ℕ) → a < length old.class_of → b < length old.class_of → class_at old a ≡ class_at old b → row_at rows a ≢ row_at rows b → ⊥
  unsplit none a b ha hb was differ = absurd (omega (arith, none, cut.splits.1 (record { first = a; second = b; first_below = ha; second_below = hb; together = was; differ = differ })))

module _ (n : AnswerNumbers) (lane : ℕ) (listed : List ℕ) (old new : ClassTable) (rows : List (List Bool)) (added : ℕ) (whole : IsWhole old) (within : All (λ number. number < length old.class_of) listed) (ascend : AllPairs (λ x y. x < y) listed)
    (are : AreNumberRows n lane old listed (length old.class_of) (length listed) rows) (cut : HasCut old new rows added) where
  distinct : (p q : ℕ) → p < length listed → q < length listed → (p ≡ q → ⊥) → get_or listed p 0 ≢ get_or listed q 0
  distinct p q hp hq ne e = elim (cases_lt p q) [
    | inl low ↦ absurd (omega (arith, e, ascend p q 0 low hq))
    | inr over ↦ absurd (omega (arith, e, ascend q p 0 (omega (arith, over, ne)) hp))
  ]

  pub parted : HasParted n lane listed old new
  parted = record {
    before = λ a b ha hb same. (same_before old new rows added whole cut a b ha hb same).0;
    together = λ answers given p q hp hq. elim (cases_eq p q) [
      | inl e ↦ (
        (λ same. (ap (λ (k : ℕ). class_at old (get_or listed k 0)) e, ap (row_at answers) e)),
        (λ both. ap (λ (k : ℕ). class_at new (get_or listed k 0)) e),
      )
      | inr ne ↦
          let a = get_or listed p 0 in
          let b = get_or listed q 0 in
          let ha = within p 0 hp in
          let hb = within q 0 hq in
          let other = distinct p q hp hq ne in
          let of_a : class_at old a ≡ class_at old b → has_two old (class_at old a) ≡ true = λ t. group_shared old a b ha hb other t in
          let of_b : class_at old a ≡ class_at old b → has_two old (class_at old b) ≡ true = λ t. group_shared old b a hb ha (λ e. other (sym e)) (sym t) in (
            (λ same.
                let both = same_before old new rows added whole cut a b ha hb same in (
                  both.0,
                  elim (cases_lt 0 added) [
                    | inl more ↦ same_answers n lane rows answers given a b p q (are.each p hp (of_a both.0)) (are.each q hq (of_b both.0)) (are.widths a ha) (are.widths b hb) (both.1 more)
                    | inr none ↦ split_or_same n lane rows answers given a b p q (are.each p hp (of_a both.0)) (are.each q hq (of_b both.0)) (are.widths a ha) (are.widths b hb) (unsplit old new rows added whole cut none a b ha hb both.0)
                  ],
                )),
            (λ both. same_behind old new rows added whole cut a b ha hb both.0 (same_rows n lane rows answers given a b p q (are.each p hp (of_a both.0)) (are.each q hq (of_b both.0)) (are.widths a ha) (are.widths b hb) both.1)),
          )
    ];
  }
