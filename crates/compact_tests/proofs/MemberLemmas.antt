-- Rows of the members of classes, with the numbers of the answers of their leads.
use Rattle.std.proofs.Common.{◌≡◌, ◌≢◌, ◌∙◌, ◌^◌, ℕ, ◌+◌, ◌<◌, inl, inr, Bool, false, List, length, get_or, refl, sym, ap, subst, arith}
use Rattle.std.specs.Prelude.{AllPairs, Contains}
use Rattle.std.proofs.lemmas.Bool.{cases_eq}
use Rattle.std.proofs.lemmas.List.{ext_get_or, get_or_default}
use Rattle.net_model.specs.Rows.{bit_of, row_at, row_bit, IsWordSet}
use Rattle.net_model.specs.ClassTable.{ClassTable, class_at, members}
use Rattle.class_refine.proofs.Pieces.{members-contains, members-All}
use Rattle.answer_numbers.specs.AnswerNumbers.{AnswerNumbers, IsAnswerNumber}
use Rattle.compact_tests.specs.Numbered.{AreClassRows, AreMemberRows, AreWritten}

pub written_none : (rows : List (List Bool)) (listed : List ℕ) (number : ℕ) → AreWritten rows rows listed 0 number
written_none rows listed number = record { shape = record { count = refl; widths = λ row. refl }; here = λ place at h l. absurd (omega (arith, h)); others = λ m none. refl }

pub written_more : (old mid new : List (List Bool)) (listed : List ℕ) (done number : ℕ) → length (row_at old (get_or listed done 0)) ≡ 32 → AreWritten old mid listed done number → IsWordSet mid new (get_or listed done 0) 0 number → AreWritten old new listed (done + 1) number
written_more old mid new listed done number width so_far set =
    let own = get_or listed done 0 in
    let wide : length (row_at mid own) ≡ 32 = so_far.shape.widths own ∙ width in record {
      shape = record { count = set.shape.count ∙ so_far.shape.count; widths = λ row. set.shape.widths row ∙ so_far.shape.widths row };
      here = λ place at h l. elim (cases_eq (get_or listed place 0) own) [
        | inl e ↦ subst (λ (m : ℕ). row_bit new m at ≡ bit_of number at) (sym e) (set.here at (omega (arith, l, wide)) (omega (arith, l)) ∙ ap (bit_of number) (omega (arith, l)))
        | inr ne ↦
            let low : place < done = elim (cases_eq place done) [ inl e ↦ absurd (ne (ap (λ (k : ℕ). get_or listed k 0) e)) | inr other ↦ omega (arith, h, other) ] in
            ap (λ (r : List Bool). get_or r at false) (set.others (get_or listed place 0) ne) ∙ so_far.here place at low l
      ];
      others = λ m none. set.others m (none done (omega arith)) ∙ so_far.others m (λ place h. none place (omega (arith, h)));
    }

module _ (n : AnswerNumbers) (lane : ℕ) (t : ClassTable) (listed : List ℕ) where
  pub members_none : (rows : List (List Bool)) → AreClassRows t rows → AreMemberRows n lane t listed 0 rows
  members_none rows are = record { rows_are = are; each = λ place m h hm class. absurd (omega (arith, h)) }

  module _ (ascend : AllPairs (λ x y. x < y) listed) (old new : List (List Bool)) (done number : ℕ) (inside : done < length listed) (small : number < 2 ^ 32) (is : IsAnswerNumber n lane done number)
      (written : AreWritten old new (members t (get_or listed done 0)) (length (members t (get_or listed done 0))) number) (so_far : AreMemberRows n lane t listed done old) where
    abbrev own : ℕ
    own = get_or listed done 0

    member_bits : (m at : ℕ) → m < length t.class_of → class_at t m ≡ own → at < 32 → row_bit new m at ≡ bit_of number at
    member_bits m at hm class l =
        let ms = members t own in
        let x : Contains ms m = subst (λ (c : ℕ). Contains (members t c) m) class (members-contains t m hm) in
        let there : get_or ms x.0 0 ≡ m = get_or_default ms x.0 0 m x.1 ∙ x.2 in
        subst (λ (k : ℕ). row_bit new k at ≡ bit_of number at) there (written.here x.0 at x.1 l)

    other_row : (m : ℕ) → class_at t m ≢ own → row_at new m ≡ row_at old m
    other_row m other = written.others m (λ place h e. other (ap (class_at t) e ∙ (members-All t own place 0 h).1))

    width : (m : ℕ) → m < length t.class_of → length (row_at new m) ≡ 32
    width m hm = written.shape.widths m ∙ so_far.rows_are.widths m (omega (arith, hm, so_far.rows_are.count_is))

    class_rows : AreClassRows t new
    class_rows = record {
      count_is = written.shape.count ∙ so_far.rows_are.count_is;
      widths = λ row h. width row (omega (arith, h, written.shape.count, so_far.rows_are.count_is));
      alike = λ a b ha hb same. elim (cases_eq (class_at t a) own) [
        | inl e ↦ ext_get_or false (row_at new a) (row_at new b) (width a ha ∙ sym (width b hb)) (λ k h. let l : k < 32 = omega (arith, h, width a ha) in member_bits a k ha e l ∙ sym (member_bits b k hb (sym same ∙ e) l))
        | inr ne ↦ other_row a ne ∙ (so_far.rows_are.alike a b ha hb same ∙ sym (other_row b (λ e. ne (same ∙ e))))
      ];
    }

    pub members_more : AreMemberRows n lane t listed (done + 1) new
    members_more = record {
      rows_are = class_rows;
      each = λ place m h hm class. elim (cases_eq place done) [
        | inl e ↦ record { number = number; small = small; is = subst (λ (p : ℕ). IsAnswerNumber n lane p number) (sym e) is; bits = λ at l. member_bits m at hm (class ∙ ap (λ (k : ℕ). get_or listed k 0) e) l }
        | inr ne ↦
            let low : place < done = omega (arith, h, ne) in
            let row = so_far.each place m low hm class in
            let other : class_at t m ≢ own = λ e. absurd (omega (arith, e, class, ascend place done 0 low inside)) in
            record { number = row.number; small = row.small; is = row.is; bits = λ at l. ap (λ (r : List Bool). get_or r at false) (other_row m other) ∙ row.bits at l }
      ];
    }
