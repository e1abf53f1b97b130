-- What lines state with one more, and what may not come after the end.
use Rattle.std.proofs.Common.{◌≡◌, ◌∙◌, ℕ, ◌+◌, ◌<◌, ◌≤◌, Bool, true, false, cond, List, [], ◌∷◌, ◌++◌, length, length-append, Option, None, refl, sym, ap, arith}
use Rattle.std.specs.Prelude.{unwrap_or}
use Rattle.std.specs.List.{count_by, filter_map, slice_get}
use Rattle.std.proofs.lemmas.List.Elements.{filter_map-append}
use Rattle.std.proofs.lemmas.List.Sums.{sum_by-append, count_by-le-length}
use Rattle.std.proofs.lemmas.Bool.{false_from_ne_true}
use Rattle.net_model.specs.ClassTable.{ClassTable}
use Rattle.result_records.specs.declared.record.Budgets.{Budgets}
use Rattle.result_records.specs.declared.record.Mark.{Mark}
use Rattle.result_records.specs.declared.record.Mark.TheVariants as mark
use Rattle.result_records.specs.declared.record.Record.{Record}
use Rattle.result_records.specs.declared.record.Record.TheVariants.{Head, Budget, Pattern, Same, Class, Member, End}
use Rattle.result_records.specs.Marks.{is_class, is_member, is_end, class_lines, member_lines, end_lines}
use Rattle.result_file.specs.Summary.{is_equal, is_open}
use Rattle.result_records.specs.Limits.{AreWithinLimits}
use Rattle.result_file.specs.Lines.{IsInPlace, budgets_of, no_budgets}
use Rattle.dia_check.specs.declared.progress.Progress.{Progress}
use Rattle.dia_check.specs.Progress.{IsProgress, IsEnded, no_progress, with_member}
use Rattle.dia_check.proofs.Counting.{count_same, count_up, read_same, length_one}

-- At first nothing is stated.
pub progress_none : IsProgress [] no_progress
progress_none =
    let none : AreWithinLimits no_budgets = record { blocks = omega arith; cubes = omega arith; conflicts = omega arith } in
    record { lines = refl; budgets = refl; classes = refl; members = refl; equal = refl; spent = refl; few_equal = omega arith; few_spent = omega arith; early = λ few. refl; limits = none; unended = λ e. refl; ended = λ e. cc }

-- ---- behind the end

end_last : (records : List Record) → IsEnded records → 0 < end_lines records
end_last records is =
    let one : ◌≡◌ {A = ℕ} (cond (is_end End) 1 0) 1 = refl in
    omega (arith, ap end_lines is.ended, sum_by-append (λ r. cond (is_end r) 1 0) is.before (End ∷ []))

long : (records : List Record) → IsEnded records → 2 ≤ length records
long records is =
    let none : ◌≡◌ {A = ℕ} (cond (is_class End) 1 0) 0 = refl in
    omega (arith, none, is.classes, ap class_lines is.ended, ap length is.ended, length-append is.before (End ∷ []), sum_by-append (λ r. cond (is_class r) 1 0) is.before (End ∷ []), count_by-le-length is_class is.before)

-- No record has its place after the end.
none_behind : (t : ClassTable) (records : List Record) → IsEnded records → (r : Record) → IsInPlace t records r → ⊥
none_behind t records is (Head s p n) place = omega (arith, ap length place, long records is)
none_behind t records is (Budget b) place = omega (arith, place, long records is)
none_behind t records is (Pattern bits) place = omega (arith, place.1, is.classes)
none_behind t records is (Same e) place = omega (arith, place.1, is.classes)
none_behind t records is (Class n birth) place = omega (arith, place.1, is.members)
none_behind t records is (Member n class m) place = omega (arith, place.1, end_last records is)
none_behind t records is End place = omega (arith, place.2, end_last records is)

module _ {rs : List Record} {p : Progress} (is : IsProgress rs p) where
  pub open_in_place : (t : ClassTable) (r : Record) → IsInPlace t rs r → p.ended ≡ false
  open_in_place t r place = false_from_ne_true p.ended (λ e. none_behind t rs (is.ended e) r place)

  -- No record has its place once the end has come.
  pub ended_out : (t : ClassTable) (r : Record) → p.ended ≡ true → ¬ IsInPlace t rs r
  ended_out t r e place = none_behind t rs (is.ended e) r place

  -- A count that the line leaves as it is.
  stays : (r : Record) (test : Record → Bool) {n : ℕ} → test r ≡ false → n ≡ count_by test rs → n ≡ count_by test (rs ++ r ∷ [])
  stays r test none e = e ∙ sym (count_same rs r test none)

  -- One more line that states no budgets, with the counts after it.
  progress_more : (r : Record) (q : Progress) → budgets_of r ≡ None → q.lines ≡ p.lines + 1 → q.budgets ≡ p.budgets → q.classes ≡ class_lines (rs ++ r ∷ []) → q.members ≡ member_lines (rs ++ r ∷ []) → q.marked.equal ≡ count_by is_equal (rs ++ r ∷ [])
      → q.marked.spent ≡ count_by is_open (rs ++ r ∷ []) → q.marked.equal ≤ q.members → q.marked.spent ≤ q.members → (q.ended ≡ false → end_lines (rs ++ r ∷ []) ≡ 0) → (q.ended ≡ true → IsEnded (rs ++ r ∷ [])) → IsProgress (rs ++ r ∷ []) q
  progress_more r q no_budget lines budgets classes members equal spent few_equal few_spent unended ended = record {
    lines = omega (arith, lines, is.lines, length_one rs r);
    budgets = budgets ∙ is.budgets ∙ sym (ap (λ (bs : List Budgets). unwrap_or (slice_get bs 0) no_budgets) (read_same rs r budgets_of no_budget));
    classes = classes;
    members = members;
    equal = equal;
    spent = spent;
    few_equal = few_equal;
    few_spent = few_spent;
    early = λ few. read_same rs r budgets_of no_budget ∙ is.early (omega (arith, few, length_one rs r));
    limits = rw budgets is.limits;
    unended = unended;
    ended = ended;
  }

  module _ (going : p.ended ≡ false) where
    still : (r : Record) → is_end r ≡ false → end_lines (rs ++ r ∷ []) ≡ 0
    still r no_end = count_same rs r is_end no_end ∙ is.unended going

    never : (r : Record) → p.ended ≡ true → IsEnded (rs ++ r ∷ [])
    never r e = cc

    -- One more line that no other count counts.
    pub progress_line : (r : Record) → is_class r ≡ false → is_member r ≡ false → is_equal r ≡ false → is_open r ≡ false → is_end r ≡ false → budgets_of r ≡ None → IsProgress (rs ++ r ∷ []) (record p { lines = p.lines + 1 })
    progress_line r no_class no_member no_equal no_open no_end no_budget =
        progress_more r (record p { lines = p.lines + 1 }) no_budget refl refl (stays r is_class no_class is.classes) (stays r is_member no_member is.members) (stays r is_equal no_equal is.equal) (stays r is_open no_open is.spent)
        is.few_equal is.few_spent (λ e. still r no_end) (never r)

    pub progress_budget : (b : Budgets) → length rs ≡ 1 → AreWithinLimits b → IsProgress (rs ++ Budget b ∷ []) (record p { lines = p.lines + 1; budgets = b })
    progress_budget b one limits =
        let r = Budget b in
        let none : filter_map budgets_of rs ≡ [] = is.early (omega (arith, one)) in
        let read : filter_map budgets_of (rs ++ r ∷ []) ≡ b ∷ [] = filter_map-append budgets_of rs (r ∷ []) ∙ ap (λ (bs : List Budgets). bs ++ b ∷ []) none in
        record {
          lines = omega (arith, is.lines, length_one rs r);
          budgets = sym (ap (λ (bs : List Budgets). unwrap_or (slice_get bs 0) no_budgets) read);
          classes = stays r is_class refl is.classes;
          members = stays r is_member refl is.members;
          equal = stays r is_equal refl is.equal;
          spent = stays r is_open refl is.spent;
          few_equal = is.few_equal;
          few_spent = is.few_spent;
          early = λ few. absurd (omega (arith, few, one, length_one rs r));
          limits = limits;
          unended = λ e. still r refl;
          ended = never r;
        }

    pub progress_class : (number : ℕ) (birth : Option (ℕ × ℕ)) → IsProgress (rs ++ Class number birth ∷ []) (record p { lines = p.lines + 1; classes = p.classes + 1 })
    progress_class number birth =
        let r = Class number birth in
        progress_more r (record p { lines = p.lines + 1; classes = p.classes + 1 }) refl refl refl (omega (arith, is.classes, count_up rs r is_class refl)) (stays r is_member refl is.members) (stays r is_equal refl is.equal)
        (stays r is_open refl is.spent) is.few_equal is.few_spent (λ e. still r refl) (never r)

    pub progress_member : (number class : ℕ) (m : Mark) → IsProgress (rs ++ Member number class m ∷ []) (with_member p m)
    progress_member number class mark.Rep =
        let r = Member number class mark.Rep in
        progress_more r (with_member p mark.Rep) refl refl refl (stays r is_class refl is.classes) (omega (arith, is.members, count_up rs r is_member refl)) (stays r is_equal refl is.equal)
        (stays r is_open refl is.spent) (omega (arith, is.few_equal)) (omega (arith, is.few_spent)) (λ e. still r refl) (never r)
    progress_member number class mark.Equal =
        let r = Member number class mark.Equal in
        progress_more r (with_member p mark.Equal) refl refl refl (stays r is_class refl is.classes) (omega (arith, is.members, count_up rs r is_member refl)) (omega (arith, is.equal, count_up rs r is_equal refl))
        (stays r is_open refl is.spent) (omega (arith, is.few_equal)) (omega (arith, is.few_spent)) (λ e. still r refl) (never r)
    progress_member number class mark.Spent =
        let r = Member number class mark.Spent in
        progress_more r (with_member p mark.Spent) refl refl refl (stays r is_class refl is.classes) (omega (arith, is.members, count_up rs r is_member refl)) (stays r is_equal refl is.equal)
        (omega (arith, is.spent, count_up rs r is_open refl)) (omega (arith, is.few_equal)) (omega (arith, is.few_spent)) (λ e. still r refl) (never r)

  pub progress_end : 0 < class_lines rs → 0 < member_lines rs → IsProgress (rs ++ End ∷ []) (record p { lines = p.lines + 1; ended = true })
  progress_end classes members =
      progress_more End (record p { lines = p.lines + 1; ended = true }) refl refl refl (stays End is_class refl is.classes) (stays End is_member refl is.members) (stays End is_equal refl is.equal) (stays End is_open refl is.spent)
      is.few_equal is.few_spent (λ e. absurd (cc))
      (λ e. record { before = rs; ended = refl; classes = omega (arith, classes, count_same rs End is_class refl); members = omega (arith, members, count_same rs End is_member refl) })
