-- Counts of marks, number by number.
use Rattle.std.proofs.Common.{◌≡◌, ℕ, ◌+◌, ◌≤◌, Bool, cond, List, Option, [], ◌∷◌, map, refl, ap, ◌∙◌, arith}
use Rattle.std.specs.List.{count_by, range_with_len, enumerate_from}
use Rattle.std.proofs.lemmas.List.{length-map}
use Rattle.std.proofs.lemmas.List.FromFn.{length-enumerate_from, length-range_with_len}
use Rattle.std.proofs.lemmas.List.Sums.{sum_by-append, count_by-le-length}
use Rattle.net_model.specs.ClassTable.{ClassTable, class_at}
use Rattle.result_records.specs.declared.record.Mark.{Mark}
use Rattle.result_records.specs.declared.record.Mark.TheVariants as mark
use Rattle.result_records.specs.declared.record.Record.{Record}
use Rattle.result_records.specs.declared.record.Record.TheVariants.{Member}
use Rattle.result_file.specs.Summary.{is_equal, is_open}
use Rattle.member_marks.specs.declared.counts.MarkCounts.{MarkCounts}
use Rattle.member_marks.specs.declared.marks.Given.{Given}
use Rattle.member_marks.specs.Counts.{counted_with}
use Rattle.dia_gen.specs.Marked.{member_for, members_below, AreMarkedBelow}
use Rattle.result_file.proofs.LineLemmas.{member_lines_more}

module _ (t : ClassTable) (given : List (Option Given)) where
  -- At most as many member lines pass a test as there are numbers.
  pub few_marked : (p : Record → Bool) (n : ℕ) → count_by p (members_below t given n) ≤ n
  few_marked p n =
      let members = map (member_for t given) (range_with_len 0 n) in
      omega (arith, count_by-le-length p (members_below t given n), length-map (enumerate_from 0 members) (λ x. let r : Record = Member x.0 x.1.0 x.1.1 in r), length-enumerate_from 0 members, length-map (range_with_len 0 n) (member_for t given), length-range_with_len 0 n)

  count_more_members : (p : Record → Bool) (n : ℕ) → count_by p (members_below t given (n + 1)) ≡ count_by p (members_below t given n) + cond (p (Member n (class_at t n) ((member_for t given n).1))) 1 0
  count_more_members p n =
      let more = Member n (class_at t n) ((member_for t given n).1) in
      ap (count_by p) (member_lines_more (member_for t given) n)
      ∙ omega (arith, sum_by-append (λ r. cond {A = ℕ} (p r) 1 0) (members_below t given n) (more ∷ []))

  equal_by : (mark : Mark) (marked : MarkCounts) (n class : ℕ) → (counted_with marked mark).equal ≡ marked.equal + cond (is_equal (Member n class mark)) 1 0
  equal_by mark.Rep marked n class = omega arith
  equal_by mark.Equal marked n class = refl
  equal_by mark.Spent marked n class = omega arith

  open_by : (mark : Mark) (marked : MarkCounts) (n class : ℕ) → (counted_with marked mark).spent ≡ marked.spent + cond (is_open (Member n class mark)) 1 0
  open_by mark.Rep marked n class = omega arith
  open_by mark.Equal marked n class = omega arith
  open_by mark.Spent marked n class = refl

  pub marked_more : {marked : MarkCounts} {n : ℕ} → AreMarkedBelow t given n marked → AreMarkedBelow t given (n + 1) (counted_with marked ((member_for t given n).1))
  marked_more {marked} {n} so_far = record {
    equal = omega (arith, equal_by ((member_for t given n).1) marked n (class_at t n), so_far.equal, count_more_members is_equal n);
    spent = omega (arith, open_by ((member_for t given n).1) marked n (class_at t n), so_far.spent, count_more_members is_open n);
  }
