-- Right lines after right lines: the class lines, the member lines and the end.
use Rattle.std.proofs.Common.{◌≡◌, ℕ, ◌+◌, ◌-◌, ◌<◌, ◌≤◌, ◌^◌, Bool, List, [], ◌∷◌, ◌++◌, map, length, length-append, length-take, take, get_or, Option, Some, None, refl, ap, ◌∙◌, inl, inr, arith}
use Rattle.std.specs.Prelude.{All}
use Rattle.std.specs.List.{slice_get, enumerate_from}
use Rattle.std.proofs.lemmas.Bool.{cases_lt}
use Rattle.std.proofs.lemmas.List.{map-id, length-map, take-append-le, take-map, get_or-map, get_or_append_left, get_or-append-add, append-nil}
use Rattle.std.proofs.lemmas.List.FromFn.{length-enumerate_from, get_or-enumerate_from}
use Rattle.std.proofs.lemmas.Option.{slice_get-get_or}
use Rattle.std.proofs.Math.Seq.{take-append-add}
use Rattle.net_model.specs.Circuit.{Circuit}
use Rattle.net_model.specs.ClassTable.{ClassTable, first_table, class_at, class_count}
use Rattle.net_model.specs.FaultList.{fault_count}
use Rattle.net_model.specs.PatternRows.{IsTableOf, SplitsClass}
use Rattle.result_records.specs.declared.record.Budgets.{Budgets}
use Rattle.result_records.specs.declared.record.Mark.{Mark}
use Rattle.result_records.specs.declared.record.Mark.TheVariants as mark
use Rattle.result_records.specs.declared.record.Evidence.{Evidence}
use Rattle.result_records.specs.declared.record.Record.{Record}
use Rattle.result_records.specs.declared.record.Record.TheVariants.{Head, Budget, Pattern, Class, Member, End}
use Rattle.result_records.specs.Spelling.{HasSpelling, HasBirthSpelling}
use Rattle.result_records.specs.Marks.{pattern_of, evidence_of, patterns_in, evidence_in, is_class, is_member, is_end, class_lines, member_lines, end_lines, number_mark, next_member}
use Rattle.result_records.specs.Limits.{AreWithinLimits}
use Rattle.result_file.specs.Lines.{IsRightLine}
use Rattle.result_file.specs.Valid.{AreRightLines, record_at}
use Rattle.result_file.specs.Meaning.{class_records, member_records}
use Rattle.result_records.proofs.RecordLists.{count_kept, count_more, read_kept, read_more}

-- The record can be written and is right after these lines.
pub record IsNextLine (c : Circuit) (before : List Record) (r : Record) : Type 0 where
  pub spelled : HasSpelling r
  pub right : IsRightLine c before r

at_append : (c : Circuit) (rs xs : List Record) → AreRightLines c rs
    → ((k : ℕ) → k < length xs → IsNextLine c (rs ++ take k xs) (record_at xs k))
    → (at : ℕ) → at < length (rs ++ xs) → IsNextLine c (take at (rs ++ xs)) (record_at (rs ++ xs) at)
at_append c rs xs lines next at below = elim (cases_lt at (length rs)) [
  | inl low ↦
      rw (take-append-le at rs xs (omega arith), get_or_append_left rs xs End at low)
      (record { spelled = lines.spelled at low; right = lines.right at low })
  | inr high ↦
      let k = at - length rs in
      let e : at ≡ length rs + k = omega arith in
      let h : k < length xs = omega (arith, length-append rs xs) in
      rw (e, take-append-add rs xs k, get_or-append-add rs xs k End) (next k h)
]

-- lines that are right one after another
pub right_more : {c : Circuit} {rs : List Record} (xs : List Record) → AreRightLines c rs
    → ((k : ℕ) → k < length xs → IsNextLine c (rs ++ take k xs) (record_at xs k)) → AreRightLines c (rs ++ xs)
right_more {c} {rs} xs lines next = record {
  spelled = λ at below. (at_append c rs xs lines next at below).spelled;
  right = λ at below. (at_append c rs xs lines next at below).right;
}

-- one more line
pub right_next : {c : Circuit} {rs : List Record} {r : Record} → AreRightLines c rs → IsNextLine c rs r → AreRightLines c (rs ++ r ∷ [])
right_next {c} {rs} {r} lines next = right_more (r ∷ []) lines (λ k h. let e : k ≡ 0 = omega arith in rw (e, append-nil rs) next)

-- the first two lines
pub right_head : {c : Circuit} {budgets : Budgets} → HasSpelling (Head c.sources (length c.positions) (fault_count c)) → HasSpelling (Budget budgets) → AreWithinLimits budgets
    → AreRightLines c (Head c.sources (length c.positions) (fault_count c) ∷ Budget budgets ∷ [])
right_head {c} {budgets} head limits within =
    let table : IsTableOf c [] (first_table (fault_count c)) = record { rows = []; answers = tt; table = refl } in
    let none : AreRightLines c [] = record { spelled = λ at h. absurd (omega arith); right = λ at h. absurd (omega arith) } in
    let one : AreRightLines c (Head c.sources (length c.positions) (fault_count c) ∷ []) = right_next none (record { spelled = head; right = record { t = first_table (fault_count c); table = table; place = refl; content = (refl, refl, refl) } }) in
    right_next one (record { spelled = limits; right = record { t = first_table (fault_count c); table = table; place = refl; content = within } })

-- patterns after the first two lines, each of which splits a class of those before it
pub right_patterns : {c : Circuit} {rs : List Record} {patterns : List (List Bool)} → AreRightLines c rs → patterns_in rs ≡ [] → class_lines rs ≡ 0 → 2 ≤ length rs → All (λ v. length v ≡ c.sources) patterns
    → ((k : ℕ) → k < length patterns → SplitsClass c (take k patterns) (get_or patterns k [])) → AreRightLines c (rs ++ map Pattern patterns)
right_patterns {c} {rs} {patterns} lines none no_class two widths splits = right_more (map Pattern patterns) lines (λ k h.
    let below : k < length patterns = omega (arith, length-map patterns Pattern) in
    let one = splits k below in
    let before = take k patterns in
    let read : patterns_in (rs ++ map Pattern before) ≡ before =
    read_more Pattern rs pattern_of (λ v. v) (λ v. refl) before ∙ ap (λ (vs : List (List Bool)). vs ++ map (λ v. v) before) none ∙ map-id before in
    rw (take-map Pattern k patterns, get_or-map Pattern patterns k [] End below)
    (record {
      spelled = tt;
      right = record {
        t = one.t;
        table = rw read one.table;
        place = (omega (arith, length-append rs (map Pattern before), two), count_kept Pattern rs is_class (λ v. refl) before ∙ no_class);
        content = record { width = widths k [] below; splits = rw read one };
      };
    }))

-- The lines before the class lines, with the table of their patterns: all are right, and each number is a
-- representative or marked.
pub record IsBody (c : Circuit) (t : ClassTable) (before : List Record) : Type 0 where
  pub lines : AreRightLines c before
  pub table : IsTableOf c (patterns_in before) t
  pub two : 2 ≤ length before
  pub no_class : class_lines before ≡ 0
  pub no_member : member_lines before ≡ 0
  pub no_end : end_lines before ≡ 0
  pub complete : next_member t (evidence_in before) ≡ None

-- The class lines and the member lines have numbers that can be written.
pub record HasSmallClasses (t : ClassTable) : Type 0 where
  pub numbers : length t.class_of < 2 ^ 32
  pub classes : (n : ℕ) → n < length t.class_of → class_at t n < 2 ^ 32
  pub count : class_count t < 2 ^ 32
  pub births : (class : ℕ) (birth : Option (ℕ × ℕ)) → slice_get t.births class ≡ Some birth → HasBirthSpelling birth

right_class : {c : Circuit} {t : ClassTable} {before : List Record} → IsBody c t before → HasSmallClasses t
    → (k : ℕ) → k < class_count t → (ys : List (ℕ × Option (ℕ × ℕ))) → length ys ≡ k → IsNextLine c (before ++ map (λ x. Class x.0 x.1) ys) (Class k (get_or t.births k None))
right_class {c} {t} {before} body small k below ys count =
    let f : ℕ × Option (ℕ × ℕ) → Record = λ x. Class x.0 x.1 in
    let birth_is : slice_get t.births k ≡ Some (get_or t.births k None) = slice_get-get_or t.births k None below in
    record {
      spelled = (omega (arith, small.count), small.births k (get_or t.births k None) birth_is);
      right = record {
        t = t;
        table = rw (read_kept f before pattern_of (λ x. refl) ys) body.table;
        place = (omega (arith, length-append before (map f ys), body.two), count_kept f before is_member (λ x. refl) ys ∙ body.no_member);
        content = record {
          next = omega (arith, count_more f before is_class (λ x. refl) ys, body.no_class);
          birth_is = birth_is;
          complete = rw (read_kept f before evidence_of (λ x. refl) ys) body.complete;
        };
      };
    }

pub right_classes : {c : Circuit} {t : ClassTable} {before : List Record} → IsBody c t before → HasSmallClasses t → AreRightLines c (before ++ class_records t.births)
right_classes {c} {t} {before} body small = right_more (class_records t.births) body.lines (λ k h.
    let f : ℕ × Option (ℕ × ℕ) → Record = λ x. Class x.0 x.1 in
    let births = enumerate_from 0 t.births in
    let below : k < length births = omega (arith, length-map births f) in
    let inside : k < length t.births = omega (arith, length-enumerate_from 0 t.births) in
    let item : get_or births k (0, None) ≡ (k, get_or t.births k None) = get_or-enumerate_from 0 t.births k (0, None) inside ∙ ap (λ (n : ℕ). (n, get_or t.births k None)) (omega arith) in
    rw (take-map f k births, get_or-map f births k (0, None) End below, item)
    (right_class body small k inside (take k births) (omega (arith, length-take k births))))

-- The first numbers with their classes and marks.
pub record AreMembersSoFar (t : ClassTable) (evidence : List Evidence) (members : List (ℕ × Mark)) : Type 0 where
  pub classes : (n : ℕ) → n < length members → (get_or members n (0, mark.Rep)).0 ≡ class_at t n
  pub marks : (n : ℕ) → n < length members → number_mark t evidence n ≡ Some (get_or members n (0, mark.Rep)).1

-- All numbers with their classes and marks.
pub record AreMembers (t : ClassTable) (evidence : List Evidence) (members : List (ℕ × Mark)) : Type 0 where
  pub count : length members ≡ length t.class_of
  pub each : AreMembersSoFar t evidence members

-- The lines after which member lines come.
record AreClassed (c : Circuit) (t : ClassTable) (evidence : List Evidence) (lines : List Record) : Type 0 where
  right : AreRightLines c lines
  table : IsTableOf c (patterns_in lines) t
  evidence_is : evidence_in lines ≡ evidence
  classes : class_lines lines ≡ class_count t
  no_member : member_lines lines ≡ 0
  no_end : end_lines lines ≡ 0

are_classed : {c : Circuit} {t : ClassTable} {before : List Record} → IsBody c t before → HasSmallClasses t → AreClassed c t (evidence_in before) (before ++ class_records t.births)
are_classed {c} {t} {before} body small =
    let f : ℕ × Option (ℕ × ℕ) → Record = λ x. Class x.0 x.1 in
    let births = enumerate_from 0 t.births in
    record {
      right = right_classes body small;
      table = rw (read_kept f before pattern_of (λ x. refl) births) body.table;
      evidence_is = read_kept f before evidence_of (λ x. refl) births;
      classes = omega (arith, count_more f before is_class (λ x. refl) births, body.no_class, length-enumerate_from 0 t.births);
      no_member = count_kept f before is_member (λ x. refl) births ∙ body.no_member;
      no_end = count_kept f before is_end (λ x. refl) births ∙ body.no_end;
    }

right_member : {c : Circuit} {t : ClassTable} {evidence : List Evidence} {lines : List Record} {members : List (ℕ × Mark)} → AreClassed c t evidence lines → HasSmallClasses t → AreMembers t evidence members
    → (k : ℕ) → k < length members → (ys : List (ℕ × (ℕ × Mark))) → length ys ≡ k
    → IsNextLine c (lines ++ map (λ x. Member x.0 x.1.0 x.1.1) ys) (Member k (get_or members k (0, mark.Rep)).0 (get_or members k (0, mark.Rep)).1)
right_member {c} {t} {evidence} {lines} {members} classed small are k below ys count =
    let f : ℕ × (ℕ × Mark) → Record = λ x. Member x.0 x.1.0 x.1.1 in
    record {
      spelled = (omega (arith, small.numbers, are.count), omega (arith, are.each.classes k below, small.classes k (omega (arith, are.count))));
      right = record {
        t = t;
        table = rw (read_kept f lines pattern_of (λ x. refl) ys) classed.table;
        place = (count_kept f lines is_class (λ x. refl) ys ∙ classed.classes, count_kept f lines is_end (λ x. refl) ys ∙ classed.no_end);
        content = record {
          next = omega (arith, count_more f lines is_member (λ x. refl) ys, classed.no_member);
          inside = omega (arith, are.count);
          class_is = are.each.classes k below;
          mark_is = rw (read_kept f lines evidence_of (λ x. refl) ys, classed.evidence_is) (are.each.marks k below);
        };
      };
    }

right_members : {c : Circuit} {t : ClassTable} {evidence : List Evidence} {lines : List Record} {members : List (ℕ × Mark)} → AreClassed c t evidence lines → HasSmallClasses t → AreMembers t evidence members
    → AreRightLines c (lines ++ member_records members)
right_members {c} {t} {evidence} {lines} {members} classed small are = right_more (member_records members) classed.right (λ k h.
    let f : ℕ × (ℕ × Mark) → Record = λ x. Member x.0 x.1.0 x.1.1 in
    let numbered = enumerate_from 0 members in
    let below : k < length numbered = omega (arith, length-map numbered f) in
    let inside : k < length members = omega (arith, length-enumerate_from 0 members) in
    let item : get_or numbered k (0, (0, mark.Rep)) ≡ (k, get_or members k (0, mark.Rep)) = get_or-enumerate_from 0 members k (0, (0, mark.Rep)) inside ∙ ap (λ (n : ℕ). (n, get_or members k (0, mark.Rep))) (omega arith) in
    rw (take-map f k numbered, get_or-map f numbered k (0, (0, mark.Rep)) End below, item)
    (right_member classed small are k inside (take k numbered) (omega (arith, length-take k numbered))))

-- After a whole body come the class lines, the member lines and the end.
pub right_table : {c : Circuit} {t : ClassTable} {before : List Record} {members : List (ℕ × Mark)} → IsBody c t before → HasSmallClasses t → AreMembers t (evidence_in before) members
    → AreRightLines c (before ++ class_records t.births ++ member_records members ++ End ∷ [])
right_table {c} {t} {before} {members} body small are =
    let classed = are_classed body small in
    let lines = before ++ class_records t.births in
    let f : ℕ × (ℕ × Mark) → Record = λ x. Member x.0 x.1.0 x.1.1 in
    let numbered = enumerate_from 0 members in
    right_next (right_members classed small are) (record {
      spelled = tt;
      right = record {
        t = t;
        table = rw (read_kept f lines pattern_of (λ x. refl) numbered) classed.table;
        place = (
          count_kept f lines is_class (λ x. refl) numbered ∙ classed.classes,
          omega (arith, count_more f lines is_member (λ x. refl) numbered, classed.no_member, length-enumerate_from 0 members, are.count),
          count_kept f lines is_end (λ x. refl) numbered ∙ classed.no_end,
        );
        content = tt;
      };
    })
