-- What makes each kind of line one more, and what refuses it.
use Rattle.std.proofs.Common.{◌≡◌, ◌∙◌, ℕ, ◌+◌, ◌<◌, ◌≤◌, ◌^◌, Bool, true, false, List, [], ◌∷◌, ◌++◌, map, length, get_or, set, Option, None, Some, refl, sym, ap, subst, inl, inr, append_assoc, length-append, arith}
use Rattle.std.specs.Prelude.{Contains, IsSome, ◌==◌, option_and_then, if◌then◌else◌}
use Rattle.std.proofs.lemmas.Bool.{cases_eq, eq-eqb}
use Rattle.std.proofs.lemmas.List.{map-append, get_or-set_same, get_or-set_other, nil_from_length}
use Rattle.std.proofs.lemmas.List.Elements.{All-append, filter_map-append}
use Rattle.std.proofs.lemmas.Option.{slice_get_within}
use Rattle.net_model.specs.Circuit.{Circuit}
use Rattle.net_model.specs.FaultList.{fault_count, fault_numbered}
use Rattle.net_model.specs.ClassTable.{ClassTable, class_at, class_count, representative}
use Rattle.class_refine.proofs.Refined.{few_classes}
use Rattle.class_refine.proofs.PatternTables.{table_numbers}
use Rattle.member_marks.specs.declared.marks.Given.{Given}
use Rattle.member_marks.specs.Given.{given_mark, AreGiven}
use Rattle.member_marks.proofs.MarkLemmas.{given_more, lowest_is_next, lead_inside}
use Rattle.result_records.specs.declared.limits.TheConstants.{RESULT_LIMIT}
use Rattle.result_records.specs.declared.record.Budgets.{Budgets}
use Rattle.result_records.specs.declared.record.Mark.{Mark}
use Rattle.result_records.specs.declared.record.Mark.TheVariants.{Rep}
use Rattle.result_records.specs.declared.record.Evidence.{Evidence}
use Rattle.result_records.specs.declared.record.Record.{Record}
use Rattle.result_records.specs.declared.record.Record.TheVariants.{Head, Budget, Pattern, Same, Class, Member, End}
use Rattle.word_sim.specs.declared.lanes.TheConstants.{LANES}
use Rattle.text_fields.specs.Fields.{Text}
use Rattle.result_records.specs.Spelling.{HasSpelling, spelling, text_of}
use Rattle.result_records.specs.Marks.{pattern_of, evidence_of, patterns_in, evidence_in, is_class, class_lines, member_lines, next_member, mark_of}
use Rattle.result_records.specs.Limits.{AreWithinLimits}
use Rattle.result_file.specs.Lines.{IsInPlace, IsRightContent, IsRightClass, IsRightMember, NamesNext, HasRightRoots, IsRightProof, budgets_in}
use Rattle.result_file.proofs.RightLines.{IsNextLine, right_next}
use Rattle.dia_check.specs.declared.progress.Progress.{Progress}
use Rattle.dia_check.specs.declared.checker.Checker.{Checker}
use Rattle.dia_check.specs.Progress.{IsProgress, with_member}
use Rattle.dia_check.specs.Checker.{IsChecker, IsCheckOf, IsReadyFor, NamesOpen, record_line}
use Rattle.dia_check.proofs.Counting.{read_same, count_same, text_more}
use Rattle.dia_check.proofs.ProgressLemmas.{open_in_place, progress_line, progress_budget, progress_class, progress_member, progress_end}
use Rattle.dia_check.proofs.CheckLemmas.{taken_line, next_line, checker_line}

none_by : {X : Type 0} (xs : List X) → (0 < length xs → ⊥) → xs ≡ []
none_by [] never = refl
none_by (x ∷ xs) never = absurd (never (omega arith))

same_checker : {c : Circuit} {seen : List Record} {k : Checker} → IsChecker c seen k → (new : Checker) → new.keeper ≡ k.keeper → new.marks ≡ k.marks → new.from ≡ k.from → new.progress ≡ k.progress → new.evidence ≡ k.evidence → IsChecker c seen new
same_checker is new keeper_is marks_is from_is progress_is evidence_is = record {
  lines = is.lines;
  circuit = rw keeper_is is.circuit;
  keeper = rw keeper_is is.keeper;
  patterns = rw keeper_is is.patterns;
  marks = rw (keeper_is, marks_is) is.marks;
  begun = rw (keeper_is, marks_is, from_is) is.begun;
  complete = rw keeper_is is.complete;
  progress = rw progress_is is.progress;
  evidence = rw evidence_is is.evidence;
  few = is.few;
}

module _ {c : Circuit} {text : Text} {k : Checker} (is : IsCheckOf c text k) where
  -- No pattern is waiting if none may come.
  pub none_waits : ¬ ((2 ≤ k.progress.lines) × (k.progress.classes ≡ 0)) → k.waiting.items ≡ []
  none_waits never = none_by k.waiting.items (λ some.
      let place = is.waiting.place some in
      never (omega (arith, place.0, is.is.progress.lines), omega (arith, place.1, is.is.progress.classes)))

  -- One more pattern is waiting.
  pub pattern_waits : (v : List Bool) → ¬ Contains (spelling (Pattern v)) 10 → length v ≡ c.sources → (2 ≤ k.progress.lines) × (k.progress.classes ≡ 0) → length k.waiting.items < LANES → length (text ++ record_line (Pattern v)) ≤ RESULT_LIMIT
      → (new : Checker) → new.keeper ≡ k.keeper → new.marks ≡ k.marks → new.from ≡ k.from → new.progress ≡ k.progress → new.evidence ≡ k.evidence → new.waiting.items ≡ k.waiting.items ++ v ∷ [] → IsCheckOf c (text ++ record_line (Pattern v)) new
  pattern_waits v one width body room short new keeper_is marks_is from_is progress_is evidence_is waiting_is =
      let waiting = k.waiting.items in
      let behind = map Pattern waiting in
      record {
        seen = is.seen;
        is = same_checker is.is new keeper_is marks_is from_is progress_is evidence_is;
        waiting = rw waiting_is (record {
          widths = All-append (λ v. length v ≡ c.sources) waiting (v ∷ []) is.waiting.widths (λ j d below. let e : j ≡ 0 = omega arith in rw e width);
          few = omega (arith, length-append waiting (v ∷ []), room);
          lines = All-append (λ v. ¬ Contains (spelling (Pattern v)) 10) waiting (v ∷ []) is.waiting.lines (λ j d below. let e : j ≡ 0 = omega arith in rw e one);
          place = λ some. (omega (arith, body.0, is.is.progress.lines), omega (arith, body.1, is.is.progress.classes));
        });
        text_is =
            ap (λ (t : Text). t ++ record_line (Pattern v)) is.text_is
            ∙ sym (text_more (is.seen ++ behind) (Pattern v))
            ∙ ap text_of (append_assoc is.seen behind (Pattern v ∷ []))
            ∙ sym (ap (λ (rs : List Record). text_of (is.seen ++ rs)) (map-append Pattern waiting (v ∷ [])))
            ∙ sym (ap (λ (w : List (List Bool)). text_of (is.seen ++ map Pattern w)) waiting_is);
        short = short;
      }

-- The evidence names the next member.
pub names_next : {t : ClassTable} {seen : List Record} {given : List (Option Given)} {e : Evidence} → AreGiven t (evidence_in seen) given → NamesOpen t given e → NamesNext t seen e
names_next {t} {seen} {given} {e} are names = record { member = lowest_is_next t (evidence_in seen) given are e.member names.lowest; partner = names.partner }

module _ {c : Circuit} {text : Text} {k : Checker} (is : IsCheckOf c text k) (none : k.waiting.items ≡ []) where
  abbrev t : ClassTable
  t = k.keeper.kept.table

  abbrev p : Progress
  p = k.progress

  pub numbers_are : length t.class_of ≡ fault_count c
  numbers_are = table_numbers is.is.keeper.table

  pub whole_marks : length k.marks ≡ length t.class_of
  whole_marks = is.is.marks.whole

  counts_few : class_count t < 2 ^ 27
  counts_few = omega (arith, few_classes t is.is.keeper.whole, numbers_are, is.is.few)

  some_class : 0 < class_count t
  some_class = omega (arith, is.is.keeper.whole.patterns)

  -- One more line that is no pattern and no evidence.
  one_more : (r : Record) (q : Progress) → HasSpelling r → length (text ++ record_line r) ≤ RESULT_LIMIT → IsInPlace t is.seen r → IsRightContent c t is.seen r → pattern_of r ≡ None → evidence_of r ≡ None
      → (0 < class_lines (is.seen ++ r ∷ []) → next_member t (evidence_in is.seen) ≡ None) → IsProgress (is.seen ++ r ∷ []) q → IsCheckOf c (text ++ record_line r) (record k { progress = q })
  one_more r q spelled short place content no_pattern no_evidence complete progress =
      taken_line is none r (record k { progress = q }) short none (checker_line is.is r q (next_line is r spelled place content) no_pattern no_evidence complete progress)

  -- ---- the head and the budgets

  pub head_place : p.lines ≡ 0 → is.seen ≡ []
  head_place zero = nil_from_length is.seen (omega (arith, is.is.progress.lines))

  pub head_taken : (sources positions numbers : ℕ) → HasSpelling (Head sources positions numbers) → length (text ++ record_line (Head sources positions numbers)) ≤ RESULT_LIMIT → p.lines ≡ 0
      → IsRightContent c t is.seen (Head sources positions numbers) → IsCheckOf c (text ++ record_line (Head sources positions numbers)) (record k { progress = record p { lines = p.lines + 1 } })
  head_taken sources positions numbers spelled short zero content =
      let r = Head sources positions numbers in
      let first = head_place zero in
      one_more r (record p { lines = p.lines + 1 }) spelled short first content refl refl
      (λ some. is.is.complete (omega (arith, some, count_same is.seen r is_class refl)))
      (progress_line is.is.progress (open_in_place is.is.progress t r first) r refl refl refl refl refl refl)

  pub budget_taken : (b : Budgets) → HasSpelling (Budget b) → length (text ++ record_line (Budget b)) ≤ RESULT_LIMIT → p.lines ≡ 1 → AreWithinLimits b
      → IsCheckOf c (text ++ record_line (Budget b)) (record k { progress = record p { lines = p.lines + 1; budgets = b } })
  budget_taken b spelled short one limits =
      let place : length is.seen ≡ 1 = omega (arith, one, is.is.progress.lines) in
      one_more (Budget b) (record p { lines = p.lines + 1; budgets = b }) spelled short place limits refl refl
      (λ some. is.is.complete (omega (arith, some, count_same is.seen (Budget b) is_class refl)))
      (progress_budget is.is.progress (open_in_place is.is.progress t (Budget b) place) b place limits)

  -- ---- where patterns and evidence stand

  pub body_place : (2 ≤ p.lines) × (p.classes ≡ 0) → (2 ≤ length is.seen) × (class_lines is.seen ≡ 0)
  body_place both = (omega (arith, both.0, is.is.progress.lines), omega (arith, both.1, is.is.progress.classes))

  pub no_body_place : ¬ ((2 ≤ p.lines) × (p.classes ≡ 0)) → ¬ ((2 ≤ length is.seen) × (class_lines is.seen ≡ 0))
  no_body_place never place = never (omega (arith, place.0, is.is.progress.lines), omega (arith, place.1, is.is.progress.classes))

  -- ---- classes

  pub class_taken : (number : ℕ) (birth : Option (ℕ × ℕ)) → HasSpelling (Class number birth) → length (text ++ record_line (Class number birth)) ≤ RESULT_LIMIT → 2 ≤ p.lines → p.members ≡ 0 → IsRightClass t is.seen number birth
      → IsCheckOf c (text ++ record_line (Class number birth)) (record k { progress = record p { lines = p.lines + 1; classes = p.classes + 1 } })
  class_taken number birth spelled short two no_member content =
      let r = Class number birth in
      let place : (2 ≤ length is.seen) × (member_lines is.seen ≡ 0) = (omega (arith, two, is.is.progress.lines), omega (arith, no_member, is.is.progress.members)) in
      one_more r (record p { lines = p.lines + 1; classes = p.classes + 1 }) spelled short place content refl refl (λ some. content.complete)
      (progress_class is.is.progress (open_in_place is.is.progress t r place) number birth)

  pub class_few : (number : ℕ) (birth : Option (ℕ × ℕ)) → IsRightClass t is.seen number birth → p.classes + 1 < 2 ^ 32
  class_few number birth content = omega (arith, counts_few, content.next, is.is.progress.classes, slice_get_within t.births number birth content.birth_is)

  -- ---- members

  pub member_taken : (number class : ℕ) (m : Mark) → HasSpelling (Member number class m) → length (text ++ record_line (Member number class m)) ≤ RESULT_LIMIT → p.classes ≡ class_count t → p.ended ≡ false → IsRightMember t is.seen number class m
      → IsCheckOf c (text ++ record_line (Member number class m)) (record k { progress = with_member p m })
  member_taken number class m spelled short all going content =
      let r = Member number class m in
      one_more r (with_member p m) spelled short (omega (arith, all, is.is.progress.classes), is.is.progress.unended going) content refl refl
      (λ some. is.is.complete (omega (arith, some, count_same is.seen r is_class refl)))
      (progress_member is.is.progress going number class m)

  pub member_few : (number class : ℕ) (m : Mark) → IsRightMember t is.seen number class m → p.members + 1 < 2 ^ 32
  member_few number class m content = omega (arith, content.inside, content.next, is.is.progress.members, numbers_are, is.is.few)

  -- ---- the end

  pub end_taken : length (text ++ record_line End) ≤ RESULT_LIMIT → p.classes ≡ class_count t → p.members ≡ fault_count c → p.ended ≡ false
      → IsCheckOf c (text ++ record_line End) (record k { progress = record p { lines = p.lines + 1; ended = true } })
  end_taken short all whole going =
      let classes : class_lines is.seen ≡ class_count t = omega (arith, all, is.is.progress.classes) in
      let members : member_lines is.seen ≡ length t.class_of = omega (arith, whole, is.is.progress.members, numbers_are) in
      one_more End (record p { lines = p.lines + 1; ended = true }) tt short (classes, members, is.is.progress.unended going) tt refl refl
      (λ some. is.is.complete (omega (arith, some, count_same is.seen End is_class refl)))
      (progress_end is.is.progress (omega (arith, classes, some_class)) (omega (arith, members, is.is.keeper.whole.some)))

  -- ---- evidence

  module _ (e : Evidence) (names : NamesOpen t k.marks e) where
    pub member_inside : e.member < fault_count c
    member_inside = omega (arith, names.lowest.inside, numbers_are)

    pub partner_inside : e.partner < fault_count c
    partner_inside = omega (arith, names.partner, lead_inside t is.is.keeper.whole e.member names.lowest.inside, numbers_are)

    abbrev g : Given
    g = record { partner = e.partner; mark = mark_of e.proof }

    own_some : (b : Bool) (o : Option Given) → o ≡ Some g → (e.partner == representative t (class_at t e.member)) ≡ true
        → IsSome (if b then Some Rep else option_and_then (λ x. if x.partner == representative t (class_at t e.member) then Some x.mark else None) o)
    own_some true o there same = refl
    own_some false o there same =
        let r = representative t (class_at t e.member) in
        let P : Option Given → Type 0 = λ o. IsSome (option_and_then (λ (x : Given). if x.partner == r then Some x.mark else None) o) in
        let Q : Bool → Type 0 = λ b. IsSome (if b then Some g.mark else None) in
        subst P (sym there) (subst Q (sym same) refl)

    marked_below : (n : ℕ) → n < e.member + 1 → IsSome (given_mark t (set k.marks e.member (Some g)) n)
    marked_below n below = elim (cases_eq n e.member) [
      | inl same ↦
          let own : get_or (set k.marks e.member (Some g)) e.member None ≡ Some g = get_or-set_same k.marks e.member (Some g) None (omega (arith, whole_marks, names.lowest.inside)) in
          let P : ℕ → Type 0 = λ n. IsSome (given_mark t (set k.marks e.member (Some g)) n) in
          subst P (sym same) (own_some (representative t (class_at t e.member) == e.member) (get_or (set k.marks e.member (Some g)) e.member None) own (eq-eqb e.partner (representative t (class_at t e.member)) names.partner))
      | inr other ↦
          let kept : get_or (set k.marks e.member (Some g)) n None ≡ get_or k.marks n None = get_or-set_other k.marks e.member n (Some g) None other in
          let r = representative t (class_at t n) in
          let P : Option Given → Type 0 = λ o. IsSome (if r == n then Some Rep else option_and_then (λ (x : Given). if x.partner == r then Some x.mark else None) o) in
          subst P (sym kept) (names.lowest.below n (omega (arith, below, other)))
    ]

    pub evidence_taken : HasSpelling (Same e) → length (text ++ record_line (Same e)) ≤ RESULT_LIMIT → (2 ≤ p.lines) × (p.classes ≡ 0) → HasRightRoots c (fault_numbered c e.partner) (fault_numbered c e.member) e.proof
        → IsRightProof c (fault_numbered c e.partner) (fault_numbered c e.member) p.budgets e.proof
        → (new : Checker) → new.keeper ≡ k.keeper → new.marks ≡ set k.marks e.member (Some g) → new.from ≡ e.member + 1 → new.progress ≡ record p { lines = p.lines + 1 } → IsReadyFor c new.evidence → new.waiting.items ≡ []
        → IsCheckOf c (text ++ record_line (Same e)) new
    evidence_taken spelled short both roots right new keeper_is marks_is from_is progress_is ready empty =
        let r = Same e in
        let place = body_place both in
        let budgets : p.budgets ≡ budgets_in is.seen = is.is.progress.budgets in
        let next : IsNextLine c is.seen r = next_line is r spelled place (record { next = names_next is.is.marks names; roots = roots; right = rw budgets at right }) in
        let evidence : evidence_in (is.seen ++ r ∷ []) ≡ evidence_in is.seen ++ e ∷ [] = filter_map-append evidence_of is.seen (r ∷ []) in
        let patterns : patterns_in (is.seen ++ r ∷ []) ≡ patterns_in is.seen = read_same is.seen r pattern_of refl in
        let given = given_more e.partner e.member e.proof is.is.marks names.lowest.inside names.lowest.unmarked names.partner in
        let no_class : class_lines (is.seen ++ r ∷ []) ≡ 0 = count_same is.seen r is_class refl ∙ place.1 in
        taken_line is none r new short empty (record {
          lines = right_next is.is.lines next;
          circuit = rw keeper_is is.is.circuit;
          keeper = rw keeper_is is.is.keeper;
          patterns = rw keeper_is (is.is.patterns ∙ sym patterns);
          marks = rw (keeper_is, marks_is, evidence) given;
          begun = rw (keeper_is, marks_is, from_is) marked_below;
          complete = λ some. absurd (omega (arith, some, no_class));
          progress = rw progress_is (progress_line is.is.progress (open_in_place is.is.progress t r place) r refl refl refl refl refl refl);
          evidence = ready;
          few = is.is.few;
        })
