-- The lines of a text, noted one after another.
use Rattle.std.proofs.Common.{◌≡◌, ◌∙◌, ℕ, ◌+◌, ◌-◌, ◌<◌, ◌≤◌, inl, inr, Bool, cond, eqb, List, [], ◌∷◌, ◌++◌, length, take, drop, get_or, set, replicate, Option, Some, None, refl, sym, ap, subst, append_assoc, arith}
use Rattle.std.specs.Prelude.{All, Contains, find, slice_range}
use Rattle.std.proofs.lemmas.Bool.{cases_lt, cases_eq, eq-eqb, ne_eqb}
use Rattle.std.proofs.lemmas.List.{append-nil, length-append, reverse-append, take_at, drop_at, take_more, get_or_at, get_or-drop, get_or-append-add, get_or_append_left, get_or_default, get_or-set_same, get_or-set_other, length-set, length-drop}
use Rattle.std.proofs.lemmas.List.Elements.{filter_map-append, All-head}
use Rattle.net_model.proofs.Elements.{All-right, get_or-replicate_anywhere}
use Rattle.result_records.specs.declared.record.Mark.{Mark}
use Rattle.result_records.specs.declared.record.Evidence.{Evidence}
use Rattle.result_records.specs.declared.record.Record.{Record}
use Rattle.result_records.specs.declared.record.Record.TheVariants.{Same, Member}
use Rattle.text_fields.specs.Fields.{Text}
use Rattle.result_records.specs.Spelling.{spelling, text_of, HasSpelling}
use Rattle.result_records.specs.Marks.{evidence_of, evidence_in}
use Rattle.result_records.specs.Held.{IsFirstFrom, IsWithoutLineFeed}
use Rattle.result_records.specs.Laws.{SpellingIsLine}
use Rattle.result_records.proofs.RecordLists.{text-append}
use Rattle.compact_tests.specs.declared.lines.Stated.{Stated}
use Rattle.compact_tests.specs.declared.lines.Span.{Span}
use Rattle.compact_tests.specs.ThinResult.{last_evidence, stated_mark_of, marks_in}
use Rattle.compact_tests.specs.Stated.{IsReadableLine, IsReadable, IsSpanOf, IsEvidenceLine, AreEvidenceLines, IsStated, IsStatedTo, NotesLine, TakesRecord}

-- ---- lines of a text

pub first_once : (bytes : Text) (start a b : ℕ) → IsFirstFrom bytes start a → IsFirstFrom bytes start b → a ≡ b
first_once bytes start a b one other = elim (cases_lt a b) [
  | inl low ↦ absurd (other.before a one.behind low one.here)
  | inr over ↦ elim (cases_lt b a) [ inl low ↦ absurd (one.before b other.behind low other.here) | inr under ↦ omega (arith, over, under) ]
]

-- The line of a record comes after some bytes.
pub record IsLineAt (bytes : Text) (start : ℕ) (r : Record) : Type 0 where
  pub first : IsFirstFrom bytes start (start + length (spelling r))
  pub line : slice_range bytes start (start + length (spelling r)) ≡ spelling r

module _ (front line back : Text) where
  no_feed : ¬ Contains line 10 → IsWithoutLineFeed (front ++ (line ++ 10 ∷ back)) (length front) (length front + length line)
  no_feed missing k low high is =
      let j = k - length front in
      let place : length front + j ≡ k = omega (arith, low) in
      let inside : j < length line = omega (arith, low, high) in
      let e : get_or line j 10 ≡ 10 =
      get_or_default line j 10 0 inside ∙ (sym (get_or_append_left line (10 ∷ back) 0 j inside) ∙ (sym (get_or-append-add front (line ++ 10 ∷ back) j 0) ∙ (ap (λ (n : ℕ). get_or (front ++ (line ++ 10 ∷ back)) n 0) place ∙ is))) in
      missing (j, inside, e)

  feed_here : get_or (front ++ (line ++ 10 ∷ back)) (length front + length line) 0 ≡ 10
  feed_here = get_or-append-add front (line ++ 10 ∷ back) (length line) 0 ∙ get_or_at line 10 back 0 (length line) refl

  cut_here : slice_range (front ++ (line ++ 10 ∷ back)) (length front) (length front + length line) ≡ line
  cut_here =
      let many : length front + length line - length front ≡ length line = omega arith in
      ap (λ (xs : Text). take (length front + length line - length front) xs) (drop_at front (line ++ 10 ∷ back) (length front) refl)
      ∙ (ap (λ (n : ℕ). take n (line ++ 10 ∷ back)) many ∙ take_at line (10 ∷ back) (length line) refl)

  feed_inside : length front + length line < length (front ++ (line ++ 10 ∷ back))
  feed_inside = omega (arith, length-append front (line ++ 10 ∷ back), length-append line (10 ∷ back))

text_parts : (before : List Record) (r : Record) (more : List Record) → text_of (before ++ r ∷ more) ≡ text_of before ++ (spelling r ++ 10 ∷ text_of more)
text_parts before r more = text-append before (r ∷ more) ∙ ap (λ (t : Text). text_of before ++ t) (append_assoc (spelling r) (10 ∷ []) (text_of more))

module _ (line : SpellingIsLine) (numbers : ℕ) (before : List Record) (r : Record) (more : List Record) where
  pub line_at : HasSpelling r → IsLineAt (text_of (before ++ r ∷ more)) (length (text_of before)) r
  line_at spelled = subst (λ (bs : Text). IsLineAt bs (length (text_of before)) r) (sym (text_parts before r more)) (record {
    first = record {
      behind = omega arith;
      inside = feed_inside (text_of before) (spelling r) (text_of more);
      before = no_feed (text_of before) (spelling r) (text_of more) (line r spelled);
      here = feed_here (text_of before) (spelling r) (text_of more);
    };
    line = cut_here (text_of before) (spelling r) (text_of more);
  })

-- The place after a record's line.
pub next_place : (before : List Record) (r : Record) → length (text_of (before ++ r ∷ [])) ≡ length (text_of before) + length (spelling r) + 1
next_place before r = omega (arith, ap length (text_parts before r []), length-append (text_of before) (spelling r ++ 10 ∷ []), length-append (spelling r) (10 ∷ []))

-- A range with the byte after it.
pub range_longer : (bytes : Text) (start end byte : ℕ) → start ≤ end → end < length bytes → get_or bytes end 0 ≡ byte → slice_range bytes start (end + 1) ≡ slice_range bytes start end ++ byte ∷ []
range_longer bytes start end byte low inside is =
    let many : end + 1 - start ≡ end - start + 1 = omega (arith, low) in
    let place : start + (end - start) ≡ end = omega (arith, low) in
    ap (λ (n : ℕ). take n (drop start bytes)) many
    ∙ (take_more (drop start bytes) (end - start) 0 (omega (arith, inside, low, length-drop start bytes))
    ∙ ap (λ (b : ℕ). take (end - start) (drop start bytes) ++ b ∷ []) (get_or-drop start bytes (end - start) 0 ∙ (ap (λ (n : ℕ). get_or bytes n 0) place ∙ is)))

-- The span of a line that ends before an LF.
pub span_of : (bytes : Text) (start end : ℕ) (r : Record) → start ≤ end → end < length bytes → get_or bytes end 0 ≡ 10 → spelling r ≡ slice_range bytes start end → IsSpanOf bytes (record { start = start; end = end + 1 }) r
span_of bytes start end r low inside feed is = record {
  order = omega (arith, low);
  within = omega (arith, inside);
  text = range_longer bytes start end 10 low inside feed ∙ (ap (λ (t : Text). t ++ 10 ∷ []) (sym is) ∙ sym (append-nil (spelling r ++ 10 ∷ [])));
}

-- ---- what was stated so far

pub nothing_stated : (bytes : Text) (numbers : ℕ) (stated : Stated) → stated.marks.items ≡ [] → stated.evidence.items ≡ replicate numbers None → length stated.evidence.items ≡ numbers → IsStated bytes numbers [] stated
nothing_stated bytes numbers stated marks none count = record {
  marks = marks;
  count = count;
  evidence = λ number h. subst (IsEvidenceLine bytes None) (sym (ap (λ (xs : List (Option Span)). get_or xs number None) none ∙ get_or-replicate_anywhere numbers number None)) tt;
}

last_more : (es : List Evidence) (e : Evidence) (n : ℕ) → last_evidence (es ++ e ∷ []) n ≡ cond (eqb e.member n) (Some e) (last_evidence es n)
last_more es e n = ap (find (λ (x : Evidence). eqb x.member n)) (reverse-append es (e ∷ []))

module _ (bytes : Text) (numbers : ℕ) (before : List Record) (old new : Stated) (is : IsStated bytes numbers before old) where
  -- One more piece of evidence.
  pub stated_evidence : (e : Evidence) (span : Span) → IsSpanOf bytes span (Same e) → e.member < length old.evidence.items → new.marks.items ≡ old.marks.items → new.evidence.items ≡ set old.evidence.items e.member (Some span)
      → IsStated bytes numbers (before ++ Same e ∷ []) new
  stated_evidence e span line inside marks set_is =
      let known : evidence_in (before ++ Same e ∷ []) ≡ evidence_in before ++ e ∷ [] = filter_map-append evidence_of before (Same e ∷ []) in
      record {
        marks = marks ∙ (is.marks ∙ (sym (append-nil (marks_in before)) ∙ sym (filter_map-append stated_mark_of before (Same e ∷ []))));
        count = ap length set_is ∙ (length-set old.evidence.items e.member (Some span) ∙ is.count);
        evidence = λ number h.
            let last : last_evidence (evidence_in (before ++ Same e ∷ [])) number ≡ cond (eqb e.member number) (Some e) (last_evidence (evidence_in before) number) = ap (λ (es : List Evidence). last_evidence es number) known ∙ last_more (evidence_in before) e number in
            elim (cases_eq number e.member) [
              | inl here ↦
                  let one : last_evidence (evidence_in (before ++ Same e ∷ [])) number ≡ Some e = last ∙ ap (λ (b : Bool). cond b (Some e) (last_evidence (evidence_in before) number)) (eq-eqb e.member number (sym here)) in
                  let at : get_or new.evidence.items number None ≡ Some span = ap (λ (xs : List (Option Span)). get_or xs number None) set_is ∙ (ap (λ (k : ℕ). get_or (set old.evidence.items e.member (Some span)) k None) here ∙ get_or-set_same old.evidence.items e.member (Some span) None inside) in
                  subst (λ (o : Option Evidence). IsEvidenceLine bytes o (get_or new.evidence.items number None)) (sym one) (subst (IsEvidenceLine bytes (Some e)) (sym at) line)
              | inr there ↦
                  let one : last_evidence (evidence_in (before ++ Same e ∷ [])) number ≡ last_evidence (evidence_in before) number = last ∙ ap (λ (b : Bool). cond b (Some e) (last_evidence (evidence_in before) number)) (ne_eqb e.member number (λ x. there (sym x))) in
                  let at : get_or new.evidence.items number None ≡ get_or old.evidence.items number None = ap (λ (xs : List (Option Span)). get_or xs number None) set_is ∙ get_or-set_other old.evidence.items e.member number (Some span) None there in
                  subst (λ (o : Option Evidence). IsEvidenceLine bytes o (get_or new.evidence.items number None)) (sym one)
                  (subst (IsEvidenceLine bytes (last_evidence (evidence_in before) number)) (sym at) (is.evidence number (omega (arith, h, ap length set_is, length-set old.evidence.items e.member (Some span)))))
            ];
      }

  -- One more mark.
  pub stated_member : (number class : ℕ) (mark : Mark) → new.marks.items ≡ old.marks.items ++ mark ∷ [] → new.evidence.items ≡ old.evidence.items → IsStated bytes numbers (before ++ Member number class mark ∷ []) new
  stated_member number class mark marks evidence =
      let known : evidence_in (before ++ Member number class mark ∷ []) ≡ evidence_in before = filter_map-append evidence_of before (Member number class mark ∷ []) ∙ append-nil (evidence_in before) in
      record {
        marks = marks ∙ (ap (λ (ms : List Mark). ms ++ mark ∷ []) is.marks ∙ sym (filter_map-append stated_mark_of before (Member number class mark ∷ [])));
        count = ap length evidence ∙ is.count;
        evidence = subst (λ (es : List Evidence). AreEvidenceLines bytes es new.evidence.items) (sym known) (subst (AreEvidenceLines bytes (evidence_in before)) (sym evidence) is.evidence);
      }

  -- A record that states neither.
  pub stated_other : (r : Record) → evidence_in (r ∷ []) ≡ [] → marks_in (r ∷ []) ≡ [] → new.marks.items ≡ old.marks.items → new.evidence.items ≡ old.evidence.items → IsStated bytes numbers (before ++ r ∷ []) new
  stated_other r no_evidence no_mark marks evidence =
      let known : evidence_in (before ++ r ∷ []) ≡ evidence_in before = filter_map-append evidence_of before (r ∷ []) ∙ (ap (λ (es : List Evidence). evidence_in before ++ es) no_evidence ∙ append-nil (evidence_in before)) in
      let marked : marks_in (before ++ r ∷ []) ≡ marks_in before = filter_map-append stated_mark_of before (r ∷ []) ∙ (ap (λ (ms : List Mark). marks_in before ++ ms) no_mark ∙ append-nil (marks_in before)) in
      record {
        marks = marks ∙ (is.marks ∙ sym marked);
        count = ap length evidence ∙ is.count;
        evidence = subst (λ (es : List Evidence). AreEvidenceLines bytes es new.evidence.items) (sym known) (subst (AreEvidenceLines bytes (evidence_in before)) (sym evidence) is.evidence);
      }

-- ---- from line to line

-- The next line of records that come after others.
pub record HasNext (bytes : Text) (numbers start : ℕ) (records : List Record) : Type 0 where
  pub r : Record
  pub readable : IsReadableLine numbers r
  pub at : IsLineAt bytes start r

module _ (line : SpellingIsLine) (bytes : Text) (numbers start : ℕ) (records : List Record) (is : IsReadable bytes numbers records) (stated : Stated) where
  next_from : (before rest : List Record) → records ≡ before ++ rest → start ≡ length (text_of before) → start < length bytes → HasNext bytes numbers start records
  next_from before [] parts place more = absurd (omega (arith, more, place, ap length (is.text ∙ (ap text_of (parts ∙ append-nil before)))))
  next_from before (r ∷ rest) parts place more =
      let readable : IsReadableLine numbers r = All-head (IsReadableLine numbers) r rest (All-right (IsReadableLine numbers) before (r ∷ rest) (subst (All (IsReadableLine numbers)) parts is.lines)) in
      record {
        r = r;
        readable = readable;
        at = subst (λ (bs : Text). IsLineAt bs start r) (sym (is.text ∙ ap text_of parts)) (subst (λ (k : ℕ). IsLineAt (text_of (before ++ r ∷ rest)) k r) (sym place) (line_at line numbers before r rest readable.spelled));
      }

  pub has_next : IsStatedTo bytes numbers start records stated → start < length bytes → HasNext bytes numbers start records
  has_next so_far more = next_from so_far.before so_far.rest so_far.parts so_far.place_is more

  more_from : (before rest : List Record) (end : ℕ) (new : Stated) → records ≡ before ++ rest → start ≡ length (text_of before) → start < length bytes → IsFirstFrom bytes start end → IsStated bytes numbers before stated → NotesLine bytes start end stated new → IsStatedTo bytes numbers (end + 1) records new
  more_from before [] end new parts place more first so_far notes = absurd (omega (arith, more, place, ap length (is.text ∙ (ap text_of (parts ∙ append-nil before)))))
  more_from before (r ∷ rest) end new parts place more first so_far notes =
      let readable : IsReadableLine numbers r = All-head (IsReadableLine numbers) r rest (All-right (IsReadableLine numbers) before (r ∷ rest) (subst (All (IsReadableLine numbers)) parts is.lines)) in
      let at : IsLineAt bytes start r = subst (λ (bs : Text). IsLineAt bs start r) (sym (is.text ∙ ap text_of parts)) (subst (λ (k : ℕ). IsLineAt (text_of (before ++ r ∷ rest)) k r) (sym place) (line_at line numbers before r rest readable.spelled)) in
      let here : end ≡ start + length (spelling r) = first_once bytes start end (start + length (spelling r)) first at.first in
      record {
        before = before ++ r ∷ [];
        rest = rest;
        parts = parts ∙ sym (append_assoc before (r ∷ []) rest);
        place_is = omega (arith, here, place, next_place before r);
        is = notes.stated numbers before r readable.spelled (sym at.line ∙ ap (slice_range bytes start) (sym here)) so_far;
      }

  pub stated_more : (end : ℕ) (new : Stated) → IsStatedTo bytes numbers start records stated → start < length bytes → IsFirstFrom bytes start end → NotesLine bytes start end stated new → IsStatedTo bytes numbers (end + 1) records new
  stated_more end new so_far more first notes = more_from so_far.before so_far.rest end new so_far.parts so_far.place_is more first so_far.is notes

  all_from : (before rest : List Record) → records ≡ before ++ rest → start ≡ length (text_of before) → length bytes ≤ start → IsStated bytes numbers before stated → IsStated bytes numbers records stated
  all_from before [] parts place end so_far = subst (λ (rs : List Record). IsStated bytes numbers rs stated) (sym (parts ∙ append-nil before)) so_far
  all_from before (r ∷ rest) parts place end so_far =
      absurd (omega (arith, end, place, ap length (is.text ∙ (ap text_of parts ∙ text_parts before r rest)), length-append (text_of before) (spelling r ++ 10 ∷ text_of rest), length-append (spelling r) (10 ∷ text_of rest)))

  pub all_stated : IsStatedTo bytes numbers start records stated → length bytes ≤ start → IsStated bytes numbers records stated
  all_stated so_far end = all_from so_far.before so_far.rest so_far.parts so_far.place_is end so_far.is

-- A record that states nothing of a number.
pub takes_other : (r : Record) (span : Span) (old : Stated) → evidence_in (r ∷ []) ≡ [] → marks_in (r ∷ []) ≡ [] → TakesRecord r span old old
takes_other r span old none unmarked = record { count = refl; stated = λ bytes numbers before line is. stated_other bytes numbers before old old is r none unmarked refl refl }
