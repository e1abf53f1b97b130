-- What is left of a valid result is valid.
use Rattle.std.proofs.Common.{◌≡◌, ◌∙◌, ℕ, zero, suc, ◌<◌, ◌≤◌, ◌^◌, Bool, true, false, cond, eqb, List, [], ◌∷◌, ◌++◌, length, map, take, get_or, Option, Some, None, refl, sym, ap, ap₂, subst, append_assoc, arith, inl, inr, lit≤}
use Rattle.std.specs.Prelude.{slice_get, All, find, option_map, unwrap_or, zip, remove}
use Rattle.std.specs.List.{AllByRecursion, range_with_len}
use Rattle.std.proofs.lemmas.Bool.{eqb-true, eq-eqb, ne_eqb, cases_eq}
use Rattle.std.proofs.lemmas.Bool.Decides.{same_from_decides}
use Rattle.std.proofs.lemmas.List.{length-map, length-append, take-map, take_all, map-id}
use Rattle.std.proofs.lemmas.List.Elements.{All-nil, All-cons}
use Rattle.std.proofs.lemmas.List.Folds.{list_any_at}
use Rattle.std.proofs.lemmas.Map.Steps.{le-length_from_below}
use Rattle.std.proofs.lemmas.Option.{get_or_from_slice_get, slice_get_within}
use Rattle.net_model.specs.Circuit.{Circuit, IsCircuit}
use Rattle.net_model.specs.FaultList.{fault_count, fault_numbered}
use Rattle.net_model.specs.ClassTable.{ClassTable, class_table, class_count, class_at, representative}
use Rattle.net_model.specs.PatternRows.{IsAnswerRow, IsTableOf, SplitsClass}
use Rattle.net_model.proofs.Listed.{some_number}
use Rattle.kept_vectors.specs.Kept.{SplitInTurn}
use Rattle.result_records.specs.declared.record.Budgets.{Budgets}
use Rattle.result_records.specs.declared.record.Mark.{Mark}
use Rattle.result_records.specs.declared.record.Mark.TheVariants as mark
use Rattle.result_records.specs.declared.record.Evidence.{Evidence}
use Rattle.result_records.specs.declared.record.Record.{Record}
use Rattle.result_records.specs.declared.record.Record.TheVariants.{Head, Budget, Pattern, Same, Class, Member, End}
use Rattle.result_records.specs.Spelling.{HasBirthSpelling}
use Rattle.result_records.specs.Marks.{pattern_of, evidence_of, patterns_in, evidence_in, is_class, is_member, is_end, is_about, mark_of, number_mark, next_member}
use Rattle.result_file.specs.Lines.{budgets_in, IsRightProof}
use Rattle.result_file.specs.Valid.{AreRightLines, IsValid}
use Rattle.result_file.specs.Meaning.{StatedResult, stated_records, class_records, member_records, stated_mark}
use Rattle.result_file.specs.Laws.{ValidIsTrue}
use Rattle.text_fields.proofs.Cuts.{tails}
use Rattle.result_records.proofs.Marked.{find_same, none_next}
use Rattle.result_records.proofs.RecordLists.{count_kept, read_kept, read_more}
use Rattle.result_file.proofs.RightLines.{IsNextLine, IsBody, HasSmallClasses, AreMembers, right_head, right_patterns, right_table}
use Rattle.compact_tests.specs.Remaining.{Answered, answered_vectors, answered_rows, classes_by, with_needed, remaining_behind, remaining}
use Rattle.compact_tests.specs.ThinResult.{last_evidence, needed_evidence, marks_in, result_with, thin_result, IsThin}
use Rattle.compact_tests.specs.Compacted.{HaveSameClasses}
use Rattle.compact_tests.proofs.TableLemmas.{IsFilled, filled-table, numbers-table}
use Rattle.compact_tests.proofs.RemainingLemmas.{remaining_are_needed}
use Rattle.compact_tests.proofs.SplitLemmas.{needed_splits, AreNeededRows, few_rows, patterns_table}
use Rattle.compact_tests.proofs.ThinLemmas.{AreAnswered, answered, answers_of, answered_remaining, zipped_vectors, left_classes}
use Rattle.compact_tests.proofs.LastEvidence.{next_right, last_is}
use Rattle.compact_tests.proofs.StatedMarks.{stated_marks, mark_given}
use Rattle.compact_tests.proofs.EvidenceLines.{IsUsable, AreUsable, AreFront, mark_so_far, settled, evidence_lines}

-- ---- parts of lists

-- The items of two lists at a place.
zip_item : (classes : List ℕ) (marks : List Mark) (n : ℕ) → n < length classes → n < length marks → get_or (zip classes marks) n (0, mark.Rep) ≡ (get_or classes n 0, get_or marks n mark.Rep)
zip_item [] marks n low high = absurd (omega (arith, low))
zip_item (x ∷ classes) [] n low high = absurd (omega (arith, high))
zip_item (x ∷ classes) (m ∷ marks) zero low high = refl
zip_item (x ∷ classes) (m ∷ marks) (suc n) low high = zip_item classes marks n (omega (arith, low)) (omega (arith, high))

zip_count : (classes : List ℕ) (marks : List Mark) → length classes ≡ length marks → length (zip classes marks) ≡ length classes
zip_count [] marks e = refl
zip_count (x ∷ classes) [] e = absurd (omega (arith, e))
zip_count (x ∷ classes) (m ∷ marks) e = ap suc (zip_count classes marks (omega (arith, e)))

pub map_item : {X Y : Type 0} (f : X → Y) (xs : List X) (n : ℕ) (d : X) → get_or (map f xs) n (f d) ≡ f (get_or xs n d)
map_item f [] n d = refl
map_item f (x ∷ xs) zero d = refl
map_item f (x ∷ xs) (suc n) d = map_item f xs n d

module _ (P : Answered → Type 0) (numbers classes : ℕ) where
  -- What is true of each pattern is true of each that remains.
  part_all : (before patterns : List Answered) → AllByRecursion P patterns → AllByRecursion P (remaining_behind numbers classes before patterns)
  part_all before [] a = tt
  part_all before (pattern ∷ patterns) a = one (remaining_behind numbers classes (before ++ pattern ∷ []) patterns) (part_all (before ++ pattern ∷ []) patterns a.1)
    where
      one : (behind : List Answered) → AllByRecursion P behind → AllByRecursion P (with_needed numbers classes before pattern behind)
      one behind rest = by (eqb (classes_by numbers (before ++ behind)) classes)
        where
          by : (b : Bool) → AllByRecursion P (cond b behind (pattern ∷ behind))
          by true = rest
          by false = (a.0, rest)

at_place : {X : Type 0} (P : X → Type 0) (xs : List X) (k : ℕ) (d : X) → AllByRecursion P xs → k < length xs → P (get_or xs k d)
at_place P [] k d a h = absurd (omega (arith, h))
at_place P (x ∷ xs) zero d a h = a.0
at_place P (x ∷ xs) (suc k) d a h = at_place P xs k d a.1 (omega (arith, h))

first_places : {X : Type 0} (P : X → Type 0) (xs : List X) (k : ℕ) → AllByRecursion P xs → AllByRecursion P (take k xs)
first_places P [] zero a = tt
first_places P [] (suc k) a = tt
first_places P (x ∷ xs) zero a = tt
first_places P (x ∷ xs) (suc k) a = (a.0, first_places P xs k a.1)

as_all : {X Y : Type 0} (P : Y → Type 0) (f : X → Y) (xs : List X) → AllByRecursion (λ x. P (f x)) xs → All P (map f xs)
as_all P f [] a = All-nil P
as_all P f (x ∷ xs) a = All-cons P (f x) (map f xs) a.0 (as_all P f xs a.1)

rows_without : (patterns : List Answered) (at : ℕ) → answered_rows (remove patterns at) ≡ remove (answered_rows patterns) at
rows_without [] zero = refl
rows_without [] (suc at) = refl
rows_without (p ∷ patterns) zero = refl
rows_without (p ∷ patterns) (suc at) = ap (λ (rs : List (List (List Bool))). p.1 ∷ rs) (rows_without patterns at)

-- ---- the patterns of right lines have a bit for each source

pub pattern_widths : (c : Circuit) (records : List Record) → AreRightLines c records → (before rest : List Record) → records ≡ before ++ rest → AllByRecursion (λ v. length v ≡ c.sources) (patterns_in rest)
pattern_widths c records lines before [] e = tt
pattern_widths c records lines before (Head s p n ∷ rest) e = pattern_widths c records lines (before ++ Head s p n ∷ []) rest (e ∙ sym (append_assoc before (Head s p n ∷ []) rest))
pattern_widths c records lines before (Budget b ∷ rest) e = pattern_widths c records lines (before ++ Budget b ∷ []) rest (e ∙ sym (append_assoc before (Budget b ∷ []) rest))
pattern_widths c records lines before (Pattern v ∷ rest) e =
    ((next_right before (Pattern v) rest lines e).right.content.width, pattern_widths c records lines (before ++ Pattern v ∷ []) rest (e ∙ sym (append_assoc before (Pattern v ∷ []) rest)))
pattern_widths c records lines before (Same x ∷ rest) e = pattern_widths c records lines (before ++ Same x ∷ []) rest (e ∙ sym (append_assoc before (Same x ∷ []) rest))
pattern_widths c records lines before (Class n birth ∷ rest) e = pattern_widths c records lines (before ++ Class n birth ∷ []) rest (e ∙ sym (append_assoc before (Class n birth ∷ []) rest))
pattern_widths c records lines before (Member n class m ∷ rest) e = pattern_widths c records lines (before ++ Member n class m ∷ []) rest (e ∙ sym (append_assoc before (Member n class m ∷ []) rest))
pattern_widths c records lines before (End ∷ rest) e = pattern_widths c records lines (before ++ End ∷ []) rest (e ∙ sym (append_assoc before (End ∷ []) rest))

-- The budgets are stated on the first two lines.
early_budgets : (records : List Record) (s p n : ℕ) (b : Budgets) (tail : List Record) → records ≡ Head s p n ∷ Budget b ∷ tail → (before : List Record) (r : Record) (more : List Record) → records ≡ before ++ r ∷ more → 2 ≤ length before → budgets_in before ≡ b
early_budgets records s p n b tail is [] r more e two = absurd (omega (arith, two))
early_budgets records s p n b tail is (x ∷ []) r more e two = absurd (omega (arith, two))
early_budgets records s p n b tail is (x ∷ y ∷ before) r more e two =
    let both = tails (sym e ∙ is) in
    let first : x ≡ Head s p n = both.0 in
    let second : y ≡ Budget b = (tails both.1).0 in
    ap₂ (λ (x y : Record). budgets_in (x ∷ y ∷ before)) first second

-- ---- representatives and marks

same_leads : (t u : ClassTable) → HaveSameClasses u t → (n : ℕ) → n < length u.class_of → representative t (class_at t n) ≡ representative u (class_at u n)
unfolding representative
same_leads t u same n h =
    ap (λ (k : ℕ). unwrap_or (find (λ m. eqb (class_at t m) (class_at t n)) (range_with_len 0 k)) 0) same.numbers
    ∙ ap (λ (o : Option ℕ). unwrap_or o 0) (find_same (λ m. eqb (class_at t m) (class_at t n)) (λ m. eqb (class_at u m) (class_at u n)) 0 (length u.class_of) (λ m low high.
    let inside : m < length u.class_of = omega (arith, high) in
    same_from_decides {P = class_at t m ≡ class_at t n} (eqb (class_at t m) (class_at t n)) (eqb (class_at u m) (class_at u n)) (eqb-true (class_at t m) (class_at t n), eq-eqb (class_at t m) (class_at t n))
    ((λ e. (same.together m n inside h).1 (eqb-true (class_at u m) (class_at u n) e)), (λ e. eq-eqb (class_at u m) (class_at u n) ((same.together m n inside h).0 e)))))

-- The evidence that gives a mark to a number which isn't a representative.
record IsMarkedBy (u : ClassTable) (evidence : List Evidence) (n : ℕ) (m : Mark) (e : Evidence) : Type 0 where
  found : find (is_about u n) evidence ≡ Some e
  gives : mark_of e.proof ≡ m

marked_by : (u : ClassTable) (evidence : List Evidence) (n : ℕ) (m : Mark) → (representative u (class_at u n) ≡ n → ⊥) → number_mark u evidence n ≡ Some m → (e : Evidence) × IsMarkedBy u evidence n m e
unfolding number_mark
marked_by u evidence n m member is =
    by (find (is_about u n) evidence) refl
    (ap (λ (b : Bool). cond b (Some mark.Rep) (option_map (λ (x : Evidence). mark_of x.proof) (find (is_about u n) evidence))) (sym (ne_eqb (representative u (class_at u n)) n member)) ∙ is)
  where
    by : (o : Option Evidence) → find (is_about u n) evidence ≡ o → option_map (λ (x : Evidence). mark_of x.proof) (find (is_about u n) evidence) ≡ Some m → (e : Evidence) × IsMarkedBy u evidence n m e
    by None none given = let clash : ◌≡◌ {A = Option Mark} None (Some m) = ap (λ (o : Option Evidence). option_map (λ (x : Evidence). mark_of x.proof) o) (sym none) ∙ given in absurd (cc)
    by (Some e) some given = let same : ◌≡◌ {A = Option Mark} (Some (mark_of e.proof)) (Some m) = ap (λ (o : Option Evidence). option_map (λ (x : Evidence). mark_of x.proof) o) (sym some) ∙ given in (e, record { found = some; gives = cc })

lead_mark : (t : ClassTable) (given : List Evidence) (n : ℕ) → representative t (class_at t n) ≡ n → number_mark t given n ≡ Some mark.Rep
unfolding number_mark
lead_mark t given n lead = ap (λ (b : Bool). cond b (Some mark.Rep) (option_map (λ (x : Evidence). mark_of x.proof) (find (is_about t n) given))) (eq-eqb (representative t (class_at t n)) n lead)

-- ---- what is left of valid records

module _ (c : Circuit) (circuit : IsCircuit c) (records thin : List Record) (right : AreRightLines c records) (is : IsThin c records thin) (s : StatedResult) (stated : records ≡ stated_records c s)
    (count : length s.members ≡ fault_count c) (marks_are : marks_in records ≡ map (λ m. m.1) s.members) where
  abbrev evidence : List Evidence
  evidence = evidence_in records

  abbrev all : List Answered
  all = zip (patterns_in records) is.rows

  abbrev left : List Answered
  left = remaining (fault_count c) all

  abbrev t : ClassTable
  t = class_table (fault_count c) (answered_rows left)

  abbrev u : ClassTable
  u = class_table (fault_count c) is.rows

  u_of : IsTableOf c (patterns_in records) u
  u_of = record { rows = is.rows; answers = is.answers; table = refl }

  u_numbers : length u.class_of ≡ fault_count c
  u_numbers = numbers-table (fault_count c) is.rows

  t_numbers : length t.class_of ≡ fault_count c
  t_numbers = numbers-table (fault_count c) (answered_rows left)

  all_answered : AreAnswered c all
  all_answered = answered c (patterns_in records) is.rows is.answers

  left_answered : AreAnswered c left
  left_answered = answered_remaining c all all_answered

  t_of : IsTableOf c (answered_vectors left) t
  t_of = record { rows = answered_rows left; answers = answers_of c left left_answered; table = refl }

  same : HaveSameClasses u t
  same = left_classes c circuit all all_answered u t (subst (λ (vs : List (List Bool)). IsTableOf c vs u) (sym (zipped_vectors c (patterns_in records) is.rows is.answers)) u_of) t_of

  leads : (n : ℕ) → n < fault_count c → representative t (class_at t n) ≡ representative u (class_at u n)
  leads n h = same_leads t u same n (omega (arith, h, u_numbers))

  -- ---- the first lines

  abbrev tail : List Record
  tail = s.body ++ class_records s.births ++ member_records s.members ++ End ∷ []

  abbrev head_record : Record
  head_record = Head c.sources (length c.positions) (fault_count c)

  head_line : IsNextLine c [] head_record
  head_line = next_right [] head_record (Budget s.budgets ∷ tail) right stated

  budget_line : IsNextLine c (head_record ∷ []) (Budget s.budgets)
  budget_line = next_right (head_record ∷ []) (Budget s.budgets) tail right stated

  abbrev b : Budgets
  b = budgets_in records

  b_is : b ≡ s.budgets
  b_is = ap budgets_in stated

  abbrev first_two : List Record
  first_two = head_record ∷ Budget b ∷ []

  first_right : AreRightLines c first_two
  first_right = subst (λ (b : Budgets). AreRightLines c (head_record ∷ Budget b ∷ [])) (sym b_is) (right_head head_line.spelled budget_line.spelled budget_line.right.content)

  -- ---- the patterns

  zip_widths : (patterns : List (List Bool)) (rows : List (List (List Bool))) → AllByRecursion (λ v. length v ≡ c.sources) patterns → AllByRecursion (λ p. length p.0 ≡ c.sources) (zip patterns rows)
  zip_widths [] rows a = tt
  zip_widths (v ∷ patterns) [] a = tt
  zip_widths (v ∷ patterns) (row ∷ rows) a = (a.0, zip_widths patterns rows a.1)

  left_widths : AllByRecursion (λ p. length p.0 ≡ c.sources) left
  unfolding remaining
  left_widths = part_all (λ p. length p.0 ≡ c.sources) (fault_count c) (classes_by (fault_count c) all) [] all (zip_widths (patterns_in records) is.rows (pattern_widths c records right [] records refl))

  needed_rows : AreNeededRows (fault_count c) (answered_rows left)
  needed_rows k h = rw (sym (rows_without left k)) (remaining_are_needed (fault_count c) all (some_number c) k (omega (arith, h, length-map left (λ (p : Answered). p.1))))

  splits : (k : ℕ) → k < length (answered_vectors left) → SplitsClass c (take k (answered_vectors left)) (get_or (answered_vectors left) k [])
  splits k h =
      let inside : k < length left = omega (arith, h, length-map left (λ (p : Answered). p.0)) in
      let within : k < length (answered_rows left) = omega (arith, inside, length-map left (λ (p : Answered). p.1)) in
      record {
        t = class_table (fault_count c) (take k (answered_rows left));
        row = get_or (answered_rows left) k [];
        table = record {
          rows = take k (answered_rows left);
          answers = rw (take-map (λ (p : Answered). p.0) k left, take-map (λ (p : Answered). p.1) k left) (answers_of c (take k left) (first_places (λ p. IsAnswerRow c p.0 p.1) left k left_answered));
          table = refl;
        };
        answers = rw (map_item (λ (p : Answered). p.0) left k ([], []), map_item (λ (p : Answered). p.1) left k ([], [])) (at_place (λ p. IsAnswerRow c p.0 p.1) left k ([], []) left_answered inside);
        split = needed_splits (fault_count c) (some_number c) (answered_rows left) k within (needed_rows k within);
      }

  -- Each pattern that remains splits a class of those before it.
  pub in_turn : SplitInTurn c (answered_vectors left)
  in_turn = record { widths = as_all (λ v. length v ≡ c.sources) (λ (p : Answered). p.0) left left_widths; splits = splits }

  abbrev front : List Record
  front = first_two ++ map Pattern (answered_vectors left)

  front_right : AreRightLines c front
  front_right = right_patterns first_right refl refl (lit≤ tt) (as_all (λ v. length v ≡ c.sources) (λ (p : Answered). p.0) left left_widths) splits

  front_patterns : patterns_in front ≡ answered_vectors left
  front_patterns = read_more Pattern first_two pattern_of (λ v. v) (λ v. refl) (answered_vectors left) ∙ map-id (answered_vectors left)

  is_front : AreFront c t b front
  is_front = record {
    lines = front_right;
    table = rw front_patterns t_of;
    none = read_kept Pattern first_two evidence_of (λ v. refl) (answered_vectors left);
    two = omega (arith, length-append first_two (map Pattern (answered_vectors left)));
    no_class = count_kept Pattern first_two is_class (λ v. refl) (answered_vectors left);
    budgets = refl;
  }

  -- ---- the evidence

  given : (n : ℕ) → n < fault_count c → number_mark u evidence n ≡ Some (stated_mark s n)
  given n h = subst (λ (rs : List Record). number_mark u (evidence_in rs) n ≡ Some (stated_mark s n)) (sym stated)
      (mark_given c circuit s (subst (AreRightLines c) stated right) u (subst (λ (rs : List Record). IsTableOf c (patterns_in rs) u) stated u_of) n (omega (arith, h, count)))

  -- The evidence of a number can be used, and gives the stated mark.
  record IsMarking (n : ℕ) (e : Evidence) : Type 0 where
    usable : IsUsable c t b evidence n e
    gives : mark_of e.proof ≡ stated_mark s n

  marking : (n : ℕ) → n < fault_count c → (representative t (class_at t n) ≡ n → ⊥) → (e : Evidence) × IsMarking n e
  marking n h member =
      let u_member : representative u (class_at u n) ≡ n → ⊥ = λ lead. member (leads n h ∙ lead) in
      let found = marked_by u evidence n (stated_mark s n) u_member (given n h) in
      let e = found.0 in
      let last = last_is c circuit records right u u_of n h u_member e found.1.found in
      let there = last.1 in
      let content = there.right.right.content in
      let budgets : budgets_in there.before ≡ b = early_budgets records c.sources (length c.positions) (fault_count c) s.budgets tail stated there.before (Same e) there.more there.parts there.right.right.place.0 ∙ sym b_is in (
        e,
        record {
          usable = record {
            taken = ap (λ (b : Bool). cond b None (last_evidence evidence n)) (ne_eqb (representative t (class_at t n)) n member) ∙ last.0;
            partner = there.partner_is ∙ sym (leads n h);
            roots = content.roots;
            right = subst (λ (b : Budgets). IsRightProof c (fault_numbered c e.partner) (fault_numbered c e.member) b e.proof) budgets content.right;
            spelled = there.right.spelled;
          };
          gives = found.1.gives;
        },
      )

  usable : AreUsable c t b evidence
  usable n h = elim (cases_eq (representative t (class_at t n)) n) [
    | inl lead ↦ inl lead
    | inr member ↦ let m = marking n (omega (arith, h, t_numbers)) member in inr (m.0, m.1.usable)
  ]

  abbrev needed : List Evidence
  needed = needed_evidence t evidence

  abbrev body : List Record
  body = front ++ map Same needed

  body_evidence : evidence_in body ≡ needed
  body_evidence = read_more Same front evidence_of (λ e. e) (λ e. refl) needed ∙ ap (λ (es : List Evidence). es ++ map (λ e. e) needed) is_front.none ∙ map-id needed

  is_body : IsBody c t body
  is_body = record {
    lines = evidence_lines c t b evidence usable front is_front (length t.class_of) (omega arith);
    table = rw (read_kept Same front pattern_of (λ e. refl) needed) is_front.table;
    two = omega (arith, length-append front (map Same needed), is_front.two);
    no_class = count_kept Same front is_class (λ e. refl) needed ∙ is_front.no_class;
    no_member = count_kept Same front is_member (λ e. refl) needed ∙ count_kept Pattern first_two is_member (λ v. refl) (answered_vectors left);
    no_end = count_kept Same front is_end (λ e. refl) needed ∙ count_kept Pattern first_two is_end (λ v. refl) (answered_vectors left);
    complete = ap (next_member t) body_evidence ∙ none_next t needed (λ m h. settled c t b evidence usable (length t.class_of) m h h);
  }

  -- ---- the table

  filled : IsFilled t
  filled = filled-table (fault_count c) (answered_rows left) (some_number c)

  few_classes : class_count t ≤ length t.class_of
  few_classes =
      le-length_from_below t.class_of (class_count t)
      (λ class h. let n = filled.inhabited class h in list_any_at (eqb class) t.class_of n.0 0 n.1 (eq-eqb class (class_at t n.0) (sym n.2)))

  few_numbers : fault_count c < 2 ^ 32
  few_numbers = head_line.spelled.2

  few_patterns : t.patterns < class_count t
  few_patterns =
      let most = few_rows (fault_count c) (some_number c) (answered_rows left) needed_rows (length (answered_rows left)) (omega arith) in
      let whole : take (length (answered_rows left)) (answered_rows left) ≡ answered_rows left = take_all (length (answered_rows left)) (answered_rows left) (omega arith) in
      omega (arith, most, ap (λ (rs : List (List (List Bool))). class_count (class_table (fault_count c) rs)) whole, patterns_table (fault_count c) (answered_rows left))

  small_birth : (class : ℕ) (birth : Option (ℕ × ℕ)) → slice_get t.births class ≡ Some birth → HasBirthSpelling birth
  small_birth class None at = tt
  small_birth class (Some birth) at =
      let below : class < class_count t = slice_get_within t.births class (Some birth) at in
      let known = rw (get_or_from_slice_get t.births class (Some birth) None at) at (filled.sound.births class below) in
      (omega (arith, known.0, below, few_classes, t_numbers, few_numbers), omega (arith, known.1, few_patterns, few_classes, t_numbers, few_numbers))

  small : HasSmallClasses t
  small = record {
    numbers = omega (arith, t_numbers, few_numbers);
    classes = λ n h. let low = filled.sound.classes n h in omega (arith, low, few_classes, t_numbers, few_numbers);
    count = omega (arith, few_classes, t_numbers, few_numbers);
    births = small_birth;
  }

  abbrev members : List (ℕ × Mark)
  members = zip t.class_of (marks_in records)

  pub marks_count : length (marks_in records) ≡ fault_count c
  marks_count = ap (λ (ms : List Mark). length ms) marks_are ∙ length-map s.members (λ (m : ℕ × Mark). m.1) ∙ count

  mark_at : (n : ℕ) → get_or (marks_in records) n mark.Rep ≡ stated_mark s n
  mark_at n = ap (λ (ms : List Mark). get_or ms n mark.Rep) marks_are ∙ map_item (λ (m : ℕ × Mark). m.1) s.members n (0, mark.Rep)

  lead_stated : (n : ℕ) → n < fault_count c → representative t (class_at t n) ≡ n → stated_mark s n ≡ mark.Rep
  lead_stated n h lead =
      let both : ◌≡◌ {A = Option Mark} (Some (stated_mark s n)) (Some mark.Rep) = sym (given n h) ∙ lead_mark u evidence n (sym (leads n h) ∙ lead) in cc

  mark_needed : (n : ℕ) → n < fault_count c → number_mark t needed n ≡ Some (stated_mark s n)
  mark_needed n h = elim (cases_eq (representative t (class_at t n)) n) [
    | inl lead ↦ lead_mark t needed n lead ∙ ap (λ (m : Mark). Some m) (sym (lead_stated n h lead))
    | inr member ↦
        let m = marking n h member in
        let inside : n < length t.class_of = omega (arith, h, t_numbers) in
        mark_so_far c t b evidence usable (length t.class_of) n inside inside member m.0 m.1.usable ∙ ap (λ (m : Mark). Some m) m.1.gives
  ]

  are_members : AreMembers t (evidence_in body) members
  are_members =
      let size : length members ≡ length t.class_of = zip_count t.class_of (marks_in records) (t_numbers ∙ sym marks_count) in
      record {
        count = size;
        each = record {
          classes = λ n h. ap (λ (x : ℕ × Mark). x.0) (zip_item t.class_of (marks_in records) n (omega (arith, h, size)) (omega (arith, h, size, t_numbers, marks_count)));
          marks = λ n h.
              rw body_evidence (mark_needed n (omega (arith, h, size, t_numbers)) ∙ ap (λ (m : Mark). Some m) (sym (mark_at n) ∙ sym (ap (λ (x : ℕ × Mark). x.1) (zip_item t.class_of (marks_in records) n (omega (arith, h, size)) (omega (arith, h, size, t_numbers, marks_count))))));
        };
      }

  -- ---- all lines

  left_right : AreRightLines c (stated_records c (result_with records t (answered_vectors left)))
  left_right = right_table is_body small are_members

  thin_right : AreRightLines c thin
  unfolding thin_result
  thin_right = subst (AreRightLines c) (sym is.thin_is) left_right

  pub thin_valid : IsValid c thin
  unfolding thin_result
  thin_valid = record { lines = thin_right; before = body ++ class_records t.births ++ member_records members; ended = is.thin_is }

-- What is left of valid records is valid.
pub left_valid : ValidIsTrue → (c : Circuit) (records thin : List Record) → IsCircuit c → IsValid c records → IsThin c records thin → IsValid c thin
left_valid law c records thin circuit valid is =
    let told = law c records circuit valid in
    thin_valid c circuit records thin valid.lines is told.0 told.1 told.2.numbers (ap marks_in told.1 ∙ stated_marks c told.0 told.2.body)
