-- A draft in which each number is marked, with the lines of its classes and numbers and the end, is a file that the
-- generator may write and that is true.
use Rattle.std.proofs.Common.{◌≡◌, ℕ, ◌<◌, ◌^◌, Bool, false, cond, List, [], ◌∷◌, ◌++◌, map, length, get_or, Option, Some, None, refl, sym, ap, ◌∙◌, arith, IsTrue}
use Rattle.std.specs.Prelude.{All, unwrap_or, IsSome}
use Rattle.std.specs.List.{slice_get, count_by, enumerate_from}
use Rattle.std.proofs.lemmas.List.{append-nil, map-id}
use Rattle.std.proofs.lemmas.List.Elements.{All-append, All-map, filter_map-append}
use Rattle.std.proofs.lemmas.List.FromFn.{length-enumerate_from, length-map-range_with_len, get_or-map-range_with_len}
use Rattle.std.proofs.lemmas.List.Sums.{sum_by-append}
use Rattle.std.proofs.lemmas.Option.{slice_get-get_or, get_or_from_slice_get, slice_get_within}
use Rattle.net_model.specs.Circuit.{Circuit}
use Rattle.net_model.specs.FaultList.{fault_count}
use Rattle.net_model.specs.ClassTable.{ClassTable, class_at, class_count, number_range}
use Rattle.net_model.specs.PatternRows.{IsTableOf}
use Rattle.class_refine.specs.Fields.{IsWhole}
use Rattle.class_refine.specs.Laws.{NamedSeparatesFaults}
use Rattle.class_refine.proofs.Refined.{few_classes}
use Rattle.result_records.specs.declared.record.Budgets.{Budgets}
use Rattle.result_records.specs.declared.record.Evidence.{Evidence}
use Rattle.result_records.specs.declared.record.Mark.{Mark}
use Rattle.result_records.specs.declared.record.Mark.TheVariants.{Rep}
use Rattle.result_records.specs.declared.record.Record.{Record}
use Rattle.result_records.specs.declared.record.Record.TheVariants.{Pattern, Same, Class, Member, End}
use Rattle.result_records.specs.Spelling.{HasBirthSpelling}
use Rattle.result_records.specs.Marks.{pattern_of, evidence_of, patterns_in, evidence_in, is_class, is_member, is_end, class_lines, member_lines}
use Rattle.result_file.specs.Valid.{AreRightLines, IsValid}
use Rattle.result_file.specs.Summary.{is_equal, is_open, summary_of}
use Rattle.result_file.specs.Meaning.{StatedResult, stated_records, class_records, member_records, is_body_record, IsTrueResult}
use Rattle.result_records.proofs.RecordLists.{read_none, read_all, read_kept, count_kept, count_more}
use Rattle.result_file.proofs.RightLines.{IsBody, HasSmallClasses, AreMembers, right_table}
use Rattle.result_file.proofs.SoundLemmas.{first_by, later_by}
use Rattle.result_file.proofs.Truth.{AreSound, IsSoundTable, lines_true}
use Rattle.member_marks.specs.declared.marks.Given.{Given}
use Rattle.member_marks.specs.Given.{given_mark, AreGiven, AreAllMarked}
use Rattle.dia_gen.specs.Marked.{member_for}
use Rattle.dia_gen.specs.Draft.{AreDraftLines}
use Rattle.dia_gen.specs.Made.{head_lines, lines_with}
use Rattle.class_refine.proofs.PatternTables.{table_numbers}
use Rattle.kept_vectors.proofs.KeepLemmas.{table_patterns}
use Rattle.member_marks.proofs.MarkLemmas.{all_marked_none, lead_inside}
use Rattle.dia_gen.proofs.DraftLemmas.{lines_patterns, lines_evidence, lines_two, lines_count}

-- ---- births

first_birth : (t : ClassTable) → IsWhole t → slice_get t.births 0 ≡ Some None
first_birth t whole =
    let some : 0 < length t.births = omega (arith, whole.patterns) in
    slice_get-get_or t.births 0 None some ∙ ap Some (first_by (get_or t.births 0 None) t.patterns (whole.births 0 some))

small_birth : (t : ClassTable) → IsWhole t → class_count t < 2 ^ 32 → (class : ℕ) (birth : Option (ℕ × ℕ)) → slice_get t.births class ≡ Some birth → HasBirthSpelling birth
small_birth t whole small class None at = tt
small_birth t whole small class (Some birth) at =
    let below : class < class_count t = slice_get_within t.births class (Some birth) at in
    let known = rw (get_or_from_slice_get t.births class (Some birth) None at) at (whole.births class below) in
    (omega (arith, known.0), omega (arith, known.1, whole.patterns))

some_mark : (o : Option Mark) → IsSome o → o ≡ Some (unwrap_or o Rep)
some_mark None some = absurd (cc)
some_mark (Some m) some = refl

-- One end after other records.
pub count_end : (p : Record → Bool) (rs : List Record) → p End ≡ false → count_by p (rs ++ End ∷ []) ≡ count_by p rs
count_end p rs refused =
    let e : ◌≡◌ {A = ℕ} (cond (p End) 1 0) 0 = ap (λ (b : Bool). cond {A = ℕ} b 1 0) refused in
    omega (arith, sum_by-append (λ r. cond (p r) 1 0) rs (End ∷ []), e)

module _ (c : Circuit) (budgets : Budgets) (kept : List (List Bool)) (later : List Record) (t : ClassTable) (given : List (Option Given)) where
  abbrev pub stated : StatedResult
  stated = record { budgets = budgets; body = map Pattern kept ++ later; births = t.births; members = map (member_for t given) (number_range t) }

  abbrev classes : List Record
  classes = class_records t.births

  abbrev members : List Record
  members = member_records (map (member_for t given) (number_range t))

  body_patterns : patterns_in stated.body ≡ kept ++ patterns_in later
  body_patterns = filter_map-append pattern_of (map Pattern kept) later ∙ ap (λ (vs : List (List Bool)). vs ++ patterns_in later) (read_all Pattern pattern_of (λ v. v) (λ v. refl) kept ∙ map-id kept)

  body_evidence : evidence_in stated.body ≡ evidence_in later
  body_evidence = filter_map-append evidence_of (map Pattern kept) later ∙ ap (λ (es : List Evidence). es ++ evidence_in later) (read_none Pattern evidence_of (λ v. refl) kept)

  module _ (lines : AreDraftLines c budgets kept later) (table : IsTableOf c (kept ++ patterns_in later) t) (whole : IsWhole t) (few : fault_count c < 2 ^ 27)
      (are : AreGiven t (evidence_in later) given) (all : AreAllMarked t given) where
    numbers : length t.class_of ≡ fault_count c
    numbers = table_numbers table

    body : IsBody c t (lines_with c budgets kept later)
    body = record {
      lines = lines.right;
      table = rw (lines_patterns c budgets kept later) table;
      two = lines_two c budgets kept later;
      no_class = lines_count c budgets kept later is_class (λ v. refl) (λ e. refl) refl lines.body;
      no_member = lines_count c budgets kept later is_member (λ v. refl) (λ e. refl) refl lines.body;
      no_end = lines_count c budgets kept later is_end (λ v. refl) (λ e. refl) refl lines.body;
      complete = rw (lines_evidence c budgets kept later) (all_marked_none t (evidence_in later) given are all);
    }

    small : HasSmallClasses t
    small =
        let count : class_count t < 2 ^ 32 = omega (arith, few_classes t whole, numbers) in
        record { numbers = omega (arith, numbers); classes = λ n below. omega (arith, whole.classes n below); count = count; births = small_birth t whole count }

    all_members : (evidence : List Evidence) → evidence ≡ evidence_in later → AreMembers t evidence (map (member_for t given) (number_range t))
    all_members evidence is =
        let count : length (map (member_for t given) (number_range t)) ≡ length t.class_of = length-map-range_with_len (member_for t given) 0 (length t.class_of) in
        let item = λ (n : ℕ) (below : n < length (map (member_for t given) (number_range t))). get_or-map-range_with_len (member_for t given) 0 (length t.class_of) n n (0, Rep) (omega arith) (omega arith) in
        record {
          count = count;
          each = record {
            classes = λ n below. rw (item n below) refl;
            marks = λ n below. rw (item n below, is) (are.marks n (omega arith) ∙ some_mark (given_mark t given n) (all n (omega arith)));
          };
        }

    pub result_right : AreRightLines c (stated_records c stated)
    result_right = right_table body small (all_members (evidence_in (lines_with c budgets kept later)) (lines_evidence c budgets kept later))

    pub result_valid : IsValid c (stated_records c stated)
    result_valid = record { lines = result_right; before = lines_with c budgets kept later ++ classes ++ members; ended = refl }

    abbrev pub Widths : Type 0
    Widths = All (λ v. length v ≡ c.sources) (kept ++ patterns_in later)

    sound_table : NamedSeparatesFaults → Widths → IsSoundTable c (patterns_in stated.body) t
    sound_table law widths = record {
      numbers = numbers;
      some = whole.some;
      classes = whole.classes;
      first = first_birth t whole;
      later = λ k some below.
          let found = later_by (get_or t.births k None) k t.patterns (whole.births k below) some in
          (found.0, slice_get-get_or t.births k None below ∙ ap Some found.1, found.2, rw body_patterns (omega (arith, found.3, table_patterns table)));
      apart = λ m n low high differ. rw body_patterns (law c (kept ++ patterns_in later) t (class_at t m) (class_at t n) m n table widths (whole.classes m (omega (arith, numbers))) (whole.classes n (omega (arith, numbers))) differ low high refl refl);
      leads = lead_inside t whole;
    }

    body_records : All (λ r. IsTrue (is_body_record r)) stated.body
    body_records = All-append (λ r. IsTrue (is_body_record r)) (map Pattern kept) later (All-map (λ r. IsTrue (is_body_record r)) Pattern kept (λ k d below. refl)) lines.body

    pub result_true : AreSound c → NamedSeparatesFaults → Widths → IsTrueResult c stated
    result_true sound law widths =
        lines_true c budgets (map Pattern kept ++ later) t (map (member_for t given) (number_range t)) sound result_right body_records (sound_table law widths) (all_members (evidence_in stated.body) body_evidence)

    -- ---- what it amounts to

    abbrev numbered : List (ℕ × (ℕ × Mark))
    numbered = enumerate_from 0 (map (member_for t given) (number_range t))

    abbrev before : List Record
    before = lines_with c budgets kept later

    -- No line before the member lines passes a test that takes only member lines.
    count_tabled : (p : Record → Bool) → count_by p (head_lines c budgets) ≡ 0 → ((v : List Bool) → p (Pattern v) ≡ false) → ((e : Evidence) → p (Same e) ≡ false) → ((x : ℕ × Option (ℕ × ℕ)) → p (Class x.0 x.1) ≡ false) → count_by p (before ++ classes) ≡ 0
    count_tabled p none pattern same class = count_kept (λ x. Class x.0 x.1) before p class (enumerate_from 0 t.births) ∙ lines_count c budgets kept later p pattern same none lines.body

    count_marked : (p : Record → Bool) → count_by p (before ++ classes) ≡ 0 → p End ≡ false → count_by p (stated_records c stated) ≡ count_by p members
    count_marked p none end = count_end p (before ++ classes ++ members) end ∙ sum_by-append (λ r. cond (p r) 1 0) (before ++ classes) members ∙ omega (arith, none)

    numbers_are : member_lines (stated_records c stated) ≡ length t.class_of
    numbers_are =
        count_end is_member (before ++ classes ++ members) refl
        ∙ omega (arith, count_more (λ x. Member x.0 x.1.0 x.1.1) (before ++ classes) is_member (λ x. refl) numbered, count_tabled is_member refl (λ v. refl) (λ e. refl) (λ x. refl), length-enumerate_from 0 (map (member_for t given) (number_range t)), length-map-range_with_len (member_for t given) 0 (length t.class_of))

    classes_are : class_lines (stated_records c stated) ≡ class_count t
    classes_are =
        count_end is_class (before ++ classes ++ members) refl
        ∙ count_kept (λ x. Member x.0 x.1.0 x.1.1) (before ++ classes) is_class (λ x. refl) numbered
        ∙ omega (arith, count_more (λ x. Class x.0 x.1) before is_class (λ x. refl) (enumerate_from 0 t.births), lines_count c budgets kept later is_class (λ v. refl) (λ e. refl) refl lines.body, length-enumerate_from 0 t.births)

    patterns_are : length (patterns_in (stated_records c stated)) ≡ t.patterns
    patterns_are =
        ap length (
        filter_map-append pattern_of (before ++ classes ++ members) (End ∷ [])
        ∙ append-nil (patterns_in (before ++ classes ++ members))
        ∙ read_kept (λ x. Member x.0 x.1.0 x.1.1) (before ++ classes) pattern_of (λ x. refl) numbered
        ∙ read_kept (λ x. Class x.0 x.1) before pattern_of (λ x. refl) (enumerate_from 0 t.births)
        ∙ lines_patterns c budgets kept later)
        ∙ sym (table_patterns table)

    pub result_summary : record { numbers = length t.class_of; patterns = t.patterns; classes = class_count t; equal = count_by is_equal members; spent = count_by is_open members } ≡ summary_of (stated_records c stated)
    result_summary =
        let ns = numbers_are in
        let cs = classes_are in
        let ps = patterns_are in
        let equal = count_marked is_equal (count_tabled is_equal refl (λ v. refl) (λ e. refl) (λ x. refl)) refl in
        let spent = count_marked is_open (count_tabled is_open refl (λ v. refl) (λ e. refl) (λ x. refl)) refl in
        cc
