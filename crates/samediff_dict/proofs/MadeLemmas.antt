-- The answers of a circuit's classes to patterns, and the dictionary of their entries.
use Rattle.std.proofs.Common.{◌≡◌, ◌∙◌, ℕ, ◌+◌, ◌-◌, ◌<◌, ◌≤◌, Bool, not, List, [], length, get_or, map, drop, refl, sym, ap, subst, arith, inl, inr}
use Rattle.std.specs.Prelude.{slice_range}
use Rattle.std.proofs.lemmas.Bool.{cases_lt}
use Rattle.std.specs.List.{range_with_len}
use Rattle.std.proofs.lemmas.List.{ext_get_or, get_or-map, length-map, get_or-take, get_or-drop, length-take-le, length-drop}
use Rattle.std.proofs.lemmas.List.FromFn.{get_or-map-range_with_len, length-map-range_with_len, fill_by_all}
use Rattle.net_model.specs.Circuit.{Circuit, IsCircuit}
use Rattle.net_model.specs.FaultList.{fault_count}
use Rattle.net_model.specs.PatternRows.{IsTableOf}
use Rattle.net_model.specs.ClassTable.{ClassTable, class_count, class_at, class_table, representative}
use Rattle.net_model.proofs.Copies.{same_bits_same_list}
use Rattle.class_refine.specs.Fields.{IsWhole}
use Rattle.class_refine.proofs.Refined.{representative-member}
use Rattle.net_model.proofs.OneAnswer.{one_table}
use Rattle.class_refine.proofs.PatternTables.{table_numbers}
use Rattle.dict_rows.specs.AnswerTable.{Answers, AreAnswerable, AreAnswers, answer_in, answer_to}
use Rattle.table_dicts.specs.ByClass.{AreEntriesOfClasses}
use Rattle.dict_rows.specs.Entries.{answers_of, differences, same_diff_entry}
use Rattle.dict_rows.specs.Rows.{AreRows}
use Rattle.table_dicts.proofs.ClassLemmas.{together_where_alike}
use Rattle.dict_rows.proofs.EntryLemmas.{length-entry, entry_bit}
use Rattle.table_dicts.proofs.OneTable.{one_answers}
use Rattle.samediff_dict.specs.declared.numbering.Candidates.{Candidates}
use Rattle.samediff_dict.specs.Copied.{HaveClasses, class_entry}
use Rattle.samediff_dict.specs.Numbered.{AnswerAlike, AreNumbersOf, AreAdded, AreCandidates, HaveCandidates, AreChosen, baselines_at, class_answers}
use Rattle.samediff_dict.proofs.CandidateLemmas.{candidates_of_numbers, some_class}
use Rattle.samediff_dict.proofs.ChoiceLemmas.{base_is}
use Rattle.samediff_dict.proofs.DifferingLemmas.{length-class_entry, class_entry_at}
use Rattle.samediff_dict.proofs.EvaluatedLemmas.{evaluated_row, evaluated_answers, evaluated_are, evaluated_at}

pub length-range : {X : Type 0} (xs : List X) (first end : ℕ) → end ≤ length xs → length (slice_range xs first end) ≡ end - first
length-range xs first end h = length-take-le (end - first) (drop first xs) (omega (arith, length-drop first xs, h))

-- some of the patterns can be answered as all can
pub answerable_range : {c : Circuit} {patterns : List (List Bool)} → AreAnswerable c patterns → (first end : ℕ) → end ≤ length patterns → AreAnswerable c (slice_range patterns first end)
answerable_range {c} {patterns} are first end le =
    let long = length-range patterns first end le in
    record {
      widths = λ k d h.
          let below : k < end - first = omega (arith, h, long) in
          ap length (get_or-take (end - first) (drop first patterns) k d below ∙ get_or-drop first patterns k d) ∙ are.widths (first + k) d (omega (arith, below, le));
      few = omega (arith, long, le, are.few);
    }

module _ (c : Circuit) (is : IsCircuit c) (patterns : List (List Bool)) where
  -- members of a class of these patterns have the same answers
  pub answer_alike : (classes : ClassTable) → IsTableOf c patterns classes → (t : Answers) → AreAnswers c patterns t → AnswerAlike classes t
  answer_alike classes of t are =
      let numbers = table_numbers of in
      let own : IsTableOf c patterns (class_table (fault_count c) t.rows) = record { rows = t.rows; answers = are.rows; table = refl } in
      let same : classes ≡ class_table (fault_count c) t.rows = one_table c is of own in
      record {
        numbers = numbers ∙ sym are.numbers;
        each = λ pattern m n h hm hn together.
            (together_where_alike (fault_count c) m n t.rows (omega (arith, hm, are.numbers)) (omega (arith, hn, are.numbers))).0
            (subst (λ (u : ClassTable). class_at u m ≡ class_at u n) same together) pattern h;
      }

  -- the answers to some of the patterns are among those to all
  pub range_answers : (first end pattern number : ℕ) → first + pattern < end → end ≤ length patterns → (t : Answers) → AreAnswers c patterns t
      → answer_to (evaluated_answers c (slice_range patterns first end)) pattern number ≡ answer_to t (first + pattern) number
  range_answers first end pattern number h l t are =
      let some = slice_range patterns first end in
      let long = length-range patterns first end l in
      let vector : get_or some pattern [] ≡ get_or patterns (first + pattern) [] = get_or-take (end - first) (drop first patterns) pattern [] (omega (arith, h)) ∙ get_or-drop first patterns pattern [] in
      evaluated_at c some pattern number (omega (arith, long, h))
      ∙ (ap (λ (v : List Bool). get_or (evaluated_row c v) number []) vector
      ∙ (sym (evaluated_at c patterns (first + pattern) number (omega (arith, h, l)))
      ∙ ap (λ (u : Answers). answer_to u (first + pattern) number) (one_answers c is (evaluated_are c is patterns) are)))

-- ---- candidates, some patterns at a time

-- The leads, in this order, answer in the table what the classes do. The table has the patterns that begin at `first`.
pub record AnswerAsClasses (t : ClassTable) (rows : List (List (List Bool))) (table : Answers) (leads : List ℕ) (first : ℕ) : Type 0 where
  pub are : (pattern : ℕ) → pattern < length table.rows → map (answer_to table pattern) leads ≡ class_answers t (get_or rows (first + pattern) [])

pub as_classes : (t : ClassTable) (rows : List (List (List Bool))) (table : Answers) (leads : List ℕ) (first : ℕ) → length leads ≡ class_count t
    → ((pattern class : ℕ) → pattern < length table.rows → class < class_count t → answer_to table pattern (get_or leads class 0) ≡ answer_in (get_or rows (first + pattern) []) (representative t class)) → AnswerAsClasses t rows table leads first
as_classes t rows table leads first many same = record {
  are = λ pattern h. fill_by_all (λ class. answer_in (get_or rows (first + pattern) []) (representative t class)) (map (answer_to table pattern) leads) (class_count t) [] (length-map leads (answer_to table pattern) ∙ many)
      (λ class hc. get_or-map (answer_to table pattern) leads class 0 [] (omega (arith, hc, many)) ∙ same pattern class h hc);
}

-- the lowest number of each class, in its place
pub lead_at : (t : ClassTable) (leads : List ℕ) → leads ≡ map (representative t) (range_with_len 0 (class_count t)) → (class : ℕ) → class < class_count t → get_or leads class 0 ≡ representative t class
lead_at t leads are class h = ap (λ (xs : List ℕ). get_or xs class 0) are ∙ get_or-map-range_with_len (representative t) 0 (class_count t) class class 0 h (omega arith)

-- these answer as their classes do
pub leads_answer : (t : ClassTable) (table : Answers) (leads : List ℕ) → leads ≡ map (representative t) (range_with_len 0 (class_count t)) → AnswerAsClasses t table.rows table leads 0
leads_answer t table leads are =
    as_classes t table.rows table leads 0 (ap length are ∙ length-map-range_with_len (representative t) 0 (class_count t)) (λ pattern class hp hc.
    let same : pattern ≡ 0 + pattern = omega arith in
    ap (answer_to table pattern) (lead_at t leads are class hc) ∙ ap (λ p. answer_in (get_or table.rows p []) (representative t class)) same)

-- The candidates of the first `done` patterns are numbered.
pub record AreNumberedTo (t : ClassTable) (rows : List (List (List Bool))) (done : ℕ) (patterns : List Candidates) : Type 0 where
  pub count : length patterns ≡ done
  pub each : (pattern : ℕ) (d : Candidates) → pattern < done → AreCandidates t (get_or rows pattern []) (get_or patterns pattern d)

pub numbered_none : (t : ClassTable) (rows : List (List (List Bool))) (patterns : List Candidates) → patterns ≡ [] → AreNumberedTo t rows 0 patterns
numbered_none t rows patterns none = record { count = ap length none; each = λ pattern d h. absurd (omega (arith, h)) }

pub numbered_more : {t : ClassTable} {rows : List (List (List Bool))} {table : Answers} {leads : List ℕ} {first : ℕ} {old new : List Candidates} (end : ℕ) → first + length table.rows ≡ end → AnswerAsClasses t rows table leads first
    → AreNumberedTo t rows first old → AreAdded table leads old new → AreNumberedTo t rows end new
numbered_more {t} {rows} {table} {leads} {first} {old} {new} end sum answers so_far added = record {
  count = omega (arith, added.count, so_far.count, sum);
  each = λ pattern d h. elim (cases_lt pattern first) [
    | inl low ↦ subst (AreCandidates t (get_or rows pattern [])) (sym (added.before pattern d (omega (arith, low, so_far.count)))) (so_far.each pattern d low)
    | inr over ↦
        let at = pattern - first in
        let here : at < length table.rows = omega (arith, h, over, sum) in
        let place : length old + at ≡ pattern = omega (arith, over, so_far.count) in
        let row : first + at ≡ pattern = omega (arith, over) in
        candidates_of_numbers t (get_or rows pattern []) (get_or new pattern d)
        (subst (λ k. AreNumbersOf (class_answers t (get_or rows k [])) (get_or new pattern d)) row
        (subst (λ k. AreNumbersOf (class_answers t (get_or rows (first + at) [])) (get_or new k d)) place
        (subst (λ (answers : List (List Bool)). AreNumbersOf answers (get_or new (length old + at) d)) (answers.are at here) (added.added at d here))))
  ];
}

pub numbered_all : {t : ClassTable} {rows : List (List (List Bool))} {done : ℕ} {patterns : List Candidates} → AreNumberedTo t rows done patterns → done ≡ length rows → HaveCandidates t rows patterns
numbered_all so_far all = record { count = so_far.count ∙ all; each = λ pattern d h. so_far.each pattern d (omega (arith, h, all)) }

-- ---- what is chosen among them

module _ (t : ClassTable) (rows : List (List (List Bool))) (patterns : List Candidates) (chosen : List ℕ) (numbered : HaveCandidates t rows patterns) (long : length chosen ≡ length rows) (are_chosen : AreChosen t rows chosen) where
  pub have_classes : HaveClasses (class_count t) patterns chosen
  have_classes = record {
    count = numbered.count ∙ sym long;
    each = λ pattern d h.
        let are = numbered.each pattern d (omega (arith, h, long)) in
        record { one_each = are.one_each; some = some_class t (get_or rows pattern []) (get_or patterns pattern d) (get_or chosen pattern 0) are (are_chosen pattern h) };
  }

-- ---- entries

module _ (k : ClassTable) (t : Answers) (patterns : List Candidates) (chosen : List ℕ) (numbered : HaveCandidates k t.rows patterns) (long : length chosen ≡ length t.rows) (are_chosen : AreChosen k t.rows chosen)
    (baselines : AreRows (length t.rows) t.positions (baselines_at k t.rows chosen)) where
  abbrev none : Candidates
  none = record { numbers = []; count = 0 }

  -- the entry of a class is that of its lowest number
  entry_is : (class : ℕ) → class < class_count k → class_entry patterns chosen class ≡ same_diff_entry t.rows (baselines_at k t.rows chosen) (representative k class)
  entry_is class h =
      let bases = baselines_at k t.rows chosen in
      let count = numbered.count ∙ sym long in
      let wide : length (class_entry patterns chosen class) ≡ length t.rows = length-class_entry patterns chosen count class ∙ long in
      same_bits_same_list (class_entry patterns chosen class) (same_diff_entry t.rows bases (representative k class)) (wide ∙ sym (length-entry t bases baselines (representative k class))) (λ pattern hp.
      let here : pattern < length t.rows = omega (arith, hp, wide) in
      class_entry_at patterns chosen count class pattern none (omega (arith, here, long))
      ∙ (ap not (base_is k t.rows chosen pattern (get_or patterns pattern none) (omega (arith, here, long)) are_chosen (numbered.each pattern none here) class h)
      ∙ entry_bit t bases baselines pattern (representative k class) here))

  pub entries_are : IsWhole k → AnswerAlike k t → AreEntriesOfClasses k (map (class_entry patterns chosen) (range_with_len 0 (class_count k))) (same_diff_entry t.rows (baselines_at k t.rows chosen))
  entries_are whole alike = record {
    own = λ number h.
        let class = class_at k number in
        let known = whole.classes number h in
        let lead = representative-member k whole class known in
        let same : answers_of t.rows (representative k class) ≡ answers_of t.rows number =
        ext_get_or [] (answers_of t.rows (representative k class)) (answers_of t.rows number) (length-map t.rows (λ row. answer_in row (representative k class)) ∙ sym (length-map t.rows (λ row. answer_in row number))) (λ pattern hp.
        let here : pattern < length t.rows = omega (arith, hp, length-map t.rows (λ row. answer_in row (representative k class))) in
        get_or-map (λ row. answer_in row (representative k class)) t.rows pattern [] [] here
        ∙ (alike.each pattern (representative k class) number here (omega (arith, lead.0, alike.numbers)) (omega (arith, h, alike.numbers)) lead.1 ∙ sym (get_or-map (λ row. answer_in row number) t.rows pattern [] [] here))) in
        get_or-map-range_with_len (class_entry patterns chosen) 0 (class_count k) class class [] known (omega arith)
        ∙ (entry_is class known ∙ ap (λ (answers : List (List Bool)). differences answers (baselines_at k t.rows chosen)) same);
  }
