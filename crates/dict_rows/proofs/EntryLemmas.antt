-- Entries of dictionaries, bit by bit.
use Rattle.std.proofs.Common.{◌≡◌, ◌≢◌, ◌∙◌, ℕ, zero, suc, ◌<◌, Bool, not, List, [], ◌∷◌, length, get_or, map, refl, sym, ap, subst, arith, All}
use Rattle.std.specs.Bool.{Decides}
use Rattle.std.specs.Cmp.{booleans_Decides}
use Rattle.std.specs.List.{range_with_len}
use Rattle.std.proofs.lemmas.Slice.Eq.{slice_eq-Decides}
use Rattle.std.proofs.lemmas.List.{get_or-map, length-map, get_or_default}
use Rattle.std.proofs.lemmas.List.FromFn.{length-map-range_with_len, get_or-map-range_with_len}
use Rattle.net_model.specs.Answer.{bit_at}
use Rattle.net_model.specs.ClassTable.{same_bits}
use Rattle.dict_rows.specs.declared.dict.Dict.{Dict}
use Rattle.dict_rows.specs.declared.dict.DictKind.{DictKind}
use Rattle.dict_rows.specs.declared.dict.DictKind.TheVariants.{PassFail, Full, SameDiff}
use Rattle.net_model.specs.Rows.{row_at}
use Rattle.dict_rows.specs.Rows.{AreRows}
use Rattle.dict_rows.specs.AnswerTable.{Answers, IsTable, answer_in, answer_to}
use Rattle.dict_rows.specs.Entries.{differences, answers_of, same_diff_entry}
use Rattle.dict_rows.specs.Grouped.{IsGrouped, AreGroupsOf}
use Rattle.dict_rows.specs.Dictionary.{IsDictionary, baseline_count, entry_width}

pub same_bits-Decides : (a b : List Bool) → Decides (same_bits a b) (a ≡ b)
same_bits-Decides a b = slice_eq-Decides booleans_Decides a b (same_bits a b) refl

pub length-differences : (answers baselines : List (List Bool)) → length answers ≡ length baselines → length (differences answers baselines) ≡ length answers
unfolding differences
length-differences [] [] e = refl
length-differences [] (b ∷ bs) e = refl
length-differences (a ∷ answers) [] e = absurd (omega (arith, e))
length-differences (a ∷ answers) (b ∷ bs) e = ap suc (length-differences answers bs (omega (arith, e)))

pub difference_at : (answers baselines : List (List Bool)) (k : ℕ) → length answers ≡ length baselines → k < length answers → bit_at (differences answers baselines) k ≡ not (same_bits (get_or answers k []) (get_or baselines k []))
unfolding differences
difference_at [] baselines k e h = absurd (omega (arith, h))
difference_at (a ∷ answers) [] k e h = absurd (omega (arith, e))
difference_at (a ∷ answers) (b ∷ bs) zero e h = refl
difference_at (a ∷ answers) (b ∷ bs) (suc k) e h = difference_at answers bs k (omega (arith, e)) (omega (arith, h))

module _ (t : Answers) where
  pub length-answers : (number : ℕ) → length (answers_of t.rows number) ≡ length t.rows
  length-answers number = length-map t.rows (λ row. answer_in row number)

  pub answer_at : (pattern number : ℕ) → pattern < length t.rows → row_at (answers_of t.rows number) pattern ≡ answer_to t pattern number
  answer_at pattern number h = get_or-map (λ row. answer_in row number) t.rows pattern [] [] h

  -- The answers of a number are rows of the table's width.
  pub answers_are : IsTable t → (number : ℕ) → number < t.numbers → AreRows (length t.rows) t.positions (answers_of t.rows number)
  answers_are is number hn = record {
    count_is = length-answers number;
    width_is = λ k d h.
        let inside : k < length t.rows = omega (arith, h, length-answers number) in
        ap length (get_or_default (answers_of t.rows number) k d [] h ∙ answer_at k number inside) ∙ is.positions k number inside hn;
  }

  module _ (baselines : List (List Bool)) (are : AreRows (length t.rows) t.positions baselines) where
    pub length-entry : (number : ℕ) → length (same_diff_entry t.rows baselines number) ≡ length t.rows
    length-entry number = length-differences (answers_of t.rows number) baselines (length-answers number ∙ sym are.count_is) ∙ length-answers number

    pub entry_bit : (pattern number : ℕ) → pattern < length t.rows → not (same_bits (answer_to t pattern number) (row_at baselines pattern)) ≡ bit_at (same_diff_entry t.rows baselines number) pattern
    entry_bit pattern number h =
        sym (difference_at (answers_of t.rows number) baselines pattern (length-answers number ∙ sym are.count_is) (omega (arith, h, length-answers number))
        ∙ ap (λ (answer : List Bool). not (same_bits answer (row_at baselines pattern))) (answer_at pattern number h))

    -- The entries of all numbers are rows of as many bits as there are patterns.
    pub entry_rows_are : AreRows t.numbers (length t.rows) (map (same_diff_entry t.rows baselines) (range_with_len 0 t.numbers))
    entry_rows_are =
        let entry = same_diff_entry t.rows baselines in
        let many = length-map-range_with_len entry 0 t.numbers in
        record {
          count_is = many;
          width_is = λ k d h. ap length (get_or-map-range_with_len entry 0 t.numbers k k d (omega (arith, h, many)) (omega arith)) ∙ length-entry k;
        }

-- ---- dictionaries whole

-- The entry rows are among the rows that were grouped.
pub entry_widths : {rows : List (List Bool)} {groups : List ℕ} {entries : List (List Bool)} {count width : ℕ} → AreGroupsOf rows groups entries → AreRows count width rows → All (λ row. length row ≡ width) entries
entry_widths {rows} {groups} {entries} {count} {width} is are k d h =
    let has = (is.grouped.used k).1 h in
    let n = has.0 in
    let inside : n < length rows = omega (arith, has.1, is.grouped.one_each) in
    let group : get_or groups n 0 ≡ k = sym (get_or_default groups n k 0 has.1) ∙ has.2 in
    ap length (get_or_default entries k d [] h ∙ (ap (row_at entries) (sym group) ∙ is.own n inside)) ∙ are.width_is n [] inside

pub kind_width : (kind : DictKind) → kind ≢ Full → (patterns positions : ℕ) → patterns ≡ entry_width kind patterns positions
kind_width PassFail ne patterns positions = refl
kind_width Full ne patterns positions = absurd (ne refl)
kind_width SameDiff ne patterns positions = refl

pub kind_count : (kind : DictKind) → kind ≢ Full → (patterns : ℕ) → patterns ≡ baseline_count kind patterns
kind_count PassFail ne patterns = refl
kind_count Full ne patterns = absurd (ne refl)
kind_count SameDiff ne patterns = refl

-- A dictionary of groups of rows, each the entry of its number.
pub dictionary_of : (d : Dict) (t : Answers) (baselines : List (List Bool)) (entry : ℕ → List Bool) (rows : List (List Bool)) → rows ≡ map entry (range_with_len 0 t.numbers)
    → AreGroupsOf rows d.groups d.entries → AreRows t.numbers (entry_width d.kind (length t.rows) t.positions) rows
    → d.positions ≡ t.positions → d.patterns ≡ length t.rows → d.numbers ≡ t.numbers → d.baselines ≡ baselines → AreRows (baseline_count d.kind (length t.rows)) t.positions baselines
    → IsDictionary d d.kind t baselines entry
dictionary_of d t baselines entry rows is groups rows_are positions patterns numbers same are =
    let long = rows_are.count_is in
    let at : (number : ℕ) → number < t.numbers → row_at rows number ≡ entry number = λ number h. ap (λ (rs : List (List Bool)). row_at rs number) is ∙ get_or-map-range_with_len entry 0 t.numbers number number [] h (omega arith) in
    record {
      kind_is = refl;
      positions_are = positions;
      patterns_are = patterns;
      numbers_are = numbers;
      baselines_are = same;
      entries_are = λ number h. groups.own number (omega (arith, h, long)) ∙ at number h;
      grouped = subst (λ n. IsGrouped n d.groups d.entries) (long ∙ sym numbers) groups.grouped;
      shaped = record {
        baselines = subst (λ n. AreRows (baseline_count d.kind n) d.positions d.baselines) (sym patterns)
            (subst (λ n. AreRows (baseline_count d.kind (length t.rows)) n d.baselines) (sym positions) (subst (AreRows (baseline_count d.kind (length t.rows)) t.positions) (sym same) are));
        entries = subst (λ n. All (λ row. length row ≡ entry_width d.kind n d.positions) d.entries) (sym patterns)
            (subst (λ n. All (λ row. length row ≡ entry_width d.kind (length t.rows) n) d.entries) (sym positions) (entry_widths groups rows_are));
      };
    }

pub no_rows : (width : ℕ) → AreRows 0 width []
no_rows width = record { count_is = refl; width_is = λ k d h. absurd (omega (arith, h)) }
