-- The patterns of a valid result can be numbered in 32 bits: each splits a class, and there are no more classes than
-- fault numbers.
use Rattle.std.proofs.Common.{◌≡◌, ◌∙◌, ℕ, zero, suc, ◌<◌, ◌≤◌, ◌^◌, List, [], ◌∷◌, ◌++◌, length, take, fold, refl, sym, ap, subst, arith}
use Rattle.std.specs.Prelude.{Bool, flat_map, ◌*◌}
use Rattle.std.specs.List.{AllZip}
use Rattle.std.proofs.Math.Seq.{take-suc, take-length}
use Rattle.std.proofs.lemmas.List.{append-nil}
use Rattle.std.proofs.lemmas.List.Elements.{filter_map-append}
use Rattle.net_model.specs.Circuit.{Circuit, IsCircuit, all_lines}
use Rattle.net_model.specs.FaultList.{faults, fault_count, sites_of_line, both_stuck}
use Rattle.net_model.specs.declared.fault.Site.{Site}
use Rattle.fault_list.proofs.Bound.{few_sites}
use Rattle.net_model.specs.ClassTable.{ClassTable, class_table, first_table, refined_table}
use Rattle.net_model.specs.PatternRows.{IsAnswerRow, IsTableOf}
use Rattle.net_model.proofs.OneAnswer.{one_table}
use Rattle.net_model.proofs.Listed.{some_number}
use Rattle.class_refine.specs.Fields.{IsWhole}
use Rattle.class_refine.proofs.Refined.{sound_from, split_adds, whole-first, whole-refined, few_classes}
use Rattle.class_refine.proofs.PatternTables.{rows_exist, table_numbers}
use Rattle.kept_vectors.proofs.KeepLemmas.{table_patterns}
use Rattle.result_records.specs.declared.record.Record.{Record}
use Rattle.result_records.specs.declared.record.Record.TheVariants.{Head, Budget, Pattern, Same, Class, Member, End}
use Rattle.result_records.specs.Marks.{pattern_of, patterns_in}
use Rattle.result_file.specs.Lines.{IsRightLine}
use Rattle.result_file.specs.Valid.{record_at, AreRightLines, IsValid}

all_zip_more : {A B : Type 0} (R : A → B → Type 0) (xs : List A) (ys : List B) (x : A) (y : B) → AllZip R xs ys → R x y → AllZip R (xs ++ x ∷ []) (ys ++ y ∷ [])
all_zip_more R [] [] x y all one = (one, tt)
all_zip_more R [] (b ∷ ys) x y all one = absurd all
all_zip_more R (a ∷ xs) [] x y all one = absurd all
all_zip_more R (a ∷ xs) (b ∷ ys) x y all one = (all.0, all_zip_more R xs ys x y all.1 one)

fold_more : {A B : Type 0} (f : B → A → B) (b : B) (xs : List A) (x : A) → fold f b (xs ++ x ∷ []) ≡ f (fold f b xs) x
fold_more f b [] x = refl
fold_more f b (y ∷ xs) x = fold_more f (f b y) xs x

-- Each site is stuck at 0 and at 1.
doubled : (sites : List Site) → length (flat_map both_stuck sites) ≡ 2 * length sites
doubled [] = refl
doubled (site ∷ sites) = omega (arith, doubled sites)

module _ (c : Circuit) (circuit : IsCircuit c) where
  -- The tables of no pattern, and of one pattern more.
  no_patterns : IsTableOf c [] (first_table (fault_count c))
  no_patterns = record { rows = []; answers = tt; table = refl }

  table_more : (patterns : List (List Bool)) (t : ClassTable) (v : List Bool) (row : List (List Bool)) → IsTableOf c patterns t → IsAnswerRow c v row → IsTableOf c (patterns ++ v ∷ []) (refined_table t row)
  table_more patterns t v row is answers = record {
    rows = is.rows ++ row ∷ [];
    answers = all_zip_more (IsAnswerRow c) patterns is.rows v row is.answers answers;
    table = ap (λ (u : ClassTable). refined_table u row) is.table ∙ sym (fold_more refined_table (first_table (fault_count c)) is.rows row);
  }

  abbrev HaveWholeClasses : List (List Bool) → Type 0
  HaveWholeClasses patterns = (t : ClassTable) → IsTableOf c patterns t → IsWhole t

  no_more : (patterns : List (List Bool)) → HaveWholeClasses patterns → HaveWholeClasses (patterns ++ [])
  no_more patterns whole = subst HaveWholeClasses (sym (append-nil patterns)) whole

  one_more : (before : List Record) (r : Record) → IsRightLine c before r → HaveWholeClasses (patterns_in before) → HaveWholeClasses (patterns_in before ++ patterns_in (r ∷ []))
  one_more before (Head sources positions numbers) line whole = no_more (patterns_in before) whole
  one_more before (Budget budgets) line whole = no_more (patterns_in before) whole
  one_more before (Pattern bits) line whole =
      let s = line.content.splits in
      let w : IsWhole s.t = whole s.t s.table in
      let next : IsTableOf c (patterns_in before ++ bits ∷ []) (refined_table s.t s.row) = table_more (patterns_in before) s.t bits s.row s.table s.answers in
      λ t is. subst IsWhole (one_table c circuit next is) (whole-refined s.t s.row w (split_adds s.t s.row (sound_from s.t w) s.split))
  one_more before (Same evidence) line whole = no_more (patterns_in before) whole
  one_more before (Class number birth) line whole = no_more (patterns_in before) whole
  one_more before (Member number class mark) line whole = no_more (patterns_in before) whole
  one_more before End line whole = no_more (patterns_in before) whole

  module _ (records : List Record) (right : AreRightLines c records) where
    whole_so_far : (k : ℕ) → k ≤ length records → HaveWholeClasses (patterns_in (take k records))
    whole_so_far zero h = λ t is. subst IsWhole (one_table c circuit no_patterns is) (whole-first (fault_count c) (some_number c))
    whole_so_far (suc k) h =
        let r = record_at records k in
        let shown : patterns_in (take (suc k) records) ≡ patterns_in (take k records) ++ patterns_in (r ∷ []) =
        ap patterns_in (take-suc records k End (omega (arith, h))) ∙ filter_map-append pattern_of (take k records) (r ∷ []) in
        subst HaveWholeClasses (sym shown) (one_more (take k records) r (right.right k (omega (arith, h))) (whole_so_far k (omega (arith, h))))

  pub few_patterns : (records : List Record) → IsValid c records → length (patterns_in records) < fault_count c
  few_patterns records valid =
      let patterns = patterns_in records in
      let rows = rows_exist c circuit patterns in
      let t : ClassTable = class_table (fault_count c) rows.0 in
      let is : IsTableOf c patterns t = record { rows = rows.0; answers = rows.1; table = refl } in
      let w : IsWhole t = subst (λ (rs : List Record). HaveWholeClasses (patterns_in rs)) (take-length records) (whole_so_far records valid.lines (length records) (omega arith)) t is in
      omega (arith, table_patterns is, w.patterns, few_classes t w, table_numbers is)

  few_faults : fault_count c < 2 ^ 27
  unfolding faults
  few_faults = omega (arith, doubled (flat_map (sites_of_line c) (all_lines c)), few_sites c circuit)

  pub numbered_patterns : (records : List Record) → IsValid c records → length (patterns_in records) < 2 ^ 32
  numbered_patterns records valid = omega (arith, few_patterns records valid, few_faults)
