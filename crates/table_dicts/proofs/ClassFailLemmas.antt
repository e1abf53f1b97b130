-- The pass/fail entry of a class's lowest number is that of each of its numbers.
use Rattle.std.proofs.Common.{◌≡◌, ◌∙◌, ℕ, ◌<◌, Bool, List, [], length, get_or, map, sym, ap, arith}
use Rattle.std.specs.List.{range_with_len}
use Rattle.std.specs.Prelude.{All}
use Rattle.std.proofs.lemmas.List.FromFn.{length-map-range_with_len, get_or-map-range_with_len}
use Rattle.net_model.specs.Rows.{row_at}
use Rattle.net_model.specs.Circuit.{Circuit, IsCircuit}
use Rattle.net_model.specs.ClassTable.{ClassTable, class_count, class_at, representative}
use Rattle.net_model.specs.FaultList.{fault_count}
use Rattle.net_model.specs.PatternRows.{IsTableOf}
use Rattle.class_refine.specs.Fields.{IsWhole}
use Rattle.class_refine.proofs.Refined.{representative-member}
use Rattle.class_refine.proofs.PatternTables.{table_numbers}
use Rattle.dict_rows.specs.AnswerTable.{Answers, IsTable, AreAnswers}
use Rattle.table_dicts.specs.Blocks.{IsListedBit, AreRightBits}
use Rattle.table_dicts.specs.ByClass.{AreEntriesOfClasses}
use Rattle.dict_rows.specs.Entries.{differences, full_entry, free_baselines, pass_fail_entry}
use Rattle.table_dicts.specs.declared.simulating.Kept.TheVariants.{Fails}
use Rattle.table_dicts.proofs.FailLemmas.{is_table, fails_are}
use Rattle.table_dicts.proofs.ClassLemmas.{entries_of, entry_at, same_answers, entries_of_classes}

module _ (c : Circuit) (is : IsCircuit c) (patterns : List (List Bool)) (t : Answers) (are : AreAnswers c patterns t) where
  -- Numbers with the same answers have the same pass/fail entry.
  same_fail : (m n : ℕ) → m < t.numbers → n < t.numbers → row_at (entries_of t) m ≡ row_at (entries_of t) n → pass_fail_entry t.rows m ≡ pass_fail_entry t.rows n
  same_fail m n hm hn same =
      let entries : full_entry t.rows m ≡ full_entry t.rows n = sym (entry_at c is patterns t are m hm) ∙ (same ∙ entry_at c is patterns t are n hn) in
      ap (λ (answers : List (List Bool)). differences answers (free_baselines t.rows)) (same_answers t (is_table c patterns t are) m n hm hn entries)

  module _ (classes : ClassTable) (of : IsTableOf c patterns classes) (whole : IsWhole classes) (lowest : List ℕ) (lowest_are : lowest ≡ map (representative classes) (range_with_len 0 (class_count classes)))
      (within : All (λ number. number < fault_count c) lowest) (bits : Answers) (table : IsTable bits)
      (right : AreRightBits (IsListedBit Fails c patterns lowest) (length patterns) (length lowest) 1 (length patterns) bits) (cells : List (List Bool)) (cells_are : cells ≡ map (full_entry bits.rows) (range_with_len 0 bits.numbers)) where
    pub fails_of_classes : AreEntriesOfClasses classes cells (pass_fail_entry t.rows)
    fails_of_classes = record {
      own = λ n h.
          let class = class_at classes n in
          let inside = whole.classes n h in
          let low = get_or lowest class 0 in
          let lead = representative-member classes whole class inside in
          let first : low ≡ representative classes class =
          ap (λ (ns : List ℕ). get_or ns class 0) lowest_are ∙ get_or-map-range_with_len (representative classes) 0 (class_count classes) class class 0 inside (omega arith) in
          let listed : class < length lowest = omega (arith, inside, ap length lowest_are, length-map-range_with_len (representative classes) 0 (class_count classes)) in
          let numbers = table_numbers of in
          let together : class_at classes low ≡ class = ap (class_at classes) first ∙ lead.1 in
          let rows = ((entries_of_classes c is patterns t are classes of).equal low n (omega (arith, first, lead.0)) h).0 together in
          ap (λ (rows : List (List Bool)). row_at rows class) cells_are
          ∙ (get_or-map-range_with_len (full_entry bits.rows) 0 bits.numbers class class [] (omega (arith, listed, right.sizes.numbers_are)) (omega arith)
          ∙ (fails_are c patterns t are lowest within bits table right class listed ∙ same_fail low n (omega (arith, first, lead.0, numbers, are.numbers)) (omega (arith, h, numbers, are.numbers)) rows));
    }
