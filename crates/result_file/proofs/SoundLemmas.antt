-- The laws that a result rests on, and the tables of its patterns.
use Rattle.std.proofs.Common.{◌≡◌, ◌∙◌, ℕ, ◌+◌, ◌<◌, Bool, List, [], ◌∷◌, length, get_or, Option, Some, None, refl, sym, ap, subst, arith}
use Rattle.std.specs.Prelude.{MatchOption}
use Rattle.std.specs.List.{fold}
use Rattle.std.proofs.lemmas.List.{length-replicate}
use Rattle.std.proofs.lemmas.Option.{slice_get-get_or}
use Rattle.std.proofs.lemmas.Slice.Zip.{AllZip-long}
use Rattle.net_model.specs.declared.fault.Fault.TheVariants.{Free}
use Rattle.net_model.specs.Circuit.{Circuit, IsCircuit}
use Rattle.net_model.specs.FaultList.{fault_count, fault_numbered}
use Rattle.net_model.specs.ClassTable.{ClassTable, first_table, refined_table, class_at, class_count}
use Rattle.net_model.specs.PatternRows.{IsAnswerRow}
use Rattle.net_model.proofs.Listed.{listed as all_stand, some_number}
use Rattle.class_refine.specs.Laws.{NamedSeparatesFaults}
use Rattle.class_refine.proofs.Pieces.{IsSound, representative_lowest}
use Rattle.class_refine.proofs.Refined.{sound-refined, sound-first}
use Rattle.class_refine.proofs.Names.{numbers_after}
use Rattle.fault_collapse.specs.Laws.{SameRootEqual}
use Rattle.pair_sets.specs.Laws.{CoveringEqual, LeavesClosed, SpendingBounded}
use Rattle.result_file.proofs.Truth.{AreSound}
use Rattle.result_file.proofs.ValidTrue.{AreSoundTables}

-- the laws of a circuit's faults
pub sound_circuit : (c : Circuit) → IsCircuit c → SameRootEqual → CoveringEqual → LeavesClosed → SpendingBounded → AreSound c
sound_circuit c is roots covering closed bounded = record {
  circuit = is;
  roots = λ m n low high same. roots c (fault_numbered c m) (fault_numbered c n) is (all_stand c m Free low) (all_stand c n Free high) same;
  covered = λ f g limit tokens right. covering c f g limit tokens is right;
  leaves = λ f g tokens tree at below leaf. let here = tree.each at below in (here.0, here.1, closed c f g tokens at here.0 is tree below leaf here.1);
  bounded = λ f g limit tokens spending. bounded c f g limit tokens is spending;
}

-- ---- the table of rows of answers

sound_after : (t : ClassTable) (rows : List (List (List Bool))) → IsSound t → IsSound (fold refined_table t rows)
sound_after t [] is = is
sound_after t (row ∷ rows) is = sound_after (refined_table t row) rows (sound-refined t row is)

patterns_after : (t : ClassTable) (rows : List (List (List Bool))) → (fold refined_table t rows).patterns ≡ t.patterns + length rows
unfolding refined_table
patterns_after t [] = omega arith
patterns_after t (row ∷ rows) = omega (arith, patterns_after (refined_table t row) rows)

-- ---- births

pub first_by : (o : Option (ℕ × ℕ)) (count : ℕ) → MatchOption o (◌≡◌ {A = ℕ} 0 0) (λ birth. (birth.0 < 0) × (birth.1 < count)) → o ≡ None
first_by None count known = refl
first_by (Some birth) count known = absurd (omega (arith, known.0))

pub later_by : (o : Option (ℕ × ℕ)) (k count : ℕ) → MatchOption o (k ≡ 0) (λ birth. (birth.0 < k) × (birth.1 < count)) → 0 < k → (birth : ℕ × ℕ) × (o ≡ Some birth) × (birth.0 < k) × (birth.1 < count)
later_by None k count known some = absurd (omega (arith, known))
later_by (Some birth) k count known some = (birth, refl, known.0, known.1)

module _ (c : Circuit) (law : NamedSeparatesFaults) where
  pub sound_tables : AreSoundTables c
  sound_tables patterns t widths table =
      let sound : IsSound t = subst IsSound (sym table.table) (sound_after (first_table (fault_count c)) table.rows (sound-first (fault_count c))) in
      let numbers : length t.class_of ≡ fault_count c =
      ap (λ (u : ClassTable). length u.class_of) table.table ∙ (numbers_after table.rows (first_table (fault_count c)) ∙ length-replicate {A = ℕ} (fault_count c) 0) in
      let counted : t.patterns ≡ 0 + length table.rows = ap (λ (u : ClassTable). u.patterns) table.table ∙ patterns_after (first_table (fault_count c)) table.rows in
      let long = AllZip-long (IsAnswerRow c) patterns table.rows table.answers in
      let some = some_number c in
      let births : 0 < class_count t = omega (arith, sound.classes 0 (omega (arith, numbers, some))) in
      record {
        numbers = numbers;
        some = omega (arith, numbers, some);
        classes = sound.classes;
        first = slice_get-get_or t.births 0 None births ∙ ap Some (first_by (get_or t.births 0 None) t.patterns (sound.births 0 births));
        later = λ k some below.
            let found = later_by (get_or t.births k None) k t.patterns (sound.births k below) some in
            (found.0, slice_get-get_or t.births k None below ∙ ap Some found.1, found.2, omega (arith, found.3, counted, long));
        apart = λ m n low high differ. law c patterns t (class_at t m) (class_at t n) m n table widths (sound.classes m (omega (arith, numbers))) (sound.classes n (omega (arith, numbers))) differ low high refl refl;
        leads = λ n below. omega (arith, (representative_lowest t n below).within, below);
      }
