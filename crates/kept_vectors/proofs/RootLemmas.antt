-- What the roots of a forest say of the faults.
use Rattle.std.proofs.Common.{◌≡◌, ◌∙◌, ℕ, ◌<◌, Bool, true, List, [], ◌∷◌, length, get_or, refl, sym, subst, arith}
use Rattle.std.specs.Prelude.{◌==◌, All}
use Rattle.std.specs.List.{fold}
use Rattle.std.proofs.lemmas.List.{length-replicate, get_or-replicate}
use Rattle.std.proofs.lemmas.Bool.Decides.{nat_tests}
use Rattle.std.proofs.lemmas.List.Elements.{All-from_get_or, All-head, All-tail}
use Rattle.net_model.specs.ClassTable.{ClassTable, first_table, refined_table, answer_at}
use Rattle.net_model.specs.PatternRows.{IsAnswerRow, AreAnswerRows}
use Rattle.std.proofs.lemmas.Option.{slice_get-get_or, slice_get_within}
use Rattle.net_model.specs.declared.fault.Fault.TheVariants.{Free}
use Rattle.net_model.specs.Circuit.{Circuit, IsCircuit}
use Rattle.net_model.specs.FaultList.{faults, fault_count, fault_numbered}
use Rattle.net_model.specs.Collapse.{root}
use Rattle.fault_collapse.specs.Forest.{Forest, IsForestOf, root_of}
use Rattle.fault_collapse.proofs.Settled.{same_equal, is_settled}
use Rattle.class_refine.proofs.Refined.{numbers-refined, class-refined, after_same}
use Rattle.word_sim.specs.GoodSim.{GoodSim, vectors_of}
use Rattle.kept_vectors.specs.Units.{AreTogether}
use Rattle.kept_vectors.specs.Notes.{AreRootsOf, HasUnit}
use Rattle.kept_vectors.specs.Keeper.{IsKeeperOf}
use Rattle.kept_vectors.specs.Kept.{KeptSoFar}
use Rattle.class_refine.proofs.PatternTables.{answer_in_row}
use Rattle.kept_vectors.proofs.NoteLemmas.{alike_by_roots}

root_inside : {c : Circuit} {forest : Forest} → IsForestOf c forest → (n : ℕ) → n < fault_count c → root_of forest n < fault_count c
root_inside {c} {forest} is n below =
    slice_get_within (faults c) (root_of forest n) (root c (fault_numbered c n)) (is.roots.each n (fault_numbered c n) (slice_get-get_or (faults c) n Free below))

-- the roots of the forest of a circuit
pub forest_roots : {c : Circuit} {forest : Forest} → IsForestOf c forest → AreRootsOf c forest.roots
forest_roots {c} {forest} is = record {
  whole = is.roots.whole;
  itself = λ n below. (is_settled c is.circuit forest.successors forest.roots is.successors is.roots).last n (omega (arith, below, is.roots.whole));
  within = All-from_get_or (λ root. root < fault_count c) forest.roots 0 (λ n below. root_inside is n (omega (arith, is.roots.whole)));
  equal = λ circuit m n low high same.
      let one : (root_of forest m == root_of forest n) ≡ true = grind (arith, nat_tests) in
      same_equal c forest is m n (omega (arith, is.roots.whole)) (omega (arith, is.roots.whole)) (root_of forest m == root_of forest n) refl one;
}

-- the root of a number is its unit
pub has_unit : (good : GoodSim) → IsCircuit good.circuit → (roots : List ℕ) → AreRootsOf good.circuit roots → All (λ v. length v ≡ good.circuit.sources) (vectors_of good) → (t : ClassTable) → length t.class_of ≡ fault_count good.circuit → AreTogether roots t
    → (n : ℕ) → n < length t.class_of → HasUnit good roots t n
has_unit good is roots are widths t numbers together n h =
    let inside : n < fault_count good.circuit = omega (arith, h, numbers) in
    let below : get_or roots n 0 < fault_count good.circuit = are.within n 0 (omega (arith, inside, are.whole)) in
    record {
      below = omega (arith, below, numbers);
      itself = are.itself n inside;
      together = together n h;
      alike = λ lane live. alike_by_roots good is roots are widths n (get_or roots n 0) lane inside below (sym (are.itself n inside)) live;
    }

-- ---- a keeper's table has each number in the class of its root

module _ (c : Circuit) (circuit : IsCircuit c) (roots : List ℕ) (are : AreRootsOf c roots) where
  together_refined : (t : ClassTable) (v : List Bool) (row : List (List Bool)) → length t.class_of ≡ fault_count c → length v ≡ c.sources → IsAnswerRow c v row → AreTogether roots t → AreTogether roots (refined_table t row)
  together_refined t v row numbers width answers together n h =
      let old : n < length t.class_of = omega (arith, h, numbers-refined t row) in
      let inside : n < fault_count c = omega (arith, old, numbers) in
      let unit = get_or roots n 0 in
      let below : unit < fault_count c = are.within n 0 (omega (arith, inside, are.whole)) in
      let below_too : unit < length t.class_of = omega (arith, below, numbers) in
      let same : answer_at t row unit ≡ answer_at t row n =
      are.equal circuit unit n below inside (are.itself n inside) v (answer_at t row unit) (answer_at t row n) width (answer_in_row c v row answers unit below) (answer_in_row c v row answers n inside) in
      class-refined t row unit below_too ∙ (after_same t row unit n below_too old (together n old) same ∙ sym (class-refined t row n old))

  together_fold : (patterns : List (List Bool)) (rows : List (List (List Bool))) → AreAnswerRows c patterns rows → All (λ v. length v ≡ c.sources) patterns → (t : ClassTable) → length t.class_of ≡ fault_count c → AreTogether roots t → AreTogether roots (fold refined_table t rows)
  together_fold [] [] all widths t numbers together = together
  together_fold [] (row ∷ rows) all widths t numbers together = absurd all
  together_fold (v ∷ patterns) [] all widths t numbers together = absurd all
  together_fold (v ∷ patterns) (row ∷ rows) all widths t numbers together =
      together_fold patterns rows all.1 (All-tail (λ v. length v ≡ c.sources) v patterns widths) (refined_table t row) (numbers-refined t row ∙ numbers)
      (together_refined t v row numbers (All-head (λ v. length v ≡ c.sources) v patterns widths) all.0 together)

  together_first : AreTogether roots (first_table (fault_count c))
  together_first n h =
      let inside : n < fault_count c = omega (arith, h, length-replicate {A = ℕ} (fault_count c) 0) in
      get_or-replicate {A = ℕ} (fault_count c) (get_or roots n 0) 0 0 (are.within n 0 (omega (arith, inside, are.whole))) ∙ sym (get_or-replicate {A = ℕ} (fault_count c) n 0 0 inside)

pub keeper_together : {c : Circuit} {kept : KeptSoFar} → IsKeeperOf c kept → (roots : List ℕ) → AreRootsOf c roots → AreTogether roots kept.table
keeper_together {c} {kept} is roots are =
    subst (AreTogether roots) (sym is.table.table)
    (together_fold c is.circuit roots are kept.vectors is.table.rows is.table.answers is.splits.widths (first_table (fault_count c)) (length-replicate {A = ℕ} (fault_count c) 0) (together_first c is.circuit roots are))
