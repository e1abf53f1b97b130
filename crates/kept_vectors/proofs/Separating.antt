-- A vector that separates two members of a class is kept.
use Rattle.std.proofs.Common.{◌≡◌, ℕ, ◌<◌, ◌≤◌, Bool, List, [], ◌∷◌, ◌++◌, length, get_or, ap, subst, sym, ◌∙◌, arith}
use Rattle.std.specs.Prelude.{if◌then◌else◌}
use Rattle.net_model.specs.Circuit.{Circuit}
use Rattle.net_model.specs.Answer.{Separates}
use Rattle.net_model.specs.FaultList.{fault_count, fault_numbered}
use Rattle.net_model.specs.ClassTable.{ClassTable, class_at, class_count, representative, new_lowest, refined_table, SplitBy}
use Rattle.net_model.specs.PatternRows.{SplitsClass}
use Rattle.class_refine.proofs.Pieces.{representative_lowest, lead_stays}
use Rattle.class_refine.proofs.Refined.{sound_from, numbers-refined, class-refined, class_old, split_adds, cuts_from, count-refined, representative-member}
use Rattle.class_refine.specs.Fields.{IsWhole}
use Rattle.kept_vectors.specs.Kept.{KeptSoFar, with_vector, Keeps, IsFiner}
use Rattle.kept_vectors.specs.Keeper.{keeper_with, IsKeeper}
use Rattle.net_model.proofs.OneAnswer.{one_answer}
use Rattle.class_refine.proofs.PatternTables.{row_exists, answer_in_row}
use Rattle.class_refine.proofs.PatternTables.{table_numbers}
use Rattle.kept_vectors.proofs.KeepLemmas.{leads_rise, keeper_after}
use Rattle.kept_vectors.proofs.SameCuts.{whole_kept}

-- The vector is kept after the others and splits a class of them, so there are more classes.
pub record IsAdded (c : Circuit) (v : List Bool) (old new : KeptSoFar) : Type 0 where
  pub vectors : new.vectors ≡ old.vectors ++ v ∷ []
  pub splits : SplitsClass c old.vectors v
  pub more : class_count old.table < class_count new.table
  pub finer : IsFiner old.table new.table
  pub keeper : IsKeeper (keeper_with c new)
  pub leads : (n : ℕ) → n < length old.table.class_of → class_at new.table n < class_count old.table → representative new.table (class_at new.table n) ≡ representative old.table (class_at old.table n)

-- a number that is in an old class after a cut has the representative that it had
lead_kept : (t : ClassTable) (row : List (List Bool)) → IsWhole t → IsWhole (refined_table t row) → IsFiner t (refined_table t row) → (n : ℕ) → n < length t.class_of → class_at (refined_table t row) n < class_count t
    → representative (refined_table t row) (class_at (refined_table t row) n) ≡ representative t (class_at t n)
lead_kept t row whole after finer n below old =
    let u = refined_table t row in
    let sound = sound_from t whole in
    let lead = representative-member t whole (class_at t n) (whole.classes n below) in
    let r = representative t (class_at t n) in
    let now : class_at u n ≡ class_at t n = class-refined t row n below ∙ class_old t row sound n below (omega (arith, old, class-refined t row n below)) in
    let stays : class_at u r ≡ class_at u n = class-refined t row r lead.0 ∙ lead_stays t row sound n below ∙ sym now in
    let least = representative_lowest u r (omega (arith, lead.0, numbers-refined t row)) in
    let low : representative u (class_at u n) ≤ r = rw stays at least.within in
    omega (arith, low, leads_rise after finer n below)

pub separating_added : {c : Circuit} {old new : KeptSoFar} (v : List Bool) → IsKeeper (keeper_with c old) → Keeps c (v ∷ []) old new → (m n : ℕ) → m < fault_count c → n < fault_count c → class_at old.table m ≡ class_at old.table n
    → length v ≡ c.sources → Separates c v (fault_numbered c m) (fault_numbered c n) → IsAdded c v old new
separating_added {c} {old} {new} v is keeps m n low high together width apart =
    let answers = row_exists c is.circuit v in
    let row = answers.0 in
    let split : SplitBy old.table row = record {
      first = m;
      second = n;
      first_below = omega (arith, low, table_numbers is.table);
      second_below = omega (arith, high, table_numbers is.table);
      together = together;
      differ = λ same. apart.differ (
          one_answer c is.circuit (fault_numbered c m) v apart.first (get_or row m []) apart.first_is (answer_in_row c v row answers.1 m low)
          ∙ same
          ∙ one_answer c is.circuit (fault_numbered c n) v (get_or row n []) apart.second (answer_in_row c v row answers.1 n high) apart.second_is);
    } in
    let adds : 0 < length (new_lowest old.table row) = split_adds old.table row (sound_from old.table is.whole) split in
    let after : KeptSoFar = record { vectors = old.vectors ++ v ∷ []; table = refined_table old.table row } in
    let offered : new ≡ with_vector old (v, row) = keeps.by_rows (row ∷ []) (answers.1, tt) in
    let now : new ≡ after = offered ∙ ap (λ (b : Bool). if b then after else old) (cuts_from old.table row adds) in
    let whole = whole_kept old v row is.whole in
    let refined : with_vector old (v, row) ≡ after = sym offered ∙ now in
    let tables : new.table ≡ refined_table old.table row = ap (λ (k : KeptSoFar). k.table) now in
    record {
      vectors = ap (λ (k : KeptSoFar). k.vectors) now;
      splits = record { t = old.table; row = row; table = is.table; answers = answers.1; split = split };
      more = omega (arith, ap (λ (k : KeptSoFar). class_count k.table) now, count-refined old.table row, adds);
      finer = subst (λ (k : KeptSoFar). IsFiner old.table k.table) (sym offered) whole.1;
      leads = rw tables (lead_kept old.table row is.whole (subst (λ (k : KeptSoFar). IsWhole k.table) refined whole.0) (subst (λ (k : KeptSoFar). IsFiner old.table k.table) refined whole.1));
      keeper = keeper_after c (v ∷ []) old new is (λ k d below. let e : k ≡ 0 = omega arith in rw e width) keeps;
    }
