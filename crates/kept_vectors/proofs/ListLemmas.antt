-- A list, kept part by part.
use Rattle.std.proofs.Common.{◌≡◌, ℕ, ◌+◌, ◌-◌, Bool, List, ◌++◌, take, drop, sym, ap, subst, ◌∙◌, arith}
use Rattle.std.specs.List.{zip}
use Rattle.std.proofs.lemmas.List.{take-append-drop}
use Rattle.std.proofs.Math.Seq.{take-add}
use Rattle.net_model.specs.Circuit.{Circuit, IsCircuit}
use Rattle.net_model.specs.FaultList.{fault_count}
use Rattle.net_model.proofs.OneAnswer.{one_rows}
use Rattle.class_refine.proofs.PatternTables.{rows_exist}
use Rattle.kept_vectors.specs.Kept.{KeptSoFar, nothing_kept, keeping, IsKeptOf, Keeps, KeepsFirst}
use Rattle.kept_vectors.specs.Keeper.{Keeper, keeper_with}
use Rattle.kept_vectors.proofs.KeepLemmas.{keeps_more, first_more, first_longer}

-- the given number of vectors, starting at one of them
abbrev pub part_of : List (List Bool) → ℕ → ℕ → List (List Bool)
part_of vectors first count = take (first + count - first) (drop first vectors)

parts_join : (vectors : List (List Bool)) (first count : ℕ) → take (first + count) vectors ≡ take first vectors ++ part_of vectors first count
parts_join vectors first count = let e : first + count - first ≡ count = omega arith in rw e (take-add first count vectors)

module _ {c : Circuit} {old mid new : KeptSoFar} (vectors : List (List Bool)) (first count : ℕ) (before : Keeps c (take first vectors) old mid) where
  -- some vectors more
  pub list_more : Keeps c (part_of vectors first count) mid new → Keeps c (take (first + count) vectors) old new
  list_more next = subst (λ (vs : List (List Bool)). Keeps c vs old new) (sym (parts_join vectors first count)) (keeps_more before next)

  -- some of the first of them are some of the first of the whole list
  pub list_some : KeepsFirst c (part_of vectors first count) mid new → KeepsFirst c vectors old new
  list_some some =
      let rest = drop (first + count) vectors in
      subst (λ (vs : List (List Bool)). KeepsFirst c vs old new) (ap (λ (vs : List (List Bool)). vs ++ rest) (sym (parts_join vectors first count)) ∙ take-append-drop (first + count) vectors)
      (first_longer rest (first_more before some))

-- what a new keeper keeps of a list
pub list_kept : {c : Circuit} {keeper : Keeper} (vectors : List (List Bool)) (new : KeptSoFar) → IsCircuit c → keeper ≡ keeper_with c (nothing_kept (fault_count c)) → Keeps keeper.circuit vectors keeper.kept new → IsKeptOf c vectors new.vectors
list_kept {c} {keeper} vectors new is fresh keeps =
    let from_none = subst (λ (k : Keeper). Keeps k.circuit vectors k.kept new) fresh keeps in
    let rows = rows_exist c is vectors in
    record { rows = rows.0; answers = rows.1; kept_is = ap (λ (k : KeptSoFar). k.vectors) (from_none.by_rows rows.0 rows.1) }

-- only one list is kept of a list
pub one_list_kept : {c : Circuit} {vectors kept other : List (List Bool)} → IsCircuit c → IsKeptOf c vectors kept → IsKeptOf c vectors other → kept ≡ other
one_list_kept {c} {vectors} is of of' =
    of.kept_is ∙ ap (λ (rows : List (List (List Bool))). (keeping (fault_count c) (zip vectors rows)).vectors) (one_rows c is vectors of.rows of'.rows of.answers of'.answers) ∙ sym of'.kept_is
