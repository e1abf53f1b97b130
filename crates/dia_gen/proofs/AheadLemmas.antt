-- What is known of a number before its turn.
use Rattle.std.proofs.Common.{◌≡◌, ◌∙◌, ℕ, ◌<◌, List, length, get_or, set, sym, subst, inl, inr, arith}
use Rattle.std.specs.Prelude.{All, IfSome, OnOk, Option, None, Result, Ok, Err, slice_get}
use Rattle.std.proofs.lemmas.Bool.{cases_eq}
use Rattle.std.proofs.lemmas.List.{get_or_default, get_or-set_same, get_or-set_other, length-set}
use Rattle.std.proofs.lemmas.Option.{slice_get-get_or, slice_get_within}
use Rattle.net_model.specs.declared.fault.Fault.TheVariants.{Free}
use Rattle.net_model.specs.Circuit.{Circuit}
use Rattle.net_model.specs.Collapse.{root}
use Rattle.net_model.specs.FaultList.{faults, fault_numbered}
use Rattle.fault_collapse.specs.Forest.{AreRoots}
use Rattle.result_records.specs.declared.record.Budgets.{Budgets}
use Rattle.dia_gen.specs.declared.ahead.Ahead.{Ahead}
use Rattle.dia_gen.specs.declared.ahead.Known.{Known}
use Rattle.dia_gen.specs.Settled.{IsKnownOf, IsAheadFor}

-- The root of each number is one of the numbers.
pub roots_within : (c : Circuit) (roots : List ℕ) → AreRoots c roots → All (λ root. root < length roots) roots
roots_within c roots are = λ k d below.
    let inside : k < length (faults c) = omega (arith, below, are.whole) in
    let there = are.each k (fault_numbered c k) (slice_get-get_or (faults c) k Free inside) in
    let within = slice_get_within (faults c) (get_or roots k 0) (root c (fault_numbered c k)) there in
    rw (get_or_default roots k d 0 below) (omega (arith, within, are.whole))

-- What always holds also holds at an `Ok`.
pub on_ok_always : {T E P : Type 0} (r : Result T E) → P → OnOk r P
on_ok_always (Ok x) p = p
on_ok_always (Err e) p = tt

-- What each place has after one is written.
all_set : {A : Type 0} (P : ℕ → A → Type 0) (xs : List (Option A)) (at : ℕ) (o : Option A) → at < length xs → ((n : ℕ) → IfSome (get_or xs n None) (P n)) → IfSome o (P at) → (n : ℕ) → IfSome (get_or (set xs at o) n None) (P n)
all_set P xs at o within each here n = elim (cases_eq n at) [
  | inl e ↦ subst (λ k. IfSome (get_or (set xs at o) k None) (P k)) (sym e) (rw (get_or-set_same xs at o None within) here)
  | inr other ↦ rw (get_or-set_other xs at n o None other) (each n)
]

-- What is known of a number is written at its place.
pub ahead_set : (c : Circuit) (budgets : Budgets) (old new : Ahead) (at : ℕ) (o : Option Known) → IsAheadFor c budgets old → at < length old.known.items → IfSome o (IsKnownOf c budgets at) → new.known.items ≡ set old.known.items at o → new.lowest.items ≡ old.lowest.items → IsAheadFor c budgets new
ahead_set c budgets old new at o is inside here known lowest = record {
  room = rw known (length-set old.known.items at o ∙ is.room);
  lowest = rw lowest is.lowest;
  known = rw known (all_set (IsKnownOf c budgets) old.known.items at o inside is.known here);
}
