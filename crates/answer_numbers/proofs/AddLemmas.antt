-- A place that comes into the lists of the positions at which it differs.
use Rattle.std.proofs.Common.{◌≡◌, ◌≢◌, ◌∙◌, ◌⊎◌, ℕ, ◌+◌, ◌<◌, ◌≤◌, Bool, eqb, List, [], ◌∷◌, ◌++◌, length, get_or, take, Option, Some, None, refl, sym, ap, subst, arith, inl, inr, Contains}
use Rattle.std.specs.Prelude.{AllPairs, unwrap_or, ◌↔◌}
use Rattle.std.specs.List.{list_any}
use Rattle.std.proofs.lemmas.Bool.{cases_Bool, eq-eqb, eqb-true, false_from_ne_true}
use Rattle.std.proofs.lemmas.List.{take_more, take_all, length-take-le, get_or-take, get_or_default}
use Rattle.std.proofs.lemmas.List.Elements.{Contains-push_cases, Contains-push, Contains-append_left}
use Rattle.net_model.specs.Answer.{bit_at}
use Rattle.net_model.proofs.Elements.{true_false, any_from, passing}
use Rattle.fault_sim.specs.Rows.{IsTrueSomewhere}
use Rattle.fault_sim.specs.FaultSim.{FaultSim, lanes_at}
use Rattle.answer_numbers.specs.declared.differences.PositionLists.{PositionLists}
use Rattle.answer_numbers.specs.Differences.{AreLists, HasPush, HasPlace, end_count, found_at}

-- The place is in the lists of the first `count` of these positions, and of no others.
pub record IsAddedTo (sim : FaultSim) (place : ℕ) (positions : List ℕ) (count : ℕ) (old new : PositionLists) : Type 0 where
  pub ends : end_count new ≡ end_count old
  pub lists : AreLists new
  pub done : (q : ℕ) → q < end_count old → Contains (take count positions) q → found_at new q place ≡ Some (lanes_at sim q)
  pub rest : (q : ℕ) → q < end_count old → (Contains (take count positions) q → ⊥) → found_at new q place ≡ None
  pub others : (q p : ℕ) → q < end_count old → p ≢ place → found_at new q p ≡ found_at old q p

-- an ascending list has no number twice
pub not_earlier : (xs : List ℕ) (i : ℕ) → AllPairs ◌<◌ xs → i < length xs → Contains (take i xs) (get_or xs i 0) → ⊥
not_earlier xs i ascending h (k, l, e) =
    let x = get_or xs i 0 in
    let low : k < i = omega (arith, l, length-take-le i xs (omega (arith, h))) in
    let same : get_or xs k 0 ≡ x = get_or_default xs k 0 x (omega (arith, low, h)) ∙ (sym (get_or-take i xs k x low) ∙ e) in
    let less : get_or xs k 0 < get_or xs i 0 = ascending k i 0 low h in
    omega (arith, same, less)

pub added_none : (sim : FaultSim) (place : ℕ) (positions : List ℕ) (old : PositionLists) → AreLists old → ((q : ℕ) → q < end_count old → found_at old q place ≡ None) → IsAddedTo sim place positions 0 old old
added_none sim place positions old lists absent = record {
  ends = refl;
  lists = lists;
  done = λ q h (k, l, e). absurd (omega (arith, l));
  rest = λ q h ne. absent q h;
  others = λ q p h ne. refl;
}

pub added_more : {sim : FaultSim} {place : ℕ} {positions : List ℕ} {i : ℕ} {old now new : PositionLists} → AllPairs ◌<◌ positions → i < length positions → IsAddedTo sim place positions i old now
    → HasPush (get_or positions i 0) place (lanes_at sim (get_or positions i 0)) now new → IsAddedTo sim place positions (i + 1) old new
added_more {sim} {place} {positions} {i} {old} {now} {new} ascending h so_far push =
    let x = get_or positions i 0 in
    let more : take (i + 1) positions ≡ take i positions ++ x ∷ [] = take_more positions i 0 h in
    let kept : (q p : ℕ) → q < end_count old → (q ≢ x) ⊎ (p ≢ place) → found_at new q p ≡ found_at now q p = λ q p l other. push.others q p (omega (arith, l, so_far.ends)) other in
    record {
      ends = push.count ∙ so_far.ends;
      lists = push.lists;
      done = λ q l has. elim (Contains-push_cases (take i positions) x q (subst (λ (xs : List ℕ). Contains xs q) more has)) [
        | inl earlier ↦
            let ne : q ≢ x = λ e. not_earlier positions i ascending h (subst (Contains (take i positions)) e earlier) in
            kept q place l (inl ne) ∙ so_far.done q l earlier
        | inr same ↦ subst (λ k. found_at new k place ≡ Some (lanes_at sim k)) same push.here
      ];
      rest = λ q l none.
          let ne : q ≢ x = λ e. none (subst (λ (xs : List ℕ). Contains xs q) (sym more) (subst (Contains (take i positions ++ x ∷ [])) (sym e) (Contains-push (take i positions) x))) in
          kept q place l (inl ne) ∙ so_far.rest q l (λ has. none (subst (λ (xs : List ℕ). Contains xs q) (sym more) (Contains-append_left (take i positions) (x ∷ []) q has)));
      others = λ q p l ne. kept q p l (inr ne) ∙ so_far.others q p l ne;
    }

-- after the place is in the list of each position that differs
pub added_all : {sim : FaultSim} {place : ℕ} {positions : List ℕ} {i : ℕ} {old new : PositionLists} → end_count old ≡ length sim.circuit.positions
    → ((position : ℕ) → position < length sim.circuit.positions → Contains positions position ↔ IsTrueSomewhere (lanes_at sim position)) → length positions ≤ i → IsAddedTo sim place positions i old new → HasPlace sim place old new
added_all {sim} {place} {positions} {i} {old} {new} count exactly all added =
    let whole : take i positions ≡ positions = take_all i positions all in
    record {
      count = added.ends;
      lists = added.lists;
      here = λ position lane h l. elim (cases_Bool (list_any (λ x. eqb x position) positions)) [
        | inl on ↦
            let w = passing (λ x. eqb x position) positions on in
            let has : Contains positions position = subst (Contains positions) (eqb-true w.0 position w.2) w.1 in
            ap (λ (o : Option (List Bool)). bit_at (unwrap_or o []) lane) (added.done position h (subst (λ (xs : List ℕ). Contains xs position) (sym whole) has))
        | inr off ↦
            let none : Contains positions position → ⊥ = λ has. true_false (list_any (λ x. eqb x position) positions) (any_from (λ x. eqb x position) positions position has (eq-eqb position position refl)) off in
            ap (λ (o : Option (List Bool)). bit_at (unwrap_or o []) lane) (added.rest position h (λ has. none (subst (λ (xs : List ℕ). Contains xs position) whole has)))
            ∙ sym (false_from_ne_true (bit_at (lanes_at sim position) lane) (λ t. none ((exactly position (omega (arith, h, count))).1 (lane, l, t))))
      ];
      others = added.others;
    }
