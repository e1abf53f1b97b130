-- What the forest of a circuit's faults says about them.
use Rattle.std.proofs.Common.{◌≡◌, ◌∙◌, ℕ, ◌+◌, ◌-◌, ◌<◌, ◌≤◌, ◌≢◌, ◌^◌, Bool, true, false, cond, eqb, List, [], ◌∷◌, length, get_or, refl, sym, ap, arith, add-zero, length-append}
use Rattle.std.specs.Prelude.{IsTrue, ◌↔◌, ◌==◌, Option, Some, slice_get, slice_index, flat_map, filter}
use Rattle.std.specs.List.{list_any, range_with_len}
use Rattle.std.proofs.lemmas.List.Elements.{All-from_get_or, filter-append}
use Rattle.std.proofs.lemmas.List.Folds.{list_any_at, list_any_none}
use Rattle.net_model.proofs.Orders.{range_with_len_more}
use Rattle.std.proofs.lemmas.Bool.{eqb-true}
use Rattle.std.proofs.lemmas.Bool.Decides.{nat_tests}
use Rattle.std.proofs.lemmas.Option.{slice_get_within, slice_get-get_or, get_or_from_slice_get}
use Rattle.net_model.specs.declared.fault.Fault.TheVariants.{Free}
use Rattle.net_model.specs.Circuit.{Circuit, IsCircuit, all_lines}
use Rattle.net_model.specs.FaultList.{faults, fault_count, sites_of_line, fault_numbered}
use Rattle.net_model.specs.Answer.{AreEqual}
use Rattle.net_model.specs.Collapse.{successor, root}
use Rattle.fault_list.proofs.Bound.{few_sites}
use Rattle.fault_list.proofs.Pair.{one_number}
use Rattle.fault_list.proofs.Stuck.{length-stuck}
use Rattle.fault_collapse.specs.Forest.{Forest, forest_with, number_count, successor_of, root_of, IsNumberOf, AreSuccessors, AreRoots, IsForestOf}
use Rattle.fault_collapse.specs.ForestFields.{AreForestFields}
use Rattle.fault_collapse.proofs.Numbers.{number_stands}
use Rattle.fault_collapse.proofs.Chain.{root_itself, root_is_last, same_root_is_equal}

module _ (c : Circuit) where
  few_faults : IsCircuit c → fault_count c < 2 ^ 27
  unfolding faults
  few_faults w = omega (arith, few_sites c w, length-stuck (flat_map (sites_of_line c) (all_lines c)))

  some_fault : 0 < fault_count c
  unfolding faults
  some_fault = omega arith

  numbered_at : (number : ℕ) → number < fault_count c → slice_get (faults c) number ≡ Some (fault_numbered c number)
  numbered_at number within = slice_get-get_or (faults c) number Free within

  root_again : IsCircuit c → (roots : List ℕ) → AreRoots c roots → (number : ℕ) → number < fault_count c → slice_index roots (slice_index roots number) ≡ slice_index roots number
  root_again w roots are number within =
      let fault = fault_numbered c number in
      let stands = number_stands c number fault (numbered_at number within) in
      let here = are.each number fault (numbered_at number within) in
      let again = are.each (slice_index roots number) (root c fault) here in
      one_number c (slice_index roots (slice_index roots number)) (slice_index roots number) (root c fault) (again ∙ ap Some (root_itself c w (root c fault) (root_is_last c w fault stands))) here

  pub is_settled : IsCircuit c → (successors : List (Option ℕ)) (roots : List ℕ) → AreSuccessors c successors → AreRoots c roots → AreForestFields (forest_with successors roots)
  is_settled w successors roots s are = record {
    whole = s.whole ∙ sym are.whole;
    free = omega (arith, some_fault, are.whole);
    few = omega (arith, few_faults w, are.whole);
    inside = λ number within.
        let number_in : number < fault_count c = omega (arith, within, are.whole) in
        omega (arith, slice_get_within (faults c) (slice_index roots number) _ (are.each number (fault_numbered c number) (numbered_at number number_in)), are.whole);
    last = λ number within. root_again w roots are number (omega (arith, within, are.whole));
  }

  module _ (forest : Forest) (is : IsForestOf c forest) where
    number_in : (number : ℕ) → number < number_count forest → number < fault_count c
    number_in number within = omega (arith, within, is.roots.whole)

    pub successor_right : (number : ℕ) → number < number_count forest → IsNumberOf c (successor c (fault_numbered c number)) (successor_of forest number)
    successor_right number within = is.successors.each number (fault_numbered c number) (numbered_at number (number_in number within))

    pub root_there : (number : ℕ) → number < number_count forest → slice_get (faults c) (root_of forest number) ≡ Some (root c (fault_numbered c number))
    root_there number within = is.roots.each number (fault_numbered c number) (numbered_at number (number_in number within))

    pub root_right : (number : ℕ) → number < number_count forest → fault_numbered c (root_of forest number) ≡ root c (fault_numbered c number)
    root_right number within = get_or_from_slice_get (faults c) (root_of forest number) (root c (fault_numbered c number)) Free (root_there number within)

    module _ (a b : ℕ) (within_a : a < number_count forest) (within_b : b < number_count forest) where
      alike : root_of forest a ≡ root_of forest b → root c (fault_numbered c a) ≡ root c (fault_numbered c b)
      alike same = sym (root_right a within_a) ∙ (ap (fault_numbered c) same ∙ root_right b within_b)

      same_number : root c (fault_numbered c a) ≡ root c (fault_numbered c b) → root_of forest a ≡ root_of forest b
      same_number same = one_number c (root_of forest a) (root_of forest b) (root c (fault_numbered c b)) (root_there a within_a ∙ ap Some same) (root_there b within_b)

      pub same_roots : (same : Bool) → same ≡ (root_of forest a == root_of forest b) → IsTrue same ↔ (root c (fault_numbered c a) ≡ root c (fault_numbered c b))
      same_roots same e = (
        λ t. alike (eqb-true (root_of forest a) (root_of forest b) (sym e ∙ t)),
        λ r. let numbers = same_number r in e ∙ (let t : eqb (root_of forest a) (root_of forest b) ≡ true = grind (arith, nat_tests) in t),
      )

      pub same_equal : (same : Bool) → same ≡ (root_of forest a == root_of forest b) → IsTrue same → AreEqual c (fault_numbered c a) (fault_numbered c b)
      same_equal same e t =
          same_root_is_equal c is.circuit (fault_numbered c a) (fault_numbered c b) (number_stands c a _ (numbered_at a (number_in a within_a))) (number_stands c b _ (numbered_at b (number_in b within_b))) ((same_roots same e).0 t)

-- ---- how many roots there are

module _ (forest : Forest) (is : AreForestFields forest) (number : ℕ) (within : number < number_count forest) where
  -- a number that is its own root is a root
  own_is_root : root_of forest number ≡ number → list_any (λ root. root == number) forest.roots ≡ true
  own_is_root own = list_any_at (λ root. root == number) forest.roots number 0 within (let t : eqb (get_or forest.roots number 0) number ≡ true = grind (arith, nat_tests) in t)

  other_root : root_of forest number ≢ number → (k : ℕ) → k < number_count forest → eqb (root_of forest k) number ≡ false
  other_root other k inside =
      by_test (eqb (root_of forest k) number) refl
    where
      by_test : (t : Bool) → eqb (root_of forest k) number ≡ t → t ≡ false
      by_test false e = refl
      by_test true e =
          let same = eqb-true (root_of forest k) number e in
          absurd (other (ap (root_of forest) (sym same) ∙ (is.last k inside ∙ same)))

  -- a number that isn't its own root is no root
  other_is_none : root_of forest number ≢ number → list_any (λ root. root == number) forest.roots ≡ false
  other_is_none other = list_any_none (λ root. root == number) forest.roots (All-from_get_or (λ root. eqb root number ≡ false) forest.roots 0 (other_root other))

  module _ (count : ℕ) (from : 1 ≤ number) (so_far : count ≡ length (filter (λ n. list_any (λ root. root == n) forest.roots) (range_with_len 1 (number - 1)))) where
    counted : (test : Bool) → list_any (λ root. root == number) forest.roots ≡ test
        → length (filter (λ n. list_any (λ root. root == n) forest.roots) (range_with_len 1 (number + 1 - 1))) ≡ count + length (cond test (number ∷ []) [])
    counted test e =
        let is_root = λ (n : ℕ). list_any (λ root. root == n) forest.roots in
        ap (λ xs. length (filter is_root xs)) (range_with_len_more 1 (number + 1 - 1) (number - 1) number (omega (arith, from)) (omega (arith, from)))
        ∙ (ap length (filter-append is_root (range_with_len 1 (number - 1)) (number ∷ []))
        ∙ (length-append (filter is_root (range_with_len 1 (number - 1))) (cond (is_root number) (number ∷ []) [])
        ∙ (λ i. sym so_far i + length (cond (e i) (number ∷ []) []))))

    pub one_more : root_of forest number ≡ number → count + 1 ≡ length (filter (λ n. list_any (λ root. root == n) forest.roots) (range_with_len 1 (number + 1 - 1)))
    one_more own = sym (counted true (own_is_root own))

    pub no_more : root_of forest number ≢ number → count ≡ length (filter (λ n. list_any (λ root. root == n) forest.roots) (range_with_len 1 (number + 1 - 1)))
    no_more other = sym (counted false (other_is_none other) ∙ add-zero count)
