-- Roots, followed number by number.
use Rattle.std.proofs.Common.{◌≡◌, ◌∙◌, ℕ, ◌+◌, ◌<◌, ◌≤◌, Bool, true, false, List, length, get_or, set, refl, sym, ap, arith, subst, inl, inr, get_or-set_same, get_or-set_other}
use Rattle.std.specs.Prelude.{Option, None, Some, slice_get, slice_index, slice_index_or, slice_set}
use Rattle.std.specs.Option.{option_map_or}
use Rattle.std.proofs.lemmas.List.{length-set, set-get_or}
use Rattle.std.specs.List.{range_with_len}
use Rattle.std.proofs.lemmas.List.FromFn.{length-range_with_len, get_or-range_with_len}
use Rattle.std.proofs.lemmas.Bool.{cases_eq}
use Rattle.std.proofs.lemmas.Option.{slice_get_within, slice_get-get_or}
use Rattle.net_model.specs.declared.fault.Site.TheVariants.{Stem}
use Rattle.net_model.specs.declared.fault.Fault.{Fault}
use Rattle.net_model.specs.declared.fault.Fault.TheVariants.{Free, Stuck}
use Rattle.net_model.specs.Circuit.{Circuit, IsCircuit}
use Rattle.net_model.specs.FaultList.{faults, fault_count}
use Rattle.net_model.specs.Collapse.{successor, root}
use Rattle.net_model.specs.Order.{IsOrder}
use Rattle.net_model.proofs.Orders.{order_has}
use Rattle.net_model.proofs.SetSoFar.{fits_from}
use Rattle.fault_list.proofs.Pair.{one_number}
use Rattle.fault_collapse.specs.Forest.{IsNumberOf, AreSuccessors, AreRoots}
use Rattle.fault_collapse.specs.Underway.{followed, IsRootAt, AreOwnRoots, AreStemRoots}
use Rattle.fault_collapse.proofs.Members.{slice_get-Contains}
use Rattle.fault_collapse.proofs.Numbers.{number_stands}
use Rattle.fault_collapse.proofs.Chain.{IsAbove, next_above, root_step, root_itself}

module _ (c : Circuit) where
  pub no_number : (o : Option Fault) → IsNumberOf c o None → o ≡ None
  no_number None is = refl
  no_number (Some fault) is = absurd is

  pub numbered : (o : Option Fault) (number : ℕ) → IsNumberOf c o (Some number) → (fault : Fault) × (o ≡ Some fault) × (slice_get (faults c) number ≡ Some fault)
  numbered None number is = absurd is
  numbered (Some fault) number is = (fault, refl, is)

-- The stems of the gates starting at a place of the order have their roots.
pub record StemsFrom (c : Circuit) (successors : List (Option ℕ)) (order : List ℕ) (i : ℕ) (roots : List ℕ) : Type 0 where
  pub own : AreOwnRoots c successors roots
  pub stems : (at line : ℕ) (bit : Bool) (number : ℕ) → i ≤ at → slice_get order at ≡ Some line → slice_get (faults c) number ≡ Some (Stuck (Stem line) bit) → IsRootAt c roots number

-- The stems and the first numbers have their roots.
pub record RootsBelow (c : Circuit) (successors : List (Option ℕ)) (count : ℕ) (roots : List ℕ) : Type 0 where
  pub own : AreOwnRoots c successors roots
  pub stems : AreStemRoots c roots
  pub below : (number : ℕ) → number < count → IsRootAt c roots number

-- following changes no length
pub followed_whole : (successors : List (Option ℕ)) (roots new : List ℕ) (number : ℕ) → new ≡ slice_set roots number (followed successors roots number) → length new ≡ length roots
followed_whole successors roots new number e = ap length e ∙ length-set roots number (followed successors roots number)

-- at first each number is its own root
pub own_numbers : (c : Circuit) (successors : List (Option ℕ)) (count : ℕ) (roots : List ℕ) → count ≡ fault_count c → roots ≡ range_with_len 0 count → AreOwnRoots c successors roots
own_numbers c successors count roots all e = record {
  whole = ap length e ∙ (length-range_with_len 0 count ∙ all);
  own = λ number within none. ap (λ xs. get_or xs number 0) e ∙ (get_or-range_with_len 0 count number 0 (omega (arith, within, all)) ∙ omega arith);
}

module _ (c : Circuit) (w : IsCircuit c) (successors : List (Option ℕ)) (s : AreSuccessors c successors) where
  -- the fault of a number's successor
  pub record HasNext (number next : ℕ) (fault : Fault) : Type 0 where
    pub after : Fault
    pub successor_is : successor c fault ≡ Some after
    pub there : slice_get (faults c) next ≡ Some after
    pub above : IsAbove c w fault after
    pub stem : slice_get (faults c) next ≡ Some (Stuck (Stem above.line) above.value)

  pub has_next : (number next : ℕ) (fault : Fault) → slice_get (faults c) number ≡ Some fault → slice_index_or successors number None ≡ Some next → HasNext number next fault
  has_next number next fault there e =
      let n = numbered c (successor c fault) next (subst (IsNumberOf c (successor c fault)) e (s.each number fault there)) in
      let above = next_above c w fault n.0 (number_stands c number fault there) n.1 in
      record { after = n.0; successor_is = n.1; there = n.2; above = above; stem = n.2 ∙ ap Some above.next_is }

  pub next_within : (number next : ℕ) → number < fault_count c → slice_index_or successors number None ≡ Some next → next < fault_count c
  next_within number next within e =
      let there = slice_get-get_or (faults c) number Free within in
      slice_get_within (faults c) next _ (has_next number next _ there e).there

  -- what holds after one number was followed
  pub record IsFollowed (roots new : List ℕ) (number : ℕ) : Type 0 where
    pub own : AreOwnRoots c successors new
    pub here : IsRootAt c new number
    pub kept : (other : ℕ) → IsRootAt c roots other → IsRootAt c new other

  own_root : (roots : List ℕ) (number : ℕ) → AreOwnRoots c successors roots → number < fault_count c → slice_index_or successors number None ≡ None → IsRootAt c roots number
  own_root roots number own within e fault there =
      let last = no_number c (successor c fault) (subst (IsNumberOf c (successor c fault)) e (s.each number fault there)) in
      ap (slice_get (faults c)) (own.own number within e) ∙ (there ∙ ap Some (sym (root_itself c w fault last)))

  next_root : (roots : List ℕ) (number next : ℕ) → slice_index_or successors number None ≡ Some next → IsRootAt c roots next → (fault : Fault) → slice_get (faults c) number ≡ Some fault → slice_get (faults c) (slice_index roots next) ≡ Some (root c fault)
  next_root roots number next e right fault there =
      let after = has_next number next fault there e in
      right after.after after.there ∙ ap Some (sym (root_step c w fault after.after (number_stands c number fault there) after.successor_is))

  module _ (roots : List ℕ) (number : ℕ) (own : AreOwnRoots c successors roots) (within : number < fault_count c) where
    set_root : (next : ℕ) → slice_index_or successors number None ≡ Some next → IsRootAt c roots next → IsRootAt c (set roots number (slice_index roots next)) number
    set_root next e right fault there =
        let inside : number < length roots = omega (arith, own.whole) in
        ap (slice_get (faults c)) (get_or-set_same roots number (slice_index roots next) 0 inside) ∙ next_root roots number next e right fault there

    set_kept : (next other : ℕ) → slice_index_or successors number None ≡ Some next → IsRootAt c roots next → IsRootAt c roots other → IsRootAt c (set roots number (slice_index roots next)) other
    set_kept next other e right before =
        elim (cases_eq other number) [
          | inl same ↦ subst (IsRootAt c (set roots number (slice_index roots next))) (sym same) (set_root next e right)
          | inr apart ↦ λ fault there. ap (slice_get (faults c)) (get_or-set_other roots number other (slice_index roots next) 0 apart) ∙ before fault there
        ]

    set_own : (next : ℕ) → slice_index_or successors number None ≡ Some next → AreOwnRoots c successors (set roots number (slice_index roots next))
    set_own next e = record {
      whole = length-set roots number (slice_index roots next) ∙ own.whole;
      own = λ other inside none.
          elim (cases_eq other number) [
            | inl same ↦ let clash : None ≡ Some next = sym none ∙ (ap (λ n. slice_index_or successors n None) same ∙ e) in cc
            | inr apart ↦ get_or-set_other roots number other (slice_index roots next) 0 apart ∙ own.own other inside none
          ];
    }

    followed_by : (o : Option ℕ) → slice_index_or successors number None ≡ o → ((next : ℕ) → slice_index_or successors number None ≡ Some next → IsRootAt c roots next)
        → IsFollowed roots (set roots number (option_map_or (slice_index roots) o (slice_index roots number))) number
    followed_by None e right =
        let same : set roots number (slice_index roots number) ≡ roots = set-get_or roots number 0 in
        subst (λ new. IsFollowed roots new number) (sym same) (record { own = own; here = own_root roots number own within e; kept = λ other before. before })
    followed_by (Some next) e right = record {
      own = set_own next e;
      here = set_root next e (right next e);
      kept = λ other before. set_kept next other e (right next e) before;
    }

    pub is_followed : (new : List ℕ) → new ≡ slice_set roots number (followed successors roots number) → ((next : ℕ) → slice_index_or successors number None ≡ Some next → IsRootAt c roots next) → IsFollowed roots new number
    is_followed new e right = subst (λ x. IsFollowed roots x number) (sym e) (followed_by (slice_index_or successors number None) refl right)

  -- ---- the stems of gates, from the last back

  module _ (order : List ℕ) (is : IsOrder c order) where
    pub no_stems : (roots : List ℕ) → AreOwnRoots c successors roots → StemsFrom c successors order (length order) roots
    no_stems roots own = record { own = own; stems = λ at line bit number past there listed. absurd (omega (arith, slice_get_within order at line there)) }

    -- a stem of the gate before is followed
    pub stem_more : (i line : ℕ) (bit : Bool) (number : ℕ) (roots new : List ℕ) → slice_get order i ≡ Some line → c.sources ≤ line → slice_get (faults c) number ≡ Some (Stuck (Stem line) bit) → StemsFrom c successors order (i + 1) roots
        → new ≡ slice_set roots number (followed successors roots number) → StemsFrom c successors order (i + 1) new × IsFollowed roots new number
    stem_more i line bit number roots new here from listed found e =
        let done = is_followed roots number found.own (slice_get_within (faults c) number (Stuck (Stem line) bit) listed) new e
        (λ next n.
        let after = has_next number next (Stuck (Stem line) bit) listed n in
        let feeds = after.above.rises line bit refl in
        let place = slice_get-Contains order after.above.line (order_has c (fits_from c w) order is after.above.line after.above.from after.above.inside) in
        let later : i < place.0 = is.sorted place.0 i line after.above.line place.1 feeds from here in
        found.stems place.0 after.above.line after.above.value next (omega (arith, later)) place.1 after.stem) in
        (record { own = done.own; stems = λ at l b n past there at_n. done.kept n (found.stems at l b n past there at_n) }, done)

    -- both stems of a gate are followed
    pub gate_more : (i line first second : ℕ) (roots between new : List ℕ) → slice_get order i ≡ Some line → c.sources ≤ line
        → slice_get (faults c) first ≡ Some (Stuck (Stem line) false) → slice_get (faults c) second ≡ Some (Stuck (Stem line) true) → StemsFrom c successors order (i + 1) roots
        → between ≡ slice_set roots first (followed successors roots first) → new ≡ slice_set between second (followed successors between second) → StemsFrom c successors order i new
    gate_more i line first second roots between new here from one two found e f =
        let done = stem_more i line false first roots between here from one found e in
        let both = stem_more i line true second between new here from two done.0 f in
        let at_line : (bit : Bool) (number : ℕ) → slice_get (faults c) number ≡ Some (Stuck (Stem line) bit) → IsRootAt c new number = λ bit number listed. stem_done bit number listed done both in
        record {
          own = both.0.own;
          stems = λ at l bit number past there listed.
              elim (cases_eq at i) [
                | inl same ↦
                    let lines : line ≡ l = let s : Some line ≡ Some l = sym here ∙ (ap (slice_get order) (sym same) ∙ there) in cc in
                    at_line bit number (listed ∙ ap (λ n. Some (Stuck (Stem n) bit)) (sym lines))
                | inr apart ↦ both.0.stems at l bit number (omega (arith, past, apart)) there listed
              ];
        }
      where
        stem_done : (bit : Bool) (number : ℕ) → slice_get (faults c) number ≡ Some (Stuck (Stem line) bit) → StemsFrom c successors order (i + 1) between × IsFollowed roots between first → StemsFrom c successors order (i + 1) new × IsFollowed between new second → IsRootAt c new number
        stem_done false number listed done both = subst (IsRootAt c new) (one_number c first number (Stuck (Stem line) false) one listed) (both.1.kept first done.1.here)
        stem_done true number listed done both = subst (IsRootAt c new) (one_number c second number (Stuck (Stem line) true) two listed) both.1.here

    pub all_stems : (roots : List ℕ) → StemsFrom c successors order 0 roots → AreStemRoots c roots
    all_stems roots found line bit number from listed fault there =
        let stands = number_stands c number (Stuck (Stem line) bit) listed in
        let place = slice_get-Contains order line (order_has c (fits_from c w) order is line from stands) in
        found.stems place.0 line bit number (omega arith) place.1 listed fault there

  -- ---- all numbers

  pub no_roots : (roots : List ℕ) → AreOwnRoots c successors roots → AreStemRoots c roots → RootsBelow c successors 0 roots
  no_roots roots own stems = record { own = own; stems = stems; below = λ number h. absurd (omega arith) }

  pub root_more : (number : ℕ) (roots new : List ℕ) → number < fault_count c → RootsBelow c successors number roots → new ≡ slice_set roots number (followed successors roots number) → RootsBelow c successors (number + 1) new
  root_more number roots new within found e =
      let listed = slice_get-get_or (faults c) number Free within in
      let done = is_followed roots number found.own within new e
      (λ next n. let after = has_next number next _ listed n in found.stems after.above.line after.above.value next after.above.from after.stem) in
      record {
        own = done.own;
        stems = λ line bit n from there. done.kept n (found.stems line bit n from there);
        below = λ n h.
            elim (cases_eq n number) [
              | inl same ↦ subst (IsRootAt c new) (sym same) done.here
              | inr apart ↦ done.kept n (found.below n (omega (arith, h, apart)))
            ];
      }

  pub all_roots : (roots : List ℕ) → RootsBelow c successors (fault_count c) roots → AreRoots c roots
  all_roots roots found = record { whole = found.own.whole; each = λ number fault there. found.below number (slice_get_within (faults c) number fault there) fault there }
