-- The positions that two faults reach: those that show a split line, and the sites of the faults.
use Rattle.std.proofs.Common.{◌≡◌, ◌⊎◌, ◌∙◌, ℕ, ◌<◌, List, [], ◌∷◌, ◌++◌, length, get_or, refl, sym, ap, arith, subst, inl, inr}
use Rattle.std.specs.Prelude.{Bool, true, false, All, Contains, ◌||◌, is_some}
use Rattle.std.specs.Bool.{then_some}
use Rattle.std.specs.Cmp.{both_ways}
use Rattle.std.proofs.lemmas.Bool.{eq-eqb, eqb-true}
use Rattle.std.proofs.lemmas.List.Elements.{Contains-get_or, Contains-push_cases}
use Rattle.net_model.specs.declared.fault.Site.{Site}
use Rattle.net_model.specs.declared.fault.Site.TheVariants.{Stem, Pin, Position}
use Rattle.net_model.specs.declared.fault.Fault.{Fault}
use Rattle.net_model.specs.declared.fault.Fault.TheVariants.{Free, Stuck}
use Rattle.net_model.specs.Circuit.{Circuit, line_count}
use Rattle.net_model.specs.Fault.{IsFaultOf, stuck_position}
use Rattle.net_model.specs.Scope.{is_split, is_reached}
use Rattle.net_model.specs.Wiring.{Wiring, IsWiring}
use Rattle.net_model.proofs.Elements.{first_or_later, none_in}
use Rattle.net_model.proofs.ScopeLaws.{none_split}

-- ---- faults at positions

-- if a fault of the circuit is at a position, the position is one of the circuit's
pub site_inside : (c : Circuit) (f : Fault) (at : ℕ) → IsFaultOf c f → is_some (stuck_position f at) ≡ true → at < length c.positions
site_inside c Free at is t = cc
site_inside c (Stuck (Stem line) bit) at is t = cc
site_inside c (Stuck (Pin gate pin) bit) at is t = cc
site_inside c (Stuck (Position place) bit) at is t = subst (λ n. n < length c.positions) (eqb-true place at (test_of bit t)) is
  where
    test_of : {b : Bool} (bit : Bool) → is_some (then_some b bit) ≡ true → b ≡ true
    test_of {b = true} bit t = refl
    test_of {b = false} bit t = cc

-- a fault at a position sticks it
pub stands : (fault : Fault) (site : Site) (at : ℕ) (bit : Bool) → fault ≡ Stuck site bit → site ≡ Position at → is_some (stuck_position fault at) ≡ true
stands fault site at bit is here =
    ap (λ (h : Fault). is_some (stuck_position h at)) (is ∙ ap (λ (s : Site). Stuck s bit) here) ∙ ap (λ b. is_some (then_some b bit)) (eq-eqb at at refl)

-- without faults no position is reached
pub none_reached : (c : Circuit) (at : ℕ) → is_reached c Free Free at ≡ false
unfolding is_reached
none_reached c at = ap (λ b. b || false || false) (none_split c Free Free (get_or c.positions at 0) refl refl)

-- ---- positions that wait, split line by split line

-- The positions that show one of these lines wait; a position that shows no split line doesn't.
pub record AreShown (c : Circuit) (f g : Fault) (lines : List ℕ) (waits : ℕ → Bool) : Type 0 where
  pub woken : (at : ℕ) → at < length c.positions → Contains lines (get_or c.positions at 0) → waits at ≡ true
  pub only : (at : ℕ) → waits at ≡ true → is_split c f g (get_or c.positions at 0) ≡ true

pub none_shown : (c : Circuit) (f g : Fault) (waits : ℕ → Bool) → ((at : ℕ) → waits at ≡ false) → AreShown c f g [] waits
none_shown c f g waits none = record {
  woken = λ at h has. absurd (none_in (get_or c.positions at 0) has);
  only = λ at t. let clash : ◌≡◌ {A = Bool} true false = sym t ∙ none at in cc;
}

module _ (c : Circuit) (wiring : Wiring) (is : IsWiring c wiring) where
  pub shown_inside : (line room : ℕ) (shown : List ℕ) → shown ≡ get_or wiring.showing line [] → room ≡ length c.positions → All (λ at. at < room) shown
  shown_inside line room shown e all k d h =
      let below = is.showing.below line (get_or shown k d) (subst (λ xs. Contains xs (get_or shown k d)) e (Contains-get_or shown k d h)) in
      omega arith

  module _ (f g : Fault) where
    -- those that show a further split line wait too
    pub shown_more : (lines shown : List ℕ) (line : ℕ) (old new : ℕ → Bool) → is_split c f g line ≡ true → shown ≡ get_or wiring.showing line []
        → ((at : ℕ) → Contains shown at → new at ≡ true) → ((at : ℕ) → old at ≡ true → new at ≡ true) → ((at : ℕ) → new at ≡ true → old at ≡ true ⊎ Contains shown at)
        → AreShown c f g lines old → AreShown c f g (lines ++ line ∷ []) new
    shown_more lines shown line old new split e here kept only was = record {
      woken = λ at h has. elim (Contains-push_cases lines line (get_or c.positions at 0) has) [
        | inl earlier ↦ kept at (was.woken at h earlier)
        | inr same ↦ here at (subst (λ xs. Contains xs at) (sym e) (is.showing.all line at h (0, omega arith, sym same)))
      ];
      only = λ at t. elim (only at t) [
        | inl before ↦ was.only at before
        | inr woken ↦ elim (first_or_later (get_or c.positions at 0) [] line (is.showing.only line at (subst (λ xs. Contains xs at) e woken))) [
          | inl same ↦ ap (is_split c f g) same ∙ split
          | inr m ↦ absurd (none_in line m)
        ]
      ];
    }

    -- once the positions of all split lines and of both faults wait, those that are reached wait
    pub shown_reached : (lines : List ℕ) (waits between all : ℕ → Bool) → AreShown c f g lines waits → ((line : ℕ) → line < line_count c → is_split c f g line ≡ true → Contains lines line)
        → ((at : ℕ) → between at ≡ (waits at || is_some (stuck_position f at))) → ((at : ℕ) → all at ≡ (between at || is_some (stuck_position g at)))
        → (at : ℕ) → at < length c.positions → all at ≡ is_reached c f g at
    unfolding is_reached
    shown_reached lines waits between all are listed first second at h =
        let line = get_or c.positions at 0 in
        let own : waits at ≡ is_split c f g line = both_ways (waits at) (is_split c f g line) (are.only at) (λ t. are.woken at h (listed line (is.circuit.positions at 0 h) t)) in
        second at ∙ ap (λ b. b || is_some (stuck_position g at)) (first at)
        ∙ ap (λ b. b || is_some (stuck_position f at) || is_some (stuck_position g at)) own
