-- What is kept of the positions, and how it follows changes.
use Rattle.std.proofs.Common.{◌≡◌, ◌≢◌, ℕ, ◌<◌, ◌≤◌, List, [], ◌∷◌, length, get_or, set, take, drop, ◌-◌, refl, sym, ◌∙◌, ap, subst, arith, inl, inr}
use Rattle.std.specs.Prelude.{Bool, true, false, not, ◌&&◌, cond, Some, None, All, find, filter, map, vec_capacity, if◌then◌else◌}
use Rattle.std.specs.List.{list_all, range_with_len}
use Rattle.std.proofs.lemmas.Bool.{cases_eq, false≢true}
use Rattle.std.proofs.lemmas.List.{get_or-set_same, get_or-set_other, length-map, ext_get_or, take_all, length-drop}
use Rattle.std.proofs.lemmas.List.Elements.{All-tail}
use Rattle.std.proofs.lemmas.List.FromFn.{length-range_with_len, get_or-map-range_with_len}
use Rattle.net_model.specs.declared.fault.Fault.{Fault}
use Rattle.net_model.specs.Circuit.{Circuit}
use Rattle.net_model.specs.Fault.{stuck_position}
use Rattle.net_model.specs.Scope.{is_reached, reached_positions}
use Rattle.event_queue.specs.Pending.{IsEmpty}
use Rattle.pair_sets.specs.declared.tally.Tally.{Tally}
use Rattle.pair_sets.specs.Tally.{kept_pairs, IsShownAt, ArePairsShown, IsTally, KeepsAll}
use Rattle.pair_sets.specs.declared.trail.Change.{Change}
use Rattle.pair_sets.specs.PairSet.{PairSet, free_pairs, forced_pairs}
use Rattle.pair_sets.specs.CubeState.{set_at, position_pairs}
use Rattle.pair_sets.specs.Trail.{undone}

-- ---- one position

module _ (c : Circuit) (f g : Fault) (sets shown : List PairSet) (at : ℕ) (pairs : PairSet) (inside : at < length shown) (is : pairs ≡ kept_pairs c f g sets at) where
  pub put_here : IsShownAt c f g sets (set shown at pairs) at
  put_here = get_or-set_same shown at pairs free_pairs inside ∙ is

  pub put_kept : (other : ℕ) → IsShownAt c f g sets shown other → IsShownAt c f g sets (set shown at pairs) other
  put_kept other was = elim (cases_eq other at) [
    | inl same ↦ subst (IsShownAt c f g sets (set shown at pairs)) (sym same) put_here
    | inr ne ↦ get_or-set_other shown at other pairs free_pairs ne ∙ was
  ]

-- if a position isn't reached, equal pairs are right
pub shown_unreached : (c : Circuit) (f g : Fault) (sets shown : List PairSet) (at : ℕ) → is_reached c f g at ≡ false → get_or shown at free_pairs ≡ free_pairs → IsShownAt c f g sets shown at
shown_unreached c f g sets shown at unreached free = free ∙ sym (ap (λ b. if b then position_pairs c f g sets at else free_pairs) unreached)

-- ---- changes

-- a line that no change names has the pairs that it had
unnamed_same : (changes : List Change) (sets : List PairSet) (line : ℕ) → All (λ change. change.line ≢ line) changes → set_at (undone changes sets) line ≡ set_at sets line
unnamed_same [] sets line none = refl
unnamed_same (change ∷ changes) sets line none =
    get_or-set_other (undone changes sets) change.line line change.was free_pairs (λ e. none 0 change (omega arith) (sym e))
    ∙ unnamed_same changes sets line (All-tail (λ (x : Change). x.line ≢ line) change changes none)

-- the changes starting at one of them
pub all_from : (start : ℕ) (changes : List Change) → take (length changes - start) (drop start changes) ≡ drop start changes
all_from start changes = take_all (length changes - start) (drop start changes) (omega (arith, length-drop start changes))

module _ (c : Circuit) (f g : Fault) where
  -- what is kept of a position depends on the pairs of its line
  shown_same : (old new shown : List PairSet) (at : ℕ) → set_at old (get_or c.positions at 0) ≡ set_at new (get_or c.positions at 0) → IsShownAt c f g old shown at → IsShownAt c f g new shown at
  unfolding position_pairs
  shown_same old new shown at same was = was ∙ ap (λ s. if is_reached c f g at then forced_pairs (stuck_position f at) (stuck_position g at) s else free_pairs) same

  module _ (old new shown : List PairSet) (changes : List Change) (are : ArePairsShown c f g old shown) (at : ℕ) (inside : at < length c.positions) (none : All (λ change. change.line ≢ get_or c.positions at 0) changes) where
    -- if no change names its line, a position shows what it showed before the changes
    pub shown_after : undone changes new ≡ old → IsShownAt c f g new shown at
    shown_after before = shown_same old new shown at (ap (λ sets. set_at sets (get_or c.positions at 0)) (sym before) ∙ unnamed_same changes new (get_or c.positions at 0) none) (are at inside)

    -- if no change names its line, a position shows what it showed after the changes
    pub shown_before : new ≡ undone changes old → IsShownAt c f g new shown at
    shown_before back = shown_same old new shown at (sym (ap (λ sets. set_at sets (get_or c.positions at 0)) back ∙ unnamed_same changes old (get_or c.positions at 0) none)) (are at inside)

  -- ---- all positions

  passing_reached : (test : PairSet → Bool) → test free_pairs ≡ true → (sets : List PairSet) (xs : List ℕ) → list_all test (map (kept_pairs c f g sets) xs) ≡ list_all (λ at. test (position_pairs c f g sets at)) (filter (is_reached c f g) xs)
  passing_reached test free sets [] = refl
  passing_reached test free sets (x ∷ xs) = by (is_reached c f g x) (passing_reached test free sets xs)
    where
      by : (b : Bool) → list_all test (map (kept_pairs c f g sets) xs) ≡ list_all (λ at. test (position_pairs c f g sets at)) (filter (is_reached c f g) xs)
          → (test (if b then position_pairs c f g sets x else free_pairs) && list_all test (map (kept_pairs c f g sets) xs)) ≡ list_all (λ at. test (position_pairs c f g sets at)) (cond b (x ∷ filter (is_reached c f g) xs) (filter (is_reached c f g) xs))
      by true rest = ap (λ b. test (position_pairs c f g sets x) && b) rest
      by false rest = ap (λ b. b && list_all test (map (kept_pairs c f g sets) xs)) free ∙ rest

  -- if equal pairs pass a test, all that is kept passes it exactly if what the reached positions show does
  pub all_of_shown : (test : PairSet → Bool) → test free_pairs ≡ true → (sets shown : List PairSet) → length shown ≡ length c.positions → ArePairsShown c f g sets shown
      → list_all test shown ≡ list_all (λ at. test (position_pairs c f g sets at)) (reached_positions c f g)
  unfolding reached_positions
  all_of_shown test free sets shown whole are =
      let all = range_with_len 0 (length c.positions) in
      let n : length all ≡ length c.positions = length-range_with_len 0 (length c.positions) in
      let shown_is : shown ≡ map (kept_pairs c f g sets) all =
      ext_get_or free_pairs shown (map (kept_pairs c f g sets) all) (whole ∙ sym (length-map all (kept_pairs c f g sets) ∙ n))
      (λ at h.
      let inside : at < length c.positions = omega (arith, h, whole) in
      are at inside ∙ sym (get_or-map-range_with_len (kept_pairs c f g sets) 0 (length c.positions) at at free_pairs inside (omega arith))) in
      ap (list_all test) shown_is ∙ passing_reached test free sets all

pub none_found : {X : Type 0} (test : X → Bool) (xs : List X) → list_all (λ x. not (test x)) xs ≡ true → find test xs ≡ None
none_found test [] e = refl
none_found test (x ∷ xs) e = by (test x) e (none_found test xs)
  where
    by : (b : Bool) → (not b && list_all (λ y. not (test y)) xs) ≡ true → (list_all (λ y. not (test y)) xs ≡ true → find test xs ≡ None) → cond b (Some x) (find test xs) ≡ None
    by true t rest = absurd (false≢true t)
    by false t rest = rest t

-- a tally stays right if only the pairs that positions keep change
pub tally_kept : (c : Circuit) (f g : Fault) (old new : Tally) → IsTally c f g old → KeepsAll old new → IsTally c f g new
tally_kept c f g old new are kept = record {
  reached = ap (λ v. v.items) kept.reached ∙ are.reached;
  places = record {
    whole = kept.whole ∙ are.places.whole;
    none_waits = subst IsEmpty (sym kept.waiting) are.places.none_waits;
    queue_room = ap length kept.waiting ∙ are.places.queue_room;
    room = subst (λ v. length c.positions ≤ vec_capacity v) (sym kept.reached) are.places.room;
  };
}
