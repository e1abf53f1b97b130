use Rattle.std.proofs.Common.{◌≡◌, ◌<◌, ◌∙◌, ℕ, List, true, false, length, refl, sym, ap, subst}
use Rattle.std.specs.Prelude.{All, Bool, Option, None, Some, find, not, reverse}
use Rattle.std.specs.List.{list_all}
use Rattle.std.specs.Option.{option_map_or}
use Rattle.pair_sets.specs.PairSet.{PairSet}
use Rattle.pair_sets.specs.declared.sim.PairSim.TheInside.{Inside}
use Rattle.pair_sets.specs.declared.state.PairState.TheVariants.{AllSame, Apart, Undecided}
use Rattle.pair_sets.specs.PairSet.{free_pairs, only_equal, only_unequal}
use Rattle.pair_sets.specs.CubeState.{position_pairs, IsState}
use Rattle.pair_sets.specs.PairSim.{PairSim}
use Rattle.pair_sets.specs.PairSimFields.{cube_of, ArePairSimFields}
use Rattle.pair_sets.proofs.LevelLemmas.{right_of, reached_within, state_same, state_other}
use Rattle.pair_sets.proofs.TallyLemmas.{all_of_shown, none_found}
use Rattle.pair_sets.proofs.sim.PairSim.state.Goals as goal

module _ (a : Inside) (ready : ArePairSimFields a) where
  -- the kept pairs pass the test exactly if those of the reached positions do
  all_of : (test : PairSet → Bool) → test free_pairs ≡ true → list_all test a.tally.shown ≡ list_all (λ at. test (position_pairs a.pair.circuit.now a.pair.f a.pair.g a.trail.sets.items at)) a.tally.reached.items
  all_of test free =
      all_of_shown a.pair.circuit.now a.pair.f a.pair.g test free a.trail.sets.items a.tally.shown ready.tally.places.whole ready.shown
      ∙ ap (list_all (λ at. test (position_pairs a.pair.circuit.now a.pair.f a.pair.g a.trail.sets.items at))) (sym ready.tally.reached)

  within_of : (reached : List ℕ) → reached ≡ a.tally.reached.items → All (λ at. at < length a.pair.circuit.now.positions) reached
  within_of reached e = reached_within a.pair.circuit.now a.pair.f a.pair.g reached (e ∙ ready.tally.reached)

  other_state : (found : Option ℕ) → list_all only_equal a.tally.shown ≡ false → found ≡ find (λ at. only_unequal (position_pairs a.pair.circuit.now a.pair.f a.pair.g a.trail.sets.items at)) a.tally.reached.items
      → IsState a.pair.circuit.now a.pair.f a.pair.g (cube_of (reverse a.levels.items)) (option_map_or Apart found Undecided)
  other_state found not_all is = record {
    sets = a.trail.sets.items;
    are = (right_of a ready).right;
    is = state_other a.pair.circuit.now a.pair.f a.pair.g a.trail.sets.items a.tally.reached.items ready.tally.reached found (sym (all_of only_equal refl) ∙ not_all) is;
  }

pub first_apart-requires-clause-width : goal.first_apart-requires-clause-width
first_apart-requires-clause-width c = ap length c.as_slice-sets.ensures.value ∙ (right_of c.self.inside c.self.invariant).right.whole

pub first_apart-requires-clause-positions : goal.first_apart-requires-clause-positions
first_apart-requires-clause-positions c = within_of c.self.inside c.self.invariant c.as_slice-reached.result.now c.as_slice-reached.ensures.value

pub returns-then-are_equal : goal.returns-then-are_equal
returns-then-are_equal c =
    let a = c.self.inside in
    let all = sym (all_of a c.self.invariant only_equal refl) ∙ sym c.are_equal.ensures ∙ c.if-are_equal.true in
    subst (λ (sim : PairSim). IsState sim.circuit sim.f sim.g sim.cube AllSame) c.self.view_is
    record { sets = a.trail.sets.items; are = (right_of a c.self.invariant).right; is = state_same a.pair.circuit.now a.pair.f a.pair.g a.trail.sets.items a.tally.reached.items c.self.invariant.tally.reached all }

pub returns-then-none_apart : goal.returns-then-none_apart
returns-then-none_apart c =
    let a = c.self.inside in
    let apart : ℕ → Bool = λ at. only_unequal (position_pairs a.pair.circuit.now a.pair.f a.pair.g a.trail.sets.items at) in
    let none = none_found apart a.tally.reached.items (sym (all_of a c.self.invariant (λ s. not (only_unequal s)) refl) ∙ sym c.none_apart.ensures ∙ c.if-none_apart.true) in
    subst (λ (sim : PairSim). IsState sim.circuit sim.f sim.g sim.cube Undecided) c.self.view_is
    (other_state a c.self.invariant None (sym c.are_equal.ensures ∙ c.if-are_equal.false) (sym none))

pub returns-in-Some : goal.returns-in-Some
returns-in-Some c =
    let a = c.self.inside in
    let apart : List PairSet → ℕ → Bool = λ sets at. only_unequal (position_pairs a.pair.circuit.now a.pair.f a.pair.g sets at) in
    let found : ◌≡◌ {A = Option ℕ} (Some c.in-Some.at) (find (apart a.trail.sets.items) a.tally.reached.items) =
    sym c.in-Some.is ∙ c.first_apart.ensures ∙ (λ i. find (apart (c.as_slice-sets.ensures.value i)) (c.as_slice-reached.ensures.value i)) in
    subst (λ (sim : PairSim). IsState sim.circuit sim.f sim.g sim.cube (Apart c.in-Some.at)) c.self.view_is
    (other_state a c.self.invariant (Some c.in-Some.at) (sym c.are_equal.ensures ∙ c.if-are_equal.false) found)

pub returns-in-None : goal.returns-in-None
returns-in-None c =
    let a = c.self.inside in
    let apart : List PairSet → ℕ → Bool = λ sets at. only_unequal (position_pairs a.pair.circuit.now a.pair.f a.pair.g sets at) in
    let found : ◌≡◌ {A = Option ℕ} None (find (apart a.trail.sets.items) a.tally.reached.items) =
    sym c.in-None.is ∙ c.first_apart.ensures ∙ (λ i. find (apart (c.as_slice-sets.ensures.value i)) (c.as_slice-reached.ensures.value i)) in
    subst (λ (sim : PairSim). IsState sim.circuit sim.f sim.g sim.cube Undecided) c.self.view_is
    (other_state a c.self.invariant None (sym c.are_equal.ensures ∙ c.if-are_equal.false) found)
