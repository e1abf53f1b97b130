-- One turn of the search: a descent, and a climb from the leaf at its end.
use Rattle.std.proofs.Common.{◌≡◌, ℕ, ◌+◌, List, [], ◌∷◌, length, get_or, eqb-true, eq-eqb, refl, sym, ◌∙◌, subst}
use Rattle.std.specs.Prelude.{Bool, true, false, ◌==◌, Option, None, Some, if◌then◌else◌}
use Rattle.std.specs.List.{list_any}
use Rattle.net_model.specs.declared.fault.Fault.{Fault}
use Rattle.net_model.specs.Circuit.{Circuit, IsCircuit}
use Rattle.pair_sets.specs.declared.tree.Token.{Token}
use Rattle.pair_sets.specs.Cube.{fixed_bit, FixesOnce, InCube}
use Rattle.pair_sets.specs.PairSim.{PairSim, pair_sim}
use Rattle.pair_sets.specs.Subtree.{IsSubtree}
use Rattle.pair_sets.proofs.StateLemmas.{apart_differs}
use Rattle.distinguish_search.specs.declared.end.End.TheVariants.{Leaf, Apart}
use Rattle.distinguish_search.specs.declared.frames.Frame.{Frame}
use Rattle.distinguish_search.specs.declared.searched.Searched.TheVariants.{Covered, Spent}
use Rattle.distinguish_search.specs.End.{IsSearchEnd, leaf_token}
use Rattle.distinguish_search.specs.Searched.{SeparatesAll, IsSearched}
use Rattle.distinguish_search.specs.Frames.{tried_cube, is_open_leaf, IsUnderWay, SplitsOn, IsClimbed}
use Rattle.distinguish_search.proofs.FrameLemmas.{once_of, has_fixed}
use Rattle.distinguish_search.proofs.Leaves.{IsInBudget, leaf_right, whole_found, still_in_budget}

-- how many leaves are closed with the new one
pub more_then : (closed leaves now : ℕ) → (closed ≡ leaves → ⊥) → now ≡ closed + 1 → now ≡ (if closed == leaves then closed else closed + 1)
more_then closed leaves now ne e = by (closed == leaves) refl
  where
    by : (b : Bool) → (closed == leaves) ≡ b → now ≡ (if b then closed else closed + 1)
    by true t = absurd (ne (eqb-true closed leaves t))
    by false t = e

pub more_else : (closed leaves now : ℕ) → closed ≡ leaves → now ≡ closed → now ≡ (if closed == leaves then closed else closed + 1)
more_else closed leaves now same e = let t : (closed == leaves) ≡ true = eq-eqb closed leaves same in rw t e

module _ (c : Circuit) (f g : Fault) (leaves closed : ℕ) (sim : PairSim) (start : List Frame) (budget : IsInBudget c f g leaves closed sim start)
    (new : PairSim) (stack : List Frame) (way : IsUnderWay sim.circuit sim.f sim.g new stack) where
  -- the simulation's circuit and faults are those of the search, before and after the descent
  was : sim ≡ pair_sim c f g (tried_cube start)
  was = budget.under_way.stands

  here : IsUnderWay c f g new stack
  here = subst (λ (s : PairSim). IsUnderWay s.circuit s.f s.g new stack) was way

  is : new ≡ pair_sim c f g (tried_cube stack)
  is = here.stands

  pub once_here : FixesOnce c.sources (tried_cube stack)
  once_here = once_of c f g stack here.right

  pub cube_found : (full : Bool) (cube : List (Option Bool)) → IsCircuit c → IsSearchEnd sim.circuit sim.f sim.g new.cube full Apart → length cube ≡ c.sources → ((source : ℕ) → get_or cube source None ≡ fixed_bit (tried_cube stack) source) → SeparatesAll c f g cube
  cube_found full cube w end width bits =
      let apart : IsSearchEnd c f g new.cube full Apart = subst (λ (s : PairSim). IsSearchEnd s.circuit s.f s.g new.cube full Apart) was end in record {
        width = width;
        each = λ v wide has.
            let inside : InCube (tried_cube stack) v = has_fixed c.sources (tried_cube stack) v once_here (λ source bit e. has source bit (bits source ∙ e)) in
            (apart_differs c f g new.cube v apart.0 w wide apart.1 (subst (λ (s : PairSim). InCube s.cube v) (sym is) inside)).separates;
      }

  pub leaf_here : (full : Bool) (tree : List Token) → IsSearchEnd sim.circuit sim.f sim.g new.cube full Leaf → tree ≡ leaf_token full ∷ [] → IsSubtree new.circuit new.f new.g new.cube tree
  leaf_here full tree end leaf =
      subst (λ (s : PairSim). IsSubtree s.circuit s.f s.g new.cube tree) (sym is)
      (subst (IsSubtree c f g new.cube) (sym leaf) (leaf_right c f g new.cube full (subst (λ (s : PairSim). IsSearchEnd s.circuit s.f s.g new.cube full Leaf) was end)))

  module _ (splits : SplitsOn sim.circuit.sources start stack) (now : ℕ) (more : now ≡ (if closed == leaves then closed else closed + 1)) (tree : List Token) (leaf : tree ≡ leaf_token (closed == leaves) ∷ [])
      (later : PairSim) (left : List Frame) where
    on : SplitsOn c.sources start stack
    on = subst (λ (s : PairSim). SplitsOn s.circuit.sources start stack) was splits

    climbed : (whole : Option (List Token)) → IsClimbed new.circuit new.f new.g tree stack later left whole → IsClimbed c f g (leaf_token (closed == leaves) ∷ []) stack later left whole
    climbed whole h = subst (λ xs. IsClimbed c f g xs stack later left whole) leaf (subst (λ (s : PairSim). IsClimbed s.circuit s.f s.g tree stack later left whole) is h)

    pub tree_found : (whole : List Token) → IsClimbed new.circuit new.f new.g tree stack later left (Some whole) → IsSearched c f g leaves (if list_any is_open_leaf whole then Spent whole else Covered whole)
    tree_found whole h = whole_found c f g leaves closed now sim start stack budget on (closed == leaves) refl more whole (climbed (Some whole) h)

    pub goes_on : IsClimbed new.circuit new.f new.g tree stack later left None → IsInBudget c f g leaves now later left
    goes_on h = still_in_budget c f g leaves closed now sim start stack budget on (closed == leaves) refl more later left (climbed None h)
