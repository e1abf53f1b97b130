-- The circuit without faults: none of its positions is reached, and all pairs are those of the base.
use Rattle.std.proofs.Common.{◌≡◌, ℕ, ◌*◌, ◌<◌, ◌≤◌, List, [], ◌∷◌, length, refl, sym, ◌∙◌, ap, subst, arith, inl, inr}
use Rattle.std.specs.Prelude.{Bool, true, false, All, Contains, reverse, if◌then◌else◌}
use Rattle.std.specs.List.{range_with_len}
use Rattle.std.proofs.lemmas.Bool.{cases_lt, false_from_ne_true}
use Rattle.std.proofs.lemmas.List.{ext_get_or, get_or_past, length-reverse}
use Rattle.net_model.specs.declared.fault.Fault.{Fault}
use Rattle.net_model.specs.declared.fault.Fault.TheVariants.{Free}
use Rattle.net_model.specs.Answer.{bit_at}
use Rattle.net_model.specs.Circuit.{Circuit, IsCircuit, line_count}
use Rattle.net_model.specs.Scope.{is_split, is_reached, reached_positions}
use Rattle.net_model.proofs.Filtered.{filter_none}
use Rattle.net_model.proofs.Relevance.{reached_listed}
use Rattle.net_model.proofs.ReachedPositions.{none_reached as unreached}
use Rattle.fault_list.specs.Scope.{AreMarksOfTest}
use Rattle.pair_sets.specs.declared.sim.Level.{Level}
use Rattle.pair_sets.specs.declared.tally.Tally.{Tally}
use Rattle.pair_sets.specs.declared.trail.Change.{Change}
use Rattle.pair_sets.specs.PairSet.{PairSet, free_pairs}
use Rattle.pair_sets.specs.CubeState.{set_at, ArePairSets, position_pairs}
use Rattle.pair_sets.specs.PairSimFields.{cube_of, AreCubeLevels}
use Rattle.pair_sets.specs.Tally.{HasTallyPlaces, IsTallyBlank, IsBlankBut, ArePairsShown, IsTally}
use Rattle.pair_sets.proofs.LevelLemmas.{reached_within}
use Rattle.pair_sets.proofs.SpreadLemmas.{unsplit_same}
use Rattle.pair_sets.proofs.TallyLemmas.{shown_unreached}
use Rattle.pair_sets.proofs.TrailLemmas.{few_pairs}

-- ---- positions

module _ (c : Circuit) where
  none_reached : reached_positions c Free Free ≡ []
  unfolding reached_positions
  none_reached = filter_none (is_reached c Free Free) (range_with_len 0 (length c.positions)) (unreached c)

  -- a blank tally is right without faults
  pub blank_tally : (tally : Tally) → IsTallyBlank tally → HasTallyPlaces (length c.positions) tally → IsTally c Free Free tally
  blank_tally tally blank places = record { reached = blank.reached ∙ sym none_reached; places = places }

  pub blank_shown : (tally : Tally) (sets : List PairSet) → IsTallyBlank tally → ArePairsShown c Free Free sets tally.shown
  blank_shown tally sets blank at h = shown_unreached c Free Free sets tally.shown at (unreached c at) (blank.free at)

  pub free_blank : (tally : Tally) (sets : List PairSet) → IsTally c Free Free tally → ArePairsShown c Free Free sets tally.shown → IsTallyBlank tally
  free_blank tally sets are shown = record {
    reached = are.reached ∙ none_reached;
    free = λ at. elim (cases_lt at (length c.positions)) [
      | inl under ↦ shown at under ∙ ap (λ b. if b then position_pairs c Free Free sets at else free_pairs) (unreached c at)
      | inr over ↦ get_or_past tally.shown at free_pairs (omega (arith, over, are.places.whole))
    ];
  }

  -- nothing is kept of positions that aren't reached
  pub blank_but : (f g : Fault) (tally : Tally) (sets : List PairSet) → IsTally c f g tally → ArePairsShown c f g sets tally.shown → IsBlankBut tally.reached.items tally.shown
  blank_but f g tally sets are shown = record {
    within = subst (λ n. All (λ at. at < n) tally.reached.items) (sym are.places.whole) (reached_within c f g tally.reached.items are.reached);
    others = λ at none. elim (cases_lt at (length c.positions)) [
      | inl under ↦
          let out : is_reached c f g at ≡ false = false_from_ne_true (is_reached c f g at) (λ t. none (subst (λ xs. Contains xs at) (sym are.reached) (reached_listed c f g at under t))) in
          shown at under ∙ ap (λ b. if b then position_pairs c f g sets at else free_pairs) out
      | inr over ↦ get_or_past tally.shown at free_pairs (omega (arith, over, are.places.whole))
    ];
  }

-- ---- pairs

-- if split lines get the pairs of the base and all others keep theirs, all lines have those of the base
pub back_to_base : (c : Circuit) → IsCircuit c → (f g : Fault) (marks : List Bool) (old base new : List PairSet) → AreMarksOfTest (is_split c f g) (line_count c) marks
    → ArePairSets c f g [] old → ArePairSets c Free Free [] base → length new ≡ length old
    → ((line : ℕ) → bit_at marks line ≡ true → set_at new line ≡ set_at base line) → ((line : ℕ) → set_at old line ≡ set_at base line → set_at new line ≡ set_at base line) → new ≡ base
back_to_base c w f g marks old base new are right free whole here kept =
    ext_get_or free_pairs new base (whole ∙ right.whole ∙ sym free.whole) (λ line h. by line (omega (arith, h, whole, right.whole)) (bit_at marks line) refl)
  where
    by : (line : ℕ) → line < line_count c → (b : Bool) → bit_at marks line ≡ b → set_at new line ≡ set_at base line
    by line h true e = here line e
    by line h false e = kept line (unsplit_same c w f g old base right free line h (sym (are.each line h) ∙ e))

-- ---- levels

module _ (c : Circuit) (f g : Fault) (room : ℕ) where
  -- the pairs without a fixed source are a level if there is room for all changes
  pub lowest_level : (levels : List Level) (changes : List Change) (sets : List PairSet) → levels ≡ [] → changes ≡ [] → ArePairSets c f g [] sets → 4 * line_count c ≤ room → AreCubeLevels c f g room (reverse levels) changes sets
  lowest_level levels changes sets none no_changes right enough =
      subst (λ xs. AreCubeLevels c f g room (reverse xs) changes sets) (sym none)
      (no_changes, record { right = right; room_left = omega (arith, enough, few_pairs sets, right.whole, ap length no_changes) })

  -- if no source is fixed, there are no levels and no changes
  pub unfixed : (levels : List Level) (changes : List Change) (sets : List PairSet) → AreCubeLevels c f g room levels changes sets → cube_of levels ≡ [] → (levels ≡ []) × (changes ≡ [])
  unfixed [] changes sets are e = (refl, are.0)
  unfixed (level ∷ levels) changes sets are e = absurd (omega (arith, ap length e))

pub no_levels : (levels : List Level) → reverse levels ≡ [] → levels ≡ []
no_levels [] e = refl
no_levels (level ∷ levels) e = absurd (omega (arith, ap length e, length-reverse (level ∷ levels)))
