-- The levels of a simulation: the pairs of a cube, and those that come back if its last source is freed.
use Rattle.std.proofs.Common.{◌≡◌, ◌≢◌, ℕ, ◌<◌, ◌≤◌, List, [], ◌∷◌, ◌++◌, length, length-append, get_or, set, take, drop, eq-eqb, refl, sym, ◌∙◌, ap, subst, arith, inl, inr}
use Rattle.std.specs.Prelude.{Bool, true, false, Option, None, Some, option_map, find, cond, ◌==◌, All, Contains, filter, reverse, vec_capacity, if◌then◌else◌}
use Rattle.std.specs.Option.{option_map_or}
use Rattle.std.specs.List.{list_all, range_with_len}
use Rattle.std.proofs.lemmas.Bool.{cases_eq, cases_lt, ne_eqb}
use Rattle.std.proofs.lemmas.List.{get_or-set_same, get_or-set_other, length-map, take_at, drop_at, take-append-drop}
use Rattle.std.proofs.lemmas.List.Elements.{Contains-get_or}
use Rattle.net_model.specs.declared.fault.Fault.{Fault}
use Rattle.net_model.specs.Circuit.{Circuit, line_count}
use Rattle.net_model.specs.Fault.{stuck_stem}
use Rattle.net_model.specs.Scope.{is_reached, reached_positions}
use Rattle.net_model.proofs.Orders.{range-within}
use Rattle.net_model.proofs.Elements.{Contains-from_filter}
use Rattle.pair_sets.specs.PairSet.{PairSet}
use Rattle.pair_sets.specs.declared.sim.Level.{Level}
use Rattle.pair_sets.specs.declared.sim.PairSim.TheInside.{Inside}
use Rattle.pair_sets.specs.declared.state.PairState.{PairState}
use Rattle.pair_sets.specs.declared.state.PairState.TheVariants.{AllSame, Apart, Undecided}
use Rattle.pair_sets.specs.declared.trail.Change.{Change}
use Rattle.pair_sets.specs.Cube.{Cube, FixesOnce, fixed_bit}
use Rattle.pair_sets.specs.PairSet.{forced_pairs, free_pairs, fixed_pairs, only_equal, only_unequal, IsWithin}
use Rattle.pair_sets.specs.CubeState.{set_at, source_pairs, ArePairSets, position_pairs, state_of}
use Rattle.pair_sets.specs.Trail.{undone}
use Rattle.pair_sets.specs.Events.{gate_line_pairs}
use Rattle.pair_sets.specs.PairSimFields.{cube_of, IsLevelRight, AreCubeLevels, ArePairSimFields}
use Rattle.pair_sets.proofs.CubeLemmas.{few_fixed}
use Rattle.pair_sets.proofs.PairLemmas.{within_forced}
use Rattle.pair_sets.proofs.SeenLemmas.{source_line_pairs, any_cube}
use Rattle.pair_sets.proofs.TrailLemmas.{undone-append}

-- ---- sources

module _ (source : ℕ) (bit : Bool) (cube : Cube) where
  pub fixed_here : source_pairs ((source, bit) ∷ cube) source ≡ fixed_pairs bit
  fixed_here = ap (λ b. option_map_or fixed_pairs (option_map (λ (fixed : ℕ × Bool). fixed.1) (cond b (Some (source, bit)) (find (λ fixed. fixed.0 == source) cube))) free_pairs) (eq-eqb source source refl)

  pub fixed_other : (line : ℕ) → line ≢ source → source_pairs ((source, bit) ∷ cube) line ≡ source_pairs cube line
  fixed_other line ne = ap (λ b. option_map_or fixed_pairs (option_map (λ (fixed : ℕ × Bool). fixed.1) (cond b (Some (source, bit)) (find (λ fixed. fixed.0 == line) cube))) free_pairs) (ne_eqb source line (λ e. ne (sym e)))

fixed_is_free : (bit : Bool) → IsWithin (fixed_pairs bit) free_pairs
fixed_is_free bit false false h = refl
fixed_is_free bit false true h = h
fixed_is_free bit true false h = h
fixed_is_free bit true true h = refl

module _ (c : Circuit) (f g : Fault) (cube : Cube) (sets : List PairSet) (are : ArePairSets c f g cube sets) (source : ℕ) (inside : source < c.sources) where
  -- a free source that is fixed has some of the pairs that it had
  pub fewer_fixed : fixed_bit cube source ≡ None → (bit : Bool) → IsWithin (forced_pairs (stuck_stem f source) (stuck_stem g source) (fixed_pairs bit)) (set_at sets source)
  fewer_fixed free bit =
      let was : set_at sets source ≡ forced_pairs (stuck_stem f source) (stuck_stem g source) free_pairs =
      are.each source (omega arith) ∙ source_line_pairs c f g cube sets source inside
      ∙ ap (λ o. forced_pairs (stuck_stem f source) (stuck_stem g source) (option_map_or fixed_pairs o free_pairs)) free in
      subst (IsWithin (forced_pairs (stuck_stem f source) (stuck_stem g source) (fixed_pairs bit))) (sym was)
      (within_forced (stuck_stem f source) (stuck_stem g source) (fixed_pairs bit) free_pairs (fixed_is_free bit))

  -- if the gates follow a source that is fixed, the pairs are those of the cube with that source fixed
  pub pairs_fixed : (bit : Bool) (pairs : PairSet) (new : List PairSet) → pairs ≡ forced_pairs (stuck_stem f source) (stuck_stem g source) (fixed_pairs bit)
      → length new ≡ line_count c → ((s : ℕ) → s < c.sources → set_at new s ≡ set_at (set sets source pairs) s) → ((line : ℕ) → c.sources ≤ line → line < line_count c → set_at new line ≡ gate_line_pairs c f g new line)
      → ArePairSets c f g ((source, bit) ∷ cube) new
  pairs_fixed bit pairs new is whole sources right = record {
    whole = whole;
    each = λ line h. elim (cases_lt line c.sources) [
      | inl under ↦
          let stems : PairSet → PairSet = forced_pairs (stuck_stem f line) (stuck_stem g line) in
          sources line under ∙ (elim (cases_eq line source) [
            | inl same ↦
                let P : ℕ → Type 0 = λ k. set_at (set sets source pairs) k ≡ forced_pairs (stuck_stem f k) (stuck_stem g k) (source_pairs ((source, bit) ∷ cube) k) in
                subst P (sym same)
                (get_or-set_same sets source pairs free_pairs (omega (arith, are.whole)) ∙ is ∙ ap (forced_pairs (stuck_stem f source) (stuck_stem g source)) (sym (fixed_here source bit cube)))
            | inr ne ↦
                get_or-set_other sets source line pairs free_pairs ne ∙ are.each line h ∙ source_line_pairs c f g cube sets line under ∙ ap stems (sym (fixed_other source bit cube line ne))
          ]) ∙ sym (source_line_pairs c f g ((source, bit) ∷ cube) new line under)
      | inr over ↦ right line over h ∙ any_cube c f g [] ((source, bit) ∷ cube) new line over h
    ];
  }

-- ---- gates of a cube

module _ (c : Circuit) (f g : Fault) (cube : Cube) (sets : List PairSet) (are : ArePairSets c f g cube sets) where
  pub gates_right : (line : ℕ) → c.sources ≤ line → line < line_count c → set_at sets line ≡ gate_line_pairs c f g sets line
  gates_right line above below = are.each line below ∙ any_cube c f g cube [] sets line above below

-- ---- levels

module _ (c : Circuit) (f g : Fault) (room : ℕ) where
  pub level_right : (levels : List Level) (changes : List Change) (sets : List PairSet) → AreCubeLevels c f g room levels changes sets → IsLevelRight c f g (cube_of levels) room changes sets
  level_right [] changes sets are = are.1
  level_right (level ∷ levels) changes sets are = are.0

  -- with all changes undone the pairs are those without a fixed source
  pub first_level : (levels : List Level) (changes : List Change) (sets : List PairSet) → AreCubeLevels c f g room levels changes sets → ArePairSets c f g [] (undone changes sets)
  first_level [] changes sets are = subst (λ xs. ArePairSets c f g [] (undone xs sets)) (sym are.0) are.1.right
  first_level (level ∷ levels) changes sets are =
      subst (ArePairSets c f g []) (sym (undone-append (take level.start changes) (drop level.start changes) sets) ∙ ap (λ xs. undone xs sets) (take-append-drop level.start changes))
      (first_level levels (take level.start changes) (undone (drop level.start changes) sets) are.4)

  pub levels_more : (levels : List Level) (changes : List Change) (sets : List PairSet) (level : Level) (added all : List Change) (new : List PairSet)
      → AreCubeLevels c f g room levels changes sets → level.source < c.sources → fixed_bit (cube_of levels) level.source ≡ None → level.start ≡ length changes
      → all ≡ changes ++ added → undone added new ≡ sets → IsLevelRight c f g (cube_of (level ∷ levels)) room all new → AreCubeLevels c f g room (level ∷ levels) all new
  levels_more levels changes sets level added all new are inside free start extends before right =
      let taken : take level.start all ≡ changes = ap (take level.start) extends ∙ take_at changes added level.start (sym start) in
      let dropped : drop level.start all ≡ added = ap (drop level.start) extends ∙ drop_at changes added level.start (sym start) in
      let back : undone (drop level.start all) new ≡ sets = ap (λ xs. undone xs new) dropped ∙ before in (
        right,
        inside,
        free,
        omega (arith, start, ap length extends, length-append changes added),
        subst (λ xs. AreCubeLevels c f g room levels xs (undone (drop level.start all) new)) (sym taken) (subst (AreCubeLevels c f g room levels changes) (sym back) are),
      )

  levels_once : (levels : List Level) (changes : List Change) (sets : List PairSet) → AreCubeLevels c f g room levels changes sets → FixesOnce c.sources (cube_of levels)
  levels_once [] changes sets are = tt
  levels_once (level ∷ levels) changes sets are = (are.1, are.2, levels_once levels (take level.start changes) (undone (drop level.start changes) sets) are.4)

  -- if a source is free, there are fewer levels than sources
  pub levels_few : (levels : List Level) (changes : List Change) (sets : List PairSet) → AreCubeLevels c f g room levels changes sets → (source : ℕ) → source < c.sources → fixed_bit (cube_of levels) source ≡ None → length levels < c.sources
  levels_few levels changes sets are source inside free =
      omega (arith, few_fixed c.sources (cube_of levels) source (levels_once levels changes sets are) inside free, length-map {B = ℕ × Bool} levels (λ (level : Level). (level.source, level.bit)))

-- ---- reached positions

pub reached_within : (c : Circuit) (f g : Fault) (reached : List ℕ) → reached ≡ reached_positions c f g → All (λ at. at < length c.positions) reached
unfolding reached_positions
reached_within c f g reached e = λ k d h.
    let has : Contains (filter (is_reached c f g) (range_with_len 0 (length c.positions))) (get_or reached k d) = subst (λ xs. Contains xs (get_or reached k d)) e (Contains-get_or reached k d h) in
    omega (arith, (range-within 0 (length c.positions) (get_or reached k d) (Contains-from_filter (is_reached c f g) (range_with_len 0 (length c.positions)) (get_or reached k d) has).0).1)

module _ (c : Circuit) (f g : Fault) (sets : List PairSet) (reached : List ℕ) (are : reached ≡ reached_positions c f g) where
  pub state_same : list_all (λ at. only_equal (position_pairs c f g sets at)) reached ≡ true → AllSame ≡ state_of c f g sets
  unfolding state_of
  state_same all =
      let test : ℕ → Bool = λ at. only_equal (position_pairs c f g sets at) in
      let last : PairState = option_map_or Apart (find (λ at. only_unequal (position_pairs c f g sets at)) (reached_positions c f g)) Undecided in
      ap (λ b. if b then AllSame else last) (sym all ∙ ap (list_all test) are)

  pub state_other : (found : Option ℕ) → list_all (λ at. only_equal (position_pairs c f g sets at)) reached ≡ false → found ≡ find (λ at. only_unequal (position_pairs c f g sets at)) reached → option_map_or Apart found Undecided ≡ state_of c f g sets
  unfolding state_of
  state_other found not_all is =
      let test : ℕ → Bool = λ at. only_equal (position_pairs c f g sets at) in
      let apart : ℕ → Bool = λ at. only_unequal (position_pairs c f g sets at) in
      let last : PairState = option_map_or Apart (find apart (reached_positions c f g)) Undecided in
      ap (λ o. option_map_or Apart o Undecided) (is ∙ ap (find apart) are) ∙ ap (λ b. if b then AllSame else last) (sym not_all ∙ ap (list_all test) are)

-- ---- the fields of a simulation

-- the pairs are those of the cube
pub right_of : (a : Inside) → ArePairSimFields a → IsLevelRight a.pair.circuit.now a.pair.f a.pair.g (cube_of (reverse a.levels.items)) (vec_capacity a.trail.changes) a.trail.changes.items a.trail.sets.items
right_of a ready = level_right a.pair.circuit.now a.pair.f a.pair.g (vec_capacity a.trail.changes) (reverse a.levels.items) a.trail.changes.items a.trail.sets.items ready.levels
