-- What the fields of a `PairSim` mean, and what holds of them.
use Rattle.std.specs.Prelude.{◌≡◌, ℕ, ◌+◌, ◌*◌, ◌<◌, ◌≤◌, List, [], ◌∷◌, map, reverse, length, sum_by, take, drop, vec_capacity, All, None}
use Rattle.net_model.specs.declared.fault.Fault.{Fault}
use Rattle.net_model.specs.declared.fault.Fault.TheVariants.{Free}
use Rattle.net_model.specs.Circuit.{Circuit, IsCircuit, line_count}
use Rattle.net_model.specs.Scope.{is_split}
use Rattle.fault_list.specs.Scope.{AreMarksOfTest}
use Rattle.event_queue.specs.Pending.{IsEmpty}
use Rattle.pair_sets.specs.PairSet.{PairSet}
use Rattle.pair_sets.specs.declared.sim.Level.{Level}
use Rattle.pair_sets.specs.declared.sim.PairSim.TheInside.{Inside}
use Rattle.pair_sets.specs.declared.trail.Change.{Change}
use Rattle.pair_sets.specs.Cube.{Cube, fixed_bit}
use Rattle.pair_sets.specs.CubeState.{ArePairSets}
use Rattle.pair_sets.specs.Tally.{IsTally, ArePairsShown}
use Rattle.pair_sets.specs.Trail.{pairs_in_set, undone}
use Rattle.pair_sets.specs.PairSim.{PairSim, pair_sim}

-- the sources that the levels fix, with their bits, in the order of the levels
abbrev pub cube_of : List Level → Cube
cube_of levels = map (λ level. (level.source, level.bit)) levels

abbrev pub pair_sim_of : Inside → PairSim
pair_sim_of a = pair_sim a.pair.circuit.now a.pair.f a.pair.g (cube_of (reverse a.levels.items))

-- The sets are those of the cube, and there is room for one more change for each pair in them.
pub record IsLevelRight (c : Circuit) (f g : Fault) (cube : Cube) (room : ℕ) (changes : List Change) (sets : List PairSet) : Type 0 where
  pub right : ArePairSets c f g cube sets
  pub room_left : length changes + sum_by pairs_in_set sets ≤ room

-- The levels, the last one first, fit the changes and the sets: the sets are those of the cube of all levels, and with
-- the changes since the start of the last level undone they are those of the levels before it, and so on. Each level
-- fixes a source that was free, and there are no changes before the first level.
abbrev pub AreCubeLevels : Circuit → Fault → Fault → ℕ → List Level → List Change → List PairSet → Type 0
AreCubeLevels c f g room [] changes sets = (changes ≡ []) × IsLevelRight c f g [] room changes sets
AreCubeLevels c f g room (level ∷ levels) changes sets =
    IsLevelRight c f g (cube_of (level ∷ levels)) room changes sets
    × (level.source < c.sources)
    × (fixed_bit (cube_of levels) level.source ≡ None)
    × (level.start ≤ length changes)
    × AreCubeLevels c f g room levels (take level.start changes) (undone (drop level.start changes) sets)

pub record ArePairSimFields (a : Inside) : Type 0 where
  pub circuit : IsCircuit a.pair.circuit.now
  pub none_waits : IsEmpty a.queue
  pub queue_room : length a.queue ≡ length a.pair.circuit.now.gates
  pub levels : AreCubeLevels a.pair.circuit.now a.pair.f a.pair.g (vec_capacity a.trail.changes) (reverse a.levels.items) a.trail.changes.items a.trail.sets.items
  pub within : All (λ change. change.line < length a.trail.sets.items) a.trail.changes.items
  pub trail_room : 4 * line_count a.pair.circuit.now ≤ vec_capacity a.trail.changes
  pub levels_room : a.pair.circuit.now.sources ≤ vec_capacity a.levels
  pub base : ArePairSets a.pair.circuit.now Free Free [] a.base.items
  pub cone : AreMarksOfTest (is_split a.pair.circuit.now a.pair.f a.pair.g) (line_count a.pair.circuit.now) a.cone
  pub tally : IsTally a.pair.circuit.now a.pair.f a.pair.g a.tally
  pub shown : ArePairsShown a.pair.circuit.now a.pair.f a.pair.g a.trail.sets.items a.tally.shown
