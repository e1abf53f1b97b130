use Rattle.std.proofs.Common.{◌≡◌, ◌∙◌, [], length, sym, ap, arith, subst}
use Rattle.std.specs.Prelude.{reverse, vec_capacity}
use Rattle.net_model.specs.declared.fault.Fault.{Fault}
use Rattle.net_model.specs.declared.fault.Fault.TheVariants.{Free}
use Rattle.pair_sets.specs.declared.sim.PairSim.TheInside.{Inside}
use Rattle.pair_sets.specs.Cube.{Cube}
use Rattle.pair_sets.specs.CubeState.{ArePairSets}
use Rattle.pair_sets.specs.PairSim.{PairSim, pair_sim}
use Rattle.pair_sets.specs.PairSimFields.{cube_of, pair_sim_of, ArePairSimFields}
use Rattle.pair_sets.specs.Tally.{IsTallyBlank, ArePairsShown, IsTally}
use Rattle.pair_sets.proofs.BlankLemmas.{free_blank, lowest_level, no_levels, unfixed}
use Rattle.net_model.specs.Circuit.{line_count}
use Rattle.net_model.specs.Fault.{IsFaultOf}
use Rattle.net_model.specs.Scope.{is_split}
use Rattle.net_model.proofs.Places.{places_are_gates}
use Rattle.fault_list.specs.Scope.{AreMarksOfTest}
use Rattle.pair_sets.proofs.LevelLemmas.{right_of}
use Rattle.pair_sets.proofs.sim.PairSim.enter.Goals as goal

-- The simulation is that of the circuit without faults.
module _ (a : Inside) (ready : ArePairSimFields a) (sim : PairSim) (view : pair_sim_of a ≡ sim) (free : sim ≡ pair_sim sim.circuit Free Free []) where
  first_free : a.pair.f ≡ Free
  first_free = ap (λ (s : PairSim). s.f) (view ∙ free)

  second_free : a.pair.g ≡ Free
  second_free = ap (λ (s : PairSim). s.g) (view ∙ free)

  none_fixed : cube_of (reverse a.levels.items) ≡ []
  none_fixed = ap (λ (s : PairSim). s.cube) (view ∙ free)

  pairs_free : ArePairSets a.pair.circuit.now Free Free [] a.trail.sets.items
  pairs_free =
      let c = a.pair.circuit.now in
      let sets = a.trail.sets.items in
      subst (λ (cube : Cube). ArePairSets c Free Free cube sets) none_fixed
      (subst (λ (g : Fault). ArePairSets c Free g (cube_of (reverse a.levels.items)) sets) second_free
      (subst (λ (f : Fault). ArePairSets c f a.pair.g (cube_of (reverse a.levels.items)) sets) first_free (right_of a ready).right))

  tally_blank : IsTallyBlank a.tally
  tally_blank =
      let c = a.pair.circuit.now in
      let sets = a.trail.sets.items in
      free_blank c a.tally sets
      (subst (λ (g : Fault). IsTally c Free g a.tally) second_free (subst (λ (f : Fault). IsTally c f a.pair.g a.tally) first_free ready.tally))
      (subst (λ (g : Fault). ArePairsShown c Free g sets a.tally.shown) second_free (subst (λ (f : Fault). ArePairsShown c f a.pair.g sets a.tally.shown) first_free ready.shown))

pub spread-requires-clause-first : goal.spread-requires-clause-first
spread-requires-clause-first c = subst (λ (sim : PairSim). IsFaultOf sim.circuit c.args.f.now) (sym c.self.view_is) c.requires.first

pub spread-requires-clause-second : goal.spread-requires-clause-second
spread-requires-clause-second c = subst (λ (sim : PairSim). IsFaultOf sim.circuit c.args.g.now) (sym c.self.view_is) c.requires.second

pub spread-requires-clause-unmarked : goal.spread-requires-clause-unmarked
spread-requires-clause-unmarked c =
    let a = c.self.inside in
    let circuit = a.pair.circuit.now in
    subst (λ (g : Fault). AreMarksOfTest (is_split circuit Free g) (line_count circuit) a.cone) (second_free a c.self.invariant c.args.self.now c.self.view_is c.requires.free)
    (subst (λ (f : Fault). AreMarksOfTest (is_split circuit f a.pair.g) (line_count circuit) a.cone) (first_free a c.self.invariant c.args.self.now c.self.view_is c.requires.free) c.self.invariant.cone)

pub spread-requires-clause-none : goal.spread-requires-clause-none
spread-requires-clause-none c = c.self.invariant.none_waits

pub fill-requires-clause-first : goal.fill-requires-clause-first
fill-requires-clause-first c = subst (λ (sim : PairSim). IsFaultOf sim.circuit c.args.f.now) (sym c.self.view_is) c.requires.first

pub fill-requires-clause-second : goal.fill-requires-clause-second
fill-requires-clause-second c = subst (λ (sim : PairSim). IsFaultOf sim.circuit c.args.g.now) (sym c.self.view_is) c.requires.second

pub fill-requires-clause-width : goal.fill-requires-clause-width
fill-requires-clause-width c = ap length c.as_slice.ensures.value ∙ c.spread.ensures.sets.whole

pub fill-requires-clause-cone : goal.fill-requires-clause-cone
fill-requires-clause-cone c = c.spread.ensures.cone

pub fill-requires-clause-places : goal.fill-requires-clause-places
fill-requires-clause-places c = c.self.invariant.tally.places

pub spread-requires-clause-free : goal.spread-requires-clause-free
spread-requires-clause-free c = pairs_free c.self.inside c.self.invariant c.args.self.now c.self.view_is c.requires.free

pub spread-requires-clause-queue : goal.spread-requires-clause-queue
spread-requires-clause-queue c = c.self.invariant.queue_room ∙ sym (places_are_gates c.self.inside.pair.circuit.now c.wiring-wiring.result.now c.wiring-wiring.ensures)

pub fill-requires-clause-blank : goal.fill-requires-clause-blank
fill-requires-clause-blank c = tally_blank c.self.inside c.self.invariant c.args.self.now c.self.view_is c.requires.free

pub invariant_of-self : goal.invariant_of-self
invariant_of-self c =
    let a = c.self.inside in
    let circuit = a.pair.circuit.now in
    let ready = c.self.invariant in
    let none = none_fixed a ready c.args.self.now c.self.view_is c.requires.free in
    let changes = a.trail.changes.items in
    let unfixed_levels = unfixed circuit a.pair.f a.pair.g (vec_capacity a.trail.changes) (reverse a.levels.items) changes a.trail.sets.items ready.levels none in
    record {
      circuit = ready.circuit;
      none_waits = c.spread.ensures.none;
      queue_room = c.spread.ensures.queue ∙ ready.queue_room;
      levels = lowest_level circuit c.args.f.now c.args.g.now (vec_capacity a.trail.changes) a.levels.items changes c.spread.new.sets.items (no_levels a.levels.items unfixed_levels.0) unfixed_levels.1 c.spread.ensures.sets ready.trail_room;
      within = λ k d h. absurd (omega (arith, h, ap length unfixed_levels.1));
      trail_room = ready.trail_room;
      levels_room = ready.levels_room;
      base = ready.base;
      cone = c.spread.ensures.cone;
      tally = c.fill.ensures.tally;
      shown = subst (λ xs. ArePairsShown circuit c.args.f.now c.args.g.now xs c.fill.new.self.shown) c.as_slice.ensures.value c.fill.ensures.shown;
    }
