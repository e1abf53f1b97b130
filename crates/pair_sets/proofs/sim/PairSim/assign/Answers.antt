use Rattle.std.proofs.Common.{◌≡◌, ◌≢◌, ◌<◌, ◌≤◌, ◌*◌, ◌∙◌, ◌∷◌, [], ℕ, length, length-append, get_or, drop, sym, ap, arith, subst}
use Rattle.std.specs.Prelude.{All, None, reverse, vec_capacity}
use Rattle.std.proofs.lemmas.List.{reverse-append, length-reverse, drop_at}
use Rattle.std.proofs.lemmas.List.Elements.{All-append}
use Rattle.net_model.specs.Circuit.{line_count}
use Rattle.net_model.specs.Fault.{stuck_stem}
use Rattle.pair_sets.specs.declared.sim.Level.{Level}
use Rattle.pair_sets.specs.declared.sim.PairSim.TheInside.{Inside}
use Rattle.pair_sets.specs.declared.trail.Change.{Change}
use Rattle.pair_sets.specs.declared.trail.PairTrail.{PairTrail}
use Rattle.pair_sets.specs.Cube.{fixed_bit}
use Rattle.pair_sets.specs.PairSet.{forced_pairs, fixed_pairs, IsWithin}
use Rattle.pair_sets.specs.CubeState.{set_at}
use Rattle.pair_sets.specs.Trail.{IsLonger}
use Rattle.pair_sets.specs.PairSim.{PairSim, with_cube}
use Rattle.pair_sets.specs.PairSimFields.{cube_of, pair_sim_of, IsLevelRight, AreCubeLevels}
use Rattle.pair_sets.proofs.TallyLemmas.{shown_after}
use Rattle.pair_sets.proofs.LevelLemmas.{right_of, fewer_fixed, pairs_fixed, gates_right, levels_more, levels_few}
use Rattle.pair_sets.proofs.sim.PairSim.assign.Goals as goal

-- the source is one of the circuit, and is free
source_in : (a : Inside) (sim : PairSim) (source : ℕ) → pair_sim_of a ≡ sim → source < sim.circuit.sources → source < a.pair.circuit.now.sources
source_in a sim source view h = subst (λ (s : PairSim). source < s.circuit.sources) (sym view) h

free_in : (a : Inside) (sim : PairSim) (source : ℕ) → pair_sim_of a ≡ sim → fixed_bit sim.cube source ≡ None → fixed_bit (cube_of (reverse a.levels.items)) source ≡ None
free_in a sim source view e = ap (λ (s : PairSim). fixed_bit s.cube source) view ∙ e

pub change_source-requires-clause-source : goal.change_source-requires-clause-source
change_source-requires-clause-source c = source_in c.self.inside c.args.self.now c.args.source c.self.view_is c.requires.source

pub change_source-requires-clause-width : goal.change_source-requires-clause-width
change_source-requires-clause-width c = (right_of c.self.inside c.self.invariant).right.whole

pub change_source-requires-clause-fewer : goal.change_source-requires-clause-fewer
change_source-requires-clause-fewer c =
    let a = c.self.inside in
    let source = c.args.source in
    let is : c.stem_pairs-pairs.result ≡ forced_pairs (stuck_stem a.pair.f source) (stuck_stem a.pair.g source) (fixed_pairs c.args.bit) =
    c.stem_pairs-pairs.ensures ∙ ap (forced_pairs (stuck_stem a.pair.f source) (stuck_stem a.pair.g source)) c.fixed.ensures in
    subst (λ s. IsWithin s (set_at a.trail.sets.items source)) (sym is)
    (fewer_fixed a.pair.circuit.now a.pair.f a.pair.g (cube_of (reverse a.levels.items)) a.trail.sets.items (right_of a c.self.invariant).right source
    (source_in a c.args.self.now source c.self.view_is c.requires.source) (free_in a c.args.self.now source c.self.view_is c.requires.free) c.args.bit)

pub change_source-requires-clause-room : goal.change_source-requires-clause-room
change_source-requires-clause-room c = (right_of c.self.inside c.self.invariant).room_left

pub change_source-requires-clause-queue : goal.change_source-requires-clause-queue
change_source-requires-clause-queue c = c.self.invariant.queue_room

pub change_source-requires-clause-right : goal.change_source-requires-clause-right
change_source-requires-clause-right c =
    let a = c.self.inside in
    gates_right a.pair.circuit.now a.pair.f a.pair.g (cube_of (reverse a.levels.items)) a.trail.sets.items (right_of a c.self.invariant).right

pub recount-requires-clause-width : goal.recount-requires-clause-width
recount-requires-clause-width c = c.change_source.ensures.longer.whole ∙ (right_of c.self.inside c.self.invariant).right.whole

-- the changes starting at the old number of changes are those that were added
added_from : (old new : PairTrail) (longer : IsLonger old new) (start : ℕ) → start ≡ length old.changes.items → drop start new.changes.items ≡ longer.added
added_from old new longer start e = ap (drop start) longer.extends ∙ drop_at old.changes.items longer.added start (sym e)

pub recount-requires-clause-start : goal.recount-requires-clause-start
recount-requires-clause-start c =
    let changes = c.self.inside.trail.changes in
    let longer = c.change_source.ensures.longer in
    omega (arith, c.len-start.ensures, changes.ok.0, ap length longer.extends, length-append changes.items longer.added)

pub recount-requires-clause-lines : goal.recount-requires-clause-lines
recount-requires-clause-lines c =
    let new = c.change_source.new.trail in
    let longer = c.change_source.ensures.longer in
    subst (All (λ (change : Change). change.line < length new.sets.items)) (sym (added_from c.self.inside.trail new longer c.len-start.result (omega (arith, c.len-start.ensures)))) longer.within

pub recount-requires-clause-others : goal.recount-requires-clause-others
recount-requires-clause-others c = λ at h none.
    let a = c.self.inside in
    let circuit = a.pair.circuit.now in
    let new = c.change_source.new.trail in
    let longer = c.change_source.ensures.longer in
    shown_after circuit a.pair.f a.pair.g a.trail.sets.items new.sets.items a.tally.shown longer.added c.self.invariant.shown at h
    (subst (All (λ (change : Change). change.line ≢ get_or circuit.positions at 0)) (added_from a.trail new longer c.len-start.result (omega (arith, c.len-start.ensures))) none)
    longer.before

pub push_reserved-requires : goal.push_reserved-requires
push_reserved-requires c =
    let a = c.self.inside in
    let source = c.args.source in
    let few = levels_few a.pair.circuit.now a.pair.f a.pair.g (vec_capacity a.trail.changes) (reverse a.levels.items) a.trail.changes.items a.trail.sets.items c.self.invariant.levels source
    (source_in a c.args.self.now source c.self.view_is c.requires.source) (free_in a c.args.self.now source c.self.view_is c.requires.free) in
    omega (arith, few, length-reverse a.levels.items, c.self.invariant.levels_room)

pub invariant_of-self : goal.invariant_of-self
invariant_of-self c =
    let a = c.self.inside in
    let circuit = a.pair.circuit.now in
    let source = c.args.source in
    let pairs = c.stem_pairs-pairs.result in
    let is : pairs ≡ forced_pairs (stuck_stem a.pair.f source) (stuck_stem a.pair.g source) (fixed_pairs c.args.bit) =
    c.stem_pairs-pairs.ensures ∙ ap (forced_pairs (stuck_stem a.pair.f source) (stuck_stem a.pair.g source)) c.fixed.ensures in
    let inside = source_in a c.args.self.now source c.self.view_is c.requires.source in
    let free = free_in a c.args.self.now source c.self.view_is c.requires.free in
    let cube = cube_of (reverse a.levels.items) in
    let room = vec_capacity a.trail.changes in
    let was = right_of a c.self.invariant in
    let level : Level = record { source = source; bit = c.args.bit; start = c.len-start.result } in
    let new = c.change_source.new.trail in
    let longer : IsLonger a.trail new = c.change_source.ensures.longer in
    let right : IsLevelRight circuit a.pair.f a.pair.g ((source, c.args.bit) ∷ cube) room new.changes.items new.sets.items =
    record {
      right = pairs_fixed circuit a.pair.f a.pair.g cube a.trail.sets.items was.right source inside c.args.bit pairs new.sets.items is (longer.whole ∙ was.right.whole) c.change_source.ensures.sources c.change_source.ensures.right;
      room_left = omega (arith, c.change_source.ensures.room, longer.capacity);
    } in
    let start : c.len-start.result ≡ length a.trail.changes.items = omega (arith, c.len-start.ensures) in
    let more : AreCubeLevels circuit a.pair.f a.pair.g room (level ∷ reverse a.levels.items) new.changes.items new.sets.items =
    levels_more circuit a.pair.f a.pair.g room (reverse a.levels.items) a.trail.changes.items a.trail.sets.items level longer.added new.changes.items new.sets.items
    c.self.invariant.levels inside free start longer.extends longer.before right in
    let P : Change → Type 0 = λ change. change.line < length new.sets.items in
    record {
      circuit = c.self.invariant.circuit;
      none_waits = c.change_source.ensures.none;
      queue_room = c.change_source.ensures.queue ∙ c.self.invariant.queue_room;
      levels =
          subst (λ levels. AreCubeLevels circuit a.pair.f a.pair.g (vec_capacity new.changes) levels new.changes.items new.sets.items) (sym (ap reverse c.push_reserved.ensures.items ∙ reverse-append a.levels.items (level ∷ [])))
          (subst (λ n. AreCubeLevels circuit a.pair.f a.pair.g n (level ∷ reverse a.levels.items) new.changes.items new.sets.items) (sym longer.capacity) more);
      within =
          subst (All P) (sym longer.extends)
          (All-append P a.trail.changes.items longer.added (subst (λ n. All (λ (change : Change). change.line < n) a.trail.changes.items) (sym longer.whole) c.self.invariant.within) longer.within);
      trail_room = subst (λ n. 4 * line_count circuit ≤ n) (sym longer.capacity) c.self.invariant.trail_room;
      levels_room = subst (λ n. circuit.sources ≤ n) (sym c.push_reserved.ensures.capacity) c.self.invariant.levels_room;
      base = c.self.invariant.base;
      cone = c.self.invariant.cone;
      tally = c.recount.ensures.tally;
      shown = c.recount.ensures.shown;
    }

pub returns : goal.returns
returns c =
    let a = c.self.inside in
    let level : Level = record { source = c.args.source; bit = c.args.bit; start = c.len-start.result } in
    ap (λ levels. with_cube (pair_sim_of a) (cube_of levels)) (ap reverse c.push_reserved.ensures.items ∙ reverse-append a.levels.items (level ∷ []))
    ∙ ap (λ (sim : PairSim). with_cube sim ((c.args.source, c.args.bit) ∷ sim.cube)) c.self.view_is
