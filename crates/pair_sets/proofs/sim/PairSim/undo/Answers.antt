use Rattle.std.proofs.Common.{ℕ, Bool, ◌≡◌, ◌≢◌, ◌*◌, ◌<◌, ◌≤◌, ◌∙◌, ◌∷◌, ◌++◌, [], List, length, get_or, take, drop, sym, ap, arith, subst, true≢false, Vec}
use Rattle.std.specs.Prelude.{All, reverse, vec_capacity}
use Rattle.std.proofs.lemmas.List.{length-map, length-reverse, reverse-append}
use Rattle.std.proofs.lemmas.List.Elements.{All-take, All-drop}
use Rattle.std.specs.declared.alloc.Global.{Global}
use Rattle.net_model.specs.Circuit.{line_count}
use Rattle.pair_sets.specs.declared.sim.Level.{Level}
use Rattle.pair_sets.specs.declared.sim.PairSim.TheInside.{Inside}
use Rattle.pair_sets.specs.declared.trail.Change.{Change}
use Rattle.pair_sets.specs.Trail.{undone}
use Rattle.pair_sets.specs.PairSim.{PairSim, with_cube}
use Rattle.pair_sets.specs.PairSimFields.{AreCubeLevels, ArePairSimFields, cube_of, pair_sim_of}
use Rattle.pair_sets.proofs.LevelLemmas.{right_of}
use Rattle.pair_sets.proofs.TallyLemmas.{shown_before}
use Rattle.pair_sets.proofs.TrailLemmas.{length-undone}
use Rattle.pair_sets.proofs.sim.PairSim.undo.Goals as goal

pub invariant_of-self : goal.invariant_of-self
invariant_of-self c =
    let a = c.self.inside in
    let circuit = a.pair.circuit.now in
    let level = c.in-Some.level in
    let rest = c.pop.new.self.items in
    let changes = a.trail.changes.items in
    let sets = a.trail.sets.items in
    let parts : reverse a.levels.items ≡ level ∷ reverse rest = ap reverse c.in-Some.ensures.items ∙ reverse-append rest (level ∷ []) in
    let was : AreCubeLevels circuit a.pair.f a.pair.g (vec_capacity a.trail.changes) (level ∷ reverse rest) changes sets =
    subst (λ levels. AreCubeLevels circuit a.pair.f a.pair.g (vec_capacity a.trail.changes) levels changes sets) parts c.self.invariant.levels in
    let below : AreCubeLevels circuit a.pair.f a.pair.g (vec_capacity a.trail.changes) (reverse rest) (take level.start changes) (undone (drop level.start changes) sets) = was.4 in
    let new = c.truncate.new.self in
    let capacity : vec_capacity new ≡ vec_capacity a.trail.changes = c.truncate.ensures.capacity ∙ ap vec_capacity c.restore.ensures.changes in
    let changes_are : new.items ≡ take level.start changes = c.truncate.ensures.items ∙ ap (λ (v : Vec Change Global). take level.start v.items) c.restore.ensures.changes in
    let sets_are = c.restore.ensures.sets in
    let kept : AreCubeLevels circuit a.pair.f a.pair.g (vec_capacity new) (reverse rest) new.items c.restore.new.self.sets.items =
    subst (λ room. AreCubeLevels circuit a.pair.f a.pair.g room (reverse rest) new.items c.restore.new.self.sets.items) (sym capacity)
    (subst (λ xs. AreCubeLevels circuit a.pair.f a.pair.g (vec_capacity a.trail.changes) (reverse rest) xs c.restore.new.self.sets.items) (sym changes_are)
    (subst (λ xs. AreCubeLevels circuit a.pair.f a.pair.g (vec_capacity a.trail.changes) (reverse rest) (take level.start changes) xs) (sym sets_are) below)) in
    record {
      circuit = c.self.invariant.circuit;
      none_waits = c.self.invariant.none_waits;
      queue_room = c.self.invariant.queue_room;
      levels = kept;
      within =
          subst (λ n. All (λ (change : Change). change.line < n) new.items) (sym (ap length sets_are ∙ length-undone (drop level.start changes) sets))
          (subst (All (λ (change : Change). change.line < length sets)) (sym changes_are) (All-take (λ (change : Change). change.line < length sets) level.start changes c.self.invariant.within));
      trail_room = subst (λ n. 4 * line_count circuit ≤ n) (sym capacity) c.self.invariant.trail_room;
      levels_room = subst (λ n. circuit.sources ≤ n) (sym c.in-Some.ensures.capacity) c.self.invariant.levels_room;
      base = c.self.invariant.base;
      cone = c.self.invariant.cone;
      tally = c.recount.ensures.tally;
      shown = c.recount.ensures.shown;
    }

pub recount-requires-clause-width : goal.recount-requires-clause-width
recount-requires-clause-width c =
    let a = c.self.inside in
    ap length c.restore.ensures.sets ∙ length-undone (drop c.in-Some.level.start a.trail.changes.items) a.trail.sets.items ∙ (right_of a c.self.invariant).right.whole

pub recount-requires-clause-lines : goal.recount-requires-clause-lines
recount-requires-clause-lines c =
    let a = c.self.inside in
    let start = c.in-Some.level.start in
    let back = drop start a.trail.changes.items in
    let restored = c.restore.new.self in
    let are : drop start restored.changes.items ≡ back = ap (λ (v : Vec Change Global). drop start v.items) c.restore.ensures.changes in
    let whole : length restored.sets.items ≡ length a.trail.sets.items = ap length c.restore.ensures.sets ∙ length-undone back a.trail.sets.items in
    subst (All (λ (change : Change). change.line < length restored.sets.items)) (sym are)
    (subst (λ n. All (λ (change : Change). change.line < n) back) (sym whole) (All-drop (λ (change : Change). change.line < length a.trail.sets.items) start a.trail.changes.items c.self.invariant.within))

pub recount-requires-clause-others : goal.recount-requires-clause-others
recount-requires-clause-others c = λ at h none.
    let a = c.self.inside in
    let circuit = a.pair.circuit.now in
    let start = c.in-Some.level.start in
    let are : drop start c.restore.new.self.changes.items ≡ drop start a.trail.changes.items = ap (λ (v : Vec Change Global). drop start v.items) c.restore.ensures.changes in
    shown_before circuit a.pair.f a.pair.g a.trail.sets.items c.restore.new.self.sets.items a.tally.shown (drop start a.trail.changes.items) c.self.invariant.shown at h
    (subst (All (λ (change : Change). change.line ≢ get_or circuit.positions at 0)) are none)
    c.restore.ensures.sets

-- a level starts at one of the changes
level_start : (a : Inside) (ready : ArePairSimFields a) (rest : List Level) (level : Level) → a.levels.items ≡ rest ++ level ∷ [] → level.start ≤ length a.trail.changes.items
level_start a ready rest level e =
    let levels = subst (λ levels. AreCubeLevels a.pair.circuit.now a.pair.f a.pair.g (vec_capacity a.trail.changes) levels a.trail.changes.items a.trail.sets.items) (ap reverse e ∙ reverse-append rest (level ∷ [])) ready.levels in
    levels.3

pub restore-requires-clause-start : goal.restore-requires-clause-start
restore-requires-clause-start c = level_start c.self.inside c.self.invariant c.pop.new.self.items c.in-Some.level c.in-Some.ensures.items

pub restore-requires-clause-within : goal.restore-requires-clause-within
restore-requires-clause-within c = c.self.invariant.within

pub recount-requires-clause-cone : goal.recount-requires-clause-cone
recount-requires-clause-cone c = c.self.invariant.cone

pub recount-requires-clause-tally : goal.recount-requires-clause-tally
recount-requires-clause-tally c = c.self.invariant.tally

pub recount-requires-clause-start : goal.recount-requires-clause-start
recount-requires-clause-start c =
    subst (λ (v : Vec Change Global). c.in-Some.level.start ≤ length v.items) (sym c.restore.ensures.changes)
    (level_start c.self.inside c.self.invariant c.pop.new.self.items c.in-Some.level c.in-Some.ensures.items)

pub invariant_of-self-in_default : goal.invariant_of-self-in_default
invariant_of-self-in_default c =
    let levels = c.self.inside.levels.items in
    absurd (true≢false (sym (c.in_default.ensures.variant.1 (omega (arith, c.requires, ap (λ (sim : PairSim). length sim.cube) c.self.view_is, length-map {B = ℕ × Bool} (reverse levels) (λ level. (level.source, level.bit)), length-reverse levels)))))

pub returns-in-Some : goal.returns-in-Some
returns-in-Some c =
    let parts = ap reverse c.in-Some.ensures.items ∙ reverse-append c.pop.new.self.items (c.in-Some.level ∷ []) in
    ap (λ levels. with_cube (pair_sim_of c.self.inside) (drop 1 (cube_of levels))) (sym parts) ∙ ap (λ (sim : PairSim). with_cube sim (drop 1 sim.cube)) c.self.view_is
