use Rattle.std.proofs.Common.{◌≡◌, ◌≤◌, ◌*◌, ◌∙◌, [], length, drop, refl, sym, ap, arith, subst, Vec}
use Rattle.std.specs.Prelude.{reverse, vec_capacity}
use Rattle.std.specs.declared.alloc.Global.{Global}
use Rattle.net_model.specs.declared.fault.Fault.TheVariants.{Free}
use Rattle.net_model.specs.Circuit.{line_count}
use Rattle.pair_sets.specs.declared.trail.Change.{Change}
use Rattle.pair_sets.specs.CubeState.{set_at, ArePairSets}
use Rattle.pair_sets.specs.Tally.{HasTallyPlaces}
use Rattle.pair_sets.proofs.BlankLemmas.{back_to_base, blank_but, blank_shown, blank_tally, lowest_level}
use Rattle.pair_sets.proofs.LevelLemmas.{first_level, right_of}
use Rattle.net_model.proofs.ScopeLaws.{none_split}
use Rattle.pair_sets.proofs.TrailLemmas.{length-undone}
use Rattle.pair_sets.proofs.sim.PairSim.clear.Goals as goal

pub copy-requires-clause-within : goal.copy-requires-clause-within
copy-requires-clause-within c = λ k d h.
    let a = c.self.inside in
    omega (
      arith,
      c.lines.ensures.within k d h,
      c.self.invariant.cone.whole,
      ap length c.restore.ensures.sets,
      length-undone (drop 0 a.trail.changes.items) a.trail.sets.items,
      (right_of a c.self.invariant).right.whole,
    )

pub copy-requires-clause-width : goal.copy-requires-clause-width
copy-requires-clause-width c =
    let a = c.self.inside in
    ap length c.as_slice.ensures.value ∙ c.self.invariant.base.whole
    ∙ sym (ap length c.restore.ensures.sets ∙ length-undone (drop 0 a.trail.changes.items) a.trail.sets.items ∙ (right_of a c.self.invariant).right.whole)

pub clear-requires-3-clause-others : goal.clear-requires-3-clause-others
clear-requires-3-clause-others c =
    let a = c.self.inside in
    blank_but a.pair.circuit.now a.pair.f a.pair.g a.tally a.trail.sets.items c.self.invariant.tally c.self.invariant.shown

pub invariant_of-self : goal.invariant_of-self
invariant_of-self c =
    let a = c.self.inside in
    let circuit = a.pair.circuit.now in
    let ready = c.self.invariant in
    let changes = a.trail.changes.items in
    let sets = a.trail.sets.items in
    let base = a.base.items in
    let restored = c.restore.new.self.sets.items in
    let new = c.copy.new.self in
    let first : ArePairSets circuit a.pair.f a.pair.g [] restored =
    subst (ArePairSets circuit a.pair.f a.pair.g []) (sym c.restore.ensures.sets) (first_level circuit a.pair.f a.pair.g (vec_capacity a.trail.changes) (reverse a.levels.items) changes sets ready.levels) in
    let from : c.as_slice.result.now ≡ base = c.as_slice.ensures.value in
    let back : new.sets.items ≡ base =
    back_to_base circuit ready.circuit a.pair.f a.pair.g a.cone restored base new.sets.items ready.cone first ready.base c.copy.ensures.width
    (λ line m. c.copy.ensures.here line (c.lines.ensures.all line m) ∙ ap (λ xs. set_at xs line) from)
    (λ line e. c.copy.ensures.kept line (e ∙ sym (ap (λ xs. set_at xs line) from)) ∙ ap (λ xs. set_at xs line) from) in
    let right : ArePairSets circuit Free Free [] new.sets.items = subst (ArePairSets circuit Free Free []) (sym back) ready.base in
    let capacity : vec_capacity new.changes ≡ vec_capacity a.trail.changes = ap vec_capacity c.copy.ensures.changes ∙ c.clear.ensures.capacity ∙ ap vec_capacity c.restore.ensures.changes in
    let room : 4 * line_count circuit ≤ vec_capacity new.changes = subst (λ n. 4 * line_count circuit ≤ n) (sym capacity) ready.trail_room in
    let no_changes : new.changes.items ≡ [] = ap (λ (v : Vec Change Global). v.items) c.copy.ensures.changes ∙ c.clear.ensures.items in
    let places = c.clear-3.ensures.places in
    record {
      circuit = ready.circuit;
      none_waits = ready.none_waits;
      queue_room = ready.queue_room;
      levels = lowest_level circuit Free Free (vec_capacity new.changes) c.clear-2.new.self.items new.changes.items new.sets.items c.clear-2.ensures.items no_changes right room;
      within = λ k d h. absurd (omega (arith, h, ap length no_changes));
      trail_room = room;
      levels_room = subst (λ n. circuit.sources ≤ n) (sym c.clear-2.ensures.capacity) ready.levels_room;
      base = ready.base;
      cone = record { whole = c.unmark_all.ensures.whole ∙ ready.cone.whole; each = λ line h. c.unmark_all.ensures.none line ∙ sym (none_split circuit Free Free line refl refl) };
      tally = blank_tally circuit c.clear-3.new.self c.clear-3.ensures.blank (subst (λ n. HasTallyPlaces n c.clear-3.new.self) ready.tally.places.whole places);
      shown = blank_shown circuit c.clear-3.new.self new.sets.items c.clear-3.ensures.blank;
    }
