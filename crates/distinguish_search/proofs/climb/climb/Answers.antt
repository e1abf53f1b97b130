use Rattle.std.proofs.Common.{◌≡◌, ◌∙◌, ◌∷◌, List, sym, subst}
use Rattle.std.specs.Prelude.{None, Some}
use Rattle.distinguish_search.specs.declared.frames.Frame.{Frame}
use Rattle.distinguish_search.specs.Frames.{GoesOn}
use Rattle.distinguish_search.proofs.FrameLemmas.{frame_with, ClimbsFrom, climb_turns, climb_more}
use Rattle.distinguish_search.proofs.climb.climb.Goals as goal

pub returns-in-None-clause-climbed : goal.returns-in-None-clause-climbed
returns-in-None-clause-climbed c =
    let sim = c.args.sim.now in
    let frame = c.in-Some.frame in
    let rest = c.pop.new.self in
    let parts : c.loop-frame.stack ≡ frame_with frame.source frame.bit None frame.place ∷ rest = c.in-Some.ensures ∙ (λ i. frame_with frame.source frame.bit (c.in-None.is i) frame.place ∷ rest) in
    subst (GoesOn sim.circuit sim.f sim.g c.args.tree c.args.stack.now c.assign.new.self) (sym c.in_ok-push-in-None.ensures)
    (climb_turns sim.circuit sim.f sim.g c.args.tree c.args.stack.now c.loop-frame.sim c.loop-frame.tree rest frame.source frame.bit frame.place c.assign.new.self c.undo.new.self c.undo.ensures
    (subst (λ (frames : List Frame). ClimbsFrom sim.circuit sim.f sim.g c.args.tree c.args.stack.now c.loop-frame.sim frames c.loop-frame.tree) parts c.loop-frame.invariant) c.assign.ensures)

pub loop-frame-preserved : goal.loop-frame-preserved
loop-frame-preserved c =
    let sim = c.args.sim.now in
    let frame = c.in-Some.frame in
    let rest = c.pop.new.self in
    let half = c.in-Some-half.other in
    let tree = c.loop-frame.tree in
    let parts : c.loop-frame.stack ≡ frame_with frame.source frame.bit (Some half) frame.place ∷ rest = c.in-Some.ensures ∙ (λ i. frame_with frame.source frame.bit (c.in-Some-half.is i) frame.place ∷ rest) in
    climb_more sim.circuit sim.f sim.g c.args.tree c.args.stack.now c.loop-frame.sim tree rest frame.source frame.bit frame.place c.undo.new.self c.undo.new.self c.undo.ensures half c.in_ok-tree-in-Some-half.tree
    (subst (λ (frames : List Frame). ClimbsFrom sim.circuit sim.f sim.g c.args.tree c.args.stack.now c.loop-frame.sim frames tree) parts c.loop-frame.invariant) c.in_ok-tree-in-Some-half.ensures
