use Rattle.std.proofs.Common.{List, ◌∷◌, length, sym, ap, arith, subst}
use Rattle.std.specs.Prelude.{None}
use Rattle.distinguish_search.specs.declared.frames.Frame.{Frame}
use Rattle.distinguish_search.specs.Frames.{IsUnderWay, SplitsOn}
use Rattle.distinguish_search.proofs.FrameLemmas.{frame_with, few_frames, split_more, splits_on, splits_twice, right_here}
use Rattle.distinguish_search.proofs.descent.descend.Goals as goal

pub loop-sim-smaller : goal.loop-sim-smaller
loop-sim-smaller c =
    let sim = c.args.sim.now in
    let frames = c.loop-sim.stack in
    let right = right_here sim.circuit sim.f sim.g c.loop-sim.sim frames c.choose-choice.result.source c.loop-sim.invariant.0 c.choose-choice.ensures in
    omega (arith, few_frames sim.circuit sim.f sim.g frames c.choose-choice.result.source c.choose-choice.result.bit c.choose-choice.result.place right c.loop-sim.invariant.0.right, ap length c.in_ok-push.ensures)

pub loop-sim-preserved : goal.loop-sim-preserved
loop-sim-preserved c =
    let sim = c.args.sim.now in
    let frames = c.loop-sim.stack in
    let source = c.choose-choice.result.source in
    let bit = c.choose-choice.result.bit in
    let place = c.choose-choice.result.place in
    let under_way = c.loop-sim.invariant.0 in
    let right = right_here sim.circuit sim.f sim.g c.loop-sim.sim frames source under_way c.choose-choice.ensures in
    subst (λ (stack : List Frame). IsUnderWay sim.circuit sim.f sim.g c.assign.new.self stack × SplitsOn sim.circuit.sources c.args.stack.now stack) (sym c.in_ok-push.ensures) (
      split_more sim.circuit sim.f sim.g frames source bit place right under_way.right c.loop-sim.sim c.assign.new.self under_way c.assign.ensures,
      splits_twice sim.circuit.sources c.args.stack.now frames (frame_with source bit None place ∷ frames) c.loop-sim.invariant.1 (splits_on sim.circuit sim.f sim.g frames source bit place right under_way.right),
    )
