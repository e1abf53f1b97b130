use Rattle.std.proofs.Common.{◌≡◌, ◌∙◌, ◌+◌, length, sym, subst, arith}
use Rattle.adaptive_planner.specs.Numbering.{AreNumbersTo}
use Rattle.adaptive_planner.specs.CircuitNumbers.{AnswerLaneSo}
use Rattle.adaptive_planner.proofs.circuit_numbers.add_lanes.Goals as goal

pub loop-lane-preserved : goal.loop-lane-preserved
loop-lane-preserved c =
    let n = c.args.source.now in
    let so_far = c.loop-lane.invariant in
    let lane = c.loop-lane.lane in
    let adds = c.in_ok-add_lane.ensures in
    let old = c.args.numbers.now in
    let new = c.add_lane.new.numbers in
    let first = length old.firsts.items in
    record {
      are = adds.are;
      count = omega (arith, adds.count, so_far.count);
      classes = adds.classes ∙ so_far.classes;
      to = λ answer given to.
          let before : AreNumbersTo answer (length c.loop-lane.numbers.firsts.items) (length n.leads) c.loop-lane.numbers =
          subst (λ k. AreNumbersTo answer k (length n.leads) c.loop-lane.numbers) (sym so_far.count) (so_far.to answer (λ k h. given k (omega (arith, h))) to) in
          let own : AnswerLaneSo n lane (answer (length c.loop-lane.numbers.firsts.items)) = subst (λ k. AnswerLaneSo n lane (answer k)) (sym so_far.count) (given lane (omega arith)) in
          let more : length c.loop-lane.numbers.firsts.items + 1 ≡ first + (lane + 1) = omega (arith, so_far.count) in
          subst (λ k. AreNumbersTo answer k (length n.leads) new) more (adds.to answer own before);
    }
