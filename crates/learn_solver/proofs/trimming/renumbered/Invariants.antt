use Rattle.std.proofs.Common.{◌≡◌, map, take}
use Rattle.learn_solver.specs.Needed.{number_after}
use Rattle.learn_solver.proofs.trimming.renumbered.Given as goal

abbrev pub invariant-loop-pivot : goal.invariant-loop-pivot
invariant-loop-pivot l = record {
  so_far : l.new ≡ record {
    start = number_after l.count l.numbers l.chain.start;
    fresh_at = l.chain.fresh_at;
    steps = map (λ step. (step.0, number_after l.count l.numbers step.1)) (take l.pivot-index l.pivot-items);
  };
}
