use Rattle.std.proofs.Common.{refl, arith}
use Rattle.adaptive_planner.proofs.PlannerLemmas.{adds_class}
use Rattle.adaptive_planner.proofs.planner.Planner.add_node.Goals as goal

pub returns : goal.returns
returns c = adds_class c.args.numbers.now c.args.set.now c.args.self.now _ c.requires.set c.requires.planner c.requires.planner.counts c.requires.planner.slots (omega (arith, c.if-set-gt1.false)) refl c.in_ok-push.ensures.ok
