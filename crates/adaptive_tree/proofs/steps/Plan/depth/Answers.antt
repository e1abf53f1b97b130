use Rattle.std.proofs.Common.{◌∙◌, arith}
use Rattle.adaptive_tree.proofs.OpenWaysLemmas.{most_is_depth, depth_small}
use Rattle.adaptive_tree.proofs.steps.Plan.depth.Goals as goal

pub overflow_cast-result : goal.overflow_cast-result
overflow_cast-result c = omega (arith, c.most_open.ensures, depth_small c.args.self.now c.requires)

pub returns : goal.returns
returns c = λ root. c.most_open.ensures ∙ most_is_depth c.args.self.now c.requires root
