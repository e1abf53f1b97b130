use Rattle.std.proofs.Common.{subst}
use Rattle.net_model.specs.Circuit.{Circuit}
use Rattle.evidence_rules.specs.TreeRefusal.{TreeRefused}
use Rattle.refute_check.proofs.tree.check_tree.Goals as goal

pub returns-clause-refused : goal.returns-clause-refused
returns-clause-refused c refusal answered =
    subst (λ (k : Circuit). TreeRefused k c.args.f.now c.args.g.now c.args.kind c.args.cubes c.args.tree.now refusal) c.new-trees.ensures (c.check.ensures.refused refusal answered)
