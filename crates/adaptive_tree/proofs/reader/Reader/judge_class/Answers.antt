use Rattle.std.proofs.Common.{◌<◌, sym, arith}
use Rattle.adaptive_tree.specs.declared.steps.Step.TheVariants.{Class}
use Rattle.adaptive_tree.proofs.ReaderLemmas.{node_blocked, node_refused, may_be_first}
use Rattle.adaptive_tree.proofs.reader.Reader.judge_class.Goals as goal

pub returns-then-not-is_node : goal.returns-then-not-is_node
returns-then-not-is_node c = node_blocked c.args.self.now (Class c.args.class) c.requires (sym c.if-not-is_node.ensures) tt

pub returns-then-class-self : goal.returns-then-class-self
returns-then-class-self c =
    node_refused c.args.self.now (Class c.args.class) c.requires (sym c.if-not-is_node.ensures) tt
    (λ right. let low : c.args.class < c.args.self.now.plan.classes = right in omega (arith, low, c.if-class-self.true))

pub returns : goal.returns
returns c = record { may = λ given. may_be_first c.args.self.now (Class c.args.class) (sym c.if-not-is_node.ensures) tt given; right = c.if-class-self.false }
