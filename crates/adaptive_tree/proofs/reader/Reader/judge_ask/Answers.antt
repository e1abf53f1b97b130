use Rattle.std.proofs.Common.{sym, arith}
use Rattle.adaptive_tree.specs.declared.steps.Step.TheVariants.{Ask}
use Rattle.adaptive_tree.proofs.ReaderLemmas.{node_blocked, node_refused, asks_again, asks_first}
use Rattle.adaptive_tree.proofs.reader.Reader.judge_ask.Goals as goal

pub returns-then-not-is_node : goal.returns-then-not-is_node
returns-then-not-is_node c = node_blocked c.args.self.now (Ask c.args.pattern c.args.branches) c.requires (sym c.if-not-is_node.ensures) tt

pub returns-then-pattern-self : goal.returns-then-pattern-self
returns-then-pattern-self c =
    node_refused c.args.self.now (Ask c.args.pattern c.args.branches) c.requires (sym c.if-not-is_node.ensures) tt (λ right. omega (arith, right.within, c.if-pattern-self.true))

pub returns-then-branches-lt2 : goal.returns-then-branches-lt2
returns-then-branches-lt2 c =
    node_refused c.args.self.now (Ask c.args.pattern c.args.branches) c.requires (sym c.if-not-is_node.ensures) tt (λ right. omega (arith, right.several, c.if-branches-lt2.true))

pub returns-then-contains : goal.returns-then-contains
returns-then-contains c =
    node_refused c.args.self.now (Ask c.args.pattern c.args.branches) c.requires (sym c.if-not-is_node.ensures) tt
    (asks_again c.args.self.now c.args.pattern c.args.branches c.requires (sym c.if-not-is_node.ensures) (sym c.if-contains.ensures))

pub returns : goal.returns
returns c =
    asks_first c.args.self.now c.args.pattern c.args.branches c.requires (sym c.if-not-is_node.ensures) (omega (arith, c.if-pattern-self.false)) (omega (arith, c.if-branches-lt2.false)) (sym c.if-contains.ensures)
