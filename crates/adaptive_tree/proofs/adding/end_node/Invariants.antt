use Rattle.std.proofs.Common.{List, length}
use Rattle.std.specs.Prelude.{reverse}
use Rattle.adaptive_tree.specs.declared.steps.Step.{Step}
use Rattle.adaptive_tree.specs.Reading.{HasNodeEnded}
use Rattle.adaptive_tree.proofs.adding.end_node.Given as goal

abbrev pub invariant-loop-pattern : goal.invariant-loop-pattern
invariant-loop-pattern l = (steps : List Step) → HasNodeEnded steps (reverse l.initial.asks.items) l.initial.asked → HasNodeEnded steps (reverse l.asks.items) l.asked

abbrev pub decreases-loop-pattern : goal.decreases-loop-pattern
decreases-loop-pattern l = length l.asks.items
