use Rattle.adaptive_planner.specs.Numbering.{HaveMore}
use Rattle.adaptive_planner.proofs.numbering.add_own.Given as goal

abbrev pub invariant-loop-class : goal.invariant-loop-class
invariant-loop-class l = HaveMore l.base l.class l.numbers l.initial.own.items l.own.items
