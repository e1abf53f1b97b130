use Rattle.std.proofs.Common.{◌≡◌, length}
use Rattle.tests_dictionaries.proofs.tests.made.refine_all.Given as goal

abbrev pub invariant-loop-text : goal.invariant-loop-text
invariant-loop-text l = length l.classes.class_of ≡ l.numbers
