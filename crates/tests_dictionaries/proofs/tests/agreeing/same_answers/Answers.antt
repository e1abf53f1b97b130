use Rattle.std.proofs.Common.{arith}
use Rattle.tests_dictionaries.proofs.AlikeLemmas.{same_answer}
use Rattle.tests_dictionaries.proofs.tests.agreeing.same_answers.Goals as goal

pub returns : goal.returns
returns c =
    let are = c.positions-position-end.ensures in
    λ _. same_answer c.args.table.now c.args.pattern c.args.left c.args.right are.table c.requires.pattern c.requires.left c.requires.right (λ k h. c.loop-position.invariant k (omega (arith, h, are.value)))
