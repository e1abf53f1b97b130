use Rattle.adaptive_tree.proofs.ReadingLemmas.{nothing_comes}
use Rattle.adaptive_tree.proofs.reading.check_nothing.Goals as goal

pub returns-in-Some : goal.returns-in-Some
returns-in-Some c = λ plan. nothing_comes plan c.args.rest.now c.in-Some.field-0.form c.in-Some.field-0.rest.now c.in-Some.ensures
