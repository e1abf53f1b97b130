use Rattle.word_sim.proofs.Digits.{set_words, set_here, set_beside}
use Rattle.word_sim.proofs.lanes.Lanes.with_word.Goals as goal
use Rattle.std.proofs.Common.{arith}

pub invariant_of-result : goal.invariant_of-result
invariant_of-result c = set_words c.self.inside.words c.args.at c.args.word c.self.invariant (omega arith)

pub returns-clause-here : goal.returns-clause-here
returns-clause-here c = set_here c.self.inside.words c.args.at c.args.word c.self.invariant

pub returns-clause-others : goal.returns-clause-others
returns-clause-others c = rw (← c.self.view_is) (set_beside c.self.inside.words c.args.at c.args.word c.self.invariant)
