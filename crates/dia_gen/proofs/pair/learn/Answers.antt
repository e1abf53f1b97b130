use Rattle.dia_gen.proofs.PairLemmas.{unlearned_by}
use Rattle.dia_gen.proofs.pair.learn.Goals as goal

pub returns-then-budgets-eq0-clause-settled : goal.returns-then-budgets-eq0-clause-settled
returns-then-budgets-eq0-clause-settled c =
    let s = c.args.setting.now in
    rw c.new.ensures (unlearned_by s.circuit c.requires.circuit c.args.f.now c.args.g.now s.budgets c.args.tree c.requires.open (rw c.budgets.ensures.value at c.if-budgets-eq0.true))
