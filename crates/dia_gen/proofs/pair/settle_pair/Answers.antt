use Rattle.std.proofs.lemmas.Bool.{iff_false}
use Rattle.net_model.specs.FaultList.{fault_numbered}
use Rattle.dia_gen.proofs.PairLemmas.{cube_apart, covered_by, proof_for, settled_for}
use Rattle.dia_gen.proofs.pair.settle_pair.Goals as goal

pub returns-in-Covered-clause-settled : goal.returns-in-Covered-clause-settled
returns-in-Covered-clause-settled c =
    let setting = c.args.setting.now in
    proof_for (iff_false c.same_root.ensures c.if-same_root.false)
    (covered_by setting.circuit c.requires.circuit (fault_numbered setting.circuit c.args.lead) (fault_numbered setting.circuit c.args.member) setting.budgets c.in-Covered.tree
    (rw c.in-Covered.is at c.in_ok-cube.ensures.found))

pub returns-in-Apart-clause-settled : goal.returns-in-Apart-clause-settled
returns-in-Apart-clause-settled c =
    let setting = c.args.setting.now in
    let found = rw c.in-Apart.is at c.in_ok-cube.ensures.found in
    cube_apart setting.circuit (fault_numbered setting.circuit c.args.lead) (fault_numbered setting.circuit c.args.member) setting.budgets c.in-Apart.cube.items (λ none. let e = found.none none in cc) found.is_searched

pub returns-in-Spent-clause-settled : goal.returns-in-Spent-clause-settled
returns-in-Spent-clause-settled c =
    let setting = c.args.setting.now in
    settled_for setting.circuit setting.budgets c.args.lead c.args.member (iff_false c.same_root.ensures c.if-same_root.false) c.learn.result
    (rw (c.fault-f.ensures.value, c.fault-g.ensures.value) at c.learn.ensures.settled)
