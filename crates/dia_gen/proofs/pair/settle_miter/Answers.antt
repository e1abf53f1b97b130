use Rattle.dia_gen.proofs.PairLemmas.{vector_apart, refuted_by, spent_by}
use Rattle.dia_gen.proofs.pair.settle_miter.Goals as goal

pub returns-in-Refuted-clause-settled : goal.returns-in-Refuted-clause-settled
returns-in-Refuted-clause-settled c =
    let s = c.args.setting.now in
    let m = c.args.miter.now in
    let limits = rw c.budgets.ensures.value at c.budgets.ensures.limits in
    let solved = rw (c.requires.circuit, c.budgets.ensures.value) at c.in_ok-solved.ensures.solved in
    refuted_by s.circuit c.requires.is_circuit m.f m.g s.budgets c.args.tree c.requires.open limits solved.clauses c.in-Refuted.log c.requires.some (rw c.in-Refuted.is at solved.is)

pub returns-in-Spent-clause-settled : goal.returns-in-Spent-clause-settled
returns-in-Spent-clause-settled c =
    let s = c.args.setting.now in
    let m = c.args.miter.now in
    let limits = rw c.budgets.ensures.value at c.budgets.ensures.limits in
    let solved = rw (c.requires.circuit, c.budgets.ensures.value) at c.in_ok-solved.ensures.solved in
    spent_by s.circuit c.requires.is_circuit m.f m.g s.budgets c.args.tree c.requires.open limits solved.clauses c.in-Spent.log (rw c.in-Spent.is at solved.is)

pub cube_of-requires : goal.cube_of-requires
cube_of-requires c = (rw c.in-Vector.is at c.in_ok-solved.ensures.solved.is).separates.width

pub returns-in_ok-cube_of-in-Vector-clause-settled : goal.returns-in_ok-cube_of-in-Vector-clause-settled
returns-in_ok-cube_of-in-Vector-clause-settled c =
    let s = c.args.setting.now in
    let m = c.args.miter.now in
    let apart = (rw (c.in-Vector.is, c.requires.circuit) at c.in_ok-solved.ensures.solved.is).separates in
    vector_apart s.circuit m.f m.g s.budgets c.requires.is_circuit c.in-Vector.v c.in_ok-cube_of-in-Vector.field-0.items c.requires.some apart c.in_ok-cube_of-in-Vector.ensures.width (rw c.requires.circuit at c.in_ok-cube_of-in-Vector.ensures.fixed)
