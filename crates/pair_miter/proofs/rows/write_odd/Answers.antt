use Rattle.std.proofs.Common.{◌≤◌, sym, subst}
use Rattle.clause_pool.specs.Literal.{Literal}
use Rattle.pair_miter.proofs.OperandSteps.{first_within, rest_within}
use Rattle.pair_miter.proofs.rows.write_odd.Goals as goal

pub write_same-requires-clause-variable : goal.write_same-requires-clause-variable
write_same-requires-clause-variable c = first_within c.args.tidier.now c.in-Some.first c.args.operands.now c.in-Some.rest.now c.requires.operands c.in-Some.ensures

pub literal-before-requires : goal.literal-before-requires
literal-before-requires c = first_within c.args.tidier.now c.in-Some.first c.args.operands.now c.in-Some.rest.now c.requires.operands c.in-Some.ensures

pub write_xor_onward-requires-clause-first : goal.write_xor_onward-requires-clause-first
write_xor_onward-requires-clause-first c =
    let within = first_within c.args.tidier.now c.in-Some.first c.args.operands.now c.in-Some.rest.now c.requires.operands c.in-Some.ensures in
    subst (λ (l : Literal). l.variable ≤ c.args.tidier.now) (sym c.literal-before.ensures) within.1

pub write_xor_onward-requires-clause-second : goal.write_xor_onward-requires-clause-second
write_xor_onward-requires-clause-second c =
    let n = c.args.tidier.now in
    let rest = rest_within n c.in-Some.first c.args.operands.now c.in-Some.rest.now c.requires.operands c.in-Some.ensures in
    first_within n c.in-Some-next_variable.second c.in-Some.rest.now c.in-Some-next_variable.rest.now rest c.in-Some-next_variable.ensures

pub write_xor_onward-requires-clause-operands : goal.write_xor_onward-requires-clause-operands
write_xor_onward-requires-clause-operands c =
    let n = c.args.tidier.now in
    let rest = rest_within n c.in-Some.first c.args.operands.now c.in-Some.rest.now c.requires.operands c.in-Some.ensures in
    rest_within n c.in-Some-next_variable.second c.in-Some.rest.now c.in-Some-next_variable.rest.now rest c.in-Some-next_variable.ensures

pub returns-clause-variables : goal.returns-clause-variables
returns-clause-variables c = c.write_xor_onward.ensures.variables
