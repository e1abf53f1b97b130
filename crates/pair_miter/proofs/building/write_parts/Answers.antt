use Rattle.std.proofs.Common.{length, arith, ap, sym, subst}
use Rattle.std.proofs.lemmas.Result.{IfOk-from_err}
use Rattle.pair_miter.specs.Adds.{Adds, KeepsClauses}
use Rattle.pair_miter.proofs.AddSteps.{first_fails, left_fails, both_parts, writes_err}
use Rattle.pair_miter.proofs.Bounds.{few_variables_of}
use Rattle.pair_miter.proofs.MiterParts.{miter_parts, parts_of_miter}
use Rattle.pair_miter.proofs.Numbers.{few_reached, variables_in_all, helpers_begin, first_difference}
use Rattle.pair_miter.proofs.building.write_parts.Goals as goal

pub overflow_add-first_difference : goal.overflow_add-first_difference
overflow_add-first_difference c =
    let q = c.args.numbering.now in
    omega (arith, c.end.ensures.value, c.count_helpers.ensures, variables_in_all q.circuit q.f q.g, few_variables_of q.circuit q.f q.g c.end.ensures.circuit)

pub overflow_add-variables : goal.overflow_add-variables
overflow_add-variables c =
    let q = c.args.numbering.now in
    omega (arith, c.end.ensures.value, c.count_helpers.ensures, ap length c.reached_positions.ensures.value, variables_in_all q.circuit q.f q.g, few_variables_of q.circuit q.f q.g c.end.ensures.circuit)

pub overflow_cast-variables : goal.overflow_cast-variables
overflow_cast-variables c =
    let q = c.args.numbering.now in
    omega (arith, ap length c.reached_positions.ensures.value, few_reached q.circuit q.f q.g, c.reached_positions.ensures.circuit.small)

pub new-requires : goal.new-requires
new-requires c =
    let q = c.args.numbering.now in
    omega (arith, c.end.ensures.value, c.count_helpers.ensures, ap length c.reached_positions.ensures.value, variables_in_all q.circuit q.f q.g, few_variables_of q.circuit q.f q.g c.end.ensures.circuit)

pub write_lines-requires-clause-variables : goal.write_lines-requires-clause-variables
write_lines-requires-clause-variables c =
    let q = c.args.numbering.now in
    omega (arith, c.in_ok-writer.ensures.variables, c.end.ensures.value, c.count_helpers.ensures, ap length c.reached_positions.ensures.value, variables_in_all q.circuit q.f q.g)

pub write_lines-requires-clause-helper : goal.write_lines-requires-clause-helper
write_lines-requires-clause-helper c =
    let q = c.args.numbering.now in
    omega (arith, c.in_ok-writer.ensures.helper, c.end-2.ensures.value, helpers_begin q.circuit q.f q.g)

pub write_differences-requires-clause-variables : goal.write_differences-requires-clause-variables
write_differences-requires-clause-variables c =
    let q = c.args.numbering.now in
    omega (arith, c.in_ok-write_lines.ensures.variables, c.in_ok-writer.ensures.variables, c.end.ensures.value, c.count_helpers.ensures, ap length c.reached_positions.ensures.value, variables_in_all q.circuit q.f q.g)

pub write_differences-requires-clause-difference : goal.write_differences-requires-clause-difference
write_differences-requires-clause-difference c =
    let q = c.args.numbering.now in
    omega (arith, c.end.ensures.value, c.count_helpers.ensures, first_difference q.circuit q.f q.g)

pub returns-clause-variables : goal.returns-clause-variables
returns-clause-variables c =
    let q = c.args.numbering.now in
    omega (arith, c.end.ensures.value, c.count_helpers.ensures, ap length c.reached_positions.ensures.value, variables_in_all q.circuit q.f q.g)

pub returns-clause-written : goal.returns-clause-written
returns-clause-written c =
    let q = c.args.numbering.now in
    let adds = both_parts (parts_of_miter q.circuit q.f q.g) c.in_ok-write_lines.ensures.written c.in_ok-write_differences.ensures.written in
    subst (Adds c.args.pool.now c.write_differences.new.pool) (sym (miter_parts q.circuit q.f q.g)) adds

pub returns-in_err-write_lines-clause-written : goal.returns-in_err-write_lines-clause-written
returns-in_err-write_lines-clause-written c =
    let q = c.args.numbering.now in
    let keeps = first_fails (parts_of_miter q.circuit q.f q.g) c.in_err-write_lines.ensures.written in
    writes_err c.from_residual-in_err-write_lines.result c.from_residual-in_err-write_lines.ensures.0 (subst (KeepsClauses c.args.pool.now c.write_lines.new.pool) (sym (miter_parts q.circuit q.f q.g)) keeps)

pub returns-in_err-write_differences-clause-written : goal.returns-in_err-write_differences-clause-written
returns-in_err-write_differences-clause-written c =
    let q = c.args.numbering.now in
    let keeps = left_fails (parts_of_miter q.circuit q.f q.g) c.in_ok-write_lines.ensures.written c.in_err-write_differences.ensures.written in
    writes_err c.from_residual-in_err-write_differences.result c.from_residual-in_err-write_differences.ensures.0 (subst (KeepsClauses c.args.pool.now c.write_differences.new.pool) (sym (miter_parts q.circuit q.f q.g)) keeps)

pub returns-in_err-write_lines-clause-variables : goal.returns-in_err-write_lines-clause-variables
returns-in_err-write_lines-clause-variables c = IfOk-from_err c.from_residual-in_err-write_lines.result _ c.from_residual-in_err-write_lines.ensures.0

pub returns-in_err-write_differences-clause-variables : goal.returns-in_err-write_differences-clause-variables
returns-in_err-write_differences-clause-variables c = IfOk-from_err c.from_residual-in_err-write_differences.result _ c.from_residual-in_err-write_differences.ensures.0

pub returns-clause-circuit : goal.returns-clause-circuit
returns-clause-circuit c = c.end.ensures.circuit
