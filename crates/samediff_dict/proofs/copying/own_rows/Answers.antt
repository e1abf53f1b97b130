use Rattle.std.proofs.Common.{◌≡◌, ◌+◌, ℕ, Bool, List, [], length, subst, arith}
use Rattle.dict_rows.specs.Rows.{AreRowsBegun}
use Rattle.dict_rows.proofs.RowLemmas.{zeros_begun}
use Rattle.samediff_dict.proofs.copying.own_rows.Goals as goal
use Rattle.samediff_dict.proofs.copying.own_rows.Goals.{In_ok-rows}

none_yet : (c : In_ok-rows) (wanted : ℕ → List Bool) → AreRowsBegun (length c.args.table.now.rows) c.args.table.now.positions 0 wanted c.in_ok-rows.rows
none_yet c wanted = zeros_begun (length c.args.numbers.now) c.positions.result (length c.args.table.now.rows) c.args.table.now.positions wanted c.in_ok-rows.ensures c.requires.one_each c.positions.ensures.value

pub copy_own-requires : goal.copy_own-requires
copy_own-requires c =
    let are = (none_yet (goal.at.copy_own-requires c).In_ok-rows (λ row. [])).are in
    record { known = c.requires.known; one_each = c.requires.one_each; within = omega (arith, are.count_is); width = are.width_is }

pub returns : goal.returns
returns c wanted are =
    let all = length c.args.table.now.rows in
    let same : 0 + all ≡ all = omega arith in
    subst (λ n. AreRowsBegun all c.args.table.now.positions n wanted c.copy_own.new.rows) same (c.copy_own.ensures all wanted are (none_yet (goal.at.returns c).In_ok-rows wanted))
