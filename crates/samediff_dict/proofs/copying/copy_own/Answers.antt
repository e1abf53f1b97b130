use Rattle.std.proofs.Common.{◌≡◌, ◌+◌, Bool, List, subst, arith}
use Rattle.dict_rows.specs.Rows.{AreRowsBegun, IsRowSet}
use Rattle.dict_rows.proofs.RowLemmas.{rows_later, rows_more}
use Rattle.samediff_dict.proofs.copying.copy_own.Goals as goal

pub loop-pattern-preserved : goal.loop-pattern-preserved
loop-pattern-preserved c =
    let table = c.args.table.now in
    let first = c.args.first in
    let pattern = c.loop-pattern.pattern in
    let old = c.loop-pattern.rows in
    let new = c.copy_answer.new.rows in
    let next : first + pattern + 1 ≡ first + (pattern + 1) = omega arith in
    record {
      shape = rows_later c.copy_answer.ensures.shape c.loop-pattern.invariant.shape;
      copied = λ count wanted are before.
          let own = are.own pattern (omega (arith, c.loop-pattern-test.true, c.patterns-pattern-end.ensures.value)) in
          subst (λ n. AreRowsBegun count table.positions n wanted new) next
          (rows_more (c.loop-pattern.invariant.copied count wanted are before) (subst (λ (bits : List Bool). IsRowSet old new (first + pattern) bits) own c.copy_answer.ensures));
    }
