use Rattle.std.proofs.Common.{ℕ, ◌+◌, Bool, List, length}
use Rattle.dict_rows.specs.Rows.{AreRows, AreRowsBegun}
use Rattle.samediff_dict.specs.Copied.{AreWanted}
use Rattle.samediff_dict.proofs.copying.copy_own.Given as goal

abbrev pub invariant-loop-pattern : goal.invariant-loop-pattern
invariant-loop-pattern l = record {
  shape : AreRows (length l.initial.rows) l.table.positions l.rows;
  copied : (count : ℕ) (wanted : ℕ → List Bool) → AreWanted l.table l.numbers l.first wanted → AreRowsBegun count l.table.positions l.first wanted l.initial.rows → AreRowsBegun count l.table.positions (l.first + l.pattern) wanted l.rows;
}
