-- What the fields of `Rows` show, and what is true of them.
use Rattle.std.specs.Prelude.{◌<◌, length, All, vec_capacity}
use Rattle.fault_sim.specs.declared.rows.Rows.TheInside.{Inside}
use Rattle.fault_sim.specs.Rows.{Rows, rows_with, AreFalseBut}

abbrev pub rows_inside : Inside → Rows
rows_inside a = rows_with a.rows.items a.listed.items (vec_capacity a.listed)

pub record AreRowsListed (a : Inside) : Type 0 where
  pub within : All (λ at. at < length a.rows.items) a.listed.items
  pub others : AreFalseBut a.listed.items a.rows.items
