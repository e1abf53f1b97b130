-- What the fields of `Statements` show, and what is true of them.
use Rattle.bench_reader.specs.declared.statement.Statements.TheInside.{Inside}
use Rattle.bench_reader.specs.Netlist.{Netlist}
use Rattle.bench_reader.specs.Names.{texts_of_names}
use Rattle.bench_reader.specs.Driven.{IsDriven}

-- the netlist that the fields show
abbrev pub netlist_in : Inside → Netlist
netlist_in a = record { statements = a.statements.items; names = texts_of_names a.names.items }

-- The netlist that the fields show is as `IsDriven` says.
abbrev pub AreStatementsFields : Inside → Type 0
AreStatementsFields a = IsDriven (netlist_in a)
