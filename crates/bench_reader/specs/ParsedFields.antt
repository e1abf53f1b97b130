-- What the fields of parsed statements show.
use Rattle.bench_reader.specs.declared.parsed.Parsed.TheInside.{Inside}
use Rattle.bench_reader.specs.Netlist.{Netlist}
use Rattle.bench_reader.specs.Names.{texts_of_names}

-- the netlist that the fields show
abbrev pub parsed_in : Inside → Netlist
parsed_in a = record { statements = a.statements.items; names = texts_of_names a.names.items }
