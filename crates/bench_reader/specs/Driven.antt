-- What is known of the statements of every netlist that is read: no name is driven twice, and each name that is used is
-- driven.
use Rattle.std.specs.Prelude.{◌≢◌, ℕ, ◌+◌, ◌<◌, ◌≤◌, Bool, true, List, [], ◌∷◌, length, map, filter_map, flat_map, sum_by, All, AllPairs, Contains, IsTrue, Option, None, Some}
use Rattle.net_model.specs.Gate.{takes_pins}
use Rattle.bench_reader.specs.declared.reading.TheConstants.{NETLIST_LIMIT}
use Rattle.bench_reader.specs.declared.statement.Statement.{Statement}
use Rattle.bench_reader.specs.declared.statement.Statement.TheVariants.{Input, Output, Drive, Flop}
use Rattle.bench_reader.specs.Netlist.{Netlist}

-- the number of the name that a statement drives, if it drives one
abbrev pub driven_number : Statement → Option ℕ
driven_number (Input n) = Some n.name
driven_number (Output n) = None
driven_number (Drive n kind pins) = Some n.name
driven_number (Flop q d) = Some q.name

-- the numbers of the names that a statement uses
abbrev pub used_numbers : Statement → List ℕ
used_numbers (Input n) = []
used_numbers (Output n) = n.name ∷ []
used_numbers (Drive n kind pins) = map (λ pin. pin.name) pins
used_numbers (Flop q d) = d.name ∷ []

-- the numbers of the names that the statements drive, in order
abbrev pub driven_numbers : List Statement → List ℕ
driven_numbers statements = filter_map driven_number statements

-- whether a gate has a number of pins that its kind takes
abbrev pub takes_its_pins : Statement → Bool
takes_its_pins (Drive n kind pins) = takes_pins kind (length pins)
takes_its_pins _ = true

-- one for the statement itself, and one for each pin
abbrev pub statement_size : Statement → ℕ
statement_size (Drive n kind pins) = 1 + length pins
statement_size (Flop q d) = 2
statement_size _ = 1

-- Each number that is driven is driven once and is that of a name, and each number that is used is driven. Each gate
-- has a number of pins that its kind takes. There are at most `NETLIST_LIMIT` names, and at most `NETLIST_LIMIT`
-- statements and pins together.
pub record IsDriven (n : Netlist) : Type 0 where
  pub once : AllPairs (λ a b. a ≢ b) (driven_numbers n.statements)
  pub named : All (λ number. number < length n.names) (driven_numbers n.statements)
  pub used : All (λ number. Contains (driven_numbers n.statements) number) (flat_map used_numbers n.statements)
  pub arities : All (λ statement. IsTrue (takes_its_pins statement)) n.statements
  pub few : length n.names ≤ NETLIST_LIMIT
  pub small : sum_by statement_size n.statements ≤ NETLIST_LIMIT
