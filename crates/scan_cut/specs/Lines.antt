-- The line of each name, as a table.
use Rattle.std.specs.Prelude.{◌≡◌, ℕ, ◌<◌, List, length, map, slice_index, Option, None, Some}
use Rattle.net_model.specs.declared.gate.Gate.{Gate}
use Rattle.bench_reader.specs.declared.statement.Statement.{Statement}
use Rattle.bench_reader.specs.declared.statement.Statement.TheVariants.{Drive}

-- The table has a place for each of `count` names; at the place of each name of a line it has the line.
pub record AreLines (count : ℕ) (names lines : List ℕ) : Type 0 where
  pub whole : length lines ≡ count
  pub each : (line : ℕ) → line < length names → slice_index lines (slice_index names line) ≡ line

-- the gate of a statement, with the lines that the table has for its pins
abbrev pub looked_up_gate : List ℕ → Statement → Option Gate
looked_up_gate lines (Drive n kind pins) = Some (record { kind = kind; pins = map (λ pin. slice_index lines pin.name) pins })
looked_up_gate lines _ = None
