-- Laws of the definitions.
use Rattle.std.specs.Prelude.{◌≡◌, ◌⊎◌, ℕ, ◌≤◌, List, length, flat_map, All}
use Rattle.text_fields.specs.Fields.{Text}
use Rattle.bench_reader.specs.declared.reading.TheConstants.{NETLIST_LIMIT}
use Rattle.bench_reader.specs.declared.fault.NetKind.{NetKind}
use Rattle.bench_reader.specs.Netlist.{Netlist}
use Rattle.bench_reader.specs.Reading.{IsNetlist}
use Rattle.bench_reader.specs.Refusal.{TextRefused}
use Rattle.bench_reader.specs.Spelled.{Written, AreRightTogether, Spells, HasRuns, written_line, IsAsWritten}

-- each text is accepted or refused
abbrev pub AcceptedOrRefused : Type 0
AcceptedOrRefused = (text : Text) → ((netlist : Netlist) × IsNetlist text netlist) ⊎ ((refusal : NetKind × ℕ) × TextRefused text refusal)

-- no text is both accepted and refused
abbrev pub NeverAcceptedAndRefused : Type 0
NeverAcceptedAndRefused = (text : Text) (netlist : Netlist) (refusal : NetKind × ℕ) → IsNetlist text netlist → TextRefused text refusal → ⊥

-- a text is refused by at most one rule, at one byte
abbrev pub OneRefusal : Type 0
OneRefusal = (text : Text) (one other : NetKind × ℕ) → TextRefused text one → TextRefused text other → one ≡ other

-- a text reads as at most one netlist
abbrev pub OneNetlist : Type 0
OneNetlist = (text : Text) (one other : Netlist) → IsNetlist text one → IsNetlist text other → one ≡ other

-- a text that isn't too long and spells right statements is accepted, and reads as these statements
abbrev pub SpelledIsAccepted : Type 0
SpelledIsAccepted = (text : Text) (statements : List Written) → length text ≤ NETLIST_LIMIT → Spells text statements → AreRightTogether statements → (netlist : Netlist) × IsNetlist text netlist × IsAsWritten statements netlist

-- a line for each statement spells the statements, if each of their names and words is a run of bytes of names
abbrev pub LinesSpell : Type 0
LinesSpell = (statements : List Written) → All HasRuns statements → Spells (flat_map written_line statements) statements
