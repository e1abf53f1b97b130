-- The netlist of a number is accepted, and never refused.
use Rattle.std.specs.Prelude.{◌≡◌, ℕ, ◌≤◌, List, flat_map}
use Rattle.net_model.specs.Circuit.{IsCircuit}
use Rattle.bench_reader.specs.declared.fault.Place.{Place}
use Rattle.bench_reader.specs.declared.fault.NetKind.{NetKind}
use Rattle.bench_reader.specs.Netlist.{Netlist}
use Rattle.bench_reader.specs.Reading.{IsNetlist}
use Rattle.bench_reader.specs.Refusal.{TextRefused}
use Rattle.bench_reader.specs.Spelled.{written_line, IsAsWritten}
use Rattle.scan_cut.specs.Cut.{cut_circuit, IsNetlistLoop}
use Rattle.synth_netlist.specs.Synth.{synth_statements, synth_text}

-- The text of the number is accepted, and the cut of what it reads as is a circuit.
pub record HasAcceptedNetlist (n : ℕ) : Type 0 where
  -- The text has a line for each statement of the number.
  pub lines : synth_text n ≡ flat_map written_line (synth_statements n)
  -- It reads as this netlist, which has these statements.
  pub netlist : Netlist
  pub accepted : IsNetlist (synth_text n) netlist
  pub written : IsAsWritten (synth_statements n) netlist
  -- The gates of its cut form no loop.
  pub circuit : IsCircuit (cut_circuit netlist)

-- The netlist of each number up to 2,000 is accepted.
abbrev pub NumbersAccepted : Type 0
NumbersAccepted = (n : ℕ) → n ≤ 2000 → HasAcceptedNetlist n

-- No rule of the text refuses the bytes, and the gates of their cut form no loop.
pub record NeverRefused (bytes : List ℕ) : Type 0 where
  pub text : (refusal : NetKind × ℕ) → TextRefused bytes refusal → ⊥
  pub loops : (netlist : Netlist) (place : Place) (names : List (List ℕ)) → IsNetlist bytes netlist → IsNetlistLoop netlist place names → ⊥

-- The netlist of each number up to 2,000 is never refused.
abbrev pub NumbersNeverRefused : Type 0
NumbersNeverRefused = (n : ℕ) → n ≤ 2000 → NeverRefused (synth_text n)
