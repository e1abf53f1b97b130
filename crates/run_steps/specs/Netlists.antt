-- Which bytes are accepted as a netlist, and which are refused with which text.
use Rattle.std.specs.Prelude.{◌≡◌, ℕ, List}
use Rattle.net_model.specs.declared.circuit.Design.{Design}
use Rattle.net_model.specs.Circuit.{IsCircuit}
use Rattle.bench_reader.specs.declared.fault.Place.{Place}
use Rattle.bench_reader.specs.declared.fault.NetKind.{NetKind}
use Rattle.bench_reader.specs.Netlist.{Netlist}
use Rattle.bench_reader.specs.Reading.{IsNetlist, place_of}
use Rattle.bench_reader.specs.Refusal.{TextRefused}
use Rattle.scan_cut.specs.Cut.{cut_circuit, cut_design, IsNetlistLoop}
use Rattle.text_fields.specs.Fields.{Text}
use Rattle.run_steps.specs.Texts.{refusal_text, loop_text}

-- The bytes are accepted as a netlist, and `design` is the cut of its statements, which has no loop.
pub record IsDesign (bytes : Text) (design : Design) : Type 0 where
  pub netlist : Netlist
  pub accepted : IsNetlist bytes netlist
  pub cut : design ≡ cut_design netlist
  pub circuit : IsCircuit (cut_circuit netlist)

-- The bytes are refused as a netlist with the text `console`: they break a rule of the text, or the gates of the cut
-- form a loop.
pub data IsRefused (bytes console : Text) : Type 0 where
  by_text : (kind : NetKind) (byte : ℕ) → TextRefused bytes (kind, byte) → console ≡ refusal_text kind (place_of bytes byte) → IsRefused bytes console
  by_loop : (netlist : Netlist) (place : Place) (names : List Text) → IsNetlist bytes netlist → IsNetlistLoop netlist place names → console ≡ loop_text place names → IsRefused bytes console
