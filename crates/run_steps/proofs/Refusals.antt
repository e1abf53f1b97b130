-- The faults of a netlist are refusals of its bytes.
use Rattle.std.proofs.Common.{◌≡◌, List, Some, sym, ap, subst, ◌∙◌, refl}
use Rattle.net_model.specs.declared.circuit.Design.{Design}
use Rattle.net_model.specs.Circuit.{IsCircuit}
use Rattle.bench_reader.specs.declared.fault.Place.{Place}
use Rattle.bench_reader.specs.declared.fault.NetKind.{NetKind}
use Rattle.bench_reader.specs.declared.fault.NetFault.{NetFault}
use Rattle.bench_reader.specs.declared.fault.NetFault.TheVariants as fault
use Rattle.bench_reader.specs.Netlist.{Netlist}
use Rattle.bench_reader.specs.Reading.{IsNetlist}
use Rattle.bench_reader.specs.Stops.{IsTextFault}
use Rattle.scan_cut.specs.Cut.{cut_circuit, cut_design, IsNetlistLoop}
use Rattle.text_fields.specs.Fields.{Text}
use Rattle.run_steps.specs.Texts.{refusal_text}
use Rattle.run_steps.specs.Netlists.{IsDesign, IsRefused, by_text, by_loop}
use Rattle.run_steps.specs.Steps.{fault_text}

some_text : {a b : Text} → Some a ≡ Some b → a ≡ b
some_text e = cc

pub read_refused : (bytes text : Text) (f : NetFault) → fault_text f ≡ Some text → IsTextFault bytes f → IsRefused bytes text
read_refused bytes text (fault.At kind place) is known = by_text kind place.byte known.1 (sym (some_text is) ∙ ap (refusal_text kind) known.0)
read_refused bytes text (fault.Loop place names) is known = absurd known
read_refused bytes text fault.NoMemory is known = absurd (cc)

-- What is known of a fault that the cut returns.
pub record IsCutFault (netlist : Netlist) (f : NetFault) : Type 0 where
  pub looped : (place : Place) (names : List Text) → f ≡ fault.Loop place names → IsNetlistLoop netlist place names
  pub no_rule : (kind : NetKind) (place : Place) → f ≡ fault.At kind place → ⊥

pub cut_refused : (bytes text : Text) (netlist : Netlist) (f : NetFault) → IsNetlist bytes netlist → fault_text f ≡ Some text → IsCutFault netlist f → IsRefused bytes text
cut_refused bytes text netlist (fault.At kind place) accepted is known = absurd (known.no_rule kind place refl)
cut_refused bytes text netlist (fault.Loop place names) accepted is known = by_loop netlist place names accepted (known.looped place names refl) (sym (some_text is))
cut_refused bytes text netlist fault.NoMemory accepted is known = absurd (cc)

-- The cut of an accepted netlist is its design.
pub is_design : {bytes : Text} {netlist : Netlist} {design : Design} → IsNetlist bytes netlist → design ≡ cut_design netlist → IsCircuit design.circuit → IsDesign bytes design
unfolding cut_design
is_design {bytes} {netlist} {design} accepted is circuit =
    let same : design.circuit ≡ cut_circuit netlist = ap (λ (d : Design). d.circuit) is in
    record { netlist = netlist; accepted = accepted; cut = is; circuit = subst IsCircuit same circuit }
