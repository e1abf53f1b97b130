-- The parts of a design before its circuit is built.
use Rattle.std.specs.Prelude.{◌≡◌}
use Rattle.net_model.specs.Circuit.{FitsTogether}
use Rattle.bench_reader.specs.Netlist.{Netlist}
use Rattle.scan_cut.specs.declared.parts.Parts.{Parts}
use Rattle.scan_cut.specs.Cut.{cut_circuit, cut_design}

-- The parts are those of the netlist's cut, and they fit together.
pub record AreParts (n : Netlist) (parts : Parts) : Type 0 where
  pub sources : parts.sources ≡ (cut_circuit n).sources
  pub gates : parts.gates.items ≡ (cut_circuit n).gates
  pub positions : parts.positions.items ≡ (cut_circuit n).positions
  pub names : parts.names ≡ (cut_design n).names
  pub fits : FitsTogether (cut_circuit n)
