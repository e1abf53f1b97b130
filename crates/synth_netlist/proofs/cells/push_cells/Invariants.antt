use Rattle.std.proofs.Common.{◌≡◌, ◌++◌}
use Rattle.std.specs.List.{flat_map, range_with_len}
use Rattle.synth_netlist.specs.Synth.{state_from, numbered_cell}
use Rattle.synth_netlist.proofs.cells.push_cells.Given as goal

abbrev pub invariant-loop-cell : goal.invariant-loop-cell
invariant-loop-cell l = (l.rng ≡ state_from l.n l.cell) × (l.text.items ≡ l.initial.text.items ++ flat_map (numbered_cell l.n) (range_with_len 0 l.cell))
