use Rattle.synth_netlist.proofs.SynthAccepted.{SynthLaws, number_accepted}
use Rattle.synth_netlist.proofs.cells.each_number_is_accepted.Goals as goal

pub returns : goal.returns
returns c =
    let laws : SynthLaws = record { accepted = c.spelled_is_accepted.ensures; lines = c.lines_spell.ensures; ordered = c.ordered_has_no_loop.ensures } in
    λ n small. number_accepted laws n small c.no_loop_is_circuit.ensures
