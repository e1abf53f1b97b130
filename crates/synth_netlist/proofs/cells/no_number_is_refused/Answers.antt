use Rattle.synth_netlist.proofs.SynthAccepted.{SynthLaws, never_refused}
use Rattle.synth_netlist.proofs.cells.no_number_is_refused.Goals as goal

pub returns : goal.returns
returns c =
    let laws : SynthLaws = record { accepted = c.spelled_is_accepted.ensures; lines = c.lines_spell.ensures; ordered = c.ordered_has_no_loop.ensures } in
    λ n small. never_refused laws n small c.never_accepted_and_refused.ensures c.one_netlist.ensures
