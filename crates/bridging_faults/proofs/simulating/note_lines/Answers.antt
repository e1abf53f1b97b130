use Rattle.std.proofs.Common.{refl, length}
use Rattle.bridging_faults.specs.Simulated.{IsFreeValue, IsTurnedLane}
use Rattle.bridging_faults.proofs.SimulatedLemmas.{lines_none}
use Rattle.bridging_faults.proofs.simulating.note_lines.Goals as goal

pub loop-line-init : goal.loop-line-init
loop-line-init c =
    let pattern_sim = c.args.pattern_sim.now in
    let circuit = pattern_sim.good.circuit in
    let vectors = pattern_sim.block.vectors in
    record {
      pattern_sim = refl;
      run = c.requires.run;
      good = lines_none (IsFreeValue circuit vectors) c.args.first (length vectors) c.args.good.now;
      turned = lines_none (IsTurnedLane circuit vectors c.args.columns.now c.args.first) c.args.first (length vectors) c.args.turned.now;
    }
