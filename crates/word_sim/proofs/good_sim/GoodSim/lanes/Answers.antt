use Rattle.std.proofs.Common.{◌<◌, length, ap, arith}
use Rattle.net_model.specs.Circuit.{line_count}
use Rattle.word_sim.specs.GoodSim.{GoodSim}
use Rattle.word_sim.proofs.Settled.{good_bit}
use Rattle.word_sim.proofs.good_sim.GoodSim.lanes.Goals as goal

pub returns : goal.returns
returns c =
    let inside : c.args.line < length c.self.inside.rows.items = omega (arith, c.requires, c.self.invariant.wide, ap (λ (s : GoodSim). line_count s.circuit) c.self.view_is) in
    rw (← c.self.view_is)
    (λ lane h. good_bit c.self.inside.circuit.now c.self.invariant.circuit c.self.inside.rows.items c.self.inside.live c.self.invariant.agrees c.args.line lane c.index.result.now inside c.index.ensures h)
