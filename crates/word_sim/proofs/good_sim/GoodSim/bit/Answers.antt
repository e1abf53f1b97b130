use Rattle.std.proofs.Common.{◌<◌, length, ap, arith}
use Rattle.net_model.specs.Circuit.{line_count}
use Rattle.word_sim.specs.GoodSim.{GoodSim, vectors_of}
use Rattle.word_sim.specs.GoodSimFields.{source_rows}
use Rattle.word_sim.proofs.Settled.{length-ran, good_bit}
use Rattle.word_sim.proofs.good_sim.GoodSim.bit.Goals as goal

pub get-requires : goal.get-requires
get-requires c =
    omega (arith, c.requires.lane, c.self.invariant.few, length-ran (source_rows c.self.inside.circuit.now c.self.inside.rows.items) c.self.inside.live, ap (λ (s : GoodSim). length (vectors_of s)) c.self.view_is)

pub returns : goal.returns
returns c =
    let inside : c.args.line < length c.self.inside.rows.items = omega (arith, c.requires.line, c.self.invariant.wide, ap (λ (s : GoodSim). line_count s.circuit) c.self.view_is) in
    rw (← c.self.view_is, c.get.ensures.value)
    (good_bit c.self.inside.circuit.now c.self.invariant.circuit c.self.inside.rows.items c.self.inside.live c.self.invariant.agrees c.args.line c.args.lane c.index.result.now inside c.index.ensures (rw (← c.self.view_is) at c.requires.lane))
