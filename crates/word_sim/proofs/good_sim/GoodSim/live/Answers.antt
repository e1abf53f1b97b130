use Rattle.std.proofs.Common.{◌∙◌, ap, sym, arith}
use Rattle.std.specs.Prelude.{nat_lt}
use Rattle.word_sim.specs.GoodSimFields.{source_rows}
use Rattle.word_sim.proofs.Settled.{length-ran}
use Rattle.word_sim.proofs.good_sim.GoodSim.live.Goals as goal

pub returns-clause-lanes : goal.returns-clause-lanes
returns-clause-lanes c =
    let rows = source_rows c.self.inside.circuit.now c.self.inside.rows.items in
    rw (← c.self.view_is) (λ lane h. c.first.ensures lane h ∙ ap (λ n. nat_lt lane n) (c.unwrap_or.ensures ∙ sym (length-ran rows c.self.inside.live)))

pub returns-clause-few : goal.returns-clause-few
returns-clause-few c =
    rw (← c.self.view_is) (omega (arith, c.self.invariant.few, length-ran (source_rows c.self.inside.circuit.now c.self.inside.rows.items) c.self.inside.live))
