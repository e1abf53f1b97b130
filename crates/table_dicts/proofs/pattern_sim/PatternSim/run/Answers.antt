use Rattle.std.proofs.Common.{◌∙◌, ◌+◌, ap, length, arith}
use Rattle.word_sim.specs.GoodSim.{GoodSim}
use Rattle.table_dicts.proofs.BlockLemmas.{block_length}
use Rattle.table_dicts.proofs.pattern_sim.PatternSim.run.Goals as goal

pub returns-clause-run : goal.returns-clause-run
returns-clause-run c =
    let pattern_sim = c.requires.pattern_sim in
    let ran = c.run.ensures in
    let long = block_length c.args.patterns.now c.args.first (c.args.first + c.min.result) (omega arith) (omega (arith, c.min.ensures, c.requires.first)) in
    record {
      pattern_sim = rw ran (record { circuit = pattern_sim.circuit; subject = pattern_sim.subject; block = c.fill_block.ensures.sources ∙ pattern_sim.block; good = pattern_sim.good; sim = pattern_sim.sim });
      ran = ap (λ (g : GoodSim). g.ran) ran;
      few = omega (arith, ap length c.fill_block.ensures.vectors, long, c.min.ensures);
    }

pub returns-clause-circuit : goal.returns-clause-circuit
returns-clause-circuit c = ap (λ (g : GoodSim). g.circuit) c.run.ensures
