use Rattle.std.proofs.Common.{◌≡◌, ◌∙◌, refl, sym, ap}
use Rattle.net_model.specs.Circuit.{Circuit}
use Rattle.word_sim.specs.Block.{Block}
use Rattle.word_sim.specs.GoodSim.{GoodSim}
use Rattle.table_dicts.proofs.pattern_sim.PatternSim.new.Goals as goal

pub returns-clause-pattern_sim : goal.returns-clause-pattern_sim
returns-clause-pattern_sim c =
    let same : c.in_ok-new-2.field-0.circuit ≡ c.circuit-circuit.result.now = ap (λ (good : GoodSim). good.circuit) c.in_ok-new-2.ensures in
    record {
      circuit = rw same c.sources.ensures.circuit;
      subject = sym (same ∙ c.circuit-circuit.ensures.value);
      block = ap (λ (block : Block). block.sources) c.in_ok-new.ensures ∙ (c.sources.ensures.value ∙ ap (λ (circuit : Circuit). circuit.sources) (sym same));
      good = refl;
      sim = c.in_ok-new-3.ensures.circuit ∙ sym same;
    }

pub returns-clause-circuit : goal.returns-clause-circuit
returns-clause-circuit c = ap (λ (good : GoodSim). good.circuit) c.in_ok-new-2.ensures ∙ c.circuit-circuit.ensures.value
