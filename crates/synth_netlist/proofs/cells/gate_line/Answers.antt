use Rattle.std.proofs.Common.{◌∙◌}
use Rattle.std.specs.Prelude.{decimal}
use Rattle.std.proofs.lemmas.Result.{IfOk-weaker}
use Rattle.synth_netlist.specs.Synth.{signal}
use Rattle.synth_netlist.proofs.CellLemmas.{gate_written}
use Rattle.synth_netlist.proofs.cells.gate_line.Goals as goal

pub returns : goal.returns
unfolding signal
returns c =
    let a = c.args in
    IfOk-weaker c.format.result _ _ (λ text is. is ∙ gate_written a.driven.now (decimal a.number) a.word.now a.first.now a.second.now (decimal a.cell)) c.format.ensures.ok
