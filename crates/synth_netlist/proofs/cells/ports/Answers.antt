use Rattle.std.proofs.Common.{◌∙◌}
use Rattle.std.specs.Prelude.{decimal}
use Rattle.std.proofs.lemmas.Result.{IfOk-weaker}
use Rattle.synth_netlist.specs.Synth.{ports_text, signal}
use Rattle.synth_netlist.proofs.CellLemmas.{ports_written}
use Rattle.synth_netlist.proofs.cells.ports.Goals as goal

pub returns : goal.returns
unfolding ports_text signal
returns c = IfOk-weaker c.format.result _ _ (λ text is. is ∙ ports_written (decimal c.args.cell)) c.format.ensures.ok
