use Rattle.std.proofs.Common.{◌≡◌}
use Rattle.std.proofs.lemmas.Result.{IfOk-weaker}
use Rattle.listing_commands.specs.Faults.{IsFaultsText, faults_text}
use Rattle.listing_commands.proofs.faults.faults_text.Goals as goal

pub returns : goal.returns
returns c =
    let design = c.args.design.now in
    let forest = c.in_ok-forest.forest in
    IfOk-weaker c.lines_text.result (λ text. text.items ≡ faults_text design forest) (λ text. IsFaultsText design text.items) (λ text is. record { forest = forest; roots = c.in_ok-forest.ensures; text_is = is }) c.lines_text.ensures
