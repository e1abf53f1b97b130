use Rattle.std.proofs.Common.{◌∙◌, true, false, sym}
use Rattle.pair_miter.proofs.Numbers.{variables_of_relevant}
use Rattle.pair_miter.proofs.numbering.line_variables.Goals as goal

pub returns-then-split : goal.returns-then-split
returns-then-split c =
    let p = c.args.scope.now in
    sym (variables_of_relevant p.circuit p.f p.g c.args.line true c.requires.relevant (sym c.split.ensures ∙ c.if-split.true))

pub returns-else-split : goal.returns-else-split
returns-else-split c =
    let p = c.args.scope.now in
    sym (variables_of_relevant p.circuit p.f p.g c.args.line false c.requires.relevant (sym c.split.ensures ∙ c.if-split.false))
