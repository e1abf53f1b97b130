use Rattle.std.proofs.Common.{◌∙◌, ap₂, arith}
use Rattle.dictionary_commands.specs.Texts.{plan_counts_text}
use Rattle.dictionary_commands.proofs.adapt.spelled.Goals as goal

pub asks-requires-clause-few : goal.asks-requires-clause-few
asks-requires-clause-few c = omega (arith, c.requires.few)

pub returns-clause-text : goal.returns-clause-text
returns-clause-text c = λ root.
    let plan = c.args.plan.now in
    c.in_ok-text.ensures ∙ ap₂ (plan_counts_text plan.classes) c.asks.ensures (c.depth.ensures root)
