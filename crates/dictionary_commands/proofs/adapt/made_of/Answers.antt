use Rattle.dictionary_commands.proofs.adapt.made_of.Goals as goal

pub spelled-requires-clause-formed : goal.spelled-requires-clause-formed
spelled-requires-clause-formed c = c.in_ok-plan.ensures.well_formed

pub spelled-requires-clause-few : goal.spelled-requires-clause-few
spelled-requires-clause-few c = c.in_ok-plan.ensures.short.asks

pub returns : goal.returns
returns c =
    let planned = c.in_ok-plan.ensures in
    let root = planned.well_formed.node in
    record { plan = c.in_ok-plan.plan; planned = planned; root = root; file_is = c.in_ok-made.ensures.file; text_is = c.in_ok-made.ensures.text root }
