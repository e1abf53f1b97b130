use Rattle.std.proofs.Common.{◌∙◌}
use Rattle.dia_gen.proofs.AheadLemmas.{on_ok_always}
use Rattle.dia_gen.proofs.pair.find.Goals as goal

pub returns-in-Some-clause-found : goal.returns-in-Some-clause-found
returns-in-Some-clause-found c = c.in-Some.ensures.found c.args.setting.now.circuit c.args.setting.now.budgets c.requires.space.ahead

pub returns-in-Some-clause-space : goal.returns-in-Some-clause-space
returns-in-Some-clause-space c =
    let space = c.requires.space in record { simulated = space.simulated; miters = space.miters; emptied = space.emptied; ahead = c.take.ensures.ahead c.args.setting.now.circuit c.args.setting.now.budgets space.ahead }

pub returns-then-cubes-gt0-clause-space : goal.returns-then-cubes-gt0-clause-space
returns-then-cubes-gt0-clause-space c =
    let space = c.requires.space in
    on_ok_always c.search_with.result (record { simulated = c.search_with.ensures.circuit ∙ space.simulated; miters = space.miters; emptied = space.emptied; ahead = c.take.ensures.ahead c.args.setting.now.circuit c.args.setting.now.budgets space.ahead })

pub returns-clause-space : goal.returns-clause-space
returns-clause-space c =
    let space = c.requires.space in record { simulated = space.simulated; miters = space.miters; emptied = space.emptied; ahead = c.take.ensures.ahead c.args.setting.now.circuit c.args.setting.now.budgets space.ahead }
