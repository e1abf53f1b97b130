use Rattle.dia_gen.proofs.block.add_pair.Goals as goal

pub returns-clause-space : goal.returns-clause-space
returns-clause-space c =
    let setting = c.args.setting.now in
    let space = c.in_ok-found.ensures.space in record {
      simulated = space.simulated;
      miters = space.miters;
      emptied = space.emptied;
      ahead = c.put.ensures setting.circuit setting.budgets space.ahead (record { found = c.in_ok-found.ensures.found });
    }
