use Rattle.run_steps.proofs.CheckedLemmas.{answers_of_table, are_answers}
use Rattle.dictionary_commands.proofs.adapt.plan_for.Goals as goal

pub returns : goal.returns
returns c =
    let circuit = c.args.setting.now.subject.now in
    let patterns = c.args.setting.now.patterns.now in
    let classes = c.args.setting.now.classes.now in
    let plan = c.in_ok-plan.plan in
    let answers = answers_of_table c.requires.classes in
    let are = are_answers c.requires.classes in
    let good = c.in_ok-plan.ensures.good answers are in
    record {
      answers = answers;
      are = are;
      is = c.in_ok-plan.ensures.planned answers are;
      well_formed = good.well_formed;
      short = good.short;
      home = λ number below. c.plan_of_a_table_is_good.ensures.faults circuit patterns classes answers plan number are good below;
    }
