use Rattle.table_dicts.proofs.OneTable.{answers_exist, one_answers}
use Rattle.table_dicts.proofs.laws.one_table_of_answers.Goals as goal

pub returns : goal.returns
returns c = λ circuit patterns is.
    let made = answers_exist circuit is patterns in
    (made.0, made.1, λ other are. one_answers circuit is are made.1)
