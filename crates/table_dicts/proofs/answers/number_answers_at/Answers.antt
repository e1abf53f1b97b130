use Rattle.table_dicts.proofs.FailLemmas.{answer_listed}
use Rattle.table_dicts.proofs.answers.number_answers_at.Goals as goal

pub returns-clause-answers : goal.returns-clause-answers
returns-clause-answers c = λ t are pattern place hp hn.
    answer_listed c.args.subject.now c.args.patterns.now t are c.args.numbers.now c.requires.numbers c.in_ok-table.table c.stands.ensures c.in_ok-table.ensures pattern place hp hn
