use Rattle.dia_check.proofs.in_memory.check_subject_text.Goals as goal

pub returns-clause-refused : goal.returns-clause-refused
returns-clause-refused c = λ fault same. c.finish.ensures.refused fault same c.args.text.now c.in_ok-feed_text.ensures
