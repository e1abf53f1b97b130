use Rattle.dia_check.proofs.checking.check.Goals as goal

pub returns-clause-refused : goal.returns-clause-refused
returns-clause-refused g c = λ fault same. rw c.in_ok-subject.ensures at (c.check_subject.ensures.refused fault same)
