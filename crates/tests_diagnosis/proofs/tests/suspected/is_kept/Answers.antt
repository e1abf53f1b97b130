use Rattle.tests_diagnosis.proofs.tests.suspected.is_kept.Goals as goal

pub stands-requires : goal.stands-requires
stands-requires c = record { answerable = record { widths = c.in_ok-kept.ensures.widths; few = c.in_ok-kept.ensures.few }; classes = c.in_ok-kept.ensures.table }
