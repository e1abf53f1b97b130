use Rattle.tests_dictionaries.proofs.tests.circuits.is_kept.Goals as goal

pub are_made-requires-clause-setting : goal.are_made-requires-clause-setting
are_made-requires-clause-setting c = record { answerable = record { widths = c.in_ok-kept.ensures.widths; few = c.in_ok-kept.ensures.few }; classes = c.in_ok-kept.ensures.table }
