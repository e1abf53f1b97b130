use Rattle.tests_dictionaries.proofs.tests.plans.is_kept.Goals as goal

pub is_planned-requires : goal.is_planned-requires
is_planned-requires c = record { answerable = record { widths = c.in_ok-kept.ensures.widths; few = c.in_ok-kept.ensures.few }; classes = c.in_ok-kept.ensures.table }

pub is_planned_by_table-requires : goal.is_planned_by_table-requires
is_planned_by_table-requires c = record { answerable = record { widths = c.in_ok-kept.ensures.widths; few = c.in_ok-kept.ensures.few }; classes = c.in_ok-kept.ensures.table }
