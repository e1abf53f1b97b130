use Rattle.dia_gen.proofs.draft.Draft.settle.Given as goal

abbrev pub ghost-keep_apart : goal.ghost-keep_apart
ghost-keep_apart g a = g.start

abbrev pub ghost-write_before_search : goal.ghost-write_before_search
ghost-write_before_search g a = g.start

abbrev pub ghost-add_pattern : goal.ghost-add_pattern
ghost-add_pattern g a = g.start

abbrev pub ghost-add_evidence : goal.ghost-add_evidence
ghost-add_evidence g a = g.start
