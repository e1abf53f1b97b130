use Rattle.dia_gen.proofs.draft.Draft.add_pattern.Given as goal

abbrev pub ghost-keep_apart : goal.ghost-keep_apart
ghost-keep_apart g a = g.start
