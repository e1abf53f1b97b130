use Rattle.dia_gen.proofs.output.write_result.Given as goal

abbrev pub ghost-write_lines : goal.ghost-write_lines
ghost-write_lines g a = g.start
