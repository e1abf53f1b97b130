use Rattle.dia_gen.proofs.output.top_up.Given as goal

abbrev pub ghost-write_result : goal.ghost-write_result
ghost-write_result g a = g.S.Shelf.state a.shelf.now
