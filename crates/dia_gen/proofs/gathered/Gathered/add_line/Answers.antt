use Rattle.dia_gen.proofs.WritingLemmas.{line_before}
use Rattle.dia_gen.proofs.gathered.Gathered.add_line.Goals as goal

pub returns : goal.returns
returns g c = line_before c.write_piece.result (rw (c.in_ok-push_line.ensures.ok, c.self.view_is) at c.write_piece.ensures)
