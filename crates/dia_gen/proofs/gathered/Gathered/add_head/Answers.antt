use Rattle.dia_gen.proofs.WritingLemmas.{line_before}
use Rattle.dia_gen.proofs.gathered.Gathered.add_head.Goals as goal

pub returns : goal.returns
returns g c = line_before c.write_piece.result (rw (c.in_ok-push_head.ensures, c.self.view_is, c.circuit.ensures.value, c.numbers-numbers.ensures.value, c.budgets.ensures.value) at c.write_piece.ensures)
