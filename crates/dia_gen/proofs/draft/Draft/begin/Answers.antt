use Rattle.dia_gen.proofs.draft.Draft.begin.Goals as goal

pub returns : goal.returns
returns c = record {
  is_circuit = c.in_ok-keeper.ensures.is_circuit;
  circuit = c.in_ok-keeper.ensures.circuit;
  kept = c.in_ok-keeper.ensures.kept;
  few = rw c.numbers.ensures.value at c.numbers.ensures.few;
  limits = c.in_ok-keeper.ensures.limits;
  marks = rw c.numbers.ensures.value at c.in_ok-marks.ensures;
  space = c.in_ok-space.ensures;
  looked = c.in_ok-keeper.ensures.looked;
  gathered = c.new-2.ensures;
}
