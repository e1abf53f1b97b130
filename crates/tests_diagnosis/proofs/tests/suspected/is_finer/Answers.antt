use Rattle.tests_diagnosis.proofs.tests.suspected.is_finer.Goals as goal

pub classes_of-requires-clause-one : goal.classes_of-requires-clause-one
classes_of-requires-clause-one c = rw (c.as_slice.ensures, ← c.circuit.ensures.value) c.in_ok-before.ensures.widths

pub classes_of-requires-clause-other : goal.classes_of-requires-clause-other
classes_of-requires-clause-other c = rw (c.as_slice-2.ensures, ← c.circuit-2.ensures.value) c.in_ok-list.ensures.widths

pub is_told-requires : goal.is_told-requires
is_told-requires c = record {
  answerable = record { widths = rw (← c.circuit-2.ensures.value) c.in_ok-list.ensures.widths; few = c.in_ok-list.ensures.few };
  numbers = c.in_ok-classes.ensures.parted.numbers;
}
