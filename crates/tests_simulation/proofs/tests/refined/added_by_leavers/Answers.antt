use Rattle.tests_simulation.proofs.LeaverRow.{answers, three_leave}
use Rattle.tests_simulation.proofs.tests.refined.added_by_leavers.Goals as goal

pub part-requires : goal.part-requires
part-requires c = rw (c.requires, c.as_slice.ensures, c.as_slice-2.ensures) (record { leave = (answers, three_leave) })
