use Rattle.std.proofs.Common.{◌≤◌, ◌+◌, ◌-◌, IsTrue, IsSome}
use Rattle.diag_shelf.specs.Calls.{SameFacts, Told, OnlyReads}
use Rattle.result_records.specs.declared.limits.TheConstants.{RESULT_LIMIT}
use Rattle.dia_check.specs.Rest.{IsReadSoFar}
use Rattle.dia_check.proofs.checking.read_rest.Given as goal

abbrev pub invariant-loop-taken : goal.invariant-loop-taken
invariant-loop-taken g l =
    let state = g.S.Shelf.state in
    record {
      facts : SameFacts (state l.fn.shelf) (state l.shelf);
      only : Told (state l.fn.shelf) (state l.shelf) OnlyReads;
      opened : IsTrue (state l.fn.shelf).tells → IsSome (state l.shelf).world.rest;
      so_far : IsReadSoFar l.subject l.taken l.reader (state l.fn.shelf) (state l.shelf);
      few : l.taken ≤ RESULT_LIMIT + 1;
    }

abbrev pub decreases-loop-taken : goal.decreases-loop-taken
decreases-loop-taken g l = RESULT_LIMIT + 2 - l.taken
