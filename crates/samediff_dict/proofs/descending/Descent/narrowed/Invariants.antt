use Rattle.std.proofs.Common.{◌-◌, ◌<◌, ◌≤◌}
use Rattle.samediff_dict.specs.Descent.{IsNarrowed}
use Rattle.samediff_dict.proofs.descending.Descent.narrowed.Given as goal

abbrev pub invariant-loop-done : goal.invariant-loop-done
invariant-loop-done l = record {
  more : l.first < l.done;
  within : l.done ≤ l.end;
  narrowed : IsNarrowed l.self l.first l.done l.part l.rest;
}

abbrev pub decreases-loop-done : goal.decreases-loop-done
decreases-loop-done l = l.end - l.done
