use Rattle.std.proofs.Common.{◌≤◌, ◌-◌, length, take}
use Rattle.dia_check.specs.Reader.{IsReading}
use Rattle.dia_check.proofs.in_memory.feed_text.Given as goal

abbrev pub invariant-loop-done : goal.invariant-loop-done
invariant-loop-done l = record {
  reading : IsReading l.subject (take l.done l.text) l.reader;
  within : l.done ≤ length l.text;
}

abbrev pub decreases-loop-done : goal.decreases-loop-done
decreases-loop-done l = length l.text - l.done
