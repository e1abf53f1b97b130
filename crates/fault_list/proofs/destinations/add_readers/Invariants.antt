use Rattle.std.proofs.Common.{take}
use Rattle.fault_list.specs.Destinations.{reader_site, AddsReaders}
use Rattle.fault_list.proofs.destinations.add_readers.Given as goal

abbrev pub invariant-loop-place : goal.invariant-loop-place
invariant-loop-place l = AddsReaders (reader_site l.readers) (take l.place l.lines) l.fn.found l.found
