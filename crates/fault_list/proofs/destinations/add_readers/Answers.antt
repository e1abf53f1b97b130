use Rattle.fault_list.specs.Destinations.{reader_site}
use Rattle.fault_list.proofs.Readers.{adds_none, adds_more}
use Rattle.fault_list.proofs.destinations.add_readers.Goals as goal

pub loop-place-init : goal.loop-place-init
loop-place-init c = adds_none (reader_site c.args.readers) c.args.lines.now c.args.found.now

pub loop-place-preserved : goal.loop-place-preserved
loop-place-preserved c =
    rw (c.in_ok-add.ensures.ok, c.reader_site.ensures)
    (adds_more (reader_site c.args.readers) c.args.lines.now c.loop-place.place c.args.found.now c.loop-place.found c.loop-place-test.true (c.requires.inside c.loop-place.place 0 c.loop-place-test.true) c.loop-place.invariant)
