use Rattle.std.proofs.Common.{take, length, length-take, ap, arith}
use Rattle.std.specs.Prelude.{map}
use Rattle.std.proofs.lemmas.List.{length-map}
use Rattle.bench_reader.specs.Names.{texts_in}
use Rattle.bench_reader.specs.Scanning.{named_in}
use Rattle.bench_reader.proofs.NameLemmas.{names_length, pins_push}
use Rattle.bench_reader.proofs.numbers.words.Goals as goal

pub word-requires-clause-few : goal.word-requires-clause-few
word-requires-clause-few c =
    let done = take c.loop-pin.pin-index c.args.pins.now in
    omega (arith, ap length c.loop-pin.invariant.names, names_length (texts_in c.args.names.now) (map (named_in c.args.bytes.now) done), length-map done (named_in c.args.bytes.now), length-take c.loop-pin.pin-index c.args.pins.now, c.requires.few)

pub loop-pin-preserved : goal.loop-pin-preserved
loop-pin-preserved c =
    let h = pins_push c.args.bytes.now (texts_in c.args.names.now) (texts_in c.loop-pin.names) (texts_in c.word.new.names) c.args.pins.now c.loop-pin.pin-index _ c.loop-pin.words c.push.new.self c.in_ok-word.word c.loop-pin-test.true
    c.loop-pin.invariant.names c.loop-pin.invariant.words c.in_ok-word.ensures.names c.in_ok-word.ensures.word c.in_ok-push.ensures.ok in
    record { names = h.0; words = h.1 }
