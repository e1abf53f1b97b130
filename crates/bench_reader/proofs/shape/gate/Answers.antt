use Rattle.std.proofs.Common.{◌≡◌, ◌∙◌, length, true, false, sym, ap, arith}
use Rattle.bench_reader.specs.Grammar.{takes}
use Rattle.bench_reader.specs.Shapes.{driver_in}
use Rattle.bench_reader.proofs.PinLemmas.{gate_refused, gate_whole}
use Rattle.bench_reader.proofs.shape.gate.Goals as goal

pub returns-then-not-takes-clause-refused : goal.returns-then-not-takes-clause-refused
returns-then-not-takes-clause-refused c =
    let text = c.args.bytes.now in
    let head = c.in_ok-head.head in
    let n : c.len.result ≡ length c.in_ok-pins.pins.items = omega (arith, c.len.ensures, c.in_ok-pins.pins.ok.0) in
    let wrong : takes (driver_in head.driver) (length c.in_ok-pins.pins.items) ≡ false = ap (takes (driver_in head.driver)) (sym n) ∙ sym c.takes.ensures ∙ c.if-not-takes.true in
    (c.in_ok-head.ensures.head.word.place, gate_refused text head c.in_ok-head.ensures.head _ c.in_ok-head.ensures.tokens (c.in_ok-pins.pins, c.in_ok-pins.place) c.in_ok-pins.ensures.ok wrong)

pub returns-clause-ok : goal.returns-clause-ok
returns-clause-ok c =
    let text = c.args.bytes.now in
    let head = c.in_ok-head.head in
    let n : c.len.result ≡ length c.in_ok-pins.pins.items = omega (arith, c.len.ensures, c.in_ok-pins.pins.ok.0) in
    let right : takes (driver_in head.driver) (length c.in_ok-pins.pins.items) ≡ true = ap (takes (driver_in head.driver)) (sym n) ∙ sym c.takes.ensures ∙ c.if-not-takes.false in
    gate_whole text head c.in_ok-head.ensures.head _ c.in_ok-head.ensures.tokens (c.in_ok-pins.pins, c.in_ok-pins.place) c.in_ok-pins.ensures.ok right
