use Rattle.bench_reader.specs.Scanning.{IsNext}
use Rattle.bench_reader.specs.Shapes.{driver_in}
use Rattle.bench_reader.proofs.PinLemmas.{no_pins, pins_no_mark, pins_more, pins_no_name, pins_fewer, pins_done}
use Rattle.bench_reader.proofs.shape.some_pins.Goals as goal

pub pins-init : goal.pins-init
pins-init c = record {
  byte = c.args.head.bracket.end;
  read = rw c.new-pins.ensures.items (no_pins c.args.bytes.now (driver_in c.args.head.driver) c.args.head.bracket.end);
  next = c.requires.first;
  named = c.requires.is_name;
}

pub returns-in-CloseBracket-clause-ok : goal.returns-in-CloseBracket-clause-ok
returns-in-CloseBracket-clause-ok c =
    let text = c.args.bytes.now in
    let s = c.pins.invariant in
    let after : IsNext text c.pins.pin.end c.next_lexeme-mark.result = rw c.behind.ensures.byte at c.next_lexeme-mark.ensures in
    pins_done text c.args.head c.requires.head c.pins.pins.items s.byte s.read c.pins.pin s.next s.named c.next_lexeme-mark.result c.behind-in-CloseBracket.result c.push.new.self
    c.in_ok-push.ensures.items after c.in-CloseBracket.is c.behind-in-CloseBracket.ensures.byte c.behind-in-CloseBracket.ensures.line

pub returns-in_default : goal.returns-in_default
returns-in_default c =
    let text = c.args.bytes.now in
    let s = c.pins.invariant in
    let after : IsNext text c.pins.pin.end c.next_lexeme-mark.result = rw c.behind.ensures.byte at c.next_lexeme-mark.ensures in
    record { ok = tt; refused = pins_no_mark text c.args.head c.requires.head c.pins.pins.items s.byte s.read c.pins.pin s.next s.named c.next_lexeme-mark.result c.stop.result after c.in_default.not-Comma c.in_default.not-CloseBracket c.stop.ensures }

pub pins-preserved : goal.pins-preserved
pins-preserved c =
    let text = c.args.bytes.now in
    let s = c.pins.invariant in
    let mark = c.next_lexeme-mark.result in
    let after : IsNext text c.pins.pin.end mark = rw c.behind.ensures.byte at c.next_lexeme-mark.ensures in
    record {
      byte = mark.end;
      read = rw c.in_ok-push.ensures.items (pins_more text c.args.head c.requires.head c.pins.pins.items s.byte s.read c.pins.pin s.next s.named mark after c.in-Comma.is);
      next = rw c.behind-in-pins.ensures.byte at c.next_lexeme-pin.ensures;
      named = c.in-Name.is;
    }

pub pins-smaller : goal.pins-smaller
pins-smaller c =
    let s = c.pins.invariant in
    let after : IsNext c.args.bytes.now c.pins.pin.end c.next_lexeme-mark.result = rw c.behind.ensures.byte at c.next_lexeme-mark.ensures in
    let beyond : IsNext c.args.bytes.now c.next_lexeme-mark.result.end c.next_lexeme-pin.result = rw c.behind-in-pins.ensures.byte at c.next_lexeme-pin.ensures in
    pins_fewer c.args.bytes.now c.args.head c.requires.head c.pins.pins.items s.byte s.read c.pins.pin s.next s.named c.next_lexeme-mark.result after c.in-Comma.is c.next_lexeme-pin.result beyond c.in-Name.is

pub returns-in_default-kind : goal.returns-in_default-kind
returns-in_default-kind c =
    let text = c.args.bytes.now in
    let s = c.pins.invariant in
    let mark = c.next_lexeme-mark.result in
    let after : IsNext text c.pins.pin.end mark = rw c.behind.ensures.byte at c.next_lexeme-mark.ensures in
    let beyond : IsNext text mark.end c.next_lexeme-pin.result = rw c.behind-in-pins.ensures.byte at c.next_lexeme-pin.ensures in
    record { ok = tt; refused = pins_no_name text c.args.head c.requires.head c.pins.pins.items s.byte s.read c.pins.pin s.next s.named mark after c.in-Comma.is c.next_lexeme-pin.result c.stop-in_default-kind.result beyond c.in_default-kind.not-Name c.stop-in_default-kind.ensures }
