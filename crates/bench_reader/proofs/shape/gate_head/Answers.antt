use Rattle.std.proofs.Common.{◌≡◌, Some, None, sym}
use Rattle.bench_reader.specs.Grammar.{driver_of}
use Rattle.bench_reader.specs.Scanning.{text_in, IsNext}
use Rattle.bench_reader.specs.Shapes.{driver_in}
use Rattle.bench_reader.proofs.StateLemmas.{gate_no_word, gate_unknown, gate_no_bracket}
use Rattle.bench_reader.proofs.shape.gate_head.Goals as goal

pub returns-in_default : goal.returns-in_default
returns-in_default c =
    let text = c.args.bytes.now in
    let next : IsNext text c.args.equals.end c.next_lexeme-word.result = rw c.behind.ensures.byte at c.next_lexeme-word.ensures in
    record { head = tt; tokens = tt; refused = gate_no_word text c.args.name c.args.equals c.requires.is_name c.requires.is_equals c.next_lexeme-word.result c.stop.result next c.in_default.not-Name c.stop.ensures }

pub returns-in_default-driver_of-clause-refused : goal.returns-in_default-driver_of-clause-refused
returns-in_default-driver_of-clause-refused c =
    let text = c.args.bytes.now in
    let next : IsNext text c.args.equals.end c.next_lexeme-word.result = rw c.behind.ensures.byte at c.next_lexeme-word.ensures in
    let none : driver_of (text_in text c.next_lexeme-word.result) ≡ None = rw c.text_of.ensures at (sym c.in_default-driver_of.ensures) in
    (next.lexeme.place, gate_unknown text c.args.name c.args.equals c.requires.is_name c.requires.is_equals c.next_lexeme-word.result next c.in-Name.is none)

pub returns-in_default-kind : goal.returns-in_default-kind
returns-in_default-kind c =
    let text = c.args.bytes.now in
    let next : IsNext text c.args.equals.end c.next_lexeme-word.result = rw c.behind.ensures.byte at c.next_lexeme-word.ensures in
    let after : IsNext text c.next_lexeme-word.result.end c.next_lexeme-bracket.result = rw c.behind-2.ensures.byte at c.next_lexeme-bracket.ensures in
    let driver : driver_of (text_in text c.next_lexeme-word.result) ≡ Some (driver_in c.in-Some.driver) = rw c.text_of.ensures at (sym c.in-Some.ensures) in
    record { head = tt; tokens = tt; refused = gate_no_bracket text c.args.name c.args.equals c.requires.is_name c.requires.is_equals c.next_lexeme-word.result next c.in-Name.is (driver_in c.in-Some.driver) driver c.next_lexeme-bracket.result c.stop-in_default-kind.result after c.in_default-kind.not-OpenBracket c.stop-in_default-kind.ensures }
