use Rattle.std.proofs.Common.{◌≡◌, ◌∙◌, sym, false}
use Rattle.std.specs.Prelude.{◌≢◌}
use Rattle.bench_reader.specs.declared.scanner.LexemeKind.TheVariants.{CloseBracket, Name}
use Rattle.bench_reader.specs.Grammar.{takes}
use Rattle.bench_reader.specs.Scanning.{IsNext}
use Rattle.bench_reader.specs.Shapes.{driver_in}
use Rattle.bench_reader.proofs.PinLemmas.{first_wrong, none_done}
use Rattle.bench_reader.proofs.shape.pins.Goals as goal
use Rattle.bench_reader.proofs.shape.pins.Goals.{in_default-via-in-CloseBracket+else-takes, in_default-via-in_default}

pub some_pins-requires-clause-first : goal.some_pins-requires-clause-first
some_pins-requires-clause-first c = rw c.behind.ensures.byte at c.next_lexeme-first.ensures

pub returns-in-CloseBracket-clause-ok : goal.returns-in-CloseBracket-clause-ok
returns-in-CloseBracket-clause-ok c =
    let first : IsNext c.args.bytes.now c.args.head.bracket.end c.next_lexeme-first.result = rw c.behind.ensures.byte at c.next_lexeme-first.ensures in
    none_done c.args.bytes.now c.args.head c.requires.head c.next_lexeme-first.result c.behind-in-CloseBracket.result c.new.result c.new.ensures.items first c.in-CloseBracket.is
    (sym c.takes.ensures ∙ c.if-takes.true) c.behind-in-CloseBracket.ensures.byte c.behind-in-CloseBracket.ensures.line

pub returns-in_default-clause-refused : goal.returns-in_default-clause-refused
returns-in_default-clause-refused c =
    let first : IsNext c.args.bytes.now c.args.head.bracket.end c.next_lexeme-first.result = rw c.behind.ensures.byte at c.next_lexeme-first.ensures in
    let kind = c.next_lexeme-first.result.kind in
    let named : kind ≢ Name = elim c.in_default.branch [ in_default-via-in-CloseBracket+else-takes w ↦ (let e = w.in-CloseBracket.is in λ f. cc) | in_default-via-in_default w ↦ w.in_default.not-Name ] in
    let closes : (kind ≡ CloseBracket → takes (driver_in c.args.head.driver) 0 ≡ false) = elim c.in_default.branch [ in_default-via-in-CloseBracket+else-takes w ↦ (λ f. sym w.takes.ensures ∙ w.if-takes.false) | in_default-via-in_default w ↦ (λ f. absurd (w.in_default.not-CloseBracket f)) ] in
    first_wrong c.args.bytes.now c.args.head c.requires.head c.next_lexeme-first.result c.stop.result first named closes c.stop.ensures
