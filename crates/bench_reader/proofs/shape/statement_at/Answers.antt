use Rattle.bench_reader.specs.Scanning.{IsNext}
use Rattle.bench_reader.proofs.StopLemmas.{stop_first, stop_second}
use Rattle.bench_reader.proofs.shape.statement_at.Goals as goal

pub returns-in_default : goal.returns-in_default
returns-in_default c = record { ok = tt; refused = stop_first c.args.bytes.now c.args.first c.stop.result c.requires.first.place c.stop.ensures c.requires.some c.in_default.not-Name }

pub returns-in_default-kind : goal.returns-in_default-kind
returns-in_default-kind c =
    let text = c.args.bytes.now in
    let next : IsNext text c.args.first.end c.next_lexeme-second.result = rw c.behind.ensures.byte at c.next_lexeme-second.ensures in
    record { ok = tt; refused = stop_second text c.args.first c.next_lexeme-second.result c.stop-in_default-kind.result c.in-Name.is next c.in_default-kind.not-OpenBracket c.in_default-kind.not-Equals c.stop-in_default-kind.ensures }
