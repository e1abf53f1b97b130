use Rattle.std.proofs.Common.{◌≡◌, Some, sym}
use Rattle.bench_reader.specs.Grammar.{Named, observed_phrase}
use Rattle.bench_reader.specs.Scanning.{text_in, IsNext}
use Rattle.bench_reader.specs.Shapes.{port_phrase}
use Rattle.bench_reader.proofs.StateLemmas.{observed_unknown, observed_no_name, observed_no_close, observed_is}
use Rattle.bench_reader.proofs.shape.observed.Goals as goal

pub returns-in_default-clause-refused : goal.returns-in_default-clause-refused
returns-in_default-clause-refused c =
    (c.requires.word.place, observed_unknown c.args.bytes.now c.args.word c.args.bracket c.requires.is_name c.requires.is_bracket (λ n. rw c.text_of-text.ensures at (sym (c.in_default.ensures n))))

pub returns-in_default-kind : goal.returns-in_default-kind
returns-in_default-kind c =
    let text = c.args.bytes.now in
    let next : IsNext text c.args.bracket.end c.next_lexeme-name.result = rw c.behind.ensures.byte at c.next_lexeme-name.ensures in
    let port : (n : Named) → observed_phrase (text_in text c.args.word) n ≡ Some (port_phrase c.in-Some.port n) = λ n. rw c.text_of-text.ensures at (sym (c.in-Some.ensures n)) in
    record { ok = tt; refused = observed_no_name text c.args.word c.args.bracket c.requires.is_name c.requires.is_bracket c.in-Some.port port c.next_lexeme-name.result c.stop.result next c.in_default-kind.not-Name c.stop.ensures }

pub returns-in_default-kind-2 : goal.returns-in_default-kind-2
returns-in_default-kind-2 c =
    let text = c.args.bytes.now in
    let next : IsNext text c.args.bracket.end c.next_lexeme-name.result = rw c.behind.ensures.byte at c.next_lexeme-name.ensures in
    let after : IsNext text c.next_lexeme-name.result.end c.next_lexeme-close.result = rw c.behind-2.ensures.byte at c.next_lexeme-close.ensures in
    let port : (n : Named) → observed_phrase (text_in text c.args.word) n ≡ Some (port_phrase c.in-Some.port n) = λ n. rw c.text_of-text.ensures at (sym (c.in-Some.ensures n)) in
    record { ok = tt; refused = observed_no_close text c.args.word c.args.bracket c.requires.is_name c.requires.is_bracket c.in-Some.port port c.next_lexeme-name.result next c.in-Name.is c.next_lexeme-close.result c.stop-in_default-kind-2.result after c.in_default-kind-2.not-CloseBracket c.stop-in_default-kind-2.ensures }

pub returns-clause-ok : goal.returns-clause-ok
returns-clause-ok c =
    let text = c.args.bytes.now in
    let next : IsNext text c.args.bracket.end c.next_lexeme-name.result = rw c.behind.ensures.byte at c.next_lexeme-name.ensures in
    let after : IsNext text c.next_lexeme-name.result.end c.next_lexeme-close.result = rw c.behind-2.ensures.byte at c.next_lexeme-close.ensures in
    let port : (n : Named) → observed_phrase (text_in text c.args.word) n ≡ Some (port_phrase c.in-Some.port n) = λ n. rw c.text_of-text.ensures at (sym (c.in-Some.ensures n)) in
    observed_is text c.args.word c.args.bracket c.requires.is_name c.requires.is_bracket c.in-Some.port port c.next_lexeme-name.result next c.in-Name.is c.next_lexeme-close.result c.behind-3.result after c.in-CloseBracket.is c.behind-3.ensures.byte c.behind-3.ensures.line
