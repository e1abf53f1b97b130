use Rattle.std.proofs.Common.{◌≡◌, ◌∙◌, ◌+◌, ◌<◌, ◌≤◌, ◌^◌, ◌++◌, ◌∷◌, [], true, length, sym, ap, subst, arith}
use Rattle.std.specs.Prelude.{map, All, IsTrue}
use Rattle.std.proofs.lemmas.List.{length-map}
use Rattle.bench_reader.specs.Grammar.{phrase_names, takes}
use Rattle.bench_reader.specs.Names.{texts_in}
use Rattle.bench_reader.specs.Reading.{named_word, statement_of}
use Rattle.bench_reader.specs.Scanning.{named_in, IsLexeme}
use Rattle.bench_reader.specs.Shapes.{phrase_in, driver_in}
use Rattle.bench_reader.specs.Numbering.{is_one_of, with_names, port_statement, gate_statement}
use Rattle.bench_reader.proofs.NameLemmas.{name_grows, names_grow, names_length, word_stays, port_words, gate_words, all_tail}
use Rattle.bench_reader.proofs.numbers.statement.Goals as goal

pub words-requires-clause-pins : goal.words-requires-clause-pins
words-requires-clause-pins c =
    let text = c.args.bytes.now in
    let all : All (IsLexeme text) (c.in-Gate.name ∷ c.in-Gate.pins.items) = rw c.in-Gate.is at c.requires.names in
    rw c.as_slice.ensures.value (all_tail (IsLexeme text) c.in-Gate.name c.in-Gate.pins.items all)

pub returns-in_ok-word-in-Port-clause-statement : goal.returns-in_ok-word-in-Port-clause-statement
returns-in_ok-word-in-Port-clause-statement c =
    let text = c.args.bytes.now in
    let names = texts_in c.word.new.names in
    c.port_statement.ensures ∙ ap (port_statement c.in-Port.port) c.in_ok-word-in-Port.ensures.word ∙ port_words text names c.in-Port.port (named_in text c.in-Port.name)
    ∙ ap (λ shape. statement_of text names (phrase_in text shape)) (sym c.in-Port.is)

pub returns-in_ok-pins-in-Gate-clause-statement : goal.returns-in_ok-pins-in-Gate-clause-statement
returns-in_ok-pins-in-Gate-clause-statement c =
    let text = c.args.bytes.now in
    let first = texts_in c.word-in-Gate.new.names in
    let names = texts_in c.words.new.names in
    let n = named_in text c.in-Gate.name in
    let pins = map (named_in text) c.in-Gate.pins.items in
    let driver = driver_in c.in-Gate.driver in
    let grown = names_grow first pins in
    let all : names ≡ with_names first pins = rw c.as_slice.ensures.value at c.in_ok-pins-in-Gate.ensures.names in
    let words : c.in_ok-pins-in-Gate.pins ≡ map (named_word text names) pins = rw c.as_slice.ensures.value at c.in_ok-pins-in-Gate.ensures.words in
    let longer : names ≡ first ++ grown.0 = all ∙ grown.1 in
    let member : is_one_of first n.0 ≡ true = rw c.in_ok-word-in-Gate.ensures.names (name_grows (texts_in c.args.names.now) n.0).2 in
    let word : c.in_ok-word-in-Gate.word ≡ named_word text names n = c.in_ok-word-in-Gate.ensures.word ∙ word_stays text first grown.0 n member ∙ sym (ap (λ ns. named_word text ns n) longer) in
    c.gate_statement.ensures ∙ ap (λ w. gate_statement driver w c.in_ok-pins-in-Gate.pins) word ∙ ap (gate_statement driver (named_word text names n)) words ∙ gate_words text names driver n (named_in text c.in-Gate.field-2) pins
    ∙ ap (λ shape. statement_of text names (phrase_in text shape)) (sym c.in-Gate.is)

pub word-requires-clause-few : goal.word-requires-clause-few
word-requires-clause-few c = omega (arith, c.requires.few)

pub word-requires-clause-name : goal.word-requires-clause-name
word-requires-clause-name c =
    let all : All (IsLexeme c.args.bytes.now) (c.in-Port.name ∷ []) = rw c.in-Port.is at c.requires.names in
    all 0 c.in-Port.name (omega arith)

pub word-requires-in-Gate-clause-few : goal.word-requires-in-Gate-clause-few
word-requires-in-Gate-clause-few c = omega (arith, c.requires.few)

pub word-requires-in-Gate-clause-name : goal.word-requires-in-Gate-clause-name
word-requires-in-Gate-clause-name c =
    let all : All (IsLexeme c.args.bytes.now) (c.in-Gate.name ∷ c.in-Gate.pins.items) = rw c.in-Gate.is at c.requires.names in
    all 0 c.in-Gate.name (omega arith)

pub words-requires-clause-few : goal.words-requires-clause-few
words-requires-clause-few c =
    let text = c.args.bytes.now in
    let pins = c.in-Gate.pins.items in
    let old = texts_in c.args.names.now in
    let grown : length (texts_in c.word-in-Gate.new.names) ≤ length old + 1 = rw c.in_ok-word-in-Gate.ensures.names (names_length old (named_in text c.in-Gate.name ∷ [])) in
    let few : length old + length (named_in text c.in-Gate.name ∷ map (named_in text) pins) < 2 ^ 31 = rw c.in-Gate.is at c.requires.few in
    omega (arith, grown, few, length-map pins (named_in text), ap length c.as_slice.ensures.value)

pub gate_statement-requires : goal.gate_statement-requires
gate_statement-requires c =
    let text = c.args.bytes.now in
    let pins = map (named_in text) c.in-Gate.pins.items in
    let driver = driver_in c.in-Gate.driver in
    let right : IsTrue (takes driver (length pins)) = rw c.in-Gate.is at c.requires.pins in
    let words : c.in_ok-pins-in-Gate.pins ≡ map (named_word text (texts_in c.words.new.names)) pins = rw c.as_slice.ensures.value at c.in_ok-pins-in-Gate.ensures.words in
    subst (λ n. IsTrue (takes driver n)) (sym (ap length words ∙ length-map pins (named_word text (texts_in c.words.new.names)))) right

pub returns-in_ok-pins-in-Gate-clause-names : goal.returns-in_ok-pins-in-Gate-clause-names
returns-in_ok-pins-in-Gate-clause-names c =
    let text = c.args.bytes.now in
    let old = texts_in c.args.names.now in
    let pins = map (named_in text) c.in-Gate.pins.items in
    let all : texts_in c.words.new.names ≡ with_names (texts_in c.word-in-Gate.new.names) pins = rw c.as_slice.ensures.value at c.in_ok-pins-in-Gate.ensures.names in
    all ∙ ap (λ names. with_names names pins) c.in_ok-word-in-Gate.ensures.names ∙ ap (λ shape. with_names old (phrase_names (phrase_in text shape))) (sym c.in-Gate.is)
