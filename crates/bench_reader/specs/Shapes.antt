-- The statements that a reader finds, as statements of the grammar.
use Rattle.std.specs.Prelude.{◌≡◌, ◌≤◌, List, [], ◌∷◌, ◌++◌, length, map, All, IsTrue, Some, Vec}
use Rattle.std.specs.declared.alloc.Global.{Global}
use Rattle.text_fields.specs.Fields.{Text}
use Rattle.bench_reader.specs.declared.fault.NetKind.{NetKind}
use Rattle.bench_reader.specs.declared.fault.NetKind.TheVariants as kind
use Rattle.bench_reader.specs.declared.fault.Place.{Place}
use Rattle.bench_reader.specs.declared.scanner.LexemeKind.{LexemeKind}
use Rattle.bench_reader.specs.declared.scanner.LexemeKind.TheVariants as lexeme
use Rattle.bench_reader.specs.declared.scanner.Lexeme.{Lexeme}
use Rattle.bench_reader.specs.declared.word.Driver.{Driver}
use Rattle.bench_reader.specs.declared.word.Driver.TheVariants as found
use Rattle.bench_reader.specs.declared.word.Port.{Port}
use Rattle.bench_reader.specs.declared.word.Port.TheVariants as port
use Rattle.bench_reader.specs.declared.shape.Shape.{Shape}
use Rattle.bench_reader.specs.declared.shape.Shape.TheVariants as shape
use Rattle.bench_reader.specs.declared.shape.GateHead.{GateHead}
use Rattle.bench_reader.specs.Tokens.{Token}
use Rattle.bench_reader.specs.Grammar.{Named, gate_driver, flip_flop_driver, driver_of, Phrase, input_phrase, output_phrase, gate_phrase, phrase_of, driver_pins, has_right_pins}
use Rattle.bench_reader.specs.Grammar as grammar
use Rattle.bench_reader.specs.Scanning.{tokens_at, IsPlace, text_in, named_in, token_in, IsLexeme}

-- the rule that is broken by a lexeme with which a statement can't go on
abbrev pub stop_kind : LexemeKind → NetKind
stop_kind lexeme.BadByte = kind.BadByte
stop_kind _ = kind.Expected

abbrev pub driver_in : Driver → grammar.Driver
driver_in (found.Gate kind) = gate_driver kind
driver_in found.FlipFlop = flip_flop_driver

abbrev pub port_phrase : Port → Named → Phrase
port_phrase port.Input n = input_phrase n
port_phrase port.Output n = output_phrase n

-- the statement that a shape is, with its names
abbrev pub phrase_in : Text → Shape → Phrase
phrase_in text (shape.Port port n) = port_phrase port (named_in text n)
phrase_in text (shape.Gate n driver word pins) = gate_phrase (named_in text n) (driver_in driver) (named_in text word) (map (named_in text) pins.items)

-- the names of a statement
abbrev pub names_in : Shape → List Lexeme
names_in (shape.Port port n) = n ∷ []
names_in (shape.Gate n driver word pins) = n ∷ pins.items

-- The tokens begin with this statement, its number of pins is right, and the place is after it.
pub record IsStatement (text : Text) (tokens : List Token) (found : Shape × Place) : Type 0 where
  pub group : List Token
  pub whole : tokens ≡ group ++ tokens_at text found.1.byte
  pub is : phrase_of group ≡ Some (phrase_in text found.0)
  pub right : IsTrue (has_right_pins (phrase_in text found.0))
  pub names : All (IsLexeme text) (names_in found.0)
  pub place : IsPlace text found.1
  pub within : found.1.byte ≤ length text

-- ---- gates

abbrev pub head_tokens : Text → GateHead → List Token
head_tokens text head = token_in text head.name ∷ token_in text head.equals ∷ token_in text head.word ∷ token_in text head.bracket ∷ []

-- The tokens at the beginning of a gate are of these kinds and, except the equals sign, at their places. The word means
-- this.
pub record IsGateHead (text : Text) (head : GateHead) : Type 0 where
  pub name : IsLexeme text head.name
  pub is_name : head.name.kind ≡ lexeme.Name
  pub is_equals : head.equals.kind ≡ lexeme.Equals
  pub is_word : head.word.kind ≡ lexeme.Name
  pub word : IsLexeme text head.word
  pub is_bracket : head.bracket.kind ≡ lexeme.OpenBracket
  pub bracket : IsLexeme text head.bracket
  pub driver : driver_of (text_in text head.word) ≡ Some (driver_in head.driver)

-- The beginning of a gate is followed by these pins and a closing bracket, and the place is after that.
pub record ArePins (text : Text) (head : GateHead) (found : Vec Lexeme Global × Place) : Type 0 where
  pub group : List Token
  pub whole : tokens_at text head.bracket.end ≡ group ++ tokens_at text found.1.byte
  pub are : driver_pins (driver_in head.driver) group ≡ Some (map (named_in text) found.0.items)
  pub names : All (IsLexeme text) found.0.items
  pub place : IsPlace text found.1
  pub within : found.1.byte ≤ length text
