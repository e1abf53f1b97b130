-- The statements of a netlist, as forms of token lists.
use Rattle.std.specs.Prelude.{◌≡◌, ℕ, Bool, true, List, [], ◌∷◌, ◌++◌, length, find, codes, Option, None, Some, option_map, option_and_then, ◌==◌, if◌then◌else◌}
use Rattle.std.specs.Str.{str_eq_ignore_ascii_case}
use Rattle.net_model.specs.declared.gate.Kind.{Kind}
use Rattle.net_model.specs.declared.gate.Kind.TheVariants.{And, Nand, Or, Nor, Xor, Xnor, Not, Buff, Mux, Const0, Const1}
use Rattle.net_model.specs.Gate.{takes_pins}
use Rattle.text_fields.specs.Fields.{Text}
use Rattle.bench_reader.specs.Tokens.{open_bracket, close_bracket, comma_mark, equals_mark, name_run, Token}

-- ---- words

-- What drives a name: a gate of a kind, or a flip-flop.
pub data Driver : Type 0 where
  gate_driver : Kind → Driver
  flip_flop_driver : Driver

-- the gate words with their meaning
abbrev pub drivers : List (Text × Driver)
drivers =
    (codes "AND", gate_driver And) ∷ (codes "NAND", gate_driver Nand) ∷ (codes "OR", gate_driver Or) ∷ (codes "NOR", gate_driver Nor) ∷ (codes "XOR", gate_driver Xor) ∷ (codes "XNOR", gate_driver Xnor)
    ∷ (codes "NOT", gate_driver Not) ∷ (codes "BUFF", gate_driver Buff) ∷ (codes "BUF", gate_driver Buff) ∷ (codes "DFF", flip_flop_driver)
    ∷ (codes "MUX", gate_driver Mux) ∷ (codes "CONST0", gate_driver Const0) ∷ (codes "CONST1", gate_driver Const1) ∷ []

-- the meaning of a gate word, in any case, if it is one
unfoldable pub driver_of : Text → Option Driver
driver_of word = option_map (λ x. x.1) (find (λ x. str_eq_ignore_ascii_case word x.0) drivers)

-- whether a word is the keyword, in any case
abbrev pub is_word : Text → Text → Bool
is_word keyword word = str_eq_ignore_ascii_case word keyword

-- whether a gate can have `n` pins
abbrev pub takes : Driver → ℕ → Bool
takes (gate_driver kind) n = takes_pins kind n
takes flip_flop_driver n = n == 1

-- ---- statements

-- a name, and the number of its first byte
abbrev pub Named : Type 0
Named = Text × ℕ

-- An input, an observed name, or a gate: the name that it drives, the meaning of its word, the word and its pins.
pub data Phrase : Type 0 where
  input_phrase : Named → Phrase
  output_phrase : Named → Phrase
  gate_phrase : Named → Driver → Named → List Named → Phrase

-- the pins of a gate, if the tokens are pins up to the closing bracket
unfoldable pub gate_pins : List Token → Option (List Named)
gate_pins ((name_run text, at) ∷ (close_bracket, b) ∷ []) = Some ((text, at) ∷ [])
gate_pins ((name_run text, at) ∷ (comma_mark, b) ∷ tokens) = option_map (λ pins. (text, at) ∷ pins) (gate_pins tokens)
gate_pins _ = None

-- the pins of a gate by the meaning of its word: a gate that takes no pins may have none
unfoldable pub driver_pins : Driver → List Token → Option (List Named)
driver_pins driver ((close_bracket, b) ∷ []) = if takes driver 0 then Some [] else None
driver_pins driver tokens = gate_pins tokens

-- the statement of a word with a name in brackets, if the word is `INPUT` or `OUTPUT`
unfoldable pub observed_phrase : Text → Named → Option Phrase
observed_phrase word n = if is_word (codes "INPUT") word then Some (input_phrase n) else if is_word (codes "OUTPUT") word then Some (output_phrase n) else None

-- the statement of a gate that drives a name, if its word is a gate word and the tokens after the opening bracket are
-- pins
unfoldable pub driven_phrase : Named → Named → List Token → Option Phrase
driven_phrase n word tokens = option_and_then (λ driver. option_map (gate_phrase n driver word) (driver_pins driver tokens)) (driver_of word.0)

-- the statement that a whole list of tokens forms, with any number of pins, if it forms one
unfoldable pub phrase_of : List Token → Option Phrase
phrase_of ((name_run word, a) ∷ (open_bracket, b) ∷ (name_run text, at) ∷ (close_bracket, d) ∷ []) = observed_phrase word (text, at)
phrase_of ((name_run text, at) ∷ (equals_mark, b) ∷ (name_run word, w) ∷ (open_bracket, d) ∷ tokens) = driven_phrase (text, at) (word, w) tokens
phrase_of _ = None

-- A whole statement begins with these tokens.
pub record CanBegin (tokens : List Token) : Type 0 where
  pub more : List Token
  pub phrase : Phrase
  pub is : phrase_of (tokens ++ more) ≡ Some phrase

-- whether a gate has a number of pins that it takes
abbrev pub has_right_pins : Phrase → Bool
has_right_pins (input_phrase n) = true
has_right_pins (output_phrase n) = true
has_right_pins (gate_phrase n driver word pins) = takes driver (length pins)

-- ---- the names of a statement

-- the name that a statement drives, if it drives one
abbrev pub driven_name : Phrase → Option Named
driven_name (input_phrase n) = Some n
driven_name (output_phrase n) = None
driven_name (gate_phrase n driver word pins) = Some n

-- the names that a statement uses
abbrev pub used_names : Phrase → List Named
used_names (input_phrase n) = []
used_names (output_phrase n) = n ∷ []
used_names (gate_phrase n driver word pins) = pins

-- all names of a statement, as written
abbrev pub phrase_names : Phrase → List Named
phrase_names (input_phrase n) = n ∷ []
phrase_names (output_phrase n) = n ∷ []
phrase_names (gate_phrase n driver word pins) = n ∷ pins
