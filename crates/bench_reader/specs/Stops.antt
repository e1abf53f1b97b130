-- How the grammar refuses a text.
use Rattle.std.specs.Prelude.{◌≡◌, ◌≢◌, ℕ, false, List, [], ◌∷◌, ◌++◌, length, None, Some}
use Rattle.text_fields.specs.Fields.{Text}
use Rattle.bench_reader.specs.declared.fault.NetKind.{NetKind}
use Rattle.bench_reader.specs.declared.fault.NetKind.TheVariants as kind
use Rattle.bench_reader.specs.declared.fault.NetFault.{NetFault}
use Rattle.bench_reader.specs.declared.fault.NetFault.TheVariants.{At, Loop, NoMemory}
use Rattle.bench_reader.specs.Tokens.{Token}
use Rattle.bench_reader.specs.Grammar.{Named, Driver, Phrase, gate_phrase, phrase_of, has_right_pins, CanBegin}
use Rattle.bench_reader.specs.Reading.{ArePhrases}
use Rattle.bench_reader.specs.Refusal.{stop_of, StopsAt, TextRefused}
use Rattle.bench_reader.specs.Scanning.{IsPlace}

-- After whole statements the text breaks this rule at this byte.
pub record IsRefusedByGrammar (text : Text) (stop : NetKind × ℕ) : Type 0 where
  pub before : List (List Token)
  pub phrases : List Phrase
  pub whole : ArePhrases before phrases
  pub stops : StopsAt text before stop

-- The fault is a rule of the grammar that the text breaks, and the place; missing memory is always possible.
abbrev pub IsGrammarFault : Text → NetFault → Type 0
IsGrammarFault text (At kind place) = IsPlace text place × IsRefusedByGrammar text (kind, place.byte)
IsGrammarFault text (Loop place names) = ⊥
IsGrammarFault text NoMemory = Unit {0}

-- In a text of `size` bytes the tokens, which begin a statement, break this rule at this byte: at a token, at the end
-- of the text, or by a wrong number of pins.
pub data StopsIn (size : ℕ) (tokens : List Token) (stop : NetKind × ℕ) : Type 0 where
  in_token : (part : List Token) (token : Token) (more : List Token) → tokens ≡ part ++ token ∷ more → CanBegin part → ¬ CanBegin (part ++ token ∷ []) → phrase_of part ≡ None → stop ≡ stop_of part token → StopsIn size tokens stop
  in_end : tokens ≢ [] → CanBegin tokens → phrase_of tokens ≡ None → stop ≡ (kind.Expected, size) → StopsIn size tokens stop
  in_pins : (part : List Token) (n : Named) (driver : Driver) (word : Named) (pins : List Named) (more : List Token) → tokens ≡ part ++ more → phrase_of part ≡ Some (gate_phrase n driver word pins) → has_right_pins (gate_phrase n driver word pins) ≡ false → stop ≡ (kind.WrongPins, word.1) → StopsIn size tokens stop

-- The fault says how the tokens of a statement stop; missing memory is always possible.
abbrev pub IsStop : Text → List Token → NetFault → Type 0
IsStop text tokens (At kind place) = IsPlace text place × StopsIn (length text) tokens (kind, place.byte)
IsStop text tokens (Loop place names) = ⊥
IsStop text tokens NoMemory = Unit {0}

-- The fault is the rule by which the text is refused and the place of the byte, as in `TextRefused`; missing memory is
-- always possible, a loop never.
abbrev pub IsTextFault : Text → NetFault → Type 0
IsTextFault text (At kind place) = IsPlace text place × TextRefused text (kind, place.byte)
IsTextFault text (Loop place names) = ⊥
IsTextFault text NoMemory = Unit {0}
