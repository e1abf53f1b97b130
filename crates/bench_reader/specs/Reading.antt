-- What a netlist's text reads as: the statements that its tokens form, and the names by first appearance.
use Rattle.std.specs.Prelude.{◌≡◌, ℕ, ◌≤◌, Bool, not, List, [], ◌∷◌, map, filter, filter_map, flat_map, find, length, take, unwrap_or, position, Option, Some, None, IsTrue, option_map}
use Rattle.std.specs.List.{AllZip, list_any, enumerate_from}
use Rattle.std.specs.Str.{bytes_eq}
use Rattle.text_fields.specs.Fields.{Text}
use Rattle.bench_reader.specs.declared.reading.TheConstants.{NETLIST_LIMIT}
use Rattle.bench_reader.specs.declared.fault.Place.{Place}
use Rattle.bench_reader.specs.declared.statement.Word.{Word}
use Rattle.bench_reader.specs.declared.statement.Statement.{Statement}
use Rattle.bench_reader.specs.declared.statement.Statement.TheVariants.{Input, Output, Drive, Flop}
use Rattle.bench_reader.specs.Netlist.{Netlist}
use Rattle.bench_reader.specs.Tokens.{Token, tokens_of, line_of}
use Rattle.bench_reader.specs.Grammar.{Named, Driver, gate_driver, flip_flop_driver, Phrase, input_phrase, output_phrase, gate_phrase, phrase_of, has_right_pins, driven_name, used_names, phrase_names}

-- ---- names

-- each text once, in order of its first place
abbrev pub distinct_names : List Text → List Text
distinct_names [] = []
distinct_names (text ∷ texts) = text ∷ filter (λ other. not (bytes_eq text other)) (distinct_names texts)

-- the names of the statements, in order of first appearance
unfoldable pub names_of : List Phrase → List Text
names_of phrases = distinct_names (map (λ n. n.0) (flat_map phrase_names phrases))

-- whether a name is one of `names`
abbrev pub is_among : List Named → Text → Bool
is_among names text = list_any (λ n. bytes_eq n.0 text) names

-- the names that are driven, in order
abbrev pub driven_names : List Phrase → List Named
driven_names phrases = filter_map driven_name phrases

-- the names that are used, in order
abbrev pub all_used_names : List Phrase → List Named
all_used_names phrases = flat_map used_names phrases

-- the first name that is driven after it was already driven
unfoldable pub driven_twice : List Phrase → Option Named
driven_twice phrases = option_map (λ x. x.1) (find (λ x. is_among (take x.0 (driven_names phrases)) x.1.0) (enumerate_from 0 (driven_names phrases)))

-- the first use of a name that nothing drives
unfoldable pub undriven : List Phrase → Option Named
undriven phrases = find (λ n. not (is_among (driven_names phrases) n.0)) (all_used_names phrases)

-- ---- statements with numbered names

-- the place of a byte: its number and its line
abbrev pub place_of : Text → ℕ → Place
place_of text byte = record { byte = byte; line = line_of text byte }

-- the number of a name: its place among the names
abbrev pub name_number : List Text → Text → ℕ
name_number names text = unwrap_or (position (bytes_eq text) names) 0

-- the word of a name: its number and its place
abbrev pub named_word : Text → List Text → Named → Word
named_word text names n = record { name = name_number names n.0; place = place_of text n.1 }

-- A phrase as a statement, with the word that `word` gives for each name.
module _ (word : Named → Word) where
  abbrev pub first_word : List Named → Named → Word
  first_word [] n = word n
  first_word (pin ∷ pins) n = word pin

  abbrev pub driven_statement : Driver → Named → List Named → Statement
  driven_statement (gate_driver kind) n pins = Drive (word n) kind (map word pins)
  driven_statement flip_flop_driver n pins = Flop (word n) (first_word pins n)

  abbrev pub statement_with : Phrase → Statement
  statement_with (input_phrase n) = Input (word n)
  statement_with (output_phrase n) = Output (word n)
  statement_with (gate_phrase n driver at pins) = driven_statement driver n pins

-- a phrase as a statement, with the number and the place of each of its names
unfoldable pub statement_of : Text → List Text → Phrase → Statement
statement_of text names phrase = statement_with (named_word text names) phrase

-- the statements with their names numbered, and the names in order of first appearance
abbrev pub netlist_of : Text → List Phrase → Netlist
netlist_of text phrases = record { statements = map (statement_of text (names_of phrases)) phrases; names = names_of phrases }

-- ---- the whole text

abbrev pub joined_tokens : List (List Token) → List Token
joined_tokens groups = flat_map (λ group. group) groups

-- The groups of tokens form these statements, one each, with right numbers of pins.
abbrev pub ArePhrases : List (List Token) → List Phrase → Type 0
ArePhrases groups phrases = AllZip (λ group phrase. (phrase_of group ≡ Some phrase) × IsTrue (has_right_pins phrase)) groups phrases

-- The text has at most `NETLIST_LIMIT` bytes and consists of these statements, one after another.
pub record IsText (text : Text) (phrases : List Phrase) : Type 0 where
  pub short : length text ≤ NETLIST_LIMIT
  pub groups : List (List Token)
  pub whole : tokens_of text ≡ joined_tokens groups
  pub each : ArePhrases groups phrases

-- The text is accepted, and reads as this netlist: each name that is used is driven, and none is driven twice.
pub record IsNetlist (text : Text) (netlist : Netlist) : Type 0 where
  pub phrases : List Phrase
  pub is_text : IsText text phrases
  pub once : driven_twice phrases ≡ None
  pub all_driven : undriven phrases ≡ None
  pub netlist_is : netlist ≡ netlist_of text phrases
