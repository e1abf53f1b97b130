-- Statements as they are written: the tokens and the lines that spell them, and the statements that they read as.
use Rattle.std.specs.Prelude.{◌≡◌, ◌≢◌, ◌<◌, List, [], ◌∷◌, ◌++◌, length, codes, map, filter_map, flat_map, All, AllPairs, Contains, IsTrue, Option, None, Some}
use Rattle.std.specs.List.{AllZip, list_all}
use Rattle.text_fields.specs.Fields.{Text}
use Rattle.bench_reader.specs.declared.statement.Statement.{Statement}
use Rattle.bench_reader.specs.declared.statement.Statement.TheVariants.{Input, Output, Drive, Flop}
use Rattle.bench_reader.specs.Netlist.{Netlist}
use Rattle.bench_reader.specs.Tokens.{is_name_byte, Piece, open_bracket, close_bracket, comma_mark, equals_mark, name_run, tokens_of}
use Rattle.bench_reader.specs.Grammar.{Driver, gate_driver, flip_flop_driver, driver_of, takes}
use Rattle.bench_reader.specs.Reading.{distinct_names, name_number}

-- An input, an observed name, or a gate: the name that it drives, its word and its pins.
pub data Written : Type 0 where
  written_input : Text → Written
  written_output : Text → Written
  written_gate : Text → Text → List Text → Written

-- ---- names

-- the name that a statement drives, if it drives one
abbrev pub written_driven : Written → Option Text
written_driven (written_input n) = Some n
written_driven (written_output n) = None
written_driven (written_gate n word pins) = Some n

-- the names that a statement uses
abbrev pub written_used : Written → List Text
written_used (written_input n) = []
written_used (written_output n) = n ∷ []
written_used (written_gate n word pins) = pins

-- all names of a statement, as written
abbrev pub written_names : Written → List Text
written_names (written_input n) = n ∷ []
written_names (written_output n) = n ∷ []
written_names (written_gate n word pins) = n ∷ pins

-- A gate has a word that means a gate or a flip-flop, and a number of pins that this takes.
abbrev pub HasRightWord : Written → Type 0
HasRightWord (written_input n) = Unit {0}
HasRightWord (written_output n) = Unit {0}
HasRightWord (written_gate n word pins) = (driver : Driver) × (driver_of word ≡ Some driver) × IsTrue (takes driver (length pins))

-- The statements are right together: gates have right words, no name is driven twice, and each name that is used is
-- driven.
pub record AreRightTogether (statements : List Written) : Type 0 where
  pub words : All HasRightWord statements
  pub once : AllPairs (λ a b. a ≢ b) (filter_map written_driven statements)
  pub driven : All (Contains (filter_map written_driven statements)) (flat_map written_used statements)

-- ---- tokens

-- pins with a comma between two of them, and the closing bracket
abbrev pub spelled_pins : List Text → List Piece
spelled_pins [] = close_bracket ∷ []
spelled_pins (pin ∷ []) = name_run pin ∷ close_bracket ∷ []
spelled_pins (pin ∷ other ∷ pins) = name_run pin ∷ comma_mark ∷ spelled_pins (other ∷ pins)

-- the tokens of a statement
abbrev pub spelled : Written → List Piece
spelled (written_input n) = name_run (codes "INPUT") ∷ open_bracket ∷ name_run n ∷ close_bracket ∷ []
spelled (written_output n) = name_run (codes "OUTPUT") ∷ open_bracket ∷ name_run n ∷ close_bracket ∷ []
spelled (written_gate n word pins) = name_run n ∷ equals_mark ∷ name_run word ∷ open_bracket ∷ spelled_pins pins

-- The tokens of the text are those of these statements, whatever blanks and comments are between them.
abbrev pub Spells : Text → List Written → Type 0
Spells text statements = map (λ token. token.0) (tokens_of text) ≡ flat_map spelled statements

-- ---- lines

-- The text isn't empty, and all its bytes are bytes of names.
abbrev pub IsRun : Text → Type 0
IsRun text = (0 < length text) × IsTrue (list_all is_name_byte text)

-- Each name and word of the statement is such a run.
abbrev pub HasRuns : Written → Type 0
HasRuns (written_input n) = IsRun n
HasRuns (written_output n) = IsRun n
HasRuns (written_gate n word pins) = IsRun n × IsRun word × All IsRun pins

abbrev pub pins_end : List Text → Text
pins_end [] = codes ")\n"
pins_end (pin ∷ []) = pin ++ codes ")\n"
pins_end (pin ∷ other ∷ pins) = pin ++ (codes "," ++ pins_end (other ∷ pins))

-- a statement without blanks, and an LF
abbrev pub written_line : Written → Text
written_line (written_input n) = codes "INPUT(" ++ (n ++ codes ")\n")
written_line (written_output n) = codes "OUTPUT(" ++ (n ++ codes ")\n")
written_line (written_gate n word pins) = n ++ (codes "=" ++ (word ++ (codes "(" ++ pins_end pins)))

-- ---- what they read as

-- The statement is the written one, with the number of each name in `names`.
abbrev pub ReadsAs : List Text → Written → Statement → Type 0
ReadsAs names (written_input n) (Input q) = q.name ≡ name_number names n
ReadsAs names (written_output n) (Output q) = q.name ≡ name_number names n
ReadsAs names (written_gate n word pins) (Drive q kind ps) = (driver_of word ≡ Some (gate_driver kind)) × (q.name ≡ name_number names n) × (map (λ p. p.name) ps ≡ map (name_number names) pins)
ReadsAs names (written_gate n word pins) (Flop q d) = (driver_of word ≡ Some flip_flop_driver) × (q.name ≡ name_number names n) × (d.name ∷ [] ≡ map (name_number names) pins)
ReadsAs names _ _ = ⊥

-- The netlist has exactly the written statements, in their order, and their names in order of first appearance.
pub record IsAsWritten (statements : List Written) (netlist : Netlist) : Type 0 where
  pub names : netlist.names ≡ distinct_names (flat_map written_names statements)
  pub each : AllZip (ReadsAs netlist.names) statements netlist.statements
