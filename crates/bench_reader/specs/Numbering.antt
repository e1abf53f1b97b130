-- Names while they get their numbers.
use Rattle.std.specs.Prelude.{Bool, List, [], ◌∷◌, ◌++◌, if◌then◌else◌}
use Rattle.std.specs.List.{list_any}
use Rattle.std.specs.Str.{bytes_eq}
use Rattle.text_fields.specs.Fields.{Text}
use Rattle.bench_reader.specs.declared.statement.Word.{Word}
use Rattle.bench_reader.specs.declared.statement.Statement.{Statement}
use Rattle.bench_reader.specs.declared.statement.Statement.TheVariants.{Input, Output, Drive, Flop}
use Rattle.bench_reader.specs.declared.word.Port.{Port}
use Rattle.bench_reader.specs.declared.word.Port.TheVariants as says
use Rattle.bench_reader.specs.Grammar.{Named, Driver, gate_driver, flip_flop_driver}

-- whether a name is one of `names`
abbrev pub is_one_of : List Text → Text → Bool
is_one_of names text = list_any (bytes_eq text) names

-- the names with one more at the end, if it is none of them
abbrev pub with_name : List Text → Text → List Text
with_name names text = if is_one_of names text then names else names ++ text ∷ []

-- the names with several more, added one after another
abbrev pub with_names : List Text → List Named → List Text
with_names names [] = names
with_names names (n ∷ more) = with_names (with_name names n.0) more

-- the statement of an input or an observed name
abbrev pub port_statement : Port → Word → Statement
port_statement says.Input n = Input n
port_statement says.Output n = Output n

-- the statement of a gate or a flip-flop, by the words of its name and its pins
abbrev pub gate_statement : Driver → Word → List Word → Statement
gate_statement (gate_driver kind) n pins = Drive n kind pins
gate_statement flip_flop_driver n [] = Flop n n
gate_statement flip_flop_driver n (pin ∷ pins) = Flop n pin
