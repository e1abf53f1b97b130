-- What the words ask for. The first word is a command, and a simple command of `clap` reads the words after it.
use Rattle.std.specs.Prelude.{ℕ, List, [], ◌∷◌, Option, Some, None, codes, if◌then◌else◌, option_map}
use Rattle.std.specs.Option.{option_map_or}
use Rattle.std.specs.Str.{bytes_eq}
use Rattle.text_fields.specs.Fields.{Text}
use Rattle.clap.specs.Words.{App, Row, Rule, matches_of, with_rule}
use Rattle.result_records.specs.declared.limits.TheConstants.{BLOCKS_LIMIT, CUBES_LIMIT, CONFLICTS_LIMIT}
use Rattle.result_records.specs.declared.record.Budgets.{Budgets}
use Rattle.request_words.specs.Arguments.{bare_app, two_names_app, name_rule, number_rule, option_rule, text_rule, is_taken, name_in, number_in, text_in, kind_named}
use Rattle.request_words.specs.declared.request.Verb.{Verb}
use Rattle.request_words.specs.declared.request.Verb.TheVariants.{Gen, Check, Dict, Convert, Diagnose, Faults, Sim, Synth, Compact, Rank, Adapt, Follow, Expect, Suspects, Cover, Grade, TopUp, Bridges}
use Rattle.request_words.specs.declared.request.EntryKind.{EntryKind}

-- what words can ask for: one kind for each command, with its names and numbers, except that `grade` and `topup` share
-- one, and one more for each command that takes `--applied`
pub data Request : Type 0 where
  -- generate a result for a netlist, with these budgets
  gen : (bench result : Text) (budgets : Budgets) → Request
  -- check a result for a netlist
  check : (bench result : Text) → Request
  -- make a dictionary of a kind for a netlist and a result
  make_dict : (kind : EntryKind) (bench result dict : Text) → Request
  -- write a dictionary again under a new name
  convert : (old new : Text) → Request
  -- list the numbers that a dictionary and a log point to
  diagnose : (dict log : Text) → Request
  -- list the faults of a netlist
  list_faults : (bench : Text) → Request
  -- simulate a netlist at a list of vectors
  simulate : (bench vectors : Text) → Request
  -- write the netlist of a number, and generate a result for it
  synth : (n : ℕ) (bench result : Text) → Request
  -- leave out the patterns of a result that its classes don't need, for a netlist
  compact : (bench result new : Text) → Request
  -- rank the numbers by a dictionary and a partial log, up to `within` mismatches above the least
  rank : (dict log : Text) (within : ℕ) → Request
  -- plan which pattern to ask next, for a netlist and a result
  adapt : (bench result plan : Text) → Request
  -- say where a log of answers leads in a plan
  follow : (plan log : Text) → Request
  -- write the log that a chip without a fault gives, for a netlist and a result
  expect : (bench result log : Text) → Request
  -- list the classes that a partial log suspects, at most `most` of them, for a netlist and a result
  suspects : (bench result log : Text) (most : ℕ) → Request
  -- list classes that together explain what fails in a partial log, for a netlist and a result
  cover : (bench result log : Text) → Request
  -- keep each vector of a list that splits a class, and generate a result after them, for a netlist, with these budgets
  top_up : (bench vectors result : Text) (budgets : Budgets) → Request
  -- list bridges, at most `most` of them, that explain all failing patterns of a partial log except at most `within`,
  -- for a netlist and a result
  bridges : (bench result log : Text) (most within : ℕ) → Request
  -- the same as `expect`, `suspects`, `cover` and `bridges`, for a list of vectors that were applied
  expect_at : (bench result log vectors : Text) → Request
  suspects_at : (bench result log : Text) (most : ℕ) (vectors : Text) → Request
  cover_at : (bench result log vectors : Text) → Request
  bridges_at : (bench result log : Text) (most within : ℕ) (vectors : Text) → Request

-- ---- each command: how its words are read, and what they ask for

unfoldable pub gen_app : App
gen_app = with_rule (with_rule (with_rule (two_names_app (codes "gen") (codes "bench") (codes "result"))
    (option_rule (codes "blocks") (codes "4") 0 BLOCKS_LIMIT)) (option_rule (codes "cubes") (codes "64") 0 CUBES_LIMIT)) (option_rule (codes "conflicts") (codes "2000") 0 CONFLICTS_LIMIT)

abbrev pub gen_by : List Row → Request
gen_by rows = gen (name_in (codes "bench") rows) (name_in (codes "result") rows)
    (record { blocks = number_in (codes "blocks") 0 BLOCKS_LIMIT rows; cubes = number_in (codes "cubes") 0 CUBES_LIMIT rows; conflicts = number_in (codes "conflicts") 0 CONFLICTS_LIMIT rows })

unfoldable pub check_app : App
check_app = two_names_app (codes "check") (codes "bench") (codes "result")

abbrev pub check_by : List Row → Request
check_by rows = check (name_in (codes "bench") rows) (name_in (codes "result") rows)

unfoldable pub dict_app : App
dict_app = with_rule (with_rule (two_names_app (codes "dict") (codes "kind") (codes "bench")) (name_rule (codes "result"))) (name_rule (codes "dict"))

-- none unless the word names a kind
abbrev pub dict_by : List Row → Option Request
dict_by rows = option_map (λ kind. make_dict kind (name_in (codes "bench") rows) (name_in (codes "result") rows) (name_in (codes "dict") rows)) (kind_named (name_in (codes "kind") rows))

unfoldable pub convert_app : App
convert_app = two_names_app (codes "convert") (codes "old") (codes "new")

abbrev pub convert_by : List Row → Request
convert_by rows = convert (name_in (codes "old") rows) (name_in (codes "new") rows)

unfoldable pub diagnose_app : App
diagnose_app = two_names_app (codes "diagnose") (codes "dict") (codes "log")

abbrev pub diagnose_by : List Row → Request
diagnose_by rows = diagnose (name_in (codes "dict") rows) (name_in (codes "log") rows)

unfoldable pub faults_app : App
faults_app = with_rule (bare_app (codes "faults")) (name_rule (codes "bench"))

abbrev pub faults_by : List Row → Request
faults_by rows = list_faults (name_in (codes "bench") rows)

unfoldable pub sim_app : App
sim_app = two_names_app (codes "sim") (codes "bench") (codes "vectors")

abbrev pub sim_by : List Row → Request
sim_by rows = simulate (name_in (codes "bench") rows) (name_in (codes "vectors") rows)

unfoldable pub synth_app : App
synth_app = with_rule (with_rule (with_rule (bare_app (codes "synth")) (number_rule (codes "n") 2000)) (name_rule (codes "bench"))) (name_rule (codes "result"))

abbrev pub synth_by : List Row → Request
synth_by rows = synth (number_in (codes "n") 1 2000 rows) (name_in (codes "bench") rows) (name_in (codes "result") rows)

unfoldable pub compact_app : App
compact_app = with_rule (two_names_app (codes "compact") (codes "bench") (codes "result")) (name_rule (codes "new"))

abbrev pub compact_by : List Row → Request
compact_by rows = compact (name_in (codes "bench") rows) (name_in (codes "result") rows) (name_in (codes "new") rows)

unfoldable pub rank_app : App
rank_app = with_rule (two_names_app (codes "rank") (codes "dict") (codes "log")) (option_rule (codes "within") (codes "0") 0 1000000)

abbrev pub rank_by : List Row → Request
rank_by rows = rank (name_in (codes "dict") rows) (name_in (codes "log") rows) (number_in (codes "within") 0 1000000 rows)

unfoldable pub adapt_app : App
adapt_app = with_rule (two_names_app (codes "adapt") (codes "bench") (codes "result")) (name_rule (codes "plan"))

abbrev pub adapt_by : List Row → Request
adapt_by rows = adapt (name_in (codes "bench") rows) (name_in (codes "result") rows) (name_in (codes "plan") rows)

unfoldable pub follow_app : App
follow_app = two_names_app (codes "follow") (codes "plan") (codes "log")

abbrev pub follow_by : List Row → Request
follow_by rows = follow (name_in (codes "plan") rows) (name_in (codes "log") rows)

-- a command with the names of a netlist, a result and a log
abbrev pub log_app : Text → App
log_app name = with_rule (two_names_app name (codes "bench") (codes "result")) (name_rule (codes "log"))

-- the option that names the list of vectors by which a log is numbered
abbrev pub applied_rule : Rule
applied_rule = text_rule (codes "applied")

-- what is asked for: `alone` if no list of applied vectors is named, else `of_list` of the name of that list
abbrev pub by_applied : List Row → Request → (Text → Request) → Request
by_applied rows alone of_list = option_map_or of_list (text_in (codes "applied") rows) alone

unfoldable pub expect_app : App
expect_app = with_rule (log_app (codes "expect")) applied_rule

abbrev pub expect_by : List Row → Request
expect_by rows = by_applied rows
    (expect (name_in (codes "bench") rows) (name_in (codes "result") rows) (name_in (codes "log") rows))
    (expect_at (name_in (codes "bench") rows) (name_in (codes "result") rows) (name_in (codes "log") rows))

unfoldable pub suspects_app : App
suspects_app = with_rule (with_rule (log_app (codes "suspects")) (option_rule (codes "most") (codes "20") 1 1000000)) applied_rule

abbrev pub suspects_by : List Row → Request
suspects_by rows = by_applied rows
    (suspects (name_in (codes "bench") rows) (name_in (codes "result") rows) (name_in (codes "log") rows) (number_in (codes "most") 1 1000000 rows))
    (suspects_at (name_in (codes "bench") rows) (name_in (codes "result") rows) (name_in (codes "log") rows) (number_in (codes "most") 1 1000000 rows))

unfoldable pub cover_app : App
cover_app = with_rule (log_app (codes "cover")) applied_rule

abbrev pub cover_by : List Row → Request
cover_by rows = by_applied rows
    (cover (name_in (codes "bench") rows) (name_in (codes "result") rows) (name_in (codes "log") rows))
    (cover_at (name_in (codes "bench") rows) (name_in (codes "result") rows) (name_in (codes "log") rows))

-- a command with the names of a netlist, a list of vectors and a result
abbrev pub list_app : Text → App
list_app name = with_rule (two_names_app name (codes "bench") (codes "vectors")) (name_rule (codes "result"))

unfoldable pub grade_app : App
grade_app = list_app (codes "grade")

-- without budgets, so that no pair is searched
abbrev pub grade_by : List Row → Request
grade_by rows = top_up (name_in (codes "bench") rows) (name_in (codes "vectors") rows) (name_in (codes "result") rows)
    (record { blocks = 0; cubes = 0; conflicts = 0 })

unfoldable pub topup_app : App
topup_app = with_rule (with_rule (list_app (codes "topup"))
    (option_rule (codes "cubes") (codes "64") 0 CUBES_LIMIT)) (option_rule (codes "conflicts") (codes "2000") 0 CONFLICTS_LIMIT)

-- without blocks, as the list replaces the stream
abbrev pub topup_by : List Row → Request
topup_by rows = top_up (name_in (codes "bench") rows) (name_in (codes "vectors") rows) (name_in (codes "result") rows)
    (record { blocks = 0; cubes = number_in (codes "cubes") 0 CUBES_LIMIT rows; conflicts = number_in (codes "conflicts") 0 CONFLICTS_LIMIT rows })

unfoldable pub bridges_app : App
bridges_app = with_rule (with_rule (with_rule (log_app (codes "bridges"))
    (option_rule (codes "most") (codes "20") 1 1000000)) (option_rule (codes "within") (codes "0") 0 1000000)) applied_rule

abbrev pub bridges_by : List Row → Request
bridges_by rows = by_applied rows
    (bridges (name_in (codes "bench") rows) (name_in (codes "result") rows) (name_in (codes "log") rows)
    (number_in (codes "most") 1 1000000 rows) (number_in (codes "within") 0 1000000 rows))
    (bridges_at (name_in (codes "bench") rows) (name_in (codes "result") rows) (name_in (codes "log") rows)
    (number_in (codes "most") 1 1000000 rows) (number_in (codes "within") 0 1000000 rows))

-- ---- the table of commands

-- the command of a name, if there is one
unfoldable pub verb_named : Text → Option Verb
verb_named name =
    if bytes_eq name (codes "gen") then Some Gen
    else if bytes_eq name (codes "check") then Some Check
    else if bytes_eq name (codes "dict") then Some Dict
    else if bytes_eq name (codes "convert") then Some Convert
    else if bytes_eq name (codes "diagnose") then Some Diagnose
    else if bytes_eq name (codes "faults") then Some Faults
    else if bytes_eq name (codes "sim") then Some Sim
    else if bytes_eq name (codes "synth") then Some Synth
    else if bytes_eq name (codes "compact") then Some Compact
    else if bytes_eq name (codes "rank") then Some Rank
    else if bytes_eq name (codes "adapt") then Some Adapt
    else if bytes_eq name (codes "follow") then Some Follow
    else if bytes_eq name (codes "expect") then Some Expect
    else if bytes_eq name (codes "suspects") then Some Suspects
    else if bytes_eq name (codes "cover") then Some Cover
    else if bytes_eq name (codes "grade") then Some Grade
    else if bytes_eq name (codes "topup") then Some TopUp
    else if bytes_eq name (codes "bridges") then Some Bridges
    else None

-- the definition of the words that a command takes, and what they ask for
abbrev pub table : Verb → App × (List Row → Option Request)
table Gen = (gen_app, λ rows. Some (gen_by rows))
table Check = (check_app, λ rows. Some (check_by rows))
table Dict = (dict_app, dict_by)
table Convert = (convert_app, λ rows. Some (convert_by rows))
table Diagnose = (diagnose_app, λ rows. Some (diagnose_by rows))
table Faults = (faults_app, λ rows. Some (faults_by rows))
table Sim = (sim_app, λ rows. Some (sim_by rows))
table Synth = (synth_app, λ rows. Some (synth_by rows))
table Compact = (compact_app, λ rows. Some (compact_by rows))
table Rank = (rank_app, λ rows. Some (rank_by rows))
table Adapt = (adapt_app, λ rows. Some (adapt_by rows))
table Follow = (follow_app, λ rows. Some (follow_by rows))
table Expect = (expect_app, λ rows. Some (expect_by rows))
table Suspects = (suspects_app, λ rows. Some (suspects_by rows))
table Cover = (cover_app, λ rows. Some (cover_by rows))
table Grade = (grade_app, λ rows. Some (grade_by rows))
table TopUp = (topup_app, λ rows. Some (topup_by rows))
table Bridges = (bridges_app, λ rows. Some (bridges_by rows))

abbrev pub app_for : Verb → App
app_for verb = (table verb).0

abbrev pub request_by : Verb → List Row → Option Request
request_by verb rows = (table verb).1 rows

-- what the words after a command's name ask for, if its definition takes them
abbrev pub asked_by : Option Verb → List Text → Option Request
asked_by None words = None
asked_by (Some verb) words = if is_taken (app_for verb) words then request_by verb (matches_of (app_for verb) words) else None

-- what the words ask for, if the first is a command and its definition takes the others
unfoldable pub request_of : List Text → Option Request
request_of [] = None
request_of (command ∷ words) = asked_by (verb_named command) words
