-- Words that the definition of a simple command of `clap` reads: the rules of its arguments, and what its matches hold.
use Rattle.std.specs.Prelude.{ℕ, Bool, true, List, [], ◌∷◌, Option, Some, None, pos, codes, unwrap_or, if◌then◌else◌}
use Rattle.std.specs.Str.{bytes_eq}
use Rattle.std.specs.Str.Parse.{digits_value, without_leading_plus}
use Rattle.clap.specs.Words.{App, Rule, Row, Text, first_of, one_of, new_app, new_rule, fault_of, with_rule}
use Rattle.clap.specs.Walk.{is_empty}
use Rattle.clap.specs.Simple.{on_top}
use Rattle.clap.specs.ValueTests.{is_unsigned_in}
use Rattle.clap.specs.declared.builder.action.ArgAction.TheVariants.{Set}
use Rattle.request_words.specs.declared.request.EntryKind.{EntryKind}
use Rattle.request_words.specs.declared.request.EntryKind.TheVariants.{PassFail, Full, SameDiff}
use Rattle.clap.specs.declared.builder.value_parser.ValueParser.TheVariants as vp

-- ---- commands

-- a command without arguments, and without flags for help and the version
abbrev pub bare_app : Text → App
bare_app name = on_top (λ s. record s { no_binary_name = true; disable_help_flag = true; disable_version_flag = true }) (new_app name)

-- a required name
abbrev pub name_rule : Text → Rule
name_rule id = record (new_rule id) { required = true; action = Some Set }

-- a command with two required names
abbrev pub two_names_app : Text → Text → Text → App
two_names_app name first second = with_rule (with_rule (bare_app name) (name_rule first)) (name_rule second)

-- a required number from 1 to `most`
abbrev pub number_rule : Text → ℕ → Rule
number_rule id most = record (name_rule id) { parser = Some (vp.Signed (pos 1) (pos most)) }

-- an option with a number from `least` to `most` and a default
abbrev pub option_rule : Text → Text → ℕ → ℕ → Rule
option_rule id default least most = record (new_rule id) { long = Some id; defaults = default ∷ []; parser = Some (vp.Signed (pos least) (pos most)) }

-- an option with a text and no default
abbrev pub text_rule : Text → Rule
text_rule id = record (new_rule id) { long = Some id; action = Some Set }

-- ---- matches

-- whether the command's definition takes the words
abbrev pub is_taken : App → List Text → Bool
is_taken app words = is_empty (fault_of app words)

-- the name under an id; a required name is always there
abbrev pub name_in : Text → List Row → Text
name_in id rows = unwrap_or (first_of id rows) []

-- the text under an id, if there is one
abbrev pub text_in : Text → List Row → Option Text
text_in id rows = first_of id rows

-- the number that a text spells, or `least` if it spells none from `least` to `most`
abbrev pub number_from : ℕ → ℕ → Option Text → ℕ
number_from least most None = least
number_from least most (Some text) = if is_unsigned_in least most text then digits_value 10 (without_leading_plus text) else least

-- the number under an id; a number that is required or has a default is always there, within its limits
abbrev pub number_in : Text → ℕ → ℕ → List Row → ℕ
number_in id least most rows = number_from least most (one_of id rows)

-- the kind of dictionary that a word names, if it names one
abbrev pub kind_named : Text → Option EntryKind
kind_named word =
    if bytes_eq word (codes "passfail") then Some PassFail
    else if bytes_eq word (codes "full") then Some Full
    else if bytes_eq word (codes "samediff") then Some SameDiff
    else None
