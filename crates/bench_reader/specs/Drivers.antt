-- Which name of numbered statements is driven twice, or used and not driven.
use Rattle.std.specs.Prelude.{◌≡◌, ℕ, ◌<◌, Bool, not, List, [], ◌∷◌, length, take, filter_map, flat_map, find, All, Option, None, Some, option_map, ◌==◌, slice_index_or, false}
use Rattle.std.specs.List.{list_any, enumerate_from}
use Rattle.bench_reader.specs.declared.fault.NetKind.{NetKind}
use Rattle.bench_reader.specs.declared.fault.NetKind.TheVariants.{DrivenTwice, Undriven}
use Rattle.bench_reader.specs.declared.fault.Place.{Place}
use Rattle.bench_reader.specs.declared.statement.Word.{Word}
use Rattle.bench_reader.specs.declared.statement.Statement.{Statement}
use Rattle.bench_reader.specs.declared.statement.Statement.TheVariants.{Input, Output, Drive, Flop}

-- the word that a statement drives, if it drives one
abbrev pub driven_word : Statement → Option Word
driven_word (Input n) = Some n
driven_word (Output n) = None
driven_word (Drive n kind pins) = Some n
driven_word (Flop q d) = Some q

-- the words that a statement uses
abbrev pub used_words : Statement → List Word
used_words (Input n) = []
used_words (Output n) = n ∷ []
used_words (Drive n kind pins) = pins
used_words (Flop q d) = d ∷ []

-- whether one of these words has the number
abbrev pub has_number : List Word → ℕ → Bool
has_number words number = list_any (λ word. word.name == number) words

-- the first word with the number of an earlier one
unfoldable pub repeated_word : List Word → Option Word
repeated_word words = option_map (λ x. x.1) (find (λ x. has_number (take x.0 words) x.1.name) (enumerate_from 0 words))

-- the first driven word whose name was driven before
abbrev pub second_driver : List Statement → Option Word
second_driver statements = repeated_word (filter_map driven_word statements)

-- the first used word whose name nothing drives
unfoldable pub missing_driver : List Statement → Option Word
missing_driver statements = find (λ word. not (has_number (filter_map driven_word statements) word.name)) (flat_map used_words statements)

-- the rule and the place: of the word that repeats a driven name, or else of the used one without a driver
abbrev pub fault_by : Option Word → Option Word → Option (NetKind × Place)
fault_by (Some word) missing = Some (DrivenTwice, word.place)
fault_by None (Some word) = Some (Undriven, word.place)
fault_by None None = None

-- the first word that drives a name again, or else the first use of a name that nothing drives, as a rule and a place;
-- none if no name is driven twice and each name that is used is driven
abbrev pub driver_fault : List Statement → Option (NetKind × Place)
driver_fault statements = fault_by (second_driver statements) (missing_driver statements)

-- Each word has the number of one of `count` names.
pub record AreNumbered (count : ℕ) (statements : List Statement) : Type 0 where
  pub driven : All (λ word. word.name < count) (filter_map driven_word statements)
  pub used : All (λ statement. All (λ word. word.name < count) (used_words statement)) statements

-- There is a mark for each of `count` numbers, which is set exactly if one of these words has the number.
pub record AreMarksOfWords (count : ℕ) (words : List Word) (marks : List Bool) : Type 0 where
  pub whole : length marks ≡ count
  pub each : (number : ℕ) → number < count → slice_index_or marks number false ≡ has_number words number

-- the first of these words that isn't marked
abbrev pub unmarked : List Bool → List Word → Option Word
unmarked marks words = find (λ word. not (slice_index_or marks word.name false)) words
