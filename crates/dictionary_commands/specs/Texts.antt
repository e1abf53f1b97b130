-- The lines of the console about dictionaries, numbers, ranks and plans.
use Rattle.std.specs.Prelude.{ℕ, List, ◌++◌, codes, decimal, flat_map, length}
use Rattle.adaptive_tree.specs.declared.outcome.Outcome.{Outcome as WalkOutcome}
use Rattle.adaptive_tree.specs.declared.outcome.Outcome.TheVariants as walk
use Rattle.text_fields.specs.Fields.{Text}

-- ---- dictionaries

-- The line with the numbers, patterns and classes of a dictionary, and how many pairs of classes it keeps apart.
unfoldable pub apart_text : ℕ → ℕ → ℕ → ℕ → Text
apart_text numbers patterns classes apart = codes "numbers " ++ (decimal numbers ++ (codes " patterns " ++ (decimal patterns ++ (codes " classes " ++ (decimal classes ++ (codes " apart " ++ (decimal apart ++ codes "\n")))))))

-- The line with the numbers, patterns and groups of a dictionary.
unfoldable pub groups_text : ℕ → ℕ → ℕ → Text
groups_text numbers patterns groups = codes "numbers " ++ (decimal numbers ++ (codes " patterns " ++ (decimal patterns ++ (codes " groups " ++ (decimal groups ++ codes "\n")))))

-- ---- logs and lists of vectors

unfoldable pub number_line : ℕ → Text
number_line number = decimal number ++ codes "\n"

unfoldable pub listed_text : ℕ → Text
listed_text count = codes "listed " ++ (decimal count ++ codes "\n")

-- Numbers, one to a line, and how many they are.
unfoldable pub numbers_text : List ℕ → Text
numbers_text numbers = flat_map number_line numbers ++ listed_text (length numbers)

-- ---- rankings

-- The line of a rank: its number, and its count, which comes first in the pair `rank`.
unfoldable pub rank_line : ℕ × ℕ → Text
rank_line rank = decimal rank.1 ++ (codes " " ++ (decimal rank.0 ++ codes "\n"))

-- The line with how many numbers are ranked, and the least count.
unfoldable pub least_text : ℕ → ℕ → Text
least_text listed least = codes "listed " ++ (decimal listed ++ (codes " least " ++ (decimal least ++ codes "\n")))

-- Ranked numbers, one to a line, how many they are, and the least count.
unfoldable pub ranks_text : List (ℕ × ℕ) → ℕ → Text
ranks_text ranks least = flat_map rank_line ranks ++ least_text (length ranks) least

-- ---- adaptive plans

-- The line with the classes, asks and depth of a plan.
unfoldable pub plan_counts_text : ℕ → ℕ → ℕ → Text
plan_counts_text classes asks depth = codes "classes " ++ (decimal classes ++ (codes " asks " ++ (decimal asks ++ (codes " depth " ++ (decimal depth ++ codes "\n")))))

-- The line that says where a log leads.
unfoldable pub outcome_text : WalkOutcome → Text
outcome_text (walk.Class class) = codes "class " ++ (decimal class ++ codes "\n")
outcome_text (walk.Ask pattern) = codes "ask " ++ (decimal pattern ++ codes "\n")
outcome_text walk.Unknown = codes "none\n"
