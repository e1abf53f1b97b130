-- The entries of fault dictionaries, from rows of answers: one row for each pattern.
use Rattle.std.specs.Prelude.{ℕ, Bool, not, List, map, flat_map, zip}
use Rattle.net_model.specs.ClassTable.{same_bits}
use Rattle.dict_rows.specs.AnswerTable.{answer_in}

-- Answers against baselines, pattern by pattern: 0 if they are the same.
unfoldable pub differences : List (List Bool) → List (List Bool) → List Bool
differences answers baselines = map (λ x. not (same_bits x.0 x.1)) (zip answers baselines)

-- What a number answers to each pattern.
abbrev pub answers_of : List (List (List Bool)) → ℕ → List (List Bool)
answers_of rows number = map (λ row. answer_in row number) rows

-- The full-response entry: all answer bits, pattern by pattern.
abbrev pub full_entry : List (List (List Bool)) → ℕ → List Bool
full_entry rows number = flat_map (λ row. answer_in row number) rows

-- The same/different entry: a bit for each pattern.
abbrev pub same_diff_entry : List (List (List Bool)) → List (List Bool) → ℕ → List Bool
same_diff_entry rows baselines number = differences (answers_of rows number) baselines

-- What number 0, the fault-free circuit, answers: the baselines of the pass/fail entry.
abbrev pub free_baselines : List (List (List Bool)) → List (List Bool)
free_baselines rows = answers_of rows 0

-- The pass/fail entry: a bit for each pattern.
abbrev pub pass_fail_entry : List (List (List Bool)) → ℕ → List Bool
pass_fail_entry rows number = same_diff_entry rows (free_baselines rows) number
