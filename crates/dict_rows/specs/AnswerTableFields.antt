-- What the fields of an `AnswerTable` show, and what is true of them: there is a row for each number, with its answers
-- pattern by pattern.
use Rattle.std.specs.Prelude.{ℕ, ◌*◌, Bool, List, map, take, drop}
use Rattle.std.specs.List.{range_with_len}
use Rattle.dict_rows.specs.declared.answer_table.AnswerTable.TheInside.{Inside}
use Rattle.dict_rows.specs.AnswerTable.{Answers}
use Rattle.dict_rows.specs.Rows.{AreRows}

-- The answer to one pattern, cut from the answers to all.
abbrev pub answer_part : ℕ → ℕ → List Bool → List Bool
answer_part positions pattern bits = take positions (drop (pattern * positions) bits)

-- The answers of all numbers to each of the first `patterns` patterns.
abbrev pub pattern_rows : ℕ → ℕ → List (List Bool) → List (List (List Bool))
pattern_rows patterns positions cells = map (λ pattern. map (answer_part positions pattern) cells) (range_with_len 0 patterns)

-- The table that the fields of an `AnswerTable` show.
abbrev pub table_of : Inside → Answers
table_of a = record { numbers = a.numbers; positions = a.positions; rows = pattern_rows a.patterns a.positions a.cells }

-- There is a row for each number, with a bit for each pattern and position.
abbrev pub AreCells : Inside → Type 0
AreCells a = AreRows a.numbers (a.patterns * a.positions) a.cells
