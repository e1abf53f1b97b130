-- The text of a simulation: for each vector the fault-free answer, and the faults that answer otherwise.
use Rattle.std.specs.Prelude.{◌≡◌, ℕ, ◌+◌, ◌-◌, Bool, not, List, [], ◌∷◌, ◌++◌, length, filter, flat_map, codes, decimal}
use Rattle.std.specs.List.{range_with_len}
use Rattle.net_model.specs.Circuit.{Circuit}
use Rattle.net_model.specs.BitText.{bits_text}
use Rattle.text_fields.specs.Fields.{Text}
use Rattle.net_model.specs.ClassTable.{same_bits}
use Rattle.net_model.specs.PatternRows.{AreAnswerRows}
use Rattle.dict_rows.specs.AnswerTable.{answer_in}

-- the line of a vector, with its number and what the circuit without a fault answers
unfoldable pub vector_line : ℕ → List Bool → Text
vector_line number answer = codes "pattern " ++ (decimal number ++ (codes " answer " ++ (bits_text answer ++ codes "\n")))

-- the line of a fault, with its number and what the circuit with it answers
unfoldable pub faulty_line : ℕ → List Bool → Text
faulty_line number answer = codes "fault " ++ (decimal number ++ (codes " " ++ (bits_text answer ++ codes "\n")))

module _ (row : List (List Bool)) where
  -- whether a number's answer differs from that of number 0, which is the circuit without a fault
  abbrev pub answers_otherwise : ℕ → Bool
  answers_otherwise number = not (same_bits (answer_in row number) (answer_in row 0))

  -- the numbers of the faults whose answers differ from that of number 0, ascending
  abbrev pub differing_numbers : List ℕ
  differing_numbers = filter answers_otherwise (range_with_len 1 (length row - 1))

  -- the line of a fault with this number
  abbrev pub numbered_line : ℕ → Text
  numbered_line number = faulty_line number (answer_in row number)

  -- the lines of a vector with this number, from the answer of each fault number
  unfoldable pub vector_text : ℕ → Text
  vector_text number = vector_line number (answer_in row 0) ++ flat_map numbered_line differing_numbers

-- the lines of vectors, numbered starting at `first`, from the answers of all fault numbers to each
abbrev pub texts_from : ℕ → List (List (List Bool)) → Text
texts_from first [] = []
texts_from first (row ∷ rows) = vector_text row first ++ texts_from (first + 1) rows

-- The text has the lines of the vectors, numbered starting at `first`.
pub record IsSimTextFrom (c : Circuit) (first : ℕ) (vectors : List (List Bool)) (text : Text) : Type 0 where
  pub rows : List (List (List Bool))
  pub answers : AreAnswerRows c vectors rows
  pub text_is : text ≡ texts_from first rows

-- The text is that of the simulation of the circuit at the vectors.
abbrev pub IsSimText : Circuit → List (List Bool) → Text → Type 0
IsSimText c vectors text = IsSimTextFrom c 0 vectors text
