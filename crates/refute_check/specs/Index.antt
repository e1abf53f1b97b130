-- The clauses of a list by their literals. Clauses are numbered from 1.
use Rattle.std.specs.Prelude.{◌≡◌, ◌≢◌, ◌<◌, ◌≤◌, ◌+◌, ◌*◌, ◌⊎◌, ℕ, List, [], Contains, length, slice_index_or}
use Rattle.clause_pool.specs.Literal.{Literal}
use Rattle.clause_pool.specs.LiteralCode.{code_of}
use Rattle.clause_pool.specs.Clauses.{Clause}

-- The list at this place, which is empty if there is none.
abbrev pub list_at : List (List ℕ) → ℕ → List ℕ
list_at lists place = slice_index_or lists place []

-- The number is that of one of `count` clauses.
abbrev pub IsClauseNumber : ℕ → ℕ → Type 0
IsClauseNumber count number = (0 < number) × (number ≤ count)

-- The clause has two different literals.
pub record HasTwo (clause : Clause) : Type 0 where
  pub first : Literal
  pub second : Literal
  pub different : first ≢ second
  pub first_inside : Contains clause first
  pub second_inside : Contains clause second

-- There is a list for each literal of variables 0 to `variables`. The list of each literal has the numbers of all
-- clauses with that literal, the short list has those of all clauses without two different literals, and all numbers
-- are numbers of clauses.
pub record IsIndexOf (variables : ℕ) (clauses : List Clause) (lists : List (List ℕ)) (short : List ℕ) : Type 0 where
  pub places : length lists ≡ 2 * variables + 2
  pub numbers : (place number : ℕ) → Contains (list_at lists place) number → IsClauseNumber (length clauses) number
  pub short_numbers : (number : ℕ) → Contains short number → IsClauseNumber (length clauses) number
  pub all : (k : ℕ) (l : Literal) → k < length clauses → Contains (slice_index_or clauses k []) l → Contains (list_at lists (code_of l)) (k + 1)
  pub all_short : (k : ℕ) → k < length clauses → HasTwo (slice_index_or clauses k []) ⊎ Contains short (k + 1)
