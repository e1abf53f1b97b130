-- Rows of numbers in classes.
use Rattle.std.specs.Prelude.{◌≡◌, ◌↔◌, ℕ, ◌<◌, Bool, List, [], length, slice_index_or}
use Rattle.net_model.specs.ClassTable.{ClassTable, class_at}
use Rattle.net_model.specs.Rows.{row_at}

-- There is a row for each number, and two rows are equal exactly if their numbers are of one class.
pub record AreRowsOfClasses (t : ClassTable) (rows : List (List Bool)) : Type 0 where
  pub one_each : length rows ≡ length t.class_of
  pub equal : (m n : ℕ) → m < length t.class_of → n < length t.class_of → (class_at t m ≡ class_at t n) ↔ (slice_index_or rows m [] ≡ slice_index_or rows n [])

-- The entry of each number is the row of its class.
pub record AreEntriesOfClasses (t : ClassTable) (rows : List (List Bool)) (entry : ℕ → List Bool) : Type 0 where
  pub own : (number : ℕ) → number < length t.class_of → row_at rows (class_at t number) ≡ entry number
