-- What is true of the fields of every queue of variables.
use Rattle.std.specs.Prelude.{◌≡◌, ℕ, ◌+◌, ◌≤◌, List, length, All}

-- There is a neighbour on each side and a stamp for each variable and for number 0, and each neighbour is a variable
-- or 0.
pub record IsRing (variables : ℕ) (older newer stamps : List ℕ) : Type 0 where
  pub older_places : length older ≡ variables + 1
  pub newer_places : length newer ≡ variables + 1
  pub stamp_places : length stamps ≡ variables + 1
  pub older_inside : All (λ x. x ≤ variables) older
  pub newer_inside : All (λ x. x ≤ variables) newer
