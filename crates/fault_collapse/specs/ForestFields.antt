-- What is true of the fields of every `Forest`.
use Rattle.std.specs.Prelude.{◌≡◌, ℕ, ◌<◌, ◌^◌, length}
use Rattle.fault_collapse.specs.Forest.{Forest, number_count, root_of}

-- Each number has an entry for its successor, and a root, which is a number that is its own root. There is number 0,
-- and there are fewer than 2^27 numbers.
pub record AreForestFields (forest : Forest) : Type 0 where
  pub whole : length forest.successors ≡ number_count forest
  pub free : 0 < number_count forest
  pub few : number_count forest < 2 ^ 27
  pub inside : (number : ℕ) → number < number_count forest → root_of forest number < number_count forest
  pub last : (number : ℕ) → number < number_count forest → root_of forest (root_of forest number) ≡ root_of forest number
