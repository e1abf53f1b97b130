-- Ways that lead from a number to lower ones, down to the lowest, the ends.
use Rattle.std.specs.Prelude.{ℕ, zero, suc, nat_lt, if◌then◌else◌}

module _ {A : Type 0} (ends : ℕ) (next : ℕ → ℕ) (at_end : ℕ → A) (through : ℕ → A → A) where
  -- the value of a number by at most the given number of steps of its way
  abbrev pub descended_within : ℕ → ℕ → A
  descended_within zero n = at_end n
  descended_within (suc k) n = if nat_lt n ends then at_end n else through n (descended_within k (next n))

  -- the value of a number by its way: an end has its own, and any other number has it from the value of the next one
  unfoldable pub descended : ℕ → A
  descended n = descended_within (suc n) n
