-- What holds of the fields of a `Cone`.
use Rattle.std.specs.Prelude.{◌≡◌, ℕ, ◌+◌, ◌<◌, ◌≤◌, true, not, All, Contains, length, count_by, vec_capacity}
use Rattle.net_model.specs.Answer.{bit_at}
use Rattle.pair_sets.specs.declared.cone.Cone.TheInside.{Inside}

-- The list has exactly the marked lines, and room for each line that isn't marked.
pub record AreLinesListed (a : Inside) : Type 0 where
  pub within : All (λ line. line < length a.marks.items) a.lines.items
  pub listed : (line : ℕ) → bit_at a.marks.items line ≡ true → Contains a.lines.items line
  pub marked : (line : ℕ) → Contains a.lines.items line → bit_at a.marks.items line ≡ true
  pub room : length a.lines.items + count_by not a.marks.items ≤ vec_capacity a.lines
