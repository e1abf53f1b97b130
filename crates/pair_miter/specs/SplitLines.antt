-- The split lines of a miter with the variables of their copies, in an evaluation order.
use Rattle.std.specs.Prelude.{◌≡◌, ℕ, ◌&&◌, Bool, List, ◌++◌, map, filter}
use Rattle.std.specs.List.{range_with_len}
use Rattle.net_model.specs.declared.fault.Fault.{Fault}
use Rattle.net_model.specs.Circuit.{Circuit}
use Rattle.net_model.specs.Order.{IsOrder}
use Rattle.net_model.specs.Scope.{is_relevant, is_split}
use Rattle.clause_pool.specs.Proper.{IsVariable}
use Rattle.pair_miter.specs.declared.side.Side.TheVariants.{First, Second}
use Rattle.pair_miter.specs.declared.split.Copies.{Copies}
use Rattle.pair_miter.specs.Variables.{line_variable}

-- Both variables are among 1 to `variables`.
abbrev pub AreVariables : ℕ → Copies → Type 0
AreVariables variables copies = IsVariable variables copies.first × IsVariable variables copies.second

module _ (c : Circuit) (f g : Fault) where
  -- whether a line has a variable for each copy
  abbrev pub is_double : ℕ → Bool
  is_double line = is_relevant c f g line && is_split c f g line

  -- the two variables of a line, one for each copy
  abbrev pub copies_of : ℕ → Copies
  copies_of line = record { first = line_variable c f g First line; second = line_variable c f g Second line }

  -- the copies of those lines that have two variables
  unfoldable pub all_copies : List ℕ → List Copies
  all_copies lines = map copies_of (filter is_double lines)

-- The list has the two variables of each line that is relevant and split: of the sources first, and then of the gates
-- in an evaluation order.
pub record AreSplitLines (c : Circuit) (f g : Fault) (lines : List Copies) : Type 0 where
  pub order : List ℕ
  pub ordered : IsOrder c order
  pub are : lines ≡ all_copies c f g (range_with_len 0 c.sources ++ order)
