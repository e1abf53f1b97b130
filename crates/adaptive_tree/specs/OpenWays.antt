-- How many asks are open after each step, and the most that were open at once.
use Rattle.std.specs.Prelude.{◌≡◌, ℕ, zero, suc, ◌+◌, max, List, [], ◌∷◌, length, fold, reverse}
use Rattle.adaptive_tree.specs.declared.steps.Step.{Step}
use Rattle.adaptive_tree.specs.declared.steps.Step.TheVariants.{Ask, On, Class}

-- for each open ask, the innermost first, the number of its branches that aren't whole; and the greatest number of asks
-- that were open at once
pub record OpenWays : Type 0 where
  pub left : List ℕ
  pub most : ℕ

-- the counts after a node has ended: its branch has ended too, and with the last branch of an ask the node of that ask
abbrev pub node_ended : List ℕ → List ℕ
node_ended [] = []
node_ended (zero ∷ left) = node_ended left
node_ended (suc zero ∷ left) = node_ended left
node_ended (suc (suc n) ∷ left) = suc n ∷ left

abbrev pub with_step : OpenWays → Step → OpenWays
with_step ways (Ask pattern branches) = record { left = branches ∷ ways.left; most = max ways.most (length ways.left + 1) }
with_step ways (On answer) = ways
with_step ways (Class class) = record ways { left = node_ended ways.left }

abbrev pub open_ways : List Step → OpenWays
open_ways steps = fold with_step (record { left = []; most = 0 }) steps

-- `left`, with the innermost ask last, and `most` are the counts after these steps.
pub record AreOpenWays (steps : List Step) (left : List ℕ) (most : ℕ) : Type 0 where
  pub left_is : reverse left ≡ (open_ways steps).left
  pub most_is : most ≡ (open_ways steps).most
