-- The limits of budgets.
use Rattle.std.specs.Prelude.{◌≤◌}
use Rattle.result_records.specs.declared.limits.TheConstants.{BLOCKS_LIMIT, CUBES_LIMIT, CONFLICTS_LIMIT}
use Rattle.result_records.specs.declared.record.Budgets.{Budgets}

-- The budgets are within their limits.
pub record AreWithinLimits (budgets : Budgets) : Type 0 where
  pub blocks : budgets.blocks ≤ BLOCKS_LIMIT
  pub cubes : budgets.cubes ≤ CUBES_LIMIT
  pub conflicts : budgets.conflicts ≤ CONFLICTS_LIMIT
