use Rattle.std.proofs.Common.{rules}
use Rattle.refute_check.proofs.tree.has_right_counts.Goals as goal

pub returns-then-not-has_open : goal.returns-then-not-has_open
returns-then-not-has_open c = search rules

pub returns-else-not-has_open : goal.returns-else-not-has_open
returns-else-not-has_open c = search rules

pub returns-then-has_open : goal.returns-then-has_open
returns-then-has_open c = search rules

pub returns-else-has_open : goal.returns-else-has_open
returns-else-has_open c = search rules
