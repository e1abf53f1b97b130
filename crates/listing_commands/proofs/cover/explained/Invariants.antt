use Rattle.std.proofs.Common.{◌≡◌, ◌≤◌, ◌*◌, take}
use Rattle.std.specs.Prelude.{sum_by}
use Rattle.listing_commands.proofs.cover.explained.Given as goal

abbrev pub invariant-loop-at : goal.invariant-loop-at
invariant-loop-at l = (l.sum ≡ sum_by (λ choice. choice.explained) (take l.at l.choices)) × (l.sum ≤ l.at * 4294967296)
