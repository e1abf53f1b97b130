use Rattle.std.proofs.Common.{◌≡◌, ◌++◌, take}
use Rattle.std.specs.List.{flat_map}
use Rattle.bridging_faults.specs.Texts.{bridge_line}
use Rattle.listing_commands.proofs.bridges.push_bridges.Given as goal

abbrev pub invariant-loop-at : goal.invariant-loop-at
invariant-loop-at l = l.text.items ≡ l.initial.text.items ++ flat_map (bridge_line l.names) (take l.at l.listed.listed)
