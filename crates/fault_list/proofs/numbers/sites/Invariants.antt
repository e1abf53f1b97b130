use Rattle.std.proofs.Common.{◌≡◌}
use Rattle.std.specs.Prelude.{flat_map}
use Rattle.std.specs.List.{range_with_len}
use Rattle.net_model.specs.FaultList.{sites_of_line}
use Rattle.fault_list.proofs.numbers.sites.Given as goal

abbrev pub invariant-loop-line : goal.invariant-loop-line
invariant-loop-line l = l.sites.items ≡ flat_map (sites_of_line l.circuit) (range_with_len 0 l.line)
