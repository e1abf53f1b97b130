use Rattle.std.proofs.Common.{◌≡◌, [], take}
use Rattle.std.specs.Prelude.{map, slice_index_or}
use Rattle.scan_cut.proofs.loops.names_along.Given as goal

abbrev pub invariant-loop-line : goal.invariant-loop-line
invariant-loop-line l = l.found ≡ map (λ line. slice_index_or l.names line []) (take l.line-index l.lines)
