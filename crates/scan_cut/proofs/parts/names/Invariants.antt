use Rattle.std.proofs.Common.{◌≡◌, [], take}
use Rattle.std.specs.Prelude.{map, slice_index_or}
use Rattle.scan_cut.proofs.parts.names.Given as goal

abbrev pub invariant-loop-number : goal.invariant-loop-number
invariant-loop-number l = l.names ≡ map (λ number. slice_index_or l.statements.names number []) (take l.number-index l.numbers)
