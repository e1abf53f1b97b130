use Rattle.std.proofs.Common.{map, take}
use Rattle.std.specs.Prelude.{All}
use Rattle.result_records.proofs.OnceLemmas.{IsUnmarked}
use Rattle.result_records.proofs.evidence.first_mark.Given as goal

abbrev pub invariant-loop-at : goal.invariant-loop-at
invariant-loop-at l = All IsUnmarked (take l.at (map (λ f. f.now) l.fields))
