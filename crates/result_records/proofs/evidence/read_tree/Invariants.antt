use Rattle.std.proofs.Common.{◌≡◌, map, take}
use Rattle.std.specs.Prelude.{All}
use Rattle.result_records.specs.Spelling.{token_field, HasTokenSpelling}
use Rattle.result_records.proofs.evidence.read_tree.Given as goal

abbrev pub invariant-loop-field : goal.invariant-loop-field
invariant-loop-field l = All HasTokenSpelling l.tree × (map token_field l.tree ≡ take l.field-index (map (λ f. f.now) l.fields))
