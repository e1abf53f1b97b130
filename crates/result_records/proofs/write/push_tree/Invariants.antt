use Rattle.std.proofs.Common.{◌≡◌, ◌++◌, ◌∷◌, flat_map, take}
use Rattle.std.specs.String.{string_bytes}
use Rattle.result_records.specs.Spelling.{token_field}
use Rattle.result_records.proofs.write.push_tree.Given as goal

abbrev pub invariant-loop-token : goal.invariant-loop-token
invariant-loop-token l = string_bytes l.text ≡ string_bytes l.initial.text ++ flat_map (λ token. 32 ∷ token_field token) (take l.token-index l.token-items)
