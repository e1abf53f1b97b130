use Rattle.std.proofs.Common.{◌≡◌, ◌++◌, ◌∷◌, flat_map, take}
use Rattle.std.specs.Prelude.{codes}
use Rattle.std.specs.String.{string_bytes}
use Rattle.result_records.specs.Spelling.{behind_blanks, chain_fields}
use Rattle.result_records.proofs.write_log.push_log.Given as goal

abbrev pub invariant-loop-chain : goal.invariant-loop-chain
invariant-loop-chain l = string_bytes l.text ≡ string_bytes l.initial.text ++ flat_map (λ chain. behind_blanks (codes ";" ∷ chain_fields chain)) (take l.chain-index l.chain-items)
