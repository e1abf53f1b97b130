use Rattle.std.proofs.Common.{◌≡◌, ◌++◌, take}
use Rattle.std.specs.List.{flat_map}
use Rattle.std.specs.String.{string_bytes}
use Rattle.dictionary_commands.specs.Texts.{rank_line}
use Rattle.dictionary_commands.proofs.rank.push_ranks.Given as goal

abbrev pub invariant-loop-at : goal.invariant-loop-at
invariant-loop-at l = string_bytes l.text ≡ string_bytes l.initial.text ++ flat_map rank_line (take l.at l.ranks)
