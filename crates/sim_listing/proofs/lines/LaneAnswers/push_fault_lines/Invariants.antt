use Rattle.std.proofs.Common.{◌≡◌, ◌++◌, ◌-◌, Bool, List}
use Rattle.std.specs.Prelude.{filter, flat_map}
use Rattle.std.specs.List.{range_with_len}
use Rattle.std.specs.String.{string_bytes}
use Rattle.sim_listing.specs.LaneAnswers.{IsLaneRow, AreLaneTexts}
use Rattle.sim_listing.specs.SimText.{answers_otherwise, numbered_line}
use Rattle.sim_listing.proofs.lines.LaneAnswers.push_fault_lines.Given as goal

abbrev pub invariant-loop-number : goal.invariant-loop-number
invariant-loop-number l = record {
  texts : AreLaneTexts l.self l.texts.items;
  text : (row : List (List Bool)) → IsLaneRow l.self row → string_bytes l.text ≡ string_bytes l.initial.text ++ flat_map (numbered_line row) (filter (answers_otherwise row) (range_with_len 1 (l.number - 1)));
}
