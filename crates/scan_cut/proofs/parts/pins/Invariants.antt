use Rattle.std.proofs.Common.{◌≡◌, take}
use Rattle.std.specs.Prelude.{map, slice_index}
use Rattle.scan_cut.proofs.parts.pins.Given as goal

abbrev pub invariant-loop-word : goal.invariant-loop-word
invariant-loop-word l = l.pins ≡ map (λ word. slice_index l.lines word.name) (take l.word-index l.words)
