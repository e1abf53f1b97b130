use Rattle.std.proofs.Common.{◌≡◌, take}
use Rattle.std.specs.Prelude.{map, string_bytes}
use Rattle.net_model.specs.BitText.{bit_digit}
use Rattle.sample_circuits.proofs.texts.text_of.Given as goal

abbrev pub invariant-loop-at : goal.invariant-loop-at
invariant-loop-at l = string_bytes l.text ≡ map bit_digit (take l.at l.bits)
