use Rattle.std.proofs.Common.{◌≡◌, ℕ, Bool, List, ◌++◌, take, map}
use Rattle.std.specs.String.{string_bytes}
use Rattle.net_model.specs.BitText.{bit_digit}
use Rattle.text_fields.specs.Fields.{AreBitsOf}
use Rattle.text_fields.proofs.digits.push_bits.Given as goal

abbrev pub invariant-loop-at : goal.invariant-loop-at
invariant-loop-at g l = record {
  some : (more : List ℕ) × (string_bytes l.text ≡ string_bytes l.initial.text ++ more);
  digits : (bits : List Bool) → AreBitsOf (goal.F-post g l.bit) l.count bits → string_bytes l.text ≡ string_bytes l.initial.text ++ map bit_digit (take l.at bits);
}
