use Rattle.std.proofs.Common.{◌≡◌, ℕ, length, get_or}
use Rattle.std.specs.Prelude.{None}
use Rattle.dia_gen.proofs.ahead.Ahead.new.Given as goal

abbrev pub invariant-loop-number : goal.invariant-loop-number
invariant-loop-number l = record {
  long : length l.known.items ≡ l._number;
  none : (k : ℕ) → get_or l.known.items k None ≡ None;
}
