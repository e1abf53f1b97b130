use Rattle.std.proofs.Common.{◌≡◌, ℕ, ◌<◌, true, get_or}
use Rattle.bench_reader.specs.Tokens.{is_name_byte}
use Rattle.bench_reader.proofs.scanner.name_len.Given as goal

abbrev pub invariant-loop-len : goal.invariant-loop-len
invariant-loop-len l = (k : ℕ) → k < l.len → is_name_byte (get_or l.text k 0) ≡ true
