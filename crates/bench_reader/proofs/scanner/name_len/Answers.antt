use Rattle.std.proofs.Common.{◌≡◌, sym, ◌∙◌, length, arith}
use Rattle.std.proofs.lemmas.List.Sums.{prefix_len_is}
use Rattle.bench_reader.specs.Tokens.{is_name_byte}
use Rattle.bench_reader.proofs.scanner.name_len.Goals as goal

pub returns-then-not-is_name_byte : goal.returns-then-not-is_name_byte
returns-then-not-is_name_byte c =
    sym (prefix_len_is is_name_byte c.args.text.now c.loop-len.len 0 (omega arith) c.loop-len.invariant (λ h. sym c.is_name_byte.ensures ∙ c.if-not-is_name_byte.true))

pub returns : goal.returns
returns c = let all : c.loop-len.len ≡ length c.args.text.now = omega arith in
    sym (prefix_len_is is_name_byte c.args.text.now (length c.args.text.now) 0 (omega arith) (rw all at c.loop-len.invariant) (λ h. absurd (omega arith)))
