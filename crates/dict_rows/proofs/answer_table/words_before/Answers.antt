use Rattle.std.proofs.Common.{◌≡◌, ◌*◌, ◌/◌, ◌^◌, ap, arith}
use Rattle.std.proofs.lemmas.Nat.{mul-le}
use Rattle.dict_rows.proofs.answer_table.words_before.Goals as goal

pub returns-clause-words : goal.returns-clause-words
returns-clause-words c =
    let first = c.args.first in
    let whole : first / 64 * 64 ≡ first = omega (arith, c.requires) in
    omega (arith, ap (λ n. n * c.args.positions) whole)

pub returns-clause-few : goal.returns-clause-few
returns-clause-few c = omega (arith, mul-le (c.args.first / 64) c.args.positions (2 ^ 26) (2 ^ 32) (omega arith) (omega arith))
