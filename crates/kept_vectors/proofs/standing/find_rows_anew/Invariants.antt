use Rattle.std.proofs.Common.{◌≡◌, true, [], get_or, drop}
use Rattle.std.specs.Prelude.{Contains}
use Rattle.net_model.specs.Answer.{bit_at}
use Rattle.kept_vectors.specs.Standing.{AreRowsBut}
use Rattle.kept_vectors.proofs.standing.find_rows_anew.Given as goal

abbrev pub invariant-loop-number : goal.invariant-loop-number
invariant-loop-number l = AreRowsBut l.good l.differences.units.roots.now l.classes l.differences.numbers.items (λ n. (bit_at (get_or l.rows n []) l.lane ≡ true) × Contains (drop l.number-index l.differences.numbers.items) n) l.rows
