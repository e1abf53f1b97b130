use Rattle.std.proofs.Common.{◌≡◌, ◌∙◌, ◌+◌, ◌-◌, ◌/◌, ◌<◌, length, arith}
use Rattle.std.proofs.lemmas.Bool.Decides.{nat_tests}
use Rattle.samediff_dict.specs.Descent.{together_of_old}
use Rattle.samediff_dict.proofs.DescentLemmas.{gains_stay, gains_part, gains_behind, left_alike, right_alike}
use Rattle.samediff_dict.proofs.descending.Descent.+descend.Goals as goal

pub returns-then-is_empty-clause-gains : goal.returns-then-is_empty-clause-gains
returns-then-is_empty-clause-gains t c =
    let empty : length c.args.part.now.classes.items ≡ 0 = grind (arith, c.is_empty.ensures, c.if-is_empty.true, nat_tests) in
    gains_stay c.args.self.now c.requires.can c.args.first c.args.end c.requires.part c.requires.within empty c.args.table.now c.requires.gains

pub descend-requires : goal.descend-requires
descend-requires t c =
    let d = c.args.self.now in
    let first = c.args.first in
    let end = c.args.end in
    let mid = first + (end - first) / 2 in
    let low : first < mid = omega (arith, c.requires.some, c.if-end-first-eq1.false) in
    let high : mid < end = omega (arith, c.requires.some, c.if-end-first-eq1.false) in (
      omega (arith, low, high),
      (
        c.requires.can,
        (
          low,
          (
            omega (arith, high, c.requires.within),
            (
              left_alike d mid (omega (arith, low)) (omega (arith, high)) c.requires.within c.requires.part c.in_ok-left.ensures,
              (c.requires.rows, gains_part d.patterns.now (together_of_old d) first mid (omega arith) (omega (arith, high)) c.requires.gains),
            ),
          ),
        ),
      ),
    )

pub descend-requires-2 : goal.descend-requires-2
descend-requires-2 t c =
    let d = c.args.self.now in
    let first = c.args.first in
    let end = c.args.end in
    let mid = first + (end - first) / 2 in
    let low : first < mid = omega (arith, c.requires.some, c.if-end-first-eq1.false) in
    let high : mid < end = omega (arith, c.requires.some, c.if-end-first-eq1.false) in
    let kept = c.in_ok-descend.ensures.others in (
      omega (arith, low, high),
      (
        c.requires.can,
        (
          high,
          (
            c.requires.within,
            (
              right_alike d mid (omega (arith, low)) (omega (arith, high)) c.requires.part c.in_ok-right.ensures,
              (kept.long ∙ c.requires.rows, gains_behind d.patterns.now (together_of_old d) (omega arith) kept (gains_part d.patterns.now (together_of_old d) mid end (omega (arith, low)) (omega arith) c.requires.gains)),
            ),
          ),
        ),
      ),
    )
