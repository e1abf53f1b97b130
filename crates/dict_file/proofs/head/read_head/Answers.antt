use Rattle.std.proofs.Common.{inl, inr, refl, arith}
use Rattle.std.proofs.lemmas.Result.{err_from_is_err_and}
use Rattle.dict_file.proofs.head.read_head.Goals as goal

pub returns-in_err-read_magic-clause-refused : goal.returns-in_err-read_magic-clause-refused
returns-in_err-read_magic-clause-refused c =
    let p = err_from_is_err_and c.from_residual.result c.from_residual.ensures.1 in
    rw (p.1, p.2) (inl c.in_err-read_magic.ensures.refused)

pub returns-in_err-version-clause-refused : goal.returns-in_err-version-clause-refused
returns-in_err-version-clause-refused c =
    let p = err_from_is_err_and c.from_residual-in_err-version.result c.from_residual-in_err-version.ensures.1 in
    rw (p.1, p.2) (inr (c.in_ok-read_magic.ensures.right, inl c.in_err-version.ensures.refused))

pub returns-in_err-kind-clause-refused : goal.returns-in_err-kind-clause-refused
returns-in_err-kind-clause-refused c =
    let p = err_from_is_err_and c.from_residual-in_err-kind.result c.from_residual-in_err-kind.ensures.1 in
    rw (p.1, p.2) (inr (c.in_ok-read_magic.ensures.right, inr (c.in_ok-version.ensures.right, inl c.in_err-kind.ensures.refused)))

pub returns-in_err-positions-clause-refused : goal.returns-in_err-positions-clause-refused
returns-in_err-positions-clause-refused c =
    let p = err_from_is_err_and c.from_residual-in_err-positions.result c.from_residual-in_err-positions.ensures.1 in
    rw (p.1, p.2) (inr (c.in_ok-read_magic.ensures.right, inr (c.in_ok-version.ensures.right, inr (c.in_ok-kind.ensures.right, inl c.in_err-positions.ensures.refused))))

pub returns-in_err-patterns-clause-refused : goal.returns-in_err-patterns-clause-refused
returns-in_err-patterns-clause-refused c =
    let p = err_from_is_err_and c.from_residual-in_err-patterns.result c.from_residual-in_err-patterns.ensures.1 in
    rw (p.1, p.2) (inr (c.in_ok-read_magic.ensures.right, inr (c.in_ok-version.ensures.right, inr (c.in_ok-kind.ensures.right, inr (c.in_ok-positions.ensures.right, inl c.in_err-patterns.ensures.refused)))))

pub returns-in_err-numbers-clause-refused : goal.returns-in_err-numbers-clause-refused
returns-in_err-numbers-clause-refused c =
    let p = err_from_is_err_and c.from_residual-in_err-numbers.result c.from_residual-in_err-numbers.ensures.1 in
    rw (p.1, p.2) (inr (c.in_ok-read_magic.ensures.right, inr (c.in_ok-version.ensures.right, inr (c.in_ok-kind.ensures.right, inr (c.in_ok-positions.ensures.right, inr (c.in_ok-patterns.ensures.right, inl c.in_err-numbers.ensures.refused))))))

pub returns-then-numbers-eq0-clause-refused : goal.returns-then-numbers-eq0-clause-refused
returns-then-numbers-eq0-clause-refused c =
    inr (c.in_ok-read_magic.ensures.right, inr (c.in_ok-version.ensures.right, inr (c.in_ok-kind.ensures.right, inr (c.in_ok-positions.ensures.right, inr (c.in_ok-patterns.ensures.right, inr (c.in_ok-numbers.ensures.right, ((λ h. omega (arith, h, c.in_ok-numbers.ensures.value, c.if-numbers-eq0.true)), refl)))))))

pub returns-clause-head : goal.returns-clause-head
returns-clause-head c = record {
  right = (c.in_ok-read_magic.ensures.right, (c.in_ok-version.ensures.right, (c.in_ok-kind.ensures.right, (c.in_ok-positions.ensures.right, (c.in_ok-patterns.ensures.right, (c.in_ok-numbers.ensures.right, omega (arith, c.in_ok-numbers.ensures.value, c.if-numbers-eq0.false)))))));
  version_is = c.in_ok-version.ensures.value;
  kind_is = c.in_ok-kind.ensures.value;
  positions_are = c.in_ok-positions.ensures.value;
  patterns_are = c.in_ok-patterns.ensures.value;
  numbers_are = c.in_ok-numbers.ensures.value;
}
