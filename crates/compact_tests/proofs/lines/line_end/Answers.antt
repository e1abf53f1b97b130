use Rattle.std.proofs.Common.{◌≡◌, ◌∙◌, ℕ, inl, inr, get_or, ap, arith}
use Rattle.std.proofs.lemmas.Bool.{cases_lt, cases_eq}
use Rattle.compact_tests.proofs.lines.line_end.Goals as goal

pub bounds-bytes-end : goal.bounds-bytes-end
bounds-bytes-end c = omega (arith, c.loop-end.invariant.ahead c.requires.0 c.requires.1, c.requires.1.inside)

pub loop-end-preserved : goal.loop-end-preserved
loop-end-preserved c =
    let bytes = c.args.bytes.now in
    let end = c.loop-end.end in
    record {
      behind = omega (arith, c.loop-end.invariant.behind);
      before = λ k low high. elim (cases_lt k end) [
        | inl less ↦ c.loop-end.invariant.before k low less
        | inr over ↦ let e : end ≡ k = omega (arith, high, over) in λ is. c.loop-end-test.true (ap (λ (n : ℕ). get_or bytes n 0) e ∙ is)
      ];
      ahead = λ first is. elim (cases_eq end first) [
        | inl e ↦ absurd (c.loop-end-test.true (ap (λ (n : ℕ). get_or bytes n 0) e ∙ is.here))
        | inr ne ↦ omega (arith, c.loop-end.invariant.ahead first is, ne)
      ];
    }

pub returns : goal.returns
returns c = record {
  behind = c.loop-end.invariant.behind;
  inside = omega (arith, c.loop-end.invariant.ahead c.requires.0 c.requires.1, c.requires.1.inside);
  before = c.loop-end.invariant.before;
  here = c.loop-end-test.false;
}
