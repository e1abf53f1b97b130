use Rattle.std.proofs.Common.{◌∙◌, ℕ, map, sym, arith}
use Rattle.std.proofs.lemmas.List.{ext_get_or, get_or-map, length-map}
use Rattle.compact_tests.specs.Earlier.{class_before}
use Rattle.compact_tests.proofs.earlier.step_back.Goals as goal

pub returns-clause-earlier : goal.returns-clause-earlier
returns-clause-earlier c =
    let f : ℕ → ℕ = class_before c.args.classes.now.births c.args.pattern in
    let old = c.args.earlier.now in
    ext_get_or 0 c.loop-class.earlier (map f old) (omega (arith, length-map old f))
    (λ k h. c.loop-class.invariant.done k (omega (arith, h)) ∙ sym (get_or-map f old k 0 0 (omega (arith, h))))
