use Rattle.std.proofs.Common.{◌≡◌, ◌∙◌, ap, sym, eq-eqb, eqb-true}
use Rattle.solver_trail.specs.declared.set_literals.SetLiteral.{SetLiteral}
use Rattle.learn_solver.proofs.Levels.{same_member}
use Rattle.learn_solver.proofs.marking.is_present.Goals as goal

pub returns-in-Some : goal.returns-in-Some
returns-in-Some c = λ s m e.
    let a = c.args.trail.now.assignment in
    let (t, n, there, at) = c.in-Some.ensures in
    let same : s.level ≡ c.in-Some.level = ap (λ (x : SetLiteral). x.level) (same_member a c.requires.trail s t m n (e ∙ sym there)) ∙ at in
    let present = c.level-present.ensures.level in
    (λ test. same ∙ (eqb-true c.in-Some.level c.level-present.result test ∙ present), λ h. eq-eqb c.in-Some.level c.level-present.result (sym same ∙ (h ∙ sym present)))
