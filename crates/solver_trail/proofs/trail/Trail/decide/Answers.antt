use Rattle.solver_trail.specs.Watches.{watched_literals}
use Rattle.std.proofs.Common.{◌≡◌, ℕ, ◌∷◌, ◌++◌, [], ◌+◌, None, Option, Some, refl, sym, subst, arith}
use Rattle.std.proofs.lemmas.List.{length_push}
use Rattle.solver_trail.specs.declared.set_literals.SetLiteral.{SetLiteral}
use Rattle.solver_trail.specs.Assignment.{Assignment, IsTrail}
use Rattle.solver_trail.specs.Trail.{TrailState, Fits}
use Rattle.solver_trail.proofs.Fits.{fits_again}
use Rattle.solver_trail.proofs.Forced.{reasons_push}
use Rattle.solver_trail.proofs.Kept.{kept_append}
use Rattle.solver_trail.proofs.trail.Trail.decide.Goals as goal

pub invariant_of-self : goal.invariant_of-self
invariant_of-self c =
    let set = c.self.inside.set in
    let h = c.self.invariant in
    let s : SetLiteral = record { literal = c.args.lit; level = set.level + 1; reason = None } in
    let trail = subst IsTrail c.decide.ensures.literals c.decide.ensures.trail in
    rw c.decide.ensures.literals (record {
      trail = trail;
      listed = h.listed;
      codes = h.codes;
      kept = kept_append set.literals (s ∷ []) c.self.inside.visited c.self.inside.visited (watched_literals c.self.inside.watches) h.reached h.kept;
      reached = omega (arith, h.reached, length_push set.literals s);
    })

pub returns-clause-fits : goal.returns-clause-fits
returns-clause-fits c = λ clauses before.
    let fits = subst (λ (t : TrailState). Fits t clauses) (sym c.self.view_is) before in
    let s : SetLiteral = record { literal = c.args.lit; level = c.self.inside.set.level + 1; reason = None } in
    let undecided : (number : ℕ) → ◌≡◌ {A = Option ℕ} None (Some number) → ⊥ = λ number e. cc in
    let reasons = reasons_push fits.reasons s (λ number is. absurd (undecided number is)) (λ number clause is e. absurd (undecided number is)) in
    let set = c.self.inside.set in
    let now : Assignment = record { variables = set.variables; literals = set.literals ++ s ∷ []; level = set.level + 1 } in
    rw c.decide.ensures.literals (fits_again fits now refl reasons)
