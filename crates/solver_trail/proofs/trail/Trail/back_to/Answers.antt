use Rattle.std.proofs.Common.{◌≡◌, ◌∙◌, length, sym, ap, subst, arith}
use Rattle.std.specs.Prelude.{min}
use Rattle.solver_trail.specs.Trail.{TrailState, Fits}
use Rattle.solver_trail.specs.Watches.{watched_literals, AreKept}
use Rattle.solver_trail.proofs.Held.{length-literals_of}
use Rattle.solver_trail.proofs.Fits.{fits_again, reasons_cut}
use Rattle.solver_trail.proofs.Kept.{kept_cut}
use Rattle.solver_trail.proofs.trail.Trail.back_to.Goals as goal

pub invariant_of-self : goal.invariant_of-self
invariant_of-self c =
    let new = c.back_to.new.self in
    let h = c.self.invariant in
    let count : length c.literals.result.now ≡ length new.literals = ap length c.literals.ensures.literals ∙ length-literals_of new.literals in
    let visited : c.min-self-inside.result ≡ min c.self.inside.visited (length new.literals) = c.min-self-inside.ensures ∙ ap (λ n. min c.self.inside.visited n) count in
    record {
      trail = c.back_to.ensures.trail;
      listed = h.listed;
      codes = omega (arith, h.codes, c.back_to.ensures.cut.variables);
      kept = subst (λ n. AreKept new.literals n n (watched_literals c.self.inside.watches)) (sym visited) (kept_cut c.back_to.ensures.cut c.self.inside.visited (watched_literals c.self.inside.watches) h.kept);
      reached = omega (arith, visited);
    }

pub returns-clause-fits : goal.returns-clause-fits
returns-clause-fits c = λ clauses before.
    let fits = subst (λ (t : TrailState). Fits t clauses) (sym c.self.view_is) before in
    fits_again fits c.back_to.new.self c.back_to.ensures.cut.variables (reasons_cut c.back_to.ensures.cut fits.reasons)
