use Rattle.std.proofs.Common.{◌≡◌, ℕ, ◌≤◌, ◌∙◌, [], ◌∷◌, ◌++◌, length, sym, ap, subst, arith}
use Rattle.std.specs.Prelude.{Some}
use Rattle.std.proofs.lemmas.List.Elements.{All-contains}
use Rattle.clause_pool.specs.Literal.{Literal}
use Rattle.clause_pool.specs.Clauses.{Clause, numbered_clause}
use Rattle.clause_pool.specs.Proper.{IsProper, IsVariable}
use Rattle.clause_pool.proofs.Literals.{code_within}
use Rattle.solver_trail.specs.Trail.{TrailState, Attaches, Fits, attached_numbers}
use Rattle.solver_trail.specs.Watches.{watched_literals, AreKept, AreWatched}
use Rattle.solver_trail.proofs.Fits.{attaches_long, attaches_short, fits_long, fits_short, kept_two}
use Rattle.solver_trail.proofs.Kept.{kept_weaker}
use Rattle.solver_trail.proofs.trail.Trail.attach.Goals as goal
use Rattle.solver_trail.proofs.trail.Trail.attach.Goals.{After-two_to_watch, After-self-1}

-- ---- what held before

fits : (c : After-two_to_watch)
    → Fits (record { assignment = c.self.inside.set; short = c.self.inside.attached.short.items; long = c.self.inside.attached.long.items; watched = watched_literals c.self.inside.watches }) c.args.pool.now.clauses
fits c = subst (λ (t : TrailState). Fits t c.args.pool.now.clauses) (sym c.self.view_is) c.requires.fits

proper : (c : After-two_to_watch) → IsProper c.self.inside.set.variables c.get-clause.result.now
proper c =
    subst (λ (t : TrailState). (clause : Clause) → numbered_clause c.args.pool.now.clauses c.args.number ≡ Some clause → IsProper t.assignment.variables clause) (sym c.self.view_is) c.requires.proper c.get-clause.result.now c.get-clause.ensures

pub two_to_watch-requires : goal.two_to_watch-requires
two_to_watch-requires c =
    subst (λ (t : TrailState). (clause : Clause) → numbered_clause c.args.pool.now.clauses c.args.number ≡ Some clause → IsProper t.assignment.variables clause) (sym c.self.view_is) c.requires.proper c.get-clause.result.now c.get-clause.ensures

-- ---- a clause that watches two of its literals

watched_within : (n : ℕ) (clause : Clause) (l m : Literal) → IsProper n clause → AreWatched clause l m → (l.variable ≤ n) × (m.variable ≤ n)
watched_within n clause l m p w =
    let is_within = λ (l : Literal). IsVariable n l.variable in
    ((All-contains is_within clause l p.inside w.first).1, (All-contains is_within clause m p.inside w.second).1)

pub watch-requires-clause-first : goal.watch-requires-clause-first
watch-requires-clause-first c =
    let d = (goal.at.watch-requires-clause-first c).After-two_to_watch in
    let two = c.in-Some.pair in
    let b = watched_within c.self.inside.set.variables c.get-clause.result.now two.first two.second (proper d) c.in-Some.ensures in
    omega (arith, code_within two.first c.self.inside.set.variables b.0, c.self.invariant.codes)

pub watch-requires-clause-second : goal.watch-requires-clause-second
watch-requires-clause-second c =
    let d = (goal.at.watch-requires-clause-second c).After-two_to_watch in
    let two = c.in-Some.pair in
    let b = watched_within c.self.inside.set.variables c.get-clause.result.now two.first two.second (proper d) c.in-Some.ensures in
    omega (arith, code_within two.second c.self.inside.set.variables b.1, c.self.invariant.codes)

pub false_from-first-requires : goal.false_from-first-requires
false_from-first-requires c =
    let d = (goal.at.false_from-first-requires c).After-two_to_watch in
    let two = c.in-Some.pair in
    (watched_within c.self.inside.set.variables c.get-clause.result.now two.first two.second (proper d) c.in-Some.ensures).0

pub false_from-second-requires : goal.false_from-second-requires
false_from-second-requires c =
    let d = (goal.at.false_from-second-requires c).After-two_to_watch in
    let two = c.in-Some.pair in
    (watched_within c.self.inside.set.variables c.get-clause.result.now two.first two.second (proper d) c.in-Some.ensures).1

pub invariant_of-self-in-Some : goal.invariant_of-self-in-Some
invariant_of-self-in-Some c =
    let i = c.self.inside in
    let h = c.self.invariant in
    let first = c.in-Some.pair.first in
    let second = c.in-Some.pair.second in
    let d = (goal.at.invariant_of-self-in-Some c).After-two_to_watch in
    let visited = c.min-self-inside.result in
    let le : visited ≤ i.visited = omega (arith, c.min-self-inside.ensures, c.min.ensures) in
    let before_first : visited ≤ c.false_from-first.result = omega (arith, c.min-self-inside.ensures, c.min.ensures) in
    let before_second : visited ≤ c.false_from-second.result = omega (arith, c.min-self-inside.ensures, c.min.ensures) in
    record {
      trail = h.trail;
      listed = c.in_ok-watch-in-Some.ensures.listed;
      codes = c.in_ok-watch-in-Some.ensures.firsts ∙ h.codes;
      kept = subst (AreKept i.set.literals visited visited) (sym c.in_ok-watch-in-Some.ensures.literals)
          (kept_two i.set.literals visited (length i.attached.long.items) (watched_literals i.watches) (fits d).size first second
          (λ j x below. c.false_from-first.ensures j x (omega arith) (omega (arith, h.reached)))
          (λ j x below. c.false_from-second.ensures j x (omega arith) (omega (arith, h.reached)))
          (kept_weaker i.set.literals i.visited i.visited visited visited (watched_literals i.watches) le le h.kept));
      reached = omega (arith, le, h.reached);
    }

long_is : (c : After-self-1) → c.push_reserved.new.self.items ≡ c.self.inside.attached.long.items ++ c.args.number ∷ []
long_is c = c.push_reserved.ensures.items ∙ ap (λ ns. ns ++ c.args.number ∷ []) c.in_ok-reserve-in-Some.ensures.items

pub returns-in_ok-watch-in-Some-clause-attached : goal.returns-in_ok-watch-in-Some-clause-attached
returns-in_ok-watch-in-Some-clause-attached c =
    let i = c.self.inside in
    let d = (goal.at.returns-in_ok-watch-in-Some-clause-attached c).After-self-1 in
    subst (λ old. Attaches old (i.attached.short.items ++ c.push_reserved.new.self.items) c.args.number) (ap attached_numbers c.self.view_is)
    (rw (long_is d) (attaches_long i.attached.short.items i.attached.long.items c.args.number))

pub returns-in_ok-watch-in-Some-clause-fits : goal.returns-in_ok-watch-in-Some-clause-fits
returns-in_ok-watch-in-Some-clause-fits c =
    let d = (goal.at.returns-in_ok-watch-in-Some-clause-fits c).After-two_to_watch in
    rw (long_is (goal.at.returns-in_ok-watch-in-Some-clause-fits c).After-self-1, c.in_ok-watch-in-Some.ensures.literals)
    (fits_long (fits d) c.args.number c.get-clause.result.now c.get-clause.ensures c.requires.from c.requires.below (proper d) c.in-Some.pair.first c.in-Some.pair.second c.in-Some.ensures)

-- ---- a clause of fewer than two literals

pub returns-in_ok-push-in-None-clause-attached : goal.returns-in_ok-push-in-None-clause-attached
returns-in_ok-push-in-None-clause-attached c =
    let i = c.self.inside in
    subst (λ old. Attaches old (c.push.new.self.items ++ i.attached.long.items) c.args.number) (ap attached_numbers c.self.view_is)
    (rw c.in_ok-push-in-None.ensures.items (attaches_short i.attached.short.items i.attached.long.items c.args.number))

pub returns-in_ok-push-in-None-clause-fits : goal.returns-in_ok-push-in-None-clause-fits
returns-in_ok-push-in-None-clause-fits c =
    let d = (goal.at.returns-in_ok-push-in-None-clause-fits c).After-two_to_watch in
    rw c.in_ok-push-in-None.ensures.items (fits_short (fits d) c.args.number c.get-clause.result.now c.get-clause.ensures c.requires.from c.requires.below (proper d) c.in-None.ensures)

-- ---- no memory: what held before holds

pub returns-in_err-reserve-in-Some-clause-fits : goal.returns-in_err-reserve-in-Some-clause-fits
returns-in_err-reserve-in-Some-clause-fits c =
    rw c.in_err-reserve-in-Some.ensures.items (fits (goal.at.returns-in_err-reserve-in-Some-clause-fits c).After-two_to_watch)

pub invariant_of-self-in_err-watch-in-Some : goal.invariant_of-self-in_err-watch-in-Some
invariant_of-self-in_err-watch-in-Some c =
    let i = c.self.inside in
    let h = c.self.invariant in
    record {
      trail = h.trail;
      listed = c.in_err-watch-in-Some.ensures.listed;
      codes = c.in_err-watch-in-Some.ensures.firsts ∙ h.codes;
      kept = subst (AreKept i.set.literals i.visited i.visited) (sym c.in_err-watch-in-Some.ensures.literals) h.kept;
      reached = h.reached;
    }

pub returns-in_err-watch-in-Some-clause-fits : goal.returns-in_err-watch-in-Some-clause-fits
returns-in_err-watch-in-Some-clause-fits c =
    rw (c.in_ok-reserve-in-Some.ensures.items, c.in_err-watch-in-Some.ensures.literals) (fits (goal.at.returns-in_err-watch-in-Some-clause-fits c).After-two_to_watch)

pub returns-in_err-push-in-None-clause-fits : goal.returns-in_err-push-in-None-clause-fits
returns-in_err-push-in-None-clause-fits c =
    rw c.in_err-push-in-None.ensures.items (fits (goal.at.returns-in_err-push-in-None-clause-fits c).After-two_to_watch)
