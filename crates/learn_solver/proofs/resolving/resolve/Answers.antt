use Rattle.std.proofs.Common.{◌≡◌, ◌∙◌, ◌<◌, ◌≤◌, set, length, take, ap, sym, subst, arith, ℕ}
use Rattle.std.specs.Prelude.{List, false, Some}
use Rattle.std.proofs.lemmas.List.Elements.{All-contains}
use Rattle.clause_pool.specs.Literal.{Literal, opposite}
use Rattle.clause_pool.specs.Clauses.{Clause, numbered_clause}
use Rattle.solver_trail.specs.Assignment.{assigned_literals, no_literal}
use Rattle.solver_trail.specs.Trail.{TrailState, IsReason, attached_numbers}
use Rattle.learn_solver.specs.Places.{set_literal_at}
use Rattle.learn_solver.specs.Ready.{IsSolverReady}
use Rattle.learn_solver.specs.Walk.{IsTrailWalk}
use Rattle.learn_solver.proofs.Resolvents.{with_step}
use Rattle.net_model.specs.Answer.{bit_at}
use Rattle.learn_solver.proofs.Levels.{inside_at}
use Rattle.learn_solver.proofs.WalkSteps.{resolve_step, few_more, some_more}
use Rattle.learn_solver.proofs.resolving.resolve.Goals as goal

pub get-requires : goal.get-requires
get-requires c =
    let ready = c.requires.ready in
    let is_in = ready.fits.reasons.is_attached c.args.place no_literal c.args.number (omega (arith, c.requires.walk.within)) c.requires.choice.0 in
    let both = All-contains (λ n. (0 < n) × (n ≤ length c.args.pool.now.clauses)) (attached_numbers c.args.trail.now) c.args.number ready.fits.attached.numbered is_in in
    record { from = both.0; below = both.1 }

pub mark_clause-requires-clause-inside : goal.mark_clause-requires-clause-inside
mark_clause-requires-clause-inside c =
    let ready = c.requires.ready in
    let is_in = ready.fits.reasons.is_attached c.args.place no_literal c.args.number (omega (arith, c.requires.walk.within)) c.requires.choice.0 in
    (ready.fits.attached.proper c.args.number c.get.result.now is_in c.get.ensures).inside

-- the reason of the literal at a place
reason_of : (place : ℕ) {trail : TrailState} {clauses : List Clause} {number : ℕ} {clause : Clause} → IsSolverReady trail clauses → place < length trail.assignment.literals → (set_literal_at trail.assignment place).reason ≡ Some number → numbered_clause clauses number ≡ Some clause
    → IsReason (take place (assigned_literals trail.assignment)) clause (set_literal_at trail.assignment place).literal
reason_of place {number = number} {clause = clause} ready inside is there = ready.fits.reasons.is_reason place no_literal number clause inside is there

pub overflow_add-analysis : goal.overflow_add-analysis
overflow_add-analysis c =
    let within : c.args.place < length c.args.trail.now.assignment.literals = omega (arith, c.requires.walk.within) in
    let forces = reason_of c.args.place c.requires.ready within c.requires.choice.0 c.get.ensures in
    let few = few_more c.requires.ready.is_trail c.args.place c.requires.walk c.requires.marked c.args.number c.get.ensures forces c.requires.choice c.in_ok-opened.ensures in
    omega (arith, few, c.literal_at-lit.ensures.room)

pub fewer-analysis-requires-clause-some : goal.fewer-analysis-requires-clause-some
fewer-analysis-requires-clause-some c =
    let within : c.args.place < length c.args.trail.now.assignment.literals = omega (arith, c.requires.walk.within) in
    let forces = reason_of c.args.place c.requires.ready within c.requires.choice.0 c.get.ensures in
    some_more c.requires.ready.is_trail c.args.place c.requires.walk c.requires.marked c.args.number c.get.ensures forces c.requires.choice c.in_ok-opened.ensures

pub remove-requires-clause-inside : goal.remove-requires-clause-inside
remove-requires-clause-inside c =
    let a = c.args.trail.now.assignment in
    let variable = c.variable-variable.ensures.value ∙ ap (λ (l : Literal). l.variable) c.literal_at-lit.ensures.is in
    let b = inside_at a c.requires.ready.is_trail c.args.place (omega (arith, c.requires.walk.within)) in
    omega (arith, variable, b.1, c.requires.walk.places, c.in_ok-opened.ensures.places)

pub remove-requires-clause-marked : goal.remove-requires-clause-marked
remove-requires-clause-marked c =
    let variable = c.variable-variable.ensures.value ∙ ap (λ (l : Literal). l.variable) c.literal_at-lit.ensures.is in
    ap (bit_at c.mark_clause.new.marks) variable ∙ c.in_ok-opened.ensures.kept (set_literal_at c.args.trail.now.assignment c.args.place).literal.variable c.requires.marked

pub returns : goal.returns
returns c =
    let there = (set_literal_at c.args.trail.now.assignment c.args.place).literal in
    let old = c.args.analysis.now in
    let within : c.args.place < length c.args.trail.now.assignment.literals = omega (arith, c.requires.walk.within) in
    let forces = reason_of c.args.place c.requires.ready within c.requires.choice.0 c.get.ensures in
    let lit = c.literal_at-lit.ensures.is in
    let step = resolve_step c.requires.ready.is_trail c.args.place c.requires.walk c.requires.marked c.args.number c.get.ensures forces c.requires.choice c.in_ok-opened.ensures c.fewer-analysis.result c.fewer-analysis.ensures in
    let marks : set c.mark_clause.new.marks there.variable false ≡ c.remove.new.self = sym (c.remove.ensures ∙ ap (λ v. set c.mark_clause.new.marks v false) (c.variable-variable.ensures.value ∙ ap (λ (l : Literal). l.variable) lit)) in
    let chain : with_step old.chain (opposite there) c.args.number ≡ c.push.new.self = sym (c.in_ok-push.ensures.ok ∙ ap (λ l. with_step old.chain l c.args.number) (c.opposite.ensures ∙ ap opposite lit)) in
    subst (λ ms. IsTrailWalk c.args.trail.now.assignment c.args.pool.now.clauses ms c.push.new.self old.kept.items c.fewer-analysis.result c.args.place) marks
    (subst (λ x. IsTrailWalk c.args.trail.now.assignment c.args.pool.now.clauses (set c.mark_clause.new.marks there.variable false) x old.kept.items c.fewer-analysis.result c.args.place) chain step)
