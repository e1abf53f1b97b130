use Rattle.std.proofs.Common.{◌≡◌, ◌∙◌, ◌++◌, ◌∷◌, [], set, ap, sym, subst, arith}
use Rattle.net_model.specs.Answer.{bit_at}
use Rattle.learn_solver.proofs.Levels.{inside_at}
use Rattle.std.specs.Prelude.{false}
use Rattle.clause_pool.specs.Literal.{Literal, opposite}
use Rattle.learn_solver.specs.Places.{set_literal_at}
use Rattle.learn_solver.specs.Walk.{IsTrailWalk}
use Rattle.learn_solver.proofs.WalkSteps.{keep_step}
use Rattle.learn_solver.proofs.resolving.keep.Goals as goal

pub remove-requires-clause-inside : goal.remove-requires-clause-inside
remove-requires-clause-inside c =
    let a = c.args.trail.now.assignment in
    let variable = c.variable-variable.ensures.value ∙ ap (λ (l : Literal). l.variable) c.literal_at-lit.ensures.is in
    let b = inside_at a c.requires.ready.is_trail c.args.place (omega (arith, c.requires.walk.within)) in
    omega (arith, variable, b.1, c.requires.walk.places)

pub remove-requires-clause-marked : goal.remove-requires-clause-marked
remove-requires-clause-marked c =
    let variable = c.variable-variable.ensures.value ∙ ap (λ (l : Literal). l.variable) c.literal_at-lit.ensures.is in
    ap (bit_at c.args.marks.now) variable ∙ c.requires.marked

pub returns : goal.returns
returns c =
    let there = (set_literal_at c.args.trail.now.assignment c.args.place).literal in
    let old = c.args.analysis.now in
    let lit = c.literal_at-lit.ensures.is in
    let step = keep_step c.requires.ready.is_trail c.args.place c.requires.walk c.requires.marked c.requires.choice c.fewer-analysis.result c.fewer-analysis.ensures in
    let variable = c.variable-variable.ensures.value ∙ ap (λ (l : Literal). l.variable) lit in
    let marks : set c.args.marks.now there.variable false ≡ c.remove.new.self = sym (c.remove.ensures ∙ ap (λ v. set c.args.marks.now v false) variable) in
    let kept : old.kept.items ++ opposite there ∷ [] ≡ c.push.new.self.items = sym (c.in_ok-push.ensures.items ∙ ap (λ l. old.kept.items ++ l ∷ []) (c.opposite.ensures ∙ ap opposite lit)) in
    subst (λ ms. IsTrailWalk c.args.trail.now.assignment c.args.pool.now.clauses ms old.chain c.push.new.self.items c.fewer-analysis.result c.args.place) marks
    (subst (λ ls. IsTrailWalk c.args.trail.now.assignment c.args.pool.now.clauses (set c.args.marks.now there.variable false) old.chain ls c.fewer-analysis.result c.args.place) kept step)
