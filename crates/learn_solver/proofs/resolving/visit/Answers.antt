use Rattle.std.proofs.Common.{◌∙◌, ap, sym, arith}
use Rattle.clause_pool.specs.Literal.{Literal}
use Rattle.net_model.specs.Answer.{bit_at}
use Rattle.learn_solver.proofs.WalkSteps.{pass_step, another_present}
use Rattle.learn_solver.proofs.resolving.visit.Goals as goal

pub has-requires : goal.has-requires
has-requires c = omega (arith, c.variable.ensures.value, c.literal_at-lit.ensures.inside, c.requires.walk.places)

pub returns-then-not-has : goal.returns-then-not-has
returns-then-not-has c =
    let variable = c.variable.ensures.value ∙ ap (λ (l : Literal). l.variable) c.literal_at-lit.ensures.is in
    pass_step c.requires.ready.is_trail c.args.place c.requires.walk
    (ap (bit_at c.args.marks.now) (sym variable) ∙ (sym c.has.ensures ∙ c.if-not-has.true))

pub reason_at-requires-clause-several : goal.reason_at-requires-clause-several
reason_at-requires-clause-several c =
    let variable = c.variable.ensures.value ∙ ap (λ (l : Literal). l.variable) c.literal_at-lit.ensures.is in
    another_present c.requires.ready.is_trail c.args.place c.requires.walk
    (ap (bit_at c.args.marks.now) (sym variable) ∙ (sym c.has.ensures ∙ c.if-not-has.false))
