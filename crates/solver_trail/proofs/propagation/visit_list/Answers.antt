use Rattle.std.proofs.Common.{◌≡◌, ◌∙◌, ◌<◌, get_or, length, sym, ap, arith}
use Rattle.std.proofs.lemmas.List.{get_or_append_left}
use Rattle.clause_pool.specs.Literal.{Literal, opposite}
use Rattle.clause_pool.specs.LiteralCode.{code_of}
use Rattle.clause_pool.proofs.Literals.{code_within, opposite_opposite}
use Rattle.solver_trail.specs.declared.set_literals.SetLiteral.{SetLiteral}
use Rattle.solver_trail.proofs.Held.{literal_at, held_at, length-literals_of}
use Rattle.solver_trail.proofs.Walk.{walk_kept}
use Rattle.solver_trail.proofs.propagation.visit_list.Goals as goal
use Rattle.solver_trail.proofs.propagation.visit_list.Goals.{After-opposite-lit}
use Rattle.solver_trail.specs.Assignment.{no_literal}

-- the literal at the place is the opposite of the false literal
at_place : (c : After-opposite-lit) (d : SetLiteral) → (get_or c.args.set.now.literals c.args.place d).literal ≡ opposite c.opposite-lit.result
at_place c d =
    let x = c.index-literals-place.result in
    let read = c.index-literals-place.is ∙ ap (λ ls. get_or ls c.args.place x) c.literals.ensures.literals in
    sym (literal_at c.args.set.now.literals c.args.place d x c.requires.place) ∙ (sym read ∙ (sym (opposite_opposite x) ∙ ap opposite (sym c.opposite-lit.ensures)))

below : (c : After-opposite-lit) → code_of c.opposite-lit.result < length c.args.watches.now.firsts.items
below c =
    let inside = c.requires.trail.inside c.args.place no_literal c.requires.place in
    let variable = ap (λ (l : Literal). l.variable) (at_place c no_literal) in
    omega (arith, code_within c.opposite-lit.result c.args.set.now.variables (omega (arith, inside.1, variable)), c.requires.watches.codes)

pub visit_watches-requires-clause-lit : goal.visit_watches-requires-clause-lit
visit_watches-requires-clause-lit c =
    let d = (goal.at.visit_watches-requires-clause-lit c).After-opposite-lit in
    held_at c.args.set.now.literals c.args.place no_literal (opposite c.opposite-lit.result) c.requires.place (at_place d no_literal)

pub visit_watches-requires-clause-code : goal.visit_watches-requires-clause-code
visit_watches-requires-clause-code c = below (goal.at.visit_watches-requires-clause-code c).After-opposite-lit

pub returns-clause-kept : goal.returns-clause-kept
returns-clause-kept c = λ visited le kept.
    let e = c.visit_watches.ensures in
    let set = c.args.set.now in
    let new = c.visit_watches.new.set in
    let d = (goal.at.returns-clause-kept c).After-opposite-lit in
    let there : (x : SetLiteral) → (get_or new.literals c.args.place x).literal ≡ opposite c.opposite-lit.result =
    λ x. ap (λ (s : SetLiteral). s.literal) (ap (λ ls. get_or ls c.args.place x) e.set.added ∙ get_or_append_left set.literals e.set.more x c.args.place c.requires.place) ∙ at_place d x in
    walk_kept c.opposite-lit.result new c.visit_watches.new.watches c.visit_watches.result e.done c.args.place visited there le (e.kept visited c.args.place (omega (arith, c.requires.place)) kept)

pub bounds-literals-place : goal.bounds-literals-place
bounds-literals-place c = omega (arith, c.requires.place, ap length c.literals.ensures.literals, length-literals_of c.args.set.now.literals)
