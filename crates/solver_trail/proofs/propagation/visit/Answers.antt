use Rattle.std.proofs.Common.{◌≤◌, inl, refl, subst}
use Rattle.std.specs.Prelude.{Some, MatchOption}
use Rattle.std.proofs.lemmas.List.Elements.{All-contains}
use Rattle.clause_pool.specs.Literal.{Literal}
use Rattle.clause_pool.specs.Proper.{IsVariable}
use Rattle.clause_pool.proofs.Numbered.{has_numbered, same_clause}
use Rattle.solver_trail.specs.Assignment.{IsValueOf, assigned_literals}
use Rattle.solver_trail.specs.Trail.{IsFalseClause}
use Rattle.solver_trail.specs.Propagation.{IsRewatch}
use Rattle.solver_trail.proofs.Forced.{IsForced, propagates_forced, held_forced, reasons_forced, undetermined_unset, false_or_open}
use Rattle.solver_trail.proofs.propagation.visit.Goals as goal
use Rattle.solver_trail.proofs.propagation.visit.Goals.{After-put, Start}

inside : (c : Start) → c.args.other.variable ≤ c.args.set.now.variables
inside c =
    let found = has_numbered c.args.pool.now.clauses c.args.number c.requires.from c.requires.below in
    (All-contains (λ (l : Literal). IsVariable c.args.set.now.variables l.variable) found.0 c.args.other (c.requires.proper found.0 found.1).inside (c.requires.other found.0 found.1)).1

pub value_of-requires : goal.value_of-requires
value_of-requires c = inside (goal.at.value_of-requires c).Start

pub put-requires-clause-inside : goal.put-requires-clause-inside
put-requires-clause-inside c = inside (goal.at.put-requires-clause-inside c).Start

pub open_other-requires-clause-proper : goal.open_other-requires-clause-proper
open_other-requires-clause-proper c = c.requires.proper c.get.result.now c.get.ensures

pub open_other-requires-in-None-clause-proper : goal.open_other-requires-in-None-clause-proper
open_other-requires-in-None-clause-proper c = c.requires.proper c.get-in-None.result.now c.get-in-None.ensures

pub put-requires-clause-unset : goal.put-requires-clause-unset
put-requires-clause-unset c = undetermined_unset c.args.set.now c.args.other c.in-None.ensures.value

pub returns-in-Some-true-clause-target : goal.returns-in-Some-true-clause-target
returns-in-Some-true-clause-target c = λ clause e. inl (refl, subst (λ sign. IsValueOf c.args.set.now c.args.other (Some sign)) c.in-Some-true.field-0-test c.in-Some-true.ensures.value)

pub returns-in-Some-false-clause-target : goal.returns-in-Some-false-clause-target
returns-in-Some-false-clause-target c = λ clause e.
    let same = same_clause c.args.pool.now.clauses c.args.number c.get.result.now clause c.get.ensures e in
    let f = subst (λ sign. IsValueOf c.args.set.now c.args.other (Some sign)) c.in-Some-false.field-0-test c.in-Some-false.ensures.value in
    subst (λ clause. MatchOption c.open_other.result (IsFalseClause (assigned_literals c.args.set.now) clause) (IsRewatch (assigned_literals c.args.set.now) clause c.args.lit c.args.other)) same
    (false_or_open (assigned_literals c.args.set.now) c.get.result.now c.args.lit c.args.other c.open_other.result f c.open_other.ensures)

forced : (c : After-put) → IsForced c.args.set.now c.put.new.self c.args.other c.level-level.result c.args.number
forced c = record { present = c.level-level.ensures.level; is = c.put.ensures.literals }

pub returns-in-None-open_other-clause-set : goal.returns-in-None-open_other-clause-set
returns-in-None-open_other-clause-set c = propagates_forced (forced c)

pub returns-in-None-open_other-clause-reasons : goal.returns-in-None-open_other-clause-reasons
returns-in-None-open_other-clause-reasons c = λ attached is_in reasons.
    let d = (goal.at.returns-in-None-open_other-clause-reasons c).After-put in
    reasons_forced (forced d) reasons is_in c.get-in-None.ensures (record { inside = c.requires.other c.get-in-None.result.now c.get-in-None.ensures; others = c.in-None-open_other.ensures })

pub returns-in-None-open_other-clause-target : goal.returns-in-None-open_other-clause-target
returns-in-None-open_other-clause-target c = λ clause e. inl (refl, held_forced (forced (goal.at.returns-in-None-open_other-clause-target c).After-put))
