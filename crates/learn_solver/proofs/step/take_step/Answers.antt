use Rattle.std.proofs.Common.{refl, sym, subst}
use Rattle.pair_miter.proofs.PlaceSteps.{grows_none}
use Rattle.learn_solver.specs.Decisions.{IsAim}
use Rattle.learn_solver.specs.Descent.{IsFoundAt}
use Rattle.learn_solver.specs.Search.{Learns}
use Rattle.learn_solver.specs.declared.search.Search.{Search}
use Rattle.learn_solver.proofs.Searching.{decider_is, prepared_on, room_left, search_on, search_more}
use Rattle.learn_solver.proofs.step.take_step.Goals as goal

pub descend-requires-clause-aim : goal.descend-requires-clause-aim
descend-requires-clause-aim c =
    subst (λ n. IsAim n c.args.aim.now) (sym (decider_is c.args.miter.now c.args.conflicts c.args.search.now c.args.pool.now.clauses c.requires.search)) c.requires.aim

pub learn_from-requires-clause-prepared : goal.learn_from-requires-clause-prepared
learn_from-requires-clause-prepared c =
    let e = c.descend.ensures in
    prepared_on c.args.search.now c.args.pool.now.clauses c.descend.new.trail c.descend.new.decider c.requires.search.prepared e.ready e.variables e.decider

pub learn_from-requires-clause-few : goal.learn_from-requires-clause-few
learn_from-requires-clause-few c = room_left c.args.miter.now c.args.conflicts c.args.search.now c.args.pool.now.clauses c.requires.search c.requires.left c.requires.few

pub returns-in-Quiet-clause-ends : goal.returns-in-Quiet-clause-ends
returns-in-Quiet-clause-ends c =
    let e = c.descend.ensures in
    let old = c.args.search.now in
    let clauses = c.args.pool.now.clauses in
    let new : Search = record old { trail = c.descend.new.trail; decider = c.descend.new.decider } in
    let prepared = prepared_on old clauses c.descend.new.trail c.descend.new.decider c.requires.search.prepared e.ready e.variables e.decider in
    (search_on c.args.miter.now c.args.conflicts old clauses c.requires.search new prepared e.variables refl, subst (IsFoundAt c.descend.new.trail clauses) c.in-Quiet.is e.found, λ model. e.whole model c.in-Quiet.is)

pub returns-in-None-clause-ends : goal.returns-in-None-clause-ends
returns-in-None-clause-ends c =
    let old = c.args.search.now in
    let clauses = c.args.pool.now.clauses in
    let mid : Search = record old { trail = c.descend.new.trail; decider = c.descend.new.decider } in
    let new = c.learn_from.new.search in
    let more = c.learn_from.new.pool.clauses in
    let learns = subst (Learns mid clauses new more) c.in-None.is c.in_ok-learn_from-in-Conflict.ensures.learned in
    (search_more c.args.miter.now c.args.conflicts old clauses c.requires.search mid new more c.descend.ensures.variables refl learns c.learn_from.ensures.grows.begins c.requires.left, learns.count)

pub returns-in-Some-clause-ends : goal.returns-in-Some-clause-ends
returns-in-Some-clause-ends c =
    let old = c.args.search.now in
    let clauses = c.args.pool.now.clauses in
    let mid : Search = record old { trail = c.descend.new.trail; decider = c.descend.new.decider } in
    let search = c.requires.search in
    subst (Learns mid clauses c.learn_from.new.search c.learn_from.new.pool.clauses) c.in-Some.is c.in_ok-learn_from-in-Conflict.ensures.learned _ _ search.learning search.few

pub returns-in-Quiet-clause-grows : goal.returns-in-Quiet-clause-grows
returns-in-Quiet-clause-grows c = grows_none c.args.pool.now
