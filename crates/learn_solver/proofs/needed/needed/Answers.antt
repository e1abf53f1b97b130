use Rattle.std.proofs.Common.{◌≡◌, ◌∙◌, ◌+◌, ◌-◌, ◌<◌, Bool, true, false, length, sym, ap, subst, arith}
use Rattle.std.specs.Prelude.{Some}
use Rattle.std.proofs.lemmas.List.{get_or_read, with_items_is}
use Rattle.std.proofs.lemmas.Option.{slice_get-get_or}
use Rattle.learn_solver.specs.Needed.{IsNeededAt}
use Rattle.learn_solver.proofs.MarkSteps.{MarksUsed, IsMarkedFrom, marked_skip, marked_more}
use Rattle.learn_solver.proofs.needed.needed.Goals as goal

pub loop-at-preserved-then-index : goal.loop-at-preserved-then-index
loop-at-preserved-then-index c =
    let at = c.loop-at.at - 1 in
    let chains = c.args.chains.now in
    let marks = c.loop-at.marks in
    let new = c.mark_used-then-index.new.marks in
    let long = c.mark_used-then-index.ensures.length ∙ c.deref_mut-then-index.ensures.len in
    let next : at + 1 ≡ c.loop-at.at = omega (arith, c.loop-at-test.true) in
    let inside : at < length chains = omega (arith, c.loop-at-test.true, c.loop-at.auto.at) in
    let held = with_items_is marks new (omega (arith, long, marks.ok.0)) in
    let here = slice_get-get_or chains at c.index-chains-at.result inside ∙ ap Some (sym c.index-chains-at.is) in
    let marked : IsNeededAt marks.items at = sym (get_or_read marks.items at c.index.result.now (omega (arith, inside, c.loop-at.invariant.whole)) c.index.ensures false) ∙ c.if-index.true in
    let used = subst (λ old. MarksUsed c.args.count c.index-chains-at.result at old new) c.deref_mut-then-index.ensures.value c.mark_used-then-index.ensures.marked in
    subst (IsMarkedFrom c.args.count chains c.args.last.now at) (sym held)
    (marked_more c.args.count chains c.args.last.now at c.index-chains-at.result marks.items new here marked (omega (arith, long)) used
    (subst (λ n. IsMarkedFrom c.args.count chains c.args.last.now n marks.items) (sym next) c.loop-at.invariant))

pub loop-at-preserved : goal.loop-at-preserved
loop-at-preserved c =
    let at = c.loop-at.at - 1 in
    let marks = c.loop-at.marks.items in
    let next : at + 1 ≡ c.loop-at.at = omega (arith, c.loop-at-test.true) in
    let inside : at < length marks = omega (arith, c.loop-at-test.true, c.loop-at.auto.at, c.loop-at.invariant.whole) in
    let read = sym (get_or_read marks at c.index.result.now inside c.index.ensures false) ∙ c.if-index.false in
    marked_skip c.args.count c.args.chains.now c.args.last.now at marks (λ m. let wrong : ◌≡◌ {A = Bool} true false = sym m ∙ read in cc)
    (subst (λ n. IsMarkedFrom c.args.count c.args.chains.now c.args.last.now n marks) (sym next) c.loop-at.invariant)
