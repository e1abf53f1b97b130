use Rattle.std.proofs.Common.{◌≡◌, ◌∙◌, ◌+◌, ◌++◌, ◌∷◌, [], Bool, true, false, length, sym, ap, subst, arith}
use Rattle.std.specs.Prelude.{Some, slice_get}
use Rattle.std.proofs.lemmas.List.{length_push}
use Rattle.std.proofs.lemmas.Option.{slice_get-get_or}
use Rattle.learn_solver.specs.Needed.{IsNeededAt, IsTrimmedTo, renumbered_chain}
use Rattle.learn_solver.proofs.TrimSteps.{trimmed_skip, trimmed_more}
use Rattle.learn_solver.proofs.TrimEnds.{ends_skip, ends_more}
use Rattle.learn_solver.proofs.trimming.keep_needed.Goals as goal
use Rattle.learn_solver.proofs.trimming.keep_needed.Goals.{then-marks-at+in_ok-renumbered+in_ok-push+in_ok-push-2, else-marks-at+in_ok-push-3}

pub loop-at-preserved : goal.loop-at-preserved
loop-at-preserved c = elim c.if-marks-at.branch [
  | then-marks-at+in_ok-renumbered+in_ok-push+in_ok-push-2 w ↦
      let at = c.loop-at.at in
      let chains = c.args.chains.now in
      let numbers = c.loop-at.numbers.items in
      let short = c.loop-at.short in
      let number = c.loop-at.number + 1 in
      let here = c.index-chains-at.result in
      let is_here : slice_get chains at ≡ Some here = slice_get-get_or chains at here c.loop-at-test.true ∙ ap Some (sym c.index-chains-at.is) in
      let marked : IsNeededAt c.args.marks.now at = w.if-marks-at.true in
      let next : number ≡ c.args.count + length short + 1 = omega (arith, c.loop-at.invariant.number) in
      let new : w.in_ok-renumbered.field-0 ≡ renumbered_chain c.args.count numbers here = w.in_ok-renumbered.ensures ∙ ap (λ xs. renumbered_chain c.args.count xs here) w.as_slice.ensures.value in
      let short_is : c.if-marks-at.short ≡ short ++ renumbered_chain c.args.count numbers here ∷ [] = w.short-is ∙ (w.in_ok-push.ensures.ok ∙ ap (λ x. short ++ x ∷ []) new) in
      let numbers_are : c.if-marks-at.numbers.items ≡ numbers ++ number ∷ [] = ap (λ v. v.items) w.numbers-is ∙ w.in_ok-push-2.ensures.items in
      let trimmed = c.loop-at.invariant.trimmed in
      record {
        number = w.number-is ∙ omega (arith, next, ap length short_is, length_push short (renumbered_chain c.args.count numbers here));
        trimmed = rw (numbers_are, short_is) (trimmed_more c.args.count chains c.args.marks.now at number numbers short here is_here marked next trimmed);
        ends = rw (numbers_are, short_is) (ends_more c.args.count chains c.args.marks.now at number numbers short here is_here marked next trimmed c.loop-at.invariant.ends);
      }
  | else-marks-at+in_ok-push-3 w ↦
      let at = c.loop-at.at in
      let chains = c.args.chains.now in
      let numbers = c.loop-at.numbers.items in
      let short = c.loop-at.short in
      let here = c.index-chains-at.result in
      let is_here : slice_get chains at ≡ Some here = slice_get-get_or chains at here c.loop-at-test.true ∙ ap Some (sym c.index-chains-at.is) in
      let none : IsNeededAt c.args.marks.now at → ⊥ = λ m. let wrong : ◌≡◌ {A = Bool} true false = sym m ∙ w.if-marks-at.false in cc in
      let numbers_are : c.if-marks-at.numbers.items ≡ numbers ++ 0 ∷ [] = ap (λ v. v.items) w.numbers-is ∙ w.in_ok-push-3.ensures.items in
      let trimmed = c.loop-at.invariant.trimmed in
      record {
        number = w.number-is ∙ (c.loop-at.invariant.number ∙ ap (λ log. c.args.count + length log) (sym w.short-is));
        trimmed = rw (numbers_are, w.short-is) (trimmed_skip c.args.count chains c.args.marks.now at numbers short none trimmed);
        ends = rw (numbers_are, w.short-is) (ends_skip c.args.count chains c.args.marks.now at numbers short here is_here none trimmed.whole c.loop-at.invariant.ends);
      }
]

pub returns-clause-trimmed : goal.returns-clause-trimmed
returns-clause-trimmed c =
    subst (λ n. IsTrimmedTo c.args.count c.args.chains.now c.args.marks.now n c.loop-at.numbers.items c.loop-at.short) (omega (arith, c.loop-at-test.false, c.loop-at.auto.at-end)) c.loop-at.invariant.trimmed
