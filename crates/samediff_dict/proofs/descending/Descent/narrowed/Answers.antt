use Rattle.std.proofs.Common.{◌≡◌, length, subst, arith}
use Rattle.std.proofs.lemmas.Bool.Decides.{nat_tests}
use Rattle.samediff_dict.specs.Descent.{IsNarrowed}
use Rattle.samediff_dict.proofs.DescentLemmas.{narrowed_more, narrowed_empty}
use Rattle.samediff_dict.proofs.descending.Descent.narrowed.Goals as goal

pub returns-then-is_empty : goal.returns-then-is_empty
returns-then-is_empty c =
    let empty : length c.loop-done.rest.classes.items ≡ 0 = grind (arith, c.is_empty.ensures, c.if-is_empty.true, nat_tests) in
    narrowed_empty c.args.self.now c.loop-done.done c.loop-done.invariant.within c.loop-done.invariant.narrowed empty

pub loop-done-preserved : goal.loop-done-preserved
loop-done-preserved c =
    let so_far = c.loop-done.invariant in
    let next = c.end_after-next.ensures in
    record {
      more = omega (arith, so_far.more, next.more);
      within = next.within;
      narrowed = narrowed_more c.args.self.now c.loop-done.done (omega (arith, so_far.more)) (omega (arith, next.more)) so_far.narrowed c.in_ok-rest-2.ensures;
    }

pub returns : goal.returns
returns c =
    let all : c.loop-done.done ≡ c.args.end = omega (arith, c.loop-done.invariant.within, c.loop-done-test.false) in
    subst (λ k. IsNarrowed c.args.self.now c.args.first k c.args.part.now c.loop-done.rest) all c.loop-done.invariant.narrowed
