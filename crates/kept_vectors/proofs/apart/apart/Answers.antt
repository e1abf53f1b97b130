use Rattle.std.proofs.Common.{◌≡◌, ◌+◌, ◌⊎◌, ◌||◌, Bool, [], inl, inr, drop, sym, ap, ◌∙◌, arith}
use Rattle.net_model.specs.Answer.{bit_at}
use Rattle.kept_vectors.proofs.ApartLemmas.{step_lower, step_equal, other_way, and_then, at_end, ended}
use Rattle.kept_vectors.proofs.apart.apart.Goals as goal
use Rattle.kept_vectors.proofs.apart.apart.Goals.{then-loop-at-test+else-by-other, else-loop-at-test}

pub loop-at-init : goal.loop-at-init
loop-at-init c = record {
  at = omega arith;
  by = omega arith;
  same = λ lane h. (λ same. (c.all-lanes.ensures lane h, same), λ same. same.1);
}

pub loop-at-preserved-then-left-right : goal.loop-at-preserved-then-left-right
loop-at-preserved-then-left-right c =
    let so_far = c.loop-at.invariant in
    record {
      at = omega (arith, c.loop-at-test.true);
      by = so_far.by;
      same = λ lane h. and_then (so_far.same lane h)
          (step_lower lane c.args.one.now c.args.other.now c.loop-at.at c.loop-at.by c.index-one-at.result c.index-other-by.result c.requires.one c.requires.other c.loop-at-test.true c.if-by-other.true c.index-one-at.is c.index-other-by.is c.loop-at.lanes
          c.or-lanes.result c.if-left-right.true (c.or-lanes.ensures lane h));
    }

pub loop-at-preserved-then-right-left : goal.loop-at-preserved-then-right-left
loop-at-preserved-then-right-left c =
    let so_far = c.loop-at.invariant in
    let one = c.args.one.now in
    let other = c.args.other.now in
    let lanes = c.loop-at.lanes in
    let new = c.or-lanes-then-right-left.result in
    record {
      at = so_far.at;
      by = omega (arith, c.if-by-other.true);
      same = λ lane h. and_then (so_far.same lane h) (and_then (other_way lane lanes (drop c.loop-at.at one) (drop c.loop-at.by other)) (and_then
          (step_lower lane other one c.loop-at.by c.loop-at.at c.index-other-by.result c.index-one-at.result c.requires.other c.requires.one c.if-by-other.true c.loop-at-test.true c.index-other-by.is c.index-one-at.is lanes
          new c.if-right-left.true (c.or-lanes-then-right-left.ensures lane h))
          (other_way lane new (drop (c.loop-at.by + 1) other) (drop c.loop-at.at one))));
    }

pub loop-at-preserved : goal.loop-at-preserved
loop-at-preserved c =
    let so_far = c.loop-at.invariant in
    record {
      at = omega (arith, c.loop-at-test.true);
      by = omega (arith, c.if-by-other.true);
      same = λ lane h. and_then (so_far.same lane h)
          (step_equal lane c.args.one.now c.args.other.now c.loop-at.at c.loop-at.by c.index-one-at.result c.index-other-by.result c.requires.one c.requires.other c.loop-at-test.true c.if-by-other.true c.index-one-at.is c.index-other-by.is c.loop-at.lanes
          c.or-lanes-else-right-left.result (omega (arith, c.if-left-right.false, c.if-right-left.false)) (c.or-lanes-else-right-left.ensures lane h ∙ ap (λ (b : Bool). bit_at c.loop-at.lanes lane || b) (c.xor.ensures lane h)));
    }

pub any_lane-requires-clause-from : goal.any_lane-requires-clause-from
any_lane-requires-clause-from c = c.loop-at.invariant.at

pub any_lane-requires-2-clause-from : goal.any_lane-requires-2-clause-from
any_lane-requires-2-clause-from c = c.loop-at.invariant.by

pub returns : goal.returns
returns c lane h =
    let one = c.args.one.now in
    let other = c.args.other.now in
    let end : (drop c.loop-at.at one ≡ []) ⊎ (drop c.loop-at.by other ≡ []) = elim c.loop-at-test.branch [
      | then-loop-at-test+else-by-other w ↦ inr (ended other c.loop-at.by w.if-by-other.false)
      | else-loop-at-test w ↦ inl (ended one c.loop-at.at w.loop-at-test.false)
    ] in
    let all = and_then (c.loop-at.invariant.same lane h) (at_end lane c.loop-at.lanes c.any_lane.result c.any_lane-2.result (drop c.loop-at.at one) (drop c.loop-at.by other) end (c.any_lane.ensures lane h) (c.any_lane-2.ensures lane h)) in
    let is = c.or-2.ensures lane h ∙ ap (λ (b : Bool). b || bit_at c.any_lane-2.result lane) (c.or.ensures lane h) in
    (λ off. all.1 (sym is ∙ off), λ same. is ∙ all.0 same)
