use Rattle.std.proofs.Common.{◌∙◌, ◌+◌, ◌<◌, [], map, length, sym, arith}
use Rattle.std.proofs.lemmas.List.{get_or-map, length-map}
use Rattle.result_records.proofs.SoFarLemmas.{refused_pivot, refused_number, steps_more, half_step}
use Rattle.result_records.proofs.evidence.read_steps.Goals as goal

pub returns-in_default : goal.returns-in_default
returns-in_default c = λ x is e.
    let fields = c.args.fields.now in
    let at = c.loop-at.at in
    let below : at + 1 < length (map (λ f. f.now) fields) = omega (arith, c.loop-at-test.true, length-map fields (λ f. f.now)) in
    refused_pivot (map (λ f. f.now) c.args.fields.now) at c.loop-at.chain.steps c.loop-at.invariant.0 below (λ l small is. c.in_default.ensures l small (is ∙ get_or-map (λ f. f.now) fields at _ [] (omega (arith, c.loop-at-test.true)))) (x.steps, is.0, e)

pub returns-in_default-number_of : goal.returns-in_default-number_of
returns-in_default-number_of c = λ x is e.
    let fields = c.args.fields.now in
    let at = c.loop-at.at in
    let below : at + 1 < length (map (λ f. f.now) fields) = omega (arith, c.loop-at-test.true, length-map fields (λ f. f.now)) in
    refused_number (map (λ f. f.now) c.args.fields.now) at c.loop-at.chain.steps c.loop-at.invariant.0 below (λ n small is. c.in_default-number_of.ensures n small (is ∙ get_or-map (λ f. f.now) fields (at + 1) _ [] c.loop-at-test.true)) (x.steps, is.0, e)

pub loop-at-preserved : goal.loop-at-preserved
loop-at-preserved c =
    let fields = c.args.fields.now in
    let at = c.loop-at.at in
    let below : at + 1 < length (map (λ f. f.now) fields) = omega (arith, c.loop-at-test.true, length-map fields (λ f. f.now)) in
    let pivot = c.in-Some.ensures in
    let clause = c.in-Some-number_of.ensures in
    rw c.in_ok-push.ensures.ok (
      steps_more (map (λ f. f.now) c.args.fields.now) at c.loop-at.chain.steps c.loop-at.invariant.0 below c.in-Some.pivot c.in-Some-number_of.clause pivot.0 clause.0
          (pivot.1 ∙ sym (get_or-map (λ f. f.now) fields at _ [] (omega (arith, c.loop-at-test.true)))) (clause.1 ∙ sym (get_or-map (λ f. f.now) fields (at + 1) _ [] c.loop-at-test.true)),
      c.loop-at.invariant.1,
      c.loop-at.invariant.2,
    )

pub returns-then-at-fields : goal.returns-then-at-fields
returns-then-at-fields c = λ x is e.
    let fields = c.args.fields.now in
    half_step (map (λ f. f.now) c.args.fields.now) c.loop-at.at c.loop-at.chain.steps c.loop-at.invariant.0 (omega (arith, c.if-at-fields.true, length-map fields (λ f. f.now))) (omega (arith, c.loop-at-test.false, length-map fields (λ f. f.now))) (x.steps, is.0, e)
