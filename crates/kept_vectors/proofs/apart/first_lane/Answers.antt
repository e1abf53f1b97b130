use Rattle.std.proofs.Common.{arith, inl, inr}
use Rattle.std.proofs.lemmas.Bool.{cases_lt}
use Rattle.kept_vectors.proofs.FirstLane.{no_lane, found, none_before}
use Rattle.kept_vectors.proofs.apart.first_lane.Goals as goal

pub loop-lane-init : goal.loop-lane-init
loop-lane-init c = record { from = omega arith; before = λ lane h less live. absurd (omega (arith, h, less)) }

pub returns-then-word-ne0-clause-found : goal.returns-then-word-ne0-clause-found
returns-then-word-ne0-clause-found c below = found c.args.lanes c.loop-lane.lane c.word.result c.word.type_inv c.word.ensures c.if-word-ne0.true (omega (arith, below, c.requires))

pub returns-then-word-ne0-clause-from : goal.returns-then-word-ne0-clause-from
returns-then-word-ne0-clause-from c = omega (arith, c.loop-lane.invariant.from)

pub returns-then-word-ne0-clause-before : goal.returns-then-word-ne0-clause-before
returns-then-word-ne0-clause-before c lane from below live = elim (cases_lt lane c.loop-lane.lane) [
  | inl less ↦ c.loop-lane.invariant.before lane from less live
  | inr more ↦ none_before c.args.lanes c.loop-lane.lane c.word.result c.word.type_inv c.word.ensures c.if-word-ne0.true lane more below (omega (arith, live, c.requires))
]

pub loop-lane-preserved : goal.loop-lane-preserved
loop-lane-preserved c = record {
  from = omega (arith, c.loop-lane.invariant.from);
  before = λ lane from below live. elim (cases_lt lane c.loop-lane.lane) [
    | inl less ↦ c.loop-lane.invariant.before lane from less live
    | inr more ↦ no_lane c.args.lanes c.loop-lane.lane c.word.result c.word.type_inv c.word.ensures c.if-word-ne0.false lane more (omega (arith, live, c.requires)) below
  ];
}

pub returns-clause-from : goal.returns-clause-from
returns-clause-from c = c.loop-lane.invariant.from

pub returns-clause-before : goal.returns-clause-before
returns-clause-before c = c.loop-lane.invariant.before
