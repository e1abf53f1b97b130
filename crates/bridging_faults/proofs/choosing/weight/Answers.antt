use Rattle.std.proofs.Common.{◌≡◌, ◌∙◌, ℕ, arith}
use Rattle.std.specs.Prelude.{Bool}
use Rattle.net_model.specs.Rows.{row_bit}
use Rattle.net_model.proofs.Ranges.{sum_by-range_more}
use Rattle.suspect_scores.proofs.RangeSums.{one_of, count_small}
use Rattle.bridging_faults.proofs.Counts.{one_if, one_if_small}
use Rattle.bridging_faults.proofs.choosing.weight.Goals as goal

pub overflow_add-count : goal.overflow_add-count
overflow_add-count c =
    let test : ℕ → Bool = λ line. row_bit c.args.rows.now.turned line c.args.at in
    let one : c.as_one-one.result ≡ one_if c.get.result = c.as_one-one.ensures in
    omega (arith, c.loop-line.invariant, count_small test c.loop-line.line, c.loop-line-test.true, c.loop-line.auto.line-end, c.rows-line-end.type_inv, one, one_if_small c.get.result)

pub loop-line-preserved : goal.loop-line-preserved
loop-line-preserved c =
    let test : ℕ → Bool = λ line. row_bit c.args.rows.now.turned line c.args.at in
    let one : c.as_one-one.result ≡ one_if (test c.loop-line.line) = c.as_one-one.ensures ∙ (λ i. one_if (c.get.ensures i)) in
    omega (arith, c.loop-line.invariant, one, sum_by-range_more (one_of test) c.loop-line.line)
