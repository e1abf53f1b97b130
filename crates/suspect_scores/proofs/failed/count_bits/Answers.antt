use Rattle.std.proofs.Common.{◌≡◌, ◌∙◌, ℕ, Bool, cond, [], length, ap, arith}
use Rattle.net_model.specs.Answer.{bit_at}
use Rattle.net_model.specs.Rows.{row_at}
use Rattle.net_model.proofs.Ranges.{sum_by-range_more}
use Rattle.suspect_scores.specs.Scored.{count_to, row_bits}
use Rattle.suspect_scores.proofs.RangeSums.{one_of, count_small}
use Rattle.suspect_scores.proofs.ChosenLemmas.{one_small}
use Rattle.suspect_scores.proofs.failed.count_bits.Goals as goal

pub get-requires-clause-at : goal.get-requires-clause-at
get-requires-clause-at c = omega (arith, c.loop-at-test.true, c.loop-at.auto.at-end, c.width-at-end.ensures.each c.args.row [] c.requires)

pub overflow_add-count : goal.overflow_add-count
overflow_add-count c =
    let test : ℕ → Bool = bit_at (row_at c.args.rows.now c.args.row) in
    let one : c.as_one-count.result ≡ cond {A = ℕ} c.get.result 1 0 = c.as_one-count.ensures in
    omega (arith, c.loop-at.invariant, count_small test c.loop-at.at, c.loop-at-test.true, c.loop-at.auto.at-end, c.width-at-end.type_inv, one, one_small c.get.result)

pub loop-at-preserved : goal.loop-at-preserved
loop-at-preserved c =
    let test : ℕ → Bool = bit_at (row_at c.args.rows.now c.args.row) in
    let one : c.as_one-count.result ≡ one_of test c.loop-at.at = c.as_one-count.ensures ∙ (λ i. cond {A = ℕ} (c.get.ensures i) 1 0) in
    omega (arith, c.loop-at.invariant, one, sum_by-range_more (one_of test) c.loop-at.at)

pub returns : goal.returns
unfolding row_bits
returns c =
    let row = row_at c.args.rows.now c.args.row in
    let all : c.loop-at.at ≡ length row = omega (arith, c.loop-at-test.false, c.loop-at.auto.at-end, c.width-at-end.ensures.each c.args.row [] c.requires) in
    c.loop-at.invariant ∙ ap (count_to (bit_at row)) all
