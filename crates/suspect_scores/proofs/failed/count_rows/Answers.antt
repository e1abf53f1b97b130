use Rattle.std.proofs.Common.{◌≡◌, ◌∙◌, ℕ, Bool, cond, length, ap, arith}
use Rattle.std.specs.Prelude.{nat_lt}
use Rattle.net_model.specs.Rows.{row_at}
use Rattle.net_model.proofs.Ranges.{sum_by-range_more}
use Rattle.suspect_scores.specs.Scored.{count_to, row_bits}
use Rattle.suspect_scores.proofs.RangeSums.{one_of, count_small}
use Rattle.suspect_scores.proofs.ChosenLemmas.{one_small}
use Rattle.suspect_scores.proofs.failed.count_rows.Goals as goal

pub overflow_add-count : goal.overflow_add-count
overflow_add-count c =
    let test : ℕ → Bool = λ row. nat_lt 0 (row_bits (row_at c.args.rows.now row)) in
    let one : c.as_one-count.result ≡ cond {A = ℕ} (nat_lt 0 c.count_bits.result) 1 0 = c.as_one-count.ensures in
    omega (arith, c.loop-row.invariant, count_small test c.loop-row.row, c.loop-row-test.true, c.loop-row.auto.row-end, c.rows-row-end.type_inv, one, one_small (nat_lt 0 c.count_bits.result))

pub loop-row-preserved : goal.loop-row-preserved
loop-row-preserved c =
    let test : ℕ → Bool = λ row. nat_lt 0 (row_bits (row_at c.args.rows.now row)) in
    let one : c.as_one-count.result ≡ one_of test c.loop-row.row = c.as_one-count.ensures ∙ (λ i. cond {A = ℕ} (nat_lt 0 (c.count_bits.ensures i)) 1 0) in
    omega (arith, c.loop-row.invariant, one, sum_by-range_more (one_of test) c.loop-row.row)

pub returns : goal.returns
returns c =
    let all : c.loop-row.row ≡ length c.args.rows.now = omega (arith, c.loop-row-test.false, c.loop-row.auto.row-end, c.rows-row-end.ensures) in
    c.loop-row.invariant ∙ ap (count_to (λ row. nat_lt 0 (row_bits (row_at c.args.rows.now row)))) all
