use Rattle.std.proofs.Common.{◌≡◌, ◌∙◌, ℕ, Bool, cond, length, ap, arith}
use Rattle.std.specs.Prelude.{◌&&◌}
use Rattle.net_model.specs.Answer.{bit_at}
use Rattle.net_model.specs.Rows.{row_at}
use Rattle.net_model.proofs.Ranges.{sum_by-range_more}
use Rattle.suspect_scores.specs.Scored.{count_to}
use Rattle.suspect_scores.specs.Chosen.{left_count}
use Rattle.suspect_scores.proofs.RangeSums.{one_of, count_small}
use Rattle.suspect_scores.proofs.ChosenLemmas.{one_small}
use Rattle.suspect_scores.proofs.choosing.count_left.Goals as goal

pub overflow_add-count : goal.overflow_add-count
overflow_add-count c =
    let test : ℕ → Bool = λ k. bit_at c.args.left.now k && bit_at (row_at c.args.rows.now c.args.row) k in
    let one : c.as_one-count.result ≡ cond {A = ℕ} (c.get-is_left.result && c.get.result) 1 0 = c.as_one-count.ensures in
    omega (arith, c.loop-line.invariant, count_small test c.loop-line.line, c.loop-line-test.true, c.len-line-end.ensures, c.requires.few, one, one_small (c.get-is_left.result && c.get.result))

pub loop-line-preserved : goal.loop-line-preserved
loop-line-preserved c =
    let test : ℕ → Bool = λ k. bit_at c.args.left.now k && bit_at (row_at c.args.rows.now c.args.row) k in
    let one : c.as_one-count.result ≡ one_of test c.loop-line.line = c.as_one-count.ensures ∙ (λ i. cond {A = ℕ} (c.get-is_left.ensures i && c.get.ensures i) 1 0) in
    omega (arith, c.loop-line.invariant, one, sum_by-range_more (one_of test) c.loop-line.line)

pub returns : goal.returns
unfolding left_count
returns c =
    let all : c.loop-line.line ≡ length c.args.left.now = omega (arith, c.loop-line-test.false, c.loop-line.auto.line-end, c.len-line-end.ensures) in
    c.loop-line.invariant ∙ ap (count_to (λ k. bit_at c.args.left.now k && bit_at (row_at c.args.rows.now c.args.row) k)) all
