use Rattle.std.specs.Prelude.{◌≡◌, take, sum_by}
use Rattle.net_model.specs.Rows.{row_at}
use Rattle.ranked_diag.specs.SeenWords.{word_mismatches}
use Rattle.ranked_diag.proofs.seen_words.SeenWords.count.Given as goal

abbrev pub invariant-loop-seen : goal.invariant-loop-seen
invariant-loop-seen l = l.count ≡ sum_by (word_mismatches (row_at l.rows l.row)) (take l.seen-index l.self)
