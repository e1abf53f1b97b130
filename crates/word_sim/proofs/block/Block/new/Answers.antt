use Rattle.std.proofs.Common.{◌≡◌, length, arith}
use Rattle.word_sim.specs.Block.{block_with}
use Rattle.word_sim.proofs.Columns.{columns_none}
use Rattle.word_sim.proofs.block.Block.new.Goals as goal

pub returns : goal.returns
returns c =
    let wide : length c.in_ok-rows.rows.items ≡ c.args.sources = omega (arith, c.in_ok-rows.ensures.len, c.in_ok-rows.rows.ok.0) in
    λ i. block_with (wide i) (columns_none c.in_ok-rows.rows.items i)
