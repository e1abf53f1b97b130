use Rattle.std.proofs.Common.{◌≡◌, ℕ, ◌≤◌, ◌+◌, ◌*◌, ◌∙◌, length, ap, arith}
use Rattle.std.specs.Prelude.{false, ◌==◌}
use Rattle.std.proofs.lemmas.Bool.Decides.{nat_tests}
use Rattle.std.proofs.lemmas.List.{with_items_is}
use Rattle.word_sim.specs.StreamState.{StreamState, stream_with, stream_at}
use Rattle.word_sim.specs.Block.{Block, block_with}
use Rattle.word_sim.specs.BlockFields.{columns}
use Rattle.word_sim.proofs.Drawn.{is_after, drawn_blocks}
use Rattle.word_sim.proofs.stream.Stream.fill.Goals as goal

-- the stream and the block have the same number of sources
same_sources : (c : goal.After-block-2-1) (sources done : ℕ) → stream_with c.self.inside.sources c.self.inside.first c.self.inside.rng ≡ stream_at sources done → length c.deref_mut.result.now ≡ sources
same_sources c sources done at =
    let own : c.self.inside.sources ≡ sources = ap (λ (s : StreamState). s.sources) at in
    omega (arith, own, c.deref_mut.ensures.len, c.block.inside.rows.ok.0, c.requires.sources, ap (λ (b : Block). b.sources) c.block.view_is, ap (λ (s : StreamState). s.sources) c.self.view_is)

later : (done count : ℕ) → 1 ≤ count → false ≡ (done + count == 0)
later done count h = grind (arith, nat_tests)

pub returns-clause-stream : goal.returns-clause-stream
returns-clause-stream c = λ sources done before.
    let at = c.self.view_is ∙ before in
    let wide : length c.deref_mut.result.now ≡ sources = same_sources c sources done at in
    let after = is_after c.self.inside.sources sources done c.self.inside.first c.self.inside.rng at in
    let drawn = rw wide at c.draw_blocks.ensures.state in
    let some : 1 ≤ c.min-filled.result = omega (arith, c.min-filled.ensures, c.requires.left) in
    let own : c.self.inside.sources ≡ sources = ap (λ (s : StreamState). s.sources) at in
    λ i. stream_with (own i) (later done c.min-filled.result some i) (drawn done after i)

pub returns-clause-block : goal.returns-clause-block
returns-clause-block c = λ sources done before.
    let at = c.self.view_is ∙ before in
    let count = c.min-filled.result in
    let new = c.draw_blocks.new.rows in
    let wide : length c.deref_mut.result.now ≡ sources = same_sources c sources done at in
    let after = is_after c.self.inside.sources sources done c.self.inside.first c.self.inside.rng at in
    let whole : length new ≡ c.block.inside.rows.len = omega (arith, c.draw_blocks.auto.rows, c.deref_mut.ensures.len) in
    let same_width : length new ≡ sources = omega (arith, c.draw_blocks.auto.rows, wide) in
    let same = with_items_is c.block.inside.rows new whole in
    let drawn = rw wide at c.draw_blocks.ensures.rows in
    (λ i. block_with (length (same i)) (columns (same i) (64 * count)))
    ∙ (λ i. block_with (same_width i) (drawn_blocks sources done count new (λ lane h. drawn done lane after h) i))

pub invariant_of-block : goal.invariant_of-block
invariant_of-block c = record {
  few = omega (arith, c.min-filled.ensures);
  short = rw (with_items_is c.block.inside.rows c.draw_blocks.new.rows (omega (arith, c.draw_blocks.auto.rows, c.deref_mut.ensures.len)))
      (omega (arith, c.draw_blocks.auto.rows, c.deref_mut.ensures.len, c.block.inside.rows.ok.0, c.block.invariant.short));
}

pub returns-clause-sources : goal.returns-clause-sources
returns-clause-sources c =
    let new = c.draw_blocks.new.rows in
    let wide : length new ≡ c.args.self.now.sources =
    omega (arith, c.draw_blocks.auto.rows, c.deref_mut.ensures.len, c.block.inside.rows.ok.0, c.requires.sources, ap (λ (b : Block). b.sources) c.block.view_is) in
    ap length (with_items_is c.block.inside.rows new (omega (arith, c.draw_blocks.auto.rows, c.deref_mut.ensures.len))) ∙ wide
