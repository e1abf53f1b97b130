use Rattle.std.proofs.Common.{◌∙◌, [], ◌∷◌, ◌++◌, length, sym, ap, arith}
use Rattle.word_sim.specs.Block.{Block, block_with}
use Rattle.table_dicts.proofs.BlockLemmas.{range_none, range_more, block_length}
use Rattle.table_dicts.proofs.pattern_sim.fill_block.Goals as goal

pub loop-at-init : goal.loop-at-init
loop-at-init c = c.clear.ensures ∙ ap (block_with c.args.block.now.sources) (sym (range_none c.args.patterns.now c.args.first))

pub push-requires-clause-room : goal.push-requires-clause-room
push-requires-clause-room c =
    omega (arith, ap (λ (b : Block). length b.vectors) c.loop-at.invariant, block_length c.args.patterns.now c.args.first c.loop-at.at (omega arith) (omega (arith, c.requires.within)), c.requires.few)

pub loop-at-preserved : goal.loop-at-preserved
loop-at-preserved c =
    let so_far = c.loop-at.invariant in
    let sources = ap (λ (b : Block). b.sources) so_far in
    let vectors = ap (λ (b : Block). b.vectors) so_far in
    let v = c.index-patterns-at.result in
    c.push.ensures
    ∙ ((λ i. block_with (sources i) (vectors i ++ v ∷ []))
    ∙ ap (block_with c.args.block.now.sources) (sym (range_more c.args.patterns.now c.args.first c.loop-at.at v (omega arith) (omega (arith, c.requires.within)) c.index-patterns-at.is)))
