use Rattle.std.proofs.Common.{◌≡◌, ◌<◌, length, ap, arith, ◌∙◌, ◌+◌}
use Rattle.std.proofs.lemmas.List.{with_items_is}
use Rattle.word_sim.specs.declared.lanes.TheConstants.{LANES}
use Rattle.word_sim.specs.Block.{Block, block_with}
use Rattle.word_sim.specs.BlockFields.{columns}
use Rattle.word_sim.proofs.Columns.{length-columns, columns_more}
use Rattle.word_sim.proofs.block.Block.push.Goals as goal

pub set_lane-requires-clause-lane : goal.set_lane-requires-clause-lane
set_lane-requires-clause-lane c =
    omega (arith, c.requires.room, length-columns c.self.inside.rows.items c.self.inside.live, ap (λ (b : Block). length b.vectors) c.self.view_is)

pub invariant_of-self : goal.invariant_of-self
invariant_of-self c =
    let wide : length c.set_lane.new.rows ≡ c.self.inside.rows.len = omega (arith, c.set_lane.auto.rows, c.deref_mut.ensures.len) in
    record {
      few = omega (arith, c.requires.room, length-columns c.self.inside.rows.items c.self.inside.live, ap (λ (b : Block). length b.vectors) c.self.view_is);
      short = omega (arith, wide, ap (λ rows. length rows) (with_items_is c.self.inside.rows c.set_lane.new.rows wide), c.self.inside.rows.ok.0, c.self.invariant.short);
    }

pub returns : goal.returns
returns c =
    let old = c.self.inside.rows.items in
    let new = c.set_lane.new.rows in
    let live = c.self.inside.live in
    let wide : length new ≡ c.self.inside.rows.len = omega (arith, c.set_lane.auto.rows, c.deref_mut.ensures.len) in
    let same_width : length new ≡ length old = omega (arith, wide, c.self.inside.rows.ok.0) in
    let same = with_items_is c.self.inside.rows new wide in
    let few : live < LANES = omega (arith, c.requires.room, length-columns old live, ap (λ (b : Block). length b.vectors) c.self.view_is) in
    let others = rw c.deref_mut.ensures.value at c.set_lane.ensures.others in
    rw (← c.self.view_is)
    ((λ i. block_with (length (same i)) (columns (same i) (live + 1)))
    ∙ (λ i. block_with (same_width i) (columns_more new old live c.args.v.now c.set_lane.ensures.written (λ lane h. others lane (omega arith) (omega arith)) i)))
