use Rattle.std.proofs.Common.{◌≡◌, ◌∙◌, ◌+◌, ◌<◌, ◌≤◌, ℕ, Bool, List, [], length, get_or, refl, sym, ap, subst, arith}
use Rattle.std.proofs.lemmas.List.{get_or_default}
use Rattle.word_sim.specs.declared.lanes.TheConstants.{LANES}
use Rattle.net_model.specs.Answer.{bit_at}
use Rattle.dict_rows.specs.AnswerTable.{IsNumberSet}
use Rattle.table_dicts.specs.Blocks.{IsKeptBit}
use Rattle.table_dicts.proofs.ColumnLemmas.{either_none, either_more, either_all}
use Rattle.table_dicts.proofs.free_block.FreeBlock.write.Goals as goal
use Rattle.table_dicts.proofs.free_block.FreeBlock.write.Goals.{After-live-count}

module _ (c : After-live-count) where
  abbrev right : ℕ → ℕ → Bool → Type 0
  right = λ lane. IsKeptBit c.args.kept c.args.pattern_sim.now.good.circuit c.args.pattern_sim.now.block.vectors lane c.args.number

  inside : c.args.first + c.live-count.result ≤ length c.args.table.now.rows
  inside = omega (arith, c.requires.fits.within, c.live-count.ensures.value)

  few : c.live-count.result ≤ LANES
  few = omega (arith, c.requires.run.few, c.live-count.ensures.value)

pub copy_block-requires-clause-within : goal.copy_block-requires-clause-within
copy_block-requires-clause-within c = inside (goal.at.copy_block-requires-clause-within c).After-live-count

pub copy_block-requires-clause-few : goal.copy_block-requires-clause-few
copy_block-requires-clause-few c = omega (arith, few (goal.at.copy_block-requires-clause-few c).After-live-count, c.args.self.now.same.sizes.patterns_are)

pub loop-position-init : goal.loop-position-init
loop-position-init c =
    let at = (goal.at.loop-position-init c).After-live-count in
    either_none (right at) c.args.self.now.same c.requires.free (few at) c.copy_block.ensures

pub correct-requires-clause-stands : goal.correct-requires-clause-stands
correct-requires-clause-stands c = λ lane h.
    let free = c.args.self.now.lanes.items in
    let position = c.loop-position.position in
    let row = c.index-free-position.result in
    let below : position < length free = omega (arith, c.requires.free, c.positions-position-end.ensures.value, c.copy_block.ensures.sizes.positions_are) in
    let is : row ≡ get_or free position [] = c.index-free-position.is ∙ (ap (λ (ls : List (List Bool)). get_or ls position row) c.as_slice-free.ensures.value ∙ get_or_default free position row [] below) in
    (c.loop-position.invariant.here lane position h (omega (arith, below, c.requires.free))).copied (omega arith) ∙ sym (ap (λ (bits : List Bool). bit_at bits lane) is)

pub loop-position-preserved : goal.loop-position-preserved
loop-position-preserved c =
    let at = (goal.at.loop-position-preserved c).After-live-count in
    either_more (right at) c.loop-position.invariant c.correct.ensures (λ lane h. c.lanes-column.ensures lane (omega (arith, h, c.live-count.ensures.value))) refl (inside at) c.requires.place

pub returns : goal.returns
returns c =
    let at = (goal.at.returns c).After-live-count in
    let old = c.args.table.now in
    subst (λ n. IsNumberSet (λ lane place. right at lane) n old c.loop-position.table c.args.place c.args.first old.positions) c.live-count.ensures.value
    (either_all (right at) c.loop-position.invariant (omega (arith, c.positions-position-end.ensures.value, c.copy_block.ensures.sizes.positions_are)))
