use Rattle.std.proofs.Common.{◌≡◌, ℕ, ◌<◌, Bool, false, List, [], length-set, set, length, get_or, sym, ap, ◌∙◌, arith}
use Rattle.std.proofs.lemmas.List.{get_or_read, set-get_or}
use Rattle.net_model.specs.Answer.{bit_at}
use Rattle.word_sim.specs.declared.lanes.TheConstants.{LANES}
use Rattle.word_sim.specs.Block.{Block}
use Rattle.word_sim.specs.BlockFields.{column, columns}
use Rattle.word_sim.proofs.Columns.{length-columns, columns_at, column-set, column_at}
use Rattle.word_sim.proofs.block.Block.fix.Goals as goal

-- a vector of the new rows, by the bit that its lane has in the new row
column_now : (rows : List (List Bool)) (live source : ℕ) (row : List Bool) (lane : ℕ) (bit : Bool) → lane < live → bit_at row lane ≡ bit
    → get_or (columns (set rows source row) live) lane [] ≡ set (get_or (columns rows live) lane []) source bit
column_now rows live source row lane bit h is =
    columns_at (set rows source row) live lane [] h
    ∙ column-set rows lane source row
    ∙ ap (λ b. set (column rows lane) source b) is
    ∙ ap (λ v. set v source bit) (sym (columns_at rows live lane [] h))

pub returns-clause-sources : goal.returns-clause-sources
returns-clause-sources c = rw (← c.self.view_is) (length-set c.self.inside.rows.items c.args.source c.select.result)

pub returns-clause-count : goal.returns-clause-count
returns-clause-count c =
    let rows = c.self.inside.rows.items in
    let live = c.self.inside.live in
    rw (← c.self.view_is) (length-columns (set rows c.args.source c.select.result) live ∙ sym (length-columns rows live))

pub returns-clause-fixed : goal.returns-clause-fixed
returns-clause-fixed c =
    let rows = c.self.inside.rows.items in
    let live = c.self.inside.live in
    rw (← c.self.view_is) (λ lane h in_lane.
    let below : lane < live = omega (arith, h, length-columns rows live) in
    let few : lane < LANES = omega (arith, below, c.self.invariant.few) in
    column_now rows live c.args.source c.select.result lane c.args.bit below (c.select.ensures lane few ∙ rw in_lane (c.all.ensures lane few)))

pub returns-clause-others : goal.returns-clause-others
returns-clause-others c =
    let rows = c.self.inside.rows.items in
    let live = c.self.inside.live in
    let within : c.args.source < length rows = omega (arith, c.requires, ap (λ (b : Block). b.sources) c.self.view_is) in
    rw (← c.self.view_is) (λ lane h outside.
    let below : lane < live = omega (arith, h, length-columns rows live) in
    let few : lane < LANES = omega (arith, below, c.self.invariant.few) in
    let old = column rows lane in
    let same : bit_at c.select.result lane ≡ bit_at old c.args.source =
    c.select.ensures lane few ∙ rw outside (ap (λ row. bit_at row lane) (get_or_read rows c.args.source c.index-row.result.now within c.index-row.ensures [])) ∙ sym (column_at rows lane c.args.source) in
    column_now rows live c.args.source c.select.result lane (bit_at old c.args.source) below same
    ∙ ap (λ v. set v c.args.source (bit_at old c.args.source)) (columns_at rows live lane [] below)
    ∙ set-get_or old c.args.source false
    ∙ sym (columns_at rows live lane [] below))
