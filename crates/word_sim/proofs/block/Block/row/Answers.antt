use Rattle.std.proofs.Common.{◌<◌, [], length, ap, arith, ◌∙◌, sym}
use Rattle.std.proofs.lemmas.List.{get_or_read}
use Rattle.net_model.specs.Answer.{bit_at}
use Rattle.word_sim.specs.Block.{Block}
use Rattle.word_sim.proofs.Columns.{length-columns, columns_at, column_at}
use Rattle.word_sim.proofs.block.Block.row.Goals as goal

pub returns : goal.returns
returns c =
    let rows = c.self.inside.rows.items in
    let live = c.self.inside.live in
    let within : c.args.source < length rows = omega (arith, c.requires, ap (λ (b : Block). b.sources) c.self.view_is) in
    rw (← c.self.view_is)
    (λ lane h. ap (λ row. bit_at row lane) (get_or_read rows c.args.source c.index.result.now within c.index.ensures [])
    ∙ sym (column_at rows lane c.args.source)
    ∙ sym (ap (λ v. bit_at v c.args.source) (columns_at rows live lane [] (omega (arith, h, length-columns rows live)))))
