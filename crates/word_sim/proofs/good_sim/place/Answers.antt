use Rattle.std.proofs.Common.{◌≡◌, ◌<◌, ◌∙◌, [], length, get_or, take, subst, ap, arith}
use Rattle.std.proofs.lemmas.List.{length-take-le, get_or-take}
use Rattle.net_model.specs.Answer.{bit_at}
use Rattle.word_sim.proofs.Columns.{column_is}
use Rattle.word_sim.proofs.Written.{set_more}
use Rattle.word_sim.proofs.good_sim.place.Goals as goal

pub loop-source-preserved : goal.loop-source-preserved
loop-source-preserved c =
    let vectors = c.args.block.now.vectors in
    set_more (λ k lane. bit_at (get_or vectors lane []) k) (length vectors) c.loop-source.rows c.loop-source.source c.row.result c.loop-source.invariant
    (omega (arith, c.sources-source-end.ensures.value)) c.row.ensures

pub returns : goal.returns
returns c = λ lane h.
    let vectors = c.args.block.now.vectors in
    let sources = c.args.block.now.sources in
    let rows = c.loop-source.rows in
    let wide : length (take sources rows) ≡ sources = length-take-le sources rows (omega arith) in
    let width : length (get_or vectors lane []) ≡ sources = c.sources-source-end.ensures.block.widths lane [] h in
    column_is (take sources rows) lane (get_or vectors lane []) (omega (arith, wide, width))
    (λ k l.
    let within : k < sources = subst (λ n. k < n) wide l in
    ap (λ row. bit_at row lane) (get_or-take sources rows k [] within) ∙ c.loop-source.invariant k lane (omega (arith, c.sources-source-end.ensures.value)) h)
