use Rattle.std.proofs.Common.{◌∙◌, [], sym}
use Rattle.net_model.specs.Answer.{bit_at}
use Rattle.std.proofs.lemmas.List.{get_or_read}
use Rattle.net_model.specs.Gate.{inverted}
use Rattle.fault_sim.proofs.TurnedLemmas.{turned_at}
use Rattle.fault_sim.proofs.turned.line_lanes.Goals as goal

pub returns : goal.returns
returns c = λ lane free at.
    let rows = c.args.rows.now in
    let line = c.args.line in
    c.xor.ensures lane at.within
    ∙ (λ i. inverted (c.lanes.ensures lane at.live free at.agrees i) (bit_at (get_or_read rows line c.index-rows-line.result c.requires.line c.index-rows-line.is [] i) lane))
    ∙ sym (turned_at free rows lane line c.requires.line)
