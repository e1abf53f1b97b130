use Rattle.std.proofs.Common.{◌≡◌, ◌∙◌, take, sym, ap, arith}
use Rattle.std.specs.Prelude.{Some}
use Rattle.std.specs.Vec.{with_items}
use Rattle.std.proofs.lemmas.List.{with_items_is}
use Rattle.word_sim.specs.GoodSim.{GoodSim, good_sim_with}
use Rattle.word_sim.specs.BlockFields.{columns}
use Rattle.word_sim.proofs.Columns.{columns_is}
use Rattle.word_sim.proofs.good_sim.GoodSim.run.Goals as goal

pub returns : goal.returns
returns c =
    let circuit = c.self.inside.circuit.now in
    let placed = c.place.new.rows in
    let settled = c.evaluate.new.rows in
    let live = c.live.result in
    let vectors = c.args.block.now.vectors in
    let first = with_items c.self.inside.rows placed in
    let placed_are = with_items_is c.self.inside.rows placed (omega (arith, c.place.auto.rows, c.deref_mut.ensures.len)) in
    let settled_are = with_items_is first settled (omega (arith, c.evaluate.auto.rows, c.deref_mut-2.ensures.len)) in
    let sources : c.args.block.now.sources ≡ circuit.sources = c.requires ∙ sym (ap (λ (s : GoodSim). s.circuit.sources) c.self.view_is) in
    let shown = rw sources at c.place.ensures in
    let kept = ap (take circuit.sources) settled_are ∙ c.evaluate.ensures.sources ∙ ap (take circuit.sources) (c.deref_mut-2.ensures.value ∙ placed_are) in
    rw (← c.self.view_is)
    (λ i. good_sim_with circuit (Some ((ap (λ rows. columns rows live) kept ∙ columns_is (take circuit.sources placed) live vectors (sym c.live.ensures.value) (λ lane h. shown lane (omega (arith, h, c.live.ensures.value)))) i)))
