use Rattle.std.proofs.Common.{◌<◌, ◌∙◌, [], sym, ap, arith}
use Rattle.net_model.specs.Fault.{stuck_stem}
use Rattle.pair_sets.specs.PairSet.{forced_pairs}
use Rattle.pair_sets.proofs.SeenLemmas.{source_line_pairs}
use Rattle.pair_sets.proofs.fault_pair.FaultPair.free_line_pairs.Goals as goal

pub returns-then-line-sources : goal.returns-then-line-sources
returns-then-line-sources c =
    let circuit = c.args.self.now.circuit.now in
    let f = c.args.self.now.f in
    let g = c.args.self.now.g in
    let line = c.args.line in
    let source : line < circuit.sources = omega (arith, c.if-line-sources.true, c.sources.ensures.value) in
    c.stem_pairs.ensures ∙ ap (forced_pairs (stuck_stem f line) (stuck_stem g line)) c.free.ensures ∙ sym (source_line_pairs circuit f g [] c.args.sets.now line source)
