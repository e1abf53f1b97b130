use Rattle.std.proofs.Common.{◌*◌, ◌<◌, [], length, get_or, ap, arith}
use Rattle.std.proofs.lemmas.List.FromFn.{length-map-range_with_len}
use Rattle.std.proofs.lemmas.List.Elements.{Contains-get_or}
use Rattle.class_refine.proofs.PatternTables.{table_numbers}
use Rattle.word_sim.specs.Block.{Block}
use Rattle.word_sim.specs.Stream.{stream_vector}
use Rattle.kept_vectors.proofs.RootLemmas.{keeper_together}
use Rattle.kept_vectors.proofs.keeper.Keeper.look.Goals as goal

pub look-requires-clause-together : goal.look-requires-clause-together
look-requires-clause-together c = keeper_together c.self.invariant.keeper c.self.inside.scan.differences.units.roots.now c.self.invariant.scan.differences.roots

pub look-requires-clause-numbers : goal.look-requires-clause-numbers
look-requires-clause-numbers c = table_numbers c.self.invariant.keeper.table

pub returns-clause-looked : goal.returns-clause-looked
returns-clause-looked c =
    let sources = c.self.inside.scan.good.circuit.sources in
    let done = c.self.invariant.stream.0 in
    let vectors = c.fix_cubes.new.block.vectors in
    let filled = ap (λ (b : Block). length b.vectors) (c.fill.ensures.block sources done c.self.invariant.stream.1) in
    let some : 0 < length vectors = omega (arith, c.fix_cubes.ensures.count, filled, length-map-range_with_len (stream_vector sources) (64 * done) (64 * c.fill.result), c.fill.ensures.count) in
    rw c.look.ensures.block (get_or vectors 0 [], Contains-get_or vectors 0 [] some, c.fix_cubes.ensures.first)
