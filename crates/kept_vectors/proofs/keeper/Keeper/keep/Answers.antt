use Rattle.std.proofs.Common.{◌≡◌, ◌∷◌, ◌++◌, [], sym, length, ap, arith, ◌∙◌}
use Rattle.std.specs.Prelude.{All}
use Rattle.std.proofs.lemmas.Bool.{false≢true}
use Rattle.word_sim.specs.Block.{Block}
use Rattle.kept_vectors.specs.Keeper.{Keeper, keeper_with, IsKeeper}
use Rattle.kept_vectors.specs.Scan.{kept_now}
use Rattle.kept_vectors.proofs.RootLemmas.{keeper_together}
use Rattle.class_refine.proofs.PatternTables.{table_numbers}
use Rattle.kept_vectors.proofs.KeepLemmas.{either_way, keeper_after, keeper_first_after}
use Rattle.kept_vectors.proofs.keeper.Keeper.keep.Goals as goal

pub keep_block-requires-clause-together : goal.keep_block-requires-clause-together
keep_block-requires-clause-together c = keeper_together c.self.invariant.keeper c.self.inside.scan.differences.units.roots.now c.self.invariant.scan.differences.roots

pub keep_block-requires-clause-numbers : goal.keep_block-requires-clause-numbers
keep_block-requires-clause-numbers c = table_numbers c.self.invariant.keeper.table

pub invariant_of-self : goal.invariant_of-self
invariant_of-self c =
    let circuit = c.self.inside.scan.good.circuit in
    let old = kept_now c.self.inside.kept in
    let new = kept_now c.keep_block.new.kept in
    let vectors = c.push.new.self.vectors in
    let offered : vectors ≡ c.args.v.now ∷ [] = ap (λ (b : Block). b.vectors) c.push.ensures ∙ ap (λ (b : Block). b.vectors ++ c.args.v.now ∷ []) c.clear.ensures in
    let width : length c.args.v.now ≡ circuit.sources = c.requires ∙ ap (λ (k : Keeper). k.circuit.sources) (sym c.self.view_is) in
    let widths : All (λ v. length v ≡ circuit.sources) vectors = rw offered (λ k d below. let e : k ≡ 0 = omega arith in rw e width) in
    let keeper : IsKeeper (keeper_with circuit new) =
    either_way c.keep_block.result c.keep_block.ensures.ok c.keep_block.ensures.err (λ all. keeper_after circuit vectors old new c.self.invariant.keeper widths all) (λ some. keeper_first_after circuit vectors old new c.self.invariant.keeper widths some) in
    record {
      scan = c.keep_block.ensures.scan;
      keeper = rw c.keep_block.ensures.circuit keeper;
      stream = rw c.keep_block.ensures.circuit c.self.invariant.stream;
      stands = λ is. absurd (false≢true is);
    }
