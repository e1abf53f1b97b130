use Rattle.std.proofs.Common.{length, false, ap, arith}
use Rattle.std.proofs.lemmas.List.{length-replicate}
use Rattle.distinguish_search.proofs.pair_search.vector_of.Goals as goal

pub loop-source-init : goal.loop-source-init
loop-source-init c = record {
  wide = omega (arith, ap length c.in_ok-v.ensures, length-replicate (length c.args.cube.now) false);
  set = λ k bit low. absurd (omega (arith, low));
}
