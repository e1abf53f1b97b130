-- The working state of a keeper, for its circuit, and after a block has run.
use Rattle.std.proofs.Common.{◌≡◌, ◌∙◌, Some, refl}
use Rattle.word_sim.specs.Block.{IsBlock}
use Rattle.word_sim.specs.GoodSim.{GoodSim, good_sim_with}
use Rattle.kept_vectors.specs.declared.scan.Scan.{Scan}
use Rattle.kept_vectors.specs.Notes.{HasRunBlock}
use Rattle.kept_vectors.specs.Scan.{IsScan}

module _ {scan : Scan} {good : GoodSim} (is : IsScan scan) (ran : good ≡ good_sim_with scan.good.circuit (Some scan.block.vectors)) where
  -- the circuit has run the scan's block
  pub block_run : IsBlock scan.block → HasRunBlock good scan.listed.now
  block_run block = rw ran (record {
    circuit = is.circuit;
    ran = refl;
    few = block.few;
    widths = λ k d h. block.widths k d h ∙ is.block;
    faults_are = is.faults_are;
  })
