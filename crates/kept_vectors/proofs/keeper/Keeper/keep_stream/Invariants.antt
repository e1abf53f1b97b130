use Rattle.std.proofs.Common.{◌≡◌, ℕ, ◌-◌, ◌≤◌, false}
use Rattle.word_sim.specs.Stream.{stream}
use Rattle.word_sim.specs.StreamState.{stream_at}
use Rattle.kept_vectors.specs.Kept.{Keeps}
use Rattle.kept_vectors.specs.Keeper.{keeper_with, IsKeeper}
use Rattle.kept_vectors.specs.Scan.{kept_now, IsScan}
use Rattle.kept_vectors.proofs.keeper.Keeper.keep_stream.Given as goal

abbrev pub invariant-loop-left : goal.invariant-loop-left
invariant-loop-left l = record {
  left : l.left ≤ l.blocks;
  place : l.stream ≡ stream_at l.initial.self-inside.scan.good.circuit.sources (l.blocks - l.left);
  drawn : (done : ℕ) × (l.self-inside.stream ≡ stream_at l.initial.self-inside.scan.good.circuit.sources done);
  circuit : l.self-inside.scan.good.circuit ≡ l.initial.self-inside.scan.good.circuit;
  scan : IsScan l.self-inside.scan;
  stands : l.self-inside.stands ≡ false;
  keeper : IsKeeper (keeper_with l.initial.self-inside.scan.good.circuit (kept_now l.self-inside.kept));
  keeps : Keeps l.initial.self-inside.scan.good.circuit (stream l.initial.self-inside.scan.good.circuit.sources (l.blocks - l.left)) (kept_now l.initial.self-inside.kept) (kept_now l.self-inside.kept);
}

abbrev pub decreases-loop-left : goal.decreases-loop-left
decreases-loop-left l = l.left
