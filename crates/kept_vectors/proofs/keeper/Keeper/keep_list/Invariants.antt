use Rattle.std.proofs.Common.{◌≡◌, ℕ, ◌-◌, ◌≤◌, false, length, take}
use Rattle.word_sim.specs.StreamState.{stream_at}
use Rattle.kept_vectors.specs.Kept.{Keeps}
use Rattle.kept_vectors.specs.Keeper.{keeper_with, IsKeeper}
use Rattle.kept_vectors.specs.Scan.{kept_now, IsScan}
use Rattle.kept_vectors.proofs.keeper.Keeper.keep_list.Given as goal

abbrev pub invariant-loop-first : goal.invariant-loop-first
invariant-loop-first l = record {
  within : l.first ≤ length l.vectors;
  drawn : (done : ℕ) × (l.self-inside.stream ≡ stream_at l.initial.self-inside.scan.good.circuit.sources done);
  circuit : l.self-inside.scan.good.circuit ≡ l.initial.self-inside.scan.good.circuit;
  scan : IsScan l.self-inside.scan;
  stands : l.self-inside.stands ≡ false;
  keeper : IsKeeper (keeper_with l.initial.self-inside.scan.good.circuit (kept_now l.self-inside.kept));
  keeps : Keeps l.initial.self-inside.scan.good.circuit (take l.first l.vectors) (kept_now l.initial.self-inside.kept) (kept_now l.self-inside.kept);
}

abbrev pub decreases-loop-first : goal.decreases-loop-first
decreases-loop-first l = length l.initial.vectors - l.first
