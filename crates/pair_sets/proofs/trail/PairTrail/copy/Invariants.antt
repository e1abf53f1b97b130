use Rattle.std.proofs.Common.{◌≡◌, ℕ, length, take}
use Rattle.std.specs.Prelude.{Contains}
use Rattle.pair_sets.specs.CubeState.{set_at}
use Rattle.pair_sets.proofs.trail.PairTrail.copy.Given as goal

abbrev pub invariant-loop-line : goal.invariant-loop-line
invariant-loop-line l = record {
  changes : l.self.changes ≡ l.initial.self.changes;
  width : length l.self.sets.items ≡ length l.initial.self.sets.items;
  here : (line : ℕ) → Contains (take l.line-index l.lines) line → set_at l.self.sets.items line ≡ set_at l.from line;
  kept : (line : ℕ) → set_at l.initial.self.sets.items line ≡ set_at l.from line → set_at l.self.sets.items line ≡ set_at l.from line;
}
