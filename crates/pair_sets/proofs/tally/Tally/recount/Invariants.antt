use Rattle.std.proofs.Common.{◌≢◌, ◌<◌, ◌≤◌, ℕ, length, get_or}
use Rattle.pair_sets.specs.declared.trail.Change.{Change}
use Rattle.pair_sets.specs.Tally.{IsShownAt, KeepsAll}
use Rattle.pair_sets.proofs.tally.Tally.recount.Given as goal

abbrev pub invariant-loop-change : goal.invariant-loop-change
invariant-loop-change l = record {
  all : KeepsAll l.initial.self l.self;
  others : (at : ℕ) → at < length l.pair.circuit.now.positions
      → ((k : ℕ) (d : Change) → l.change-index ≤ k → k < length l.change-items → (get_or l.change-items k d).line ≢ get_or l.pair.circuit.now.positions at 0)
      → IsShownAt l.pair.circuit.now l.pair.f l.pair.g l.sets l.self.shown at;
}
