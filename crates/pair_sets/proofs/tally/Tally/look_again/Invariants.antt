use Rattle.std.proofs.Common.{ℕ, take}
use Rattle.std.specs.Prelude.{Contains}
use Rattle.pair_sets.specs.Tally.{IsShownAt, KeepsAll}
use Rattle.pair_sets.proofs.tally.Tally.look_again.Given as goal

abbrev pub invariant-loop-at : goal.invariant-loop-at
invariant-loop-at l = record {
  all : KeepsAll l.initial.self l.self;
  here : (at : ℕ) → Contains (take l.at-index l.positions) at → IsShownAt l.pair.circuit.now l.pair.f l.pair.g l.sets l.self.shown at;
  kept : (at : ℕ) → IsShownAt l.pair.circuit.now l.pair.f l.pair.g l.sets l.initial.self.shown at → IsShownAt l.pair.circuit.now l.pair.f l.pair.g l.sets l.self.shown at;
}
