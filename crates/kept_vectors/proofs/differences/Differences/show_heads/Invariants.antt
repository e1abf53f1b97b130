use Rattle.std.proofs.Common.{◌≡◌, ◌<◌, ℕ}
use Rattle.kept_vectors.specs.Notes.{AreOf, IsPlaceNoted}
use Rattle.kept_vectors.proofs.differences.Differences.show_heads.Given as goal

abbrev pub invariant-loop-place : goal.invariant-loop-place
invariant-loop-place l = record {
  of : AreOf l.good.circuit l.self;
  needs : l.self.needs.items ≡ l.initial.self.needs.items;
  turns : l.self.turns.items ≡ l.initial.self.turns.items;
  units : l.self.units.roots.now ≡ l.initial.self.units.roots.now;
  numbers : l.self.numbers.items ≡ l.initial.self.numbers.items;
  places : (place : ℕ) → place < l.place → IsPlaceNoted l.good l.initial.self.needs.items l.self.notes.items l.self.shown.items place;
}
