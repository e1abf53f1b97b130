use Rattle.std.proofs.Common.{◌≡◌, ℕ, length, take}
use Rattle.std.specs.Prelude.{sum_by}
use Rattle.net_model.specs.Circuit.{line_count}
use Rattle.net_model.specs.Topological.{parts_circuit, count_of, users_at}
use Rattle.net_model.specs.Wiring.{AreUsers, shows_at}
use Rattle.net_model.proofs.wiring.showing_of.Given as goal

abbrev pub invariant-loop-position : goal.invariant-loop-position
invariant-loop-position l = record {
  users : AreUsers l.position (shows_at (parts_circuit l.parts)) l.users;
  whole : length l.users ≡ line_count (parts_circuit l.parts);
  total : sum_by length l.users ≡ l.position;
  long : (line : ℕ) → length (users_at l.users line) ≡ count_of line (take l.position l.parts.positions.items);
}
