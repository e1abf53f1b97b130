use Rattle.std.proofs.Common.{◌≡◌, ℕ, ◌*◌, ◌<◌, ◌≤◌, ◌^◌, length, get_or}
use Rattle.samediff_dict.proofs.GainLemmas.{gain_to}
use Rattle.samediff_dict.proofs.groups.PlaceGroups.gains_by.Given as goal

abbrev pub invariant-loop-place : goal.invariant-loop-place
invariant-loop-place l = record {
  places : length l.gains.items ≡ l.candidates;
  each : (answer : ℕ) → answer < l.candidates → get_or l.gains.items answer 0 ≡ gain_to l.self.group_of.items l.answers l.place answer;
  bound : (answer : ℕ) → answer < l.candidates → get_or l.gains.items answer 0 ≤ l.place * 2 ^ 32;
}
