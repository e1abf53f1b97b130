use Rattle.std.proofs.Common.{◌≡◌, ◌<◌, ◌≤◌, ◌+◌, ℕ, length}
use Rattle.std.specs.Prelude.{All, true, not, count_by, Contains, vec_len, vec_capacity}
use Rattle.net_model.specs.Answer.{bit_at}
use Rattle.pair_sets.proofs.cone.Cone.unmark_all.Given as goal

abbrev pub invariant-loop-line : goal.invariant-loop-line
invariant-loop-line l = record {
  whole : length l.self-inside.marks.items ≡ length l.initial.self-inside.marks.items;
  within : All (λ line. line < length l.self-inside.marks.items) l.self-inside.lines.items;
  listed : (line : ℕ) → bit_at l.self-inside.marks.items line ≡ true → Contains l.self-inside.lines.items line;
  room : length l.self-inside.lines.items + count_by not l.self-inside.marks.items ≤ vec_capacity l.self-inside.lines;
}

abbrev pub decreases-loop-line : goal.decreases-loop-line
decreases-loop-line l = vec_len l.self-inside.lines
