use Rattle.std.proofs.Common.{◌≡◌, ◌<◌, length}
use Rattle.std.specs.Prelude.{All, vec_len, vec_capacity}
use Rattle.fault_sim.specs.Rows.{AreFalseBut}
use Rattle.fault_sim.proofs.rows.Rows.clear.Given as goal

abbrev pub invariant-loop-at : goal.invariant-loop-at
invariant-loop-at l = record {
  count : length l.self-inside.rows.items ≡ length l.initial.self-inside.rows.items;
  room : vec_capacity l.self-inside.listed ≡ vec_capacity l.initial.self-inside.listed;
  within : All (λ at. at < length l.self-inside.rows.items) l.self-inside.listed.items;
  others : AreFalseBut l.self-inside.listed.items l.self-inside.rows.items;
}

abbrev pub decreases-loop-at : goal.decreases-loop-at
decreases-loop-at l = vec_len l.self-inside.listed
