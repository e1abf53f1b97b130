-- The walk along a loop of the cut.
use Rattle.std.proofs.Common.{◌≡◌, ◌≢◌, ◌∙◌, ℕ, ◌+◌, ◌-◌, ◌<◌, ◌≤◌, List, [], length, get_or, sym, ap, arith}
use Rattle.std.specs.Prelude.{All, Contains, Some}
use Rattle.std.proofs.lemmas.List.{get_or_default, length-map}
use Rattle.std.proofs.lemmas.List.Elements.{All-from_get_or}
use Rattle.std.proofs.lemmas.List.FromFn.{length-range_with_len}
use Rattle.std.proofs.lemmas.Option.{slice_get-get_or}
use Rattle.net_model.specs.Circuit.{Circuit, line_count, gate_lines, Reaches, directly, onward}
use Rattle.net_model.specs.LoopWalk.{visited, IsLoopWalk}
use Rattle.net_model.proofs.Orders.{Contains-range, reader_is_gate}
use Rattle.net_model.proofs.QueueEnd.{no_longer}
use Rattle.net_model.proofs.WalkReach.{walk_reaches}
use Rattle.bench_reader.specs.Netlist.{Netlist}
use Rattle.bench_reader.specs.Driven.{IsDriven}
use Rattle.scan_cut.specs.Cut.{gate_words, line_names, cut_circuit, cut_design}
use Rattle.scan_cut.proofs.FitLemmas.{gate_count, line_count_is, few_parts}

-- a line that is reached is a gate's
reached_gate : (c : Circuit) (line reader : ℕ) → Reaches c line reader → (c.sources ≤ reader) × (reader < line_count c)
reached_gate c line reader (directly f) = reader_is_gate c line reader f
reached_gate c line reader (onward {between = between} r f) = reader_is_gate c between reader f

module _ (c : Circuit) (walk : List ℕ) (is : IsLoopWalk c walk) where
  pub walk_gate : (k : ℕ) → k < length walk → (c.sources ≤ get_or walk k 0) × (get_or walk k 0 < line_count c)
  walk_gate k h =
      let line = get_or walk k 0 in
      reached_gate c line line (walk_reaches c walk line is (k, h, get_or_default walk k line 0 h))

  walk_distinct : (j k : ℕ) → j < k → k < length walk → get_or walk j 0 ≢ get_or walk k 0
  walk_distinct j k lt h same =
      let at : (i : ℕ) → i < length walk → visited c (is.start + i) ≡ Some (get_or walk i 0) = λ i below. is.visits i below ∙ slice_get-get_or walk i 0 below in
      is.first_return (is.start + j) (is.start + k) (omega arith) (omega arith) (at j (omega arith) ∙ ap Some same ∙ sym (at k h))

  pub walk_short : length walk ≤ length c.gates
  walk_short =
      let inside : (line : ℕ) → Contains walk line → Contains (gate_lines c) line =
      λ line m. let r = reached_gate c line line (walk_reaches c walk line is m) in Contains-range c.sources (length c.gates) line r.0 r.1 in
      omega (arith, no_longer walk (gate_lines c) walk_distinct inside, length-range_with_len c.sources (length c.gates))

-- ---- the walk of a netlist's cut

module _ (n : Netlist) (o : IsDriven n) (walk : List ℕ) (is : IsLoopWalk (cut_circuit n) walk) where
  pub first_from : (cut_circuit n).sources ≤ get_or walk 0 0
  first_from = (walk_gate (cut_circuit n) walk is 0 is.nonempty).0

  pub first_within : get_or walk 0 0 - (cut_circuit n).sources < length (gate_words n.statements)
  unfolding cut_circuit
  first_within =
      let gate = walk_gate (cut_circuit n) walk is 0 is.nonempty in
      omega (arith, gate.0, gate.1, gate_count n.statements n.statements)

  pub few_steps : length walk < 4294967295
  unfolding cut_circuit
  few_steps = omega (arith, walk_short (cut_circuit n) walk is, few_parts n o, line_count_is n.statements, gate_count n.statements n.statements)

  pub walk_within : All (λ line. line < length (cut_design n).names) walk
  unfolding cut_design cut_circuit
  walk_within =
      All-from_get_or (λ line. line < length (cut_design n).names) walk 0
      (λ k h. omega (arith, (walk_gate (cut_circuit n) walk is k h).1, gate_count n.statements n.statements, line_count_is n.statements, length-map (line_names n.statements) (λ name. get_or n.names name [])))
