-- A circuit has at most as many sites as lines, pins and positions.
use Rattle.std.proofs.Common.{◌≡◌, ℕ, zero, suc, ◌+◌, ◌<◌, ◌≤◌, ◌^◌, Bool, true, false, cond, eqb, List, [], ◌∷◌, length, refl, arith, inl, inr}
use Rattle.std.specs.Prelude.{flat_map, sum_by, nat_le, if◌then◌else◌}
use Rattle.std.specs.List.{range_with_len}
use Rattle.std.proofs.lemmas.Bool.{cases_eq}
use Rattle.std.proofs.lemmas.Bool.Decides.{nat_tests}
use Rattle.std.proofs.lemmas.List.Concat.{length-flat_map}
use Rattle.std.proofs.lemmas.List.Sums.{sum_by-cons, sum_by-le-sum_by}
use Rattle.net_model.specs.declared.gate.Gate.{Gate}
use Rattle.net_model.specs.Circuit.{Circuit, IsCircuit, line_count, all_lines}
use Rattle.net_model.specs.FaultList.{destinations, branches, sites_of_line}
use Rattle.net_model.specs.Topological.{count_of, pins_reading}
use Rattle.net_model.proofs.DestinationCounts.{destination_count}
use Rattle.net_model.proofs.DoubleSums.{sum_added, sum_zeros, sum_swapped}

-- ---- each reader reads one line

each_line : (first count : ℕ) → sum_by (λ line. 1) (range_with_len first count) ≡ count
each_line first zero = refl
each_line first (suc count) = omega (arith, each_line (first + 1) count, sum_by-cons (λ line. 1) first (range_with_len (first + 1) count))

misses : (y first count : ℕ) → y < first → sum_by (λ line. cond (eqb y line) 1 0) (range_with_len first count) ≡ 0
misses y first zero h = refl
misses y first (suc count) h =
    let here : cond {A = ℕ} (eqb y first) 1 0 ≡ 0 = grind (arith, nat_tests) in
    omega (arith, here, misses y (first + 1) count (omega arith), sum_by-cons (λ line. cond (eqb y line) 1 0) first (range_with_len (first + 1) count))

hits_once : (y first count : ℕ) → sum_by (λ line. cond (eqb y line) 1 0) (range_with_len first count) ≤ 1
hits_once y first zero = omega arith
hits_once y first (suc count) =
    let rest = sum_by-cons (λ line. cond (eqb y line) 1 0) first (range_with_len (first + 1) count) in
    elim (cases_eq y first) [
      | inl same ↦
          let here : cond {A = ℕ} (eqb y first) 1 0 ≡ 1 = grind (arith, nat_tests) in
          omega (arith, rest, here, misses y (first + 1) count (omega arith))
      | inr other ↦
          let here : cond {A = ℕ} (eqb y first) 1 0 ≡ 0 = grind (arith, nat_tests) in
          omega (arith, rest, here, hits_once y (first + 1) count)
    ]

few_places : (xs : List ℕ) (first count : ℕ) → sum_by (λ line. count_of line xs) (range_with_len first count) ≤ length xs
few_places [] first count = omega (arith, sum_zeros (range_with_len first count))
few_places (x ∷ xs) first count =
    omega (
      arith,
      sum_by-le-sum_by (λ line. count_of line (x ∷ xs)) (λ line. cond (eqb x line) 1 0 + count_of line xs) (range_with_len first count) (λ line. omega (arith, sum_by-cons (λ y. cond (eqb y line) 1 0) x xs)),
      sum_added (λ line. cond (eqb x line) 1 0) (λ line. count_of line xs) (range_with_len first count),
      hits_once x first count,
      few_places xs first count,
    )

-- at most as many pins of these gates read lines as the gates have
few_pins : (gates : List Gate) (first count : ℕ) → sum_by (λ line. sum_by (λ (gate : Gate). count_of line gate.pins) gates) (range_with_len first count) ≤ sum_by (λ (gate : Gate). length gate.pins) gates
few_pins gates first count =
    let lines = range_with_len first count in
    omega (
      arith,
      sum_swapped (λ line (gate : Gate). count_of line gate.pins) lines gates,
      sum_by-le-sum_by (λ (gate : Gate). sum_by (λ line. count_of line gate.pins) lines) (λ (gate : Gate). length gate.pins) gates (λ gate. few_places gate.pins first count),
    )

module _ (c : Circuit) where
  branch_count : (line : ℕ) → length (branches c line) ≤ length (destinations c line)
  unfolding branches
  branch_count line = either (nat_le 2 (length (destinations c line)))
    where
      either : (b : Bool) → length (if b then destinations c line else []) ≤ length (destinations c line)
      either true = omega arith
      either false = omega arith

  pub sites_within : length (flat_map (sites_of_line c) (all_lines c)) ≤ line_count c + length c.positions + sum_by (λ gate. length gate.pins) c.gates
  sites_within =
      let lines = all_lines c in
      let positions = λ (line : ℕ). count_of line c.positions in
      omega (
        arith,
        length-flat_map (sites_of_line c) lines,
        sum_by-le-sum_by (λ line. length (sites_of_line c line)) (λ line. 1 + (pins_reading c line + positions line)) lines (λ line. omega (arith, branch_count line, destination_count c line)),
        sum_added (λ line. 1) (λ line. pins_reading c line + positions line) lines,
        sum_added (pins_reading c) positions lines,
        each_line 0 (line_count c),
        few_places c.positions 0 (line_count c),
        few_pins c.gates 0 (line_count c),
      )

  pub few_sites : IsCircuit c → length (flat_map (sites_of_line c) (all_lines c)) < 2 ^ 26
  few_sites w = omega (arith, w.small, sites_within)
