-- A circuit has so few bridges that their number fits a word.
use Rattle.std.proofs.Common.{◌≡◌, ◌≢◌, ◌∙◌, ℕ, ◌+◌, ◌*◌, ◌<◌, ◌≤◌, ◌^◌, List, length, map, get_or, sym, ap, subst, arith}
use Rattle.std.specs.Prelude.{All, ◌&&◌, ◌==◌}
use Rattle.std.specs.List.{range_with_len}
use Rattle.std.specs.Ordering.{ordering_reverse}
use Rattle.std.specs.declared.cmp.Ordering.{Ordering}
use Rattle.std.specs.declared.cmp.Ordering.TheVariants.{Less, Greater}
use Rattle.std.proofs.lemmas.List.{get_or-map, get_or_default, length-map}
use Rattle.std.proofs.lemmas.List.Elements.{Contains-get_or, All-contains}
use Rattle.std.proofs.lemmas.List.FromFn.{length-range_with_len}
use Rattle.std.proofs.lemmas.List.Sums.{count_by-le-length}
use Rattle.net_model.specs.Circuit.{Circuit, IsCircuit}
use Rattle.net_model.proofs.Orders.{Contains-range}
use Rattle.net_model.proofs.QueueEnd.{no_longer}
use Rattle.bridging_faults.specs.declared.best.Best.{Best}
use Rattle.bridging_faults.specs.declared.bridge.BridgeKind.{BridgeKind}
use Rattle.bridging_faults.specs.declared.bridge.BridgeKind.TheVariants.{And, Or, Dominant}
use Rattle.bridging_faults.specs.declared.bridge.Bridge.{Bridge}
use Rattle.bridging_faults.specs.declared.scored.ScoredBridge.{ScoredBridge}
use Rattle.bridging_faults.specs.declared.searching.Sought.{Sought}
use Rattle.bridging_faults.specs.Bridge.{IsBridgeOf}
use Rattle.bridging_faults.specs.Found.{kind_rank, bridge_cmp}
use Rattle.bridging_faults.specs.Met.{IsFoundBy}
use Rattle.bridging_faults.specs.Tried.{IsSearched}
use Rattle.bridging_faults.proofs.Ordered.{bridges_total, same_kind}
use Rattle.bridging_faults.proofs.SearchedLemmas.{one_score}

-- ---- bridges by number

-- the lines of a circuit are below 2^26
number_of : Bridge → ℕ
number_of b = kind_rank b.kind * 4503599627370496 + (b.first * 67108864 + b.second)

low_rank : (kind : BridgeKind) → kind_rank kind ≤ 2
low_rank And = omega arith
low_rank Or = omega arith
low_rank Dominant = omega arith

same_parts : (k f s k2 f2 s2 : ℕ) → f < 67108864 → s < 67108864 → f2 < 67108864 → s2 < 67108864 → k * 4503599627370496 + (f * 67108864 + s) ≡ k2 * 4503599627370496 + (f2 * 67108864 + s2) → (k ≡ k2) × (f ≡ f2) × (s ≡ s2)
same_parts k f s k2 f2 s2 a b d e same = (omega (arith, a, b, d, e, same), omega (arith, a, b, d, e, same), omega (arith, a, b, d, e, same))

module _ (c : Circuit) (w : IsCircuit c) where
  low_number : (b : Bridge) → IsBridgeOf c b → number_of b < 13510798882111488
  unfolding number_of
  low_number b is = omega (arith, w.small, low_rank b.kind, is.first_inside, is.second_inside)

  one_number : (a b : Bridge) → IsBridgeOf c a → IsBridgeOf c b → number_of a ≡ number_of b → a ≡ b
  unfolding number_of
  one_number a b is also same =
      let parts = same_parts (kind_rank a.kind) a.first a.second (kind_rank b.kind) b.first b.second (omega (arith, w.small, is.first_inside)) (omega (arith, w.small, is.second_inside)) (omega (arith, w.small, also.first_inside)) (omega (arith, w.small, also.second_inside)) same in
      let kind = same_kind a.kind b.kind parts.0 in
      λ i. record { kind = kind i; first = parts.1 i; second = parts.2 i }

never_itself : (s : ScoredBridge) → bridge_cmp s s ≡ Less → ⊥
never_itself s e =
    let clash : ◌≡◌ {A = Ordering} Less Greater = sym e ∙ (bridges_total.antisymm s s ∙ ap ordering_reverse e) in
    cc

few_numbers : (n : ℕ) (xs : List ℕ) → ((j k : ℕ) → j < k → k < length xs → get_or xs j 0 ≢ get_or xs k 0) → All (λ x. x < n) xs → length xs ≤ n
few_numbers n xs distinct below =
    omega (arith, length-range_with_len 0 n, no_longer xs (range_with_len 0 n) distinct (λ x m. Contains-range 0 n x (omega arith) (let low = All-contains (λ (y : ℕ). y < n) xs x below m in omega (arith, low))))

-- ---- those that are found

module _ (c : Circuit) (w : IsCircuit c) (sought : Sought) (met : Bridge → Type 0) (best : Best) (is : IsSearched c sought met best) where
  abbrev at : ℕ → ScoredBridge → ScoredBridge
  at k d = get_or is.ranked k d

  found_at : (k : ℕ) (d : ScoredBridge) → k < length is.ranked → IsFoundBy c sought.rows sought.within (at k d)
  found_at k d h = ((is.are.exactly (at k d)).0 (Contains-get_or is.ranked k d h)).0

  numbers : List ℕ
  numbers = map (λ s. number_of s.bridge) is.ranked

  many : length numbers ≡ length is.ranked
  unfolding numbers
  many = length-map is.ranked (λ s. number_of s.bridge)

  number_at : (k : ℕ) (d : ScoredBridge) → k < length is.ranked → get_or numbers k 0 ≡ number_of (at k d).bridge
  unfolding numbers
  number_at k d h = get_or-map (λ s. number_of s.bridge) is.ranked k d 0 h

  none : ScoredBridge
  none = record { bridge = record { kind = And; first = 0; second = 0 }; explained = 0; false_patterns = 0 }

  distinct : (j k : ℕ) → j < k → k < length numbers → get_or numbers j 0 ≢ get_or numbers k 0
  distinct j k order low same =
      let h : k < length is.ranked = omega (arith, low, many) in
      let first : j < length is.ranked = omega (arith, h, order) in
      let a = found_at j none first in
      let b = found_at k none h in
      let bridge = one_number c w (at j none).bridge (at k none).bridge a.bridge b.bridge (sym (number_at j none first) ∙ (same ∙ number_at k none h)) in
      let scored = one_score c sought.rows sought.within (at j none) (at k none) a b bridge in
      never_itself (at k none) (subst (λ (s : ScoredBridge). bridge_cmp s (at k none) ≡ Less) scored (is.are.ascend j k none order h))

  below : All (λ x. x < 13510798882111488) numbers
  below = λ k d h.
      let low : k < length is.ranked = omega (arith, h, many) in
      let number = low_number c w (at k none).bridge (found_at k none low).bridge in
      omega (arith, number, number_at k none low, default_at k d h)
    where
      default_at : (k d : ℕ) → k < length numbers → get_or numbers k d ≡ get_or numbers k 0
      default_at k d h = get_or_default numbers k d 0 h

  pub few_found : best.found < 2 ^ 54
  few_found = omega (arith, is.kept.found, many, few_numbers 13510798882111488 numbers distinct below)

module _ (c : Circuit) (sought : Sought) (met : Bridge → Type 0) (best : Best) (is : IsSearched c sought met best) where
  pub fewer_exact : best.exact ≤ best.found
  fewer_exact = omega (arith, is.kept.found, is.kept.exact, count_by-le-length (λ (s : ScoredBridge). s.explained == sought.failing && s.false_patterns == 0) is.ranked)
