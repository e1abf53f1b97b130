-- The ways up from nodes.
use Rattle.std.proofs.Common.{◌≡◌, ◌∙◌, ℕ, zero, suc, ◌<◌, ◌≤◌, List, [], length, get_or, drop, sym, ap, arith, inl, inr}
use Rattle.std.proofs.lemmas.Bool.{cases_lt}
use Rattle.answer_numbers.specs.declared.trees.Node.{Node}
use Rattle.answer_numbers.specs.Trees.{Way, way_with, longer_way, node_at, way_of, IsForest}
use Rattle.answer_numbers.proofs.DescentLemmas.{LeadsLower, descended_end, descended_on, descended_same}

abbrev pub above_at : List Node → ℕ → ℕ
above_at nodes n = (node_at nodes n).above

abbrev pub position_at : List Node → ℕ → ℕ
position_at nodes n = (node_at nodes n).position

module _ (lanes : ℕ) (nodes : List Node) where
  pub way-root : (n : ℕ) → n < lanes → way_of lanes nodes n ≡ way_with [] n
  way-root n h = descended_end lanes (above_at nodes) (λ k. way_with [] k) (λ k way. longer_way (position_at nodes k) way) n h

  pub way-node : LeadsLower lanes (length nodes) (above_at nodes) → (n : ℕ) → lanes ≤ n → n < length nodes → way_of lanes nodes n ≡ longer_way (position_at nodes n) (way_of lanes nodes (above_at nodes n))
  way-node lower n h l = descended_on lanes (above_at nodes) (λ k. way_with [] k) (λ k way. longer_way (position_at nodes k) way) (length nodes) lower n h l

  -- other nodes that have the same above and position at each of these numbers have the same ways
  pub way-same : LeadsLower lanes (length nodes) (above_at nodes) → (more : List Node) → ((n : ℕ) → n < length nodes → above_at more n ≡ above_at nodes n) → ((n : ℕ) → n < length nodes → position_at more n ≡ position_at nodes n)
      → (n : ℕ) → n < length nodes → way_of lanes more n ≡ way_of lanes nodes n
  way-same lower more aboves positions n l =
      descended_same lanes (length nodes) (above_at nodes) (above_at more) (λ k. way_with [] k) (λ k way. longer_way (position_at nodes k) way) (λ k way. longer_way (position_at more k) way)
      lower (λ k h b. aboves k b) (λ k h b way. ap (λ position. longer_way position way) (positions k b)) n l

  module _ (limit : ℕ) (forest : IsForest lanes limit nodes) where
    way_apart_within : (k m n : ℕ) → m < k → m < length nodes → n < length nodes → way_of lanes nodes m ≡ way_of lanes nodes n → m ≡ n
    way_apart_within zero m n h hm hn e = absurd (omega (arith, h))
    way_apart_within (suc k) m n h hm hn e = elim (cases_lt m lanes) [
      | inl rm ↦ elim (cases_lt n lanes) [
        | inl rn ↦ ap (λ (way : Way). way.lane) (sym (way-root m rm) ∙ (e ∙ way-root n rn))
        | inr on ↦ absurd (omega (arith, ap (λ (way : Way). length way.positions) (sym (way-root m rm) ∙ (e ∙ way-node forest.lower n on hn))))
      ]
      | inr om ↦ elim (cases_lt n lanes) [
        | inl rn ↦ absurd (omega (arith, ap (λ (way : Way). length way.positions) (sym (way-root n rn) ∙ (sym e ∙ way-node forest.lower m om hm))))
        | inr on ↦
            let both : longer_way (position_at nodes m) (way_of lanes nodes (above_at nodes m)) ≡ longer_way (position_at nodes n) (way_of lanes nodes (above_at nodes n)) =
            sym (way-node forest.lower m om hm) ∙ (e ∙ way-node forest.lower n on hn) in
            let firsts : position_at nodes m ≡ position_at nodes n = ap (λ (way : Way). get_or way.positions 0 0) both in
            let rests = ap (λ (way : Way). drop 1 way.positions) both in
            let roots = ap (λ (way : Way). way.lane) both in
            let ways : way_of lanes nodes (above_at nodes m) ≡ way_of lanes nodes (above_at nodes n) = λ i. way_with (rests i) (roots i) in
            let lm : above_at nodes m < m = forest.lower m om hm in
            let ln : above_at nodes n < n = forest.lower n on hn in
            let aboves : above_at nodes m ≡ above_at nodes n = way_apart_within k (above_at nodes m) (above_at nodes n) (omega (arith, lm, h)) (omega (arith, lm, hm)) (omega (arith, ln, hn)) ways in
            forest.apart m n om hm on hn aboves firsts
      ]
    ]

    -- two nodes with one way are the same
    pub way_apart : (m n : ℕ) → m < length nodes → n < length nodes → way_of lanes nodes m ≡ way_of lanes nodes n → m ≡ n
    way_apart m n hm hn e = way_apart_within (suc m) m n (omega arith) hm hn e
