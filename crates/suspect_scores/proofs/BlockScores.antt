-- The scores of the lines of lanes.
use Rattle.std.proofs.Common.{◌≡◌, ◌∙◌, ℕ, ◌+◌, ◌-◌, ◌*◌, ◌/◌, ◌%◌, ◌<◌, ◌≤◌, ◌^◌, Bool, true, false, not, cond, List, length, min, refl, sym, ap, arith, inl, inr}
use Rattle.std.specs.Prelude.{sum_by, count_by, count_ones, nat_lt, ◌&&◌, ◌==◌}
use Rattle.std.specs.List.{range_with_len}
use Rattle.std.proofs.lemmas.Bool.{cases_lt, lt-ltb, le-ltb}
use Rattle.std.proofs.lemmas.Bool.Decides.{nat_tests}
use Rattle.std.proofs.lemmas.Nat.{div-mul-add, mod-mul-add, mul-le}
use Rattle.net_model.specs.Answer.{bit_at}
use Rattle.net_model.specs.Rows.{bit_of, row_bit}
use Rattle.word_sim.specs.declared.lanes.TheConstants.{LANES}
use Rattle.fault_sim.specs.FaultSim.{FaultSim, lanes_at}
use Rattle.suspect_scores.specs.declared.columns.LogColumns.{LogColumns}
use Rattle.suspect_scores.specs.declared.block_scores.LaneScores.{LaneScores}
use Rattle.suspect_scores.specs.declared.scoring.LineScore.{LineScore}
use Rattle.suspect_scores.specs.declared.suspect.Suspect.{Suspect}
use Rattle.suspect_scores.specs.declared.bit_count.BitCount.{BitCount}
use Rattle.suspect_scores.specs.Scored.{count_to, score_to, does_explain, meets_all}
use Rattle.suspect_scores.specs.Columns.{IsBitCount, is_changed_lane, is_same_lane, AreSame, count_lanes, lane_score, AreLaneScores, suspect_to, DoSumsFit, HasSums, HasBlockMore, CanAddBlock}
use Rattle.suspect_scores.proofs.RangeSums.{one_of, count_small, sum_small, sum_joined, count_shifted}
use Rattle.suspect_scores.proofs.DoubleSums.{sum_none, sum_short}
use Rattle.suspect_scores.proofs.BitCountLemmas.{one_word, counted_sum}

-- ---- bits

pub and_false : (b : Bool) → (b && false) ≡ false
and_false true = refl
and_false false = refl

-- a lane in its word
pub lane_bit : (bits : ℕ) (row : List Bool) (word k : ℕ) → ((lane : ℕ) → lane < LANES → lane / 64 ≡ word → bit_of bits (lane % 64) ≡ bit_at row lane) → word * 64 < LANES → k < 64 → bit_of bits k ≡ bit_at row (word * 64 + k)
lane_bit bits row word k is low h =
    let rest : (word * 64 + k) % 64 ≡ k = mod-mul-add word 64 k h in
    ap (bit_of bits) (sym rest) ∙ is (word * 64 + k) (omega (arith, low, h)) (div-mul-add word 64 k h)

pub zero_test : (n : ℕ) → not (nat_lt 0 n) ≡ (n == 0)
zero_test n = grind (arith, nat_tests)

and_later : (a b c : Bool) → ((a && b) && c) ≡ (a && (b && c))
and_later true b c = refl
and_later false b c = refl

-- ---- 64 lanes

module _ (columns : LogColumns) (sim : FaultSim) (first lane lanes line : ℕ) (start : line ≡ first + lane) (same : AreSame sim (lane + lanes) (lane + 64)) where
  positions : ℕ
  positions = length sim.circuit.positions

  at : (k : ℕ) → line + k ≡ first + (lane + k)
  at k = omega (arith, start)

  abbrev count_changed : List (List Bool) → ℕ → ℕ
  count_changed rows k = count_to (λ p. is_changed_lane rows sim line lane p k) (length sim.circuit.positions)

  abbrev count_same : ℕ → ℕ
  count_same k = count_to (λ p. is_same_lane columns.wrong sim line lane lanes p k) (length sim.circuit.positions)

  none_changed : (rows : List (List Bool)) (k : ℕ) → lanes ≤ k → k < 64 → count_changed rows k ≡ 0
  none_changed rows k past h =
      sum_none (one_of (λ p. is_changed_lane rows sim line lane p k)) 0 (length sim.circuit.positions)
      (λ p low.
      let own : 0 + p ≡ p = omega arith in
      ap (one_of (λ q. is_changed_lane rows sim line lane q k)) own
      ∙ ap (λ (b : Bool). cond {A = ℕ} b 1 0) (ap (λ (b : Bool). row_bit rows p (line + k) && b) (same p (lane + k) low (omega (arith, past)) (omega (arith, h))) ∙ and_false (row_bit rows p (line + k))))

  none_same : (k : ℕ) → lanes ≤ k → count_same k ≡ 0
  none_same k past =
      sum_none (one_of (λ p. is_same_lane columns.wrong sim line lane lanes p k)) 0 (length sim.circuit.positions)
      (λ p low. ap (λ (b : Bool). cond {A = ℕ} (b && (row_bit columns.wrong (0 + p) (line + k) && not (bit_at (lanes_at sim (0 + p)) (lane + k)))) 1 0) (le-ltb k lanes past))

  hit_is : (k : ℕ) → count_changed columns.wrong k ≡ (lane_score columns sim first (lane + k)).hit_bits
  unfolding lane_score score_to
  hit_is k = λ i. count_to (λ p. row_bit columns.wrong p (at k i) && bit_at (lanes_at sim p) (lane + k)) (length sim.circuit.positions)

  missed_is : (k : ℕ) → k < lanes → count_same k ≡ (lane_score columns sim first (lane + k)).missed_bits
  unfolding lane_score score_to
  missed_is k h = λ i. count_to (λ p. lt-ltb k lanes h i && (row_bit columns.wrong p (at k i) && not (bit_at (lanes_at sim p) (lane + k)))) (length sim.circuit.positions)

  false_is : (k : ℕ) → count_changed columns.right k ≡ (lane_score columns sim first (lane + k)).false_bits
  unfolding lane_score score_to
  false_is k = λ i. count_to (λ p. row_bit columns.right p (at k i) && bit_at (lanes_at sim p) (lane + k)) (length sim.circuit.positions)

  -- three counts are the scores of the lanes
  pub lanes_scored : (hit missed wrong : BitCount) (w : LaneScores) → lanes ≤ 64 → IsBitCount (is_changed_lane columns.wrong sim line lane) (range_with_len 0 (length sim.circuit.positions)) hit
      → IsBitCount (is_same_lane columns.wrong sim line lane lanes) (range_with_len 0 (length sim.circuit.positions)) missed → IsBitCount (is_changed_lane columns.right sim line lane) (range_with_len 0 (length sim.circuit.positions)) wrong
      → ((k : ℕ) → k < 64 → bit_of w.explained k ≡ ((bit_of hit.some k && not (bit_of missed.some k)) && not (bit_of wrong.some k))) → w.sums.hit_bits ≡ hit.bits → w.sums.missed_bits ≡ missed.bits → w.sums.false_bits ≡ wrong.bits
      → AreLaneScores (lane_score columns sim first) lane lanes w
  lanes_scored hit missed wrong w few hits misses wrongs some eh em ew = record {
    explained = λ k h. some k h ∙ ((λ i. (hits.some k h i && not (misses.some k h i)) && not (wrongs.some k h i)) ∙ explained k h);
    hit = eh ∙ counted_sum (is_changed_lane columns.wrong sim line lane) (length sim.circuit.positions) lane lanes hit (λ j. (lane_score columns sim first j).hit_bits) hits few (λ k h. hit_is k) (none_changed columns.wrong);
    missed = em ∙ counted_sum (is_same_lane columns.wrong sim line lane lanes) (length sim.circuit.positions) lane lanes missed (λ j. (lane_score columns sim first j).missed_bits) misses few missed_is (λ k past h. none_same k past);
    wrong = ew ∙ counted_sum (is_changed_lane columns.right sim line lane) (length sim.circuit.positions) lane lanes wrong (λ j. (lane_score columns sim first j).false_bits) wrongs few (λ k h. false_is k) (none_changed columns.right);
  }
    where
      explained : (k : ℕ) → k < 64 → ((nat_lt 0 (count_changed columns.wrong k) && not (nat_lt 0 (count_same k))) && not (nat_lt 0 (count_changed columns.right k))) ≡ (nat_lt k lanes && does_explain (lane_score columns sim first (lane + k)))
      explained k h = elim (cases_lt k lanes) [
        | inl low ↦
            let s = lane_score columns sim first (lane + k) in
            (λ i. (nat_lt 0 (hit_is k i) && not (nat_lt 0 (missed_is k low i))) && not (nat_lt 0 (false_is k i)))
            ∙ ((λ i. (nat_lt 0 s.hit_bits && zero_test s.missed_bits i) && zero_test s.false_bits i)
            ∙ (and_later (nat_lt 0 s.hit_bits) (s.missed_bits == 0) (s.false_bits == 0) ∙ ap (λ (b : Bool). b && does_explain s) (sym (lt-ltb k lanes low))))
        | inr past ↦
            (λ i. (nat_lt 0 (none_changed columns.wrong k past h i) && not (nat_lt 0 (count_same k))) && not (nat_lt 0 (count_changed columns.right k)))
            ∙ ap (λ (b : Bool). b && does_explain (lane_score columns sim first (lane + k))) (sym (le-ltb k lanes past))
      ]

  -- two counts are the lanes that fit
  pub lanes_fit : (missed wrong : BitCount) (bits : ℕ) → IsBitCount (is_same_lane columns.wrong sim line lane lanes) (range_with_len 0 (length sim.circuit.positions)) missed
      → IsBitCount (is_changed_lane columns.right sim line lane) (range_with_len 0 (length sim.circuit.positions)) wrong → ((k : ℕ) → k < 64 → bit_of bits k ≡ (nat_lt k lanes && (not (bit_of missed.some k) && not (bit_of wrong.some k))))
      → (k : ℕ) → k < 64 → bit_of bits k ≡ (nat_lt k lanes && meets_all (lane_score columns sim first (lane + k)))
  lanes_fit missed wrong bits misses wrongs is k h =
      let s = lane_score columns sim first (lane + k) in
      is k h ∙ elim (cases_lt k lanes) [
        | inl low ↦
            (λ i. nat_lt k lanes && (not (misses.some k h i) && not (wrongs.some k h i)))
            ∙ ((λ i. nat_lt k lanes && (not (nat_lt 0 (missed_is k low i)) && not (nat_lt 0 (false_is k i))))
            ∙ (λ i. nat_lt k lanes && (zero_test s.missed_bits i && zero_test s.false_bits i)))
        | inr past ↦ (λ i. le-ltb k lanes past i && (not (bit_of missed.some k) && not (bit_of wrong.some k))) ∙ ap (λ (b : Bool). b && meets_all s) (sym (le-ltb k lanes past))
      ]

-- ---- words one after another

module _ (score : ℕ → LineScore) where
  -- the sums of a word
  abbrev pub sums_of : ℕ → LaneScores → Suspect
  sums_of number w = record { number = number; explained = count_ones w.explained; hit_bits = w.sums.hit_bits; missed_bits = w.sums.missed_bits; false_bits = w.sums.false_bits }

  -- No score is above `most`.
  pub record AreScoresTo (most : ℕ) : Type 0 where
    pub hit : (k : ℕ) → (score k).hit_bits ≤ most
    pub missed : (k : ℕ) → (score k).missed_bits ≤ most
    pub wrong : (k : ℕ) → (score k).false_bits ≤ most

  ones_are : (n lanes : ℕ) (w : LaneScores) → AreLaneScores score n lanes w → lanes ≤ 64 → w.explained < 2 ^ 64 → count_ones w.explained ≡ count_by (λ k. does_explain (score k)) (range_with_len (0 + n) lanes)
  unfolding count_lanes
  ones_are n lanes w is few fits =
      let test : ℕ → Bool = λ k. nat_lt k lanes && does_explain (score (n + k)) in
      one_word w.explained test fits is.explained
      ∙ (sum_short (one_of test) lanes 64 few (λ k past h. ap (λ (b : Bool). cond {A = ℕ} (b && does_explain (score (n + k))) 1 0) (le-ltb k lanes past))
      ∙ count_shifted test (λ k. does_explain (score k)) 0 (0 + n) lanes
      (λ k h.
      let own : 0 + k ≡ k = omega arith in
      let place : n + k ≡ (0 + n) + k = omega arith in
      ap test own ∙ (ap (λ (b : Bool). b && does_explain (score (n + k))) (lt-ltb k lanes h) ∙ ap (λ (j : ℕ). does_explain (score j)) place)))

  joined : (f : ℕ → ℕ) (n lanes before more : ℕ) → before ≡ sum_by f (range_with_len 0 n) → more ≡ sum_by f (range_with_len n lanes) → before + more ≡ sum_by f (range_with_len 0 (n + lanes))
  joined f n lanes before more a b =
      let start : n ≡ 0 + n = omega arith in
      omega (arith, a, b, sum_joined f 0 n lanes, ap (λ (j : ℕ). sum_by f (range_with_len j lanes)) start)

  pub word_fits : (number n lanes count most : ℕ) (w : LaneScores) (s : Suspect) → s ≡ suspect_to score number n → AreLaneScores score n lanes w → lanes ≤ 64 → w.explained < 2 ^ 64 → n + lanes ≤ count → count ≤ 256
      → AreScoresTo most → count * most < 2 ^ 64 → DoSumsFit s (sums_of number w)
  unfolding suspect_to
  word_fits number n lanes count most w s is word few ones inside small low fits =
      let below_all : (f : ℕ → ℕ) (before more : ℕ) → ((k : ℕ) → f k ≤ most) → before ≡ sum_by f (range_with_len 0 n) → more ≡ sum_by f (range_with_len n lanes) → before + more < 2 ^ 64 =
      λ f before more each a b. omega (arith, joined f n lanes before more a b, sum_small f most (n + lanes) each, mul-le (n + lanes) most count most inside (omega arith), fits) in
      record {
        explained =
            omega (arith, ap (λ (t : Suspect). t.explained) is, ones_are n lanes w word few ones, sum_joined (λ k. cond {A = ℕ} (does_explain (score k)) 1 0) 0 n lanes, count_small (λ k. does_explain (score k)) (n + lanes), inside, small);
        hit = below_all (λ k. (score k).hit_bits) s.hit_bits w.sums.hit_bits low.hit (ap (λ (t : Suspect). t.hit_bits) is) word.hit;
        missed = below_all (λ k. (score k).missed_bits) s.missed_bits w.sums.missed_bits low.missed (ap (λ (t : Suspect). t.missed_bits) is) word.missed;
        wrong = below_all (λ k. (score k).false_bits) s.false_bits w.sums.false_bits low.wrong (ap (λ (t : Suspect). t.false_bits) is) word.wrong;
      }

  pub word_added : (number n lanes m : ℕ) (w : LaneScores) (old new : Suspect) → old ≡ suspect_to score number n → AreLaneScores score n lanes w → lanes ≤ 64 → w.explained < 2 ^ 64 → n + lanes ≡ m → HasSums old (sums_of number w) new
      → new ≡ suspect_to score number m
  unfolding suspect_to
  word_added number n lanes m w old new is word few ones all more =
      let own : new.explained ≡ count_to (λ k. does_explain (score k)) (n + lanes) =
      omega (arith, more.explained, ap (λ (t : Suspect). t.explained) is, ones_are n lanes w word few ones, sum_joined (λ k. cond {A = ℕ} (does_explain (score k)) 1 0) 0 n lanes) in
      (λ i. record {
        number = (more.number ∙ ap (λ (t : Suspect). t.number) is) i;
        explained = own i;
        hit_bits = (more.hit ∙ joined (λ k. (score k).hit_bits) n lanes old.hit_bits w.sums.hit_bits (ap (λ (t : Suspect). t.hit_bits) is) word.hit) i;
        missed_bits = (more.missed ∙ joined (λ k. (score k).missed_bits) n lanes old.missed_bits w.sums.missed_bits (ap (λ (t : Suspect). t.missed_bits) is) word.missed) i;
        false_bits = (more.wrong ∙ joined (λ k. (score k).false_bits) n lanes old.false_bits w.sums.false_bits (ap (λ (t : Suspect). t.false_bits) is) word.wrong) i;
      })
      ∙ ap (λ (j : ℕ). suspect_to score number j) all

  -- a block fits if there is room for its lines
  pub block_fits : (number count most : ℕ) (old block : Suspect) → block ≡ suspect_to score number count → AreScoresTo most → CanAddBlock count most old → DoSumsFit old block
  unfolding suspect_to
  block_fits number count most old block is low room = record {
    explained = omega (arith, ap (λ (t : Suspect). t.explained) is, count_small (λ k. does_explain (score k)) count, room.explained);
    hit = omega (arith, ap (λ (t : Suspect). t.hit_bits) is, sum_small (λ k. (score k).hit_bits) most count low.hit, room.hit);
    missed = omega (arith, ap (λ (t : Suspect). t.missed_bits) is, sum_small (λ k. (score k).missed_bits) most count low.missed, room.missed);
    wrong = omega (arith, ap (λ (t : Suspect). t.false_bits) is, sum_small (λ k. (score k).false_bits) most count low.wrong, room.wrong);
  }

  pub block_added : (number count : ℕ) (old block new : Suspect) → block ≡ suspect_to score number count → HasSums old block new → HasBlockMore score count old new
  unfolding suspect_to
  block_added number count old block new is more = record {
    number = more.number;
    explained = more.explained ∙ ap (λ (t : Suspect). old.explained + t.explained) is;
    hit = more.hit ∙ ap (λ (t : Suspect). old.hit_bits + t.hit_bits) is;
    missed = more.missed ∙ ap (λ (t : Suspect). old.missed_bits + t.missed_bits) is;
    wrong = more.wrong ∙ ap (λ (t : Suspect). old.false_bits + t.false_bits) is;
  }

pub scores_small : (columns : LogColumns) (sim : FaultSim) (first : ℕ) → AreScoresTo (lane_score columns sim first) (length sim.circuit.positions)
unfolding lane_score score_to
scores_small columns sim first = record {
  hit = λ k. count_small (λ p. row_bit columns.wrong p (first + k) && bit_at (lanes_at sim p) k) (length sim.circuit.positions);
  missed = λ k. count_small (λ p. row_bit columns.wrong p (first + k) && not (bit_at (lanes_at sim p) k)) (length sim.circuit.positions);
  wrong = λ k. count_small (λ p. row_bit columns.right p (first + k) && bit_at (lanes_at sim p) k) (length sim.circuit.positions);
}

-- ---- the lanes of a word

-- no answer differs after the lanes of a block
pub same_past : (sim : FaultSim) (count word lanes : ℕ) → lanes ≡ min (count - word * 64) 64 → word * 64 < LANES → AreSame sim count LANES → AreSame sim (word * 64 + lanes) (word * 64 + 64)
same_past sim count word lanes is low past = λ p lane hp from to. past p lane hp (omega (arith, is, from, to)) (omega (arith, low, to))

pub lane_below : (count word lanes k : ℕ) → lanes ≡ min (count - word * 64) 64 → k < 64 → nat_lt k lanes ≡ nat_lt (word * 64 + k) count
lane_below count word lanes k is h = elim (cases_lt k lanes) [
  | inl low ↦ lt-ltb k lanes low ∙ sym (lt-ltb (word * 64 + k) count (omega (arith, low, is)))
  | inr past ↦ le-ltb k lanes past ∙ sym (le-ltb (word * 64 + k) count (omega (arith, past, is, h)))
]
