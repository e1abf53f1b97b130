-- What the search has found is the list of the log.
use Rattle.std.proofs.Common.{◌≡◌, ◌∙◌, ℕ, zero, suc, ◌+◌, ◌<◌, List, [], ◌∷◌, length, map, refl, sym, ap, subst, arith, inl, inr}
use Rattle.std.specs.Prelude.{Bool, true, false, not, ◌&&◌, ◌==◌, ◌↔◌, nat_lt, count_by, zip, All, Contains}
use Rattle.std.specs.List.{range_with_len}
use Rattle.std.proofs.lemmas.Bool.{cases_Bool, and_parts, not-true, lt-ltb, ne_eqb}
use Rattle.std.proofs.lemmas.List.Elements.{All-contains}
use Rattle.std.proofs.lemmas.List.Sums.{sum_by-cons}
use Rattle.net_model.specs.Circuit.{Circuit, IsCircuit, line_count}
use Rattle.net_model.specs.Answer.{bit_at, IsAnswer}
use Rattle.net_model.specs.declared.fault.Fault.{Fault}
use Rattle.net_model.specs.declared.fault.Fault.TheVariants.{Free}
use Rattle.net_model.specs.FaultList.{faults, fault_numbered}
use Rattle.net_model.proofs.Listed.{some_number}
use Rattle.net_model.proofs.Ranges.{sum_by-range_more}
use Rattle.dict_rows.specs.AnswerTable.{Answers, AreAnswers, answer_to}
use Rattle.table_dicts.proofs.FailLemmas.{answer_is}
use Rattle.ranked_diag.specs.Seen.{differing_bits}
use Rattle.ranked_diag.specs.PartialLog.{Line}
use Rattle.suspect_scores.specs.Scores.{is_failing, failing}
use Rattle.suspect_scores.specs.Scored.{count_to}
use Rattle.suspect_scores.specs.Marks.{logged_line}
use Rattle.suspect_scores.proofs.RangeSums.{one_of, count_listed}
use Rattle.bridging_faults.specs.declared.best.Best.{Best}
use Rattle.bridging_faults.specs.declared.bridge.Bridge.{Bridge}
use Rattle.bridging_faults.specs.declared.line_rows.LineRows.{LineRows}
use Rattle.bridging_faults.specs.declared.scored.ScoredBridge.{ScoredBridge}
use Rattle.bridging_faults.specs.declared.searching.Sought.{Sought}
use Rattle.bridging_faults.specs.Bridge.{IsBridgeOf, IsLoopless}
use Rattle.bridging_faults.specs.BridgeList.{list_with}
use Rattle.bridging_faults.specs.Explains.{marked_failing, unmarked_passing}
use Rattle.bridging_faults.specs.Found.{IsScored, IsFound, AreListed}
use Rattle.bridging_faults.specs.LineRows.{vector_at, AreLineRows, is_explained_at}
use Rattle.bridging_faults.specs.Met.{IsFoundBy, IsMetBelow}
use Rattle.bridging_faults.specs.Search.{AreChosen}
use Rattle.bridging_faults.specs.Told.{explained_to, left_to, false_to}
use Rattle.bridging_faults.specs.Tried.{IsSearched}
use Rattle.bridging_faults.proofs.Computed.{apart_facts, facts_apart}
use Rattle.bridging_faults.proofs.Counts.{one_if, failing_count}
use Rattle.bridging_faults.proofs.LineRowLemmas.{told_marks}
use Rattle.bridging_faults.proofs.Listings.{scored_once}
use Rattle.bridging_faults.proofs.MetLemmas.{met_line}
use Rattle.bridging_faults.proofs.SearchLemmas.{some_chosen, is_met}
use Rattle.bridging_faults.proofs.ToldLemmas.{explained_more, left_more}

-- ---- each that is found has been met

counted_some : (p : ℕ → Bool) (n : ℕ) → 0 < count_to p n → (k : ℕ) × (k < n) × (p k ≡ true)
counted_some p zero h = absurd (omega (arith, h))
counted_some p (suc n) h =
    let more : suc n ≡ n + 1 = omega arith in
    let step : count_to p (suc n) ≡ count_to p n + one_if (p n) = ap (count_to p) more ∙ sum_by-range_more (one_of p) n in
    elim (cases_Bool (p n)) [
      | inl on ↦ (n, omega arith, on)
      | inr off ↦
          let none : one_if (p n) ≡ 0 = ap one_if off in
          let r = counted_some p n (omega (arith, h, step, none)) in
          (r.0, omega (arith, r.1), r.2)
    ]

module _ (c : Circuit) (m : LineRows) (within : ℕ) (chosen : List ℕ) (are : AreChosen (λ k. not (bit_at m.free k)) (length m.free) within chosen) where
  chosen_fail : (k : ℕ) → Contains chosen k → bit_at m.free k ≡ false
  chosen_fail k has = not-true (bit_at m.free k) (All-contains (λ (n : ℕ). not (bit_at m.free n) ≡ true) chosen k are.fails has)

  pub met_all : (s : ScoredBridge) → IsFoundBy c m within s → IsMetBelow c m chosen (line_count c) s.bridge
  unfolding explained_to left_to
  met_all s is =
      let b = s.bridge in
      let some = counted_some (λ k. not (bit_at m.free k) && is_explained_at m b k) (length m.free) (omega (arith, is.told.some, is.told.explained)) in
      let parts = and_parts (not (bit_at m.free some.0)) (is_explained_at m b some.0) some.2 in
      let there = some_chosen (λ k. not (bit_at m.free k)) (is_explained_at m b) (length m.free) within chosen are is.told.enough some.0 some.1 parts.0 parts.1 in
      let met = is_met m chosen b there.0 chosen_fail there.1 there.2 in
      let below : met.line < line_count c = elim (met_line c m chosen met.line b met.meets) [
        | inl first ↦ omega (arith, first, is.bridge.first_inside)
        | inr second ↦ omega (arith, second, is.bridge.second_inside)
      ] in
      (met.line, below, record { bridge = is.bridge; at = met.meets })

-- ---- what the rows say is what the log says

zip_count : (f : Line → Bool → Bool) (p g : ℕ → Bool) (n : ℕ) (rest : List Line) → ((k : ℕ) → k < length rest → p (n + k) ≡ f (logged_line rest k) (g (n + k)))
    → count_by (λ x. f x.0 x.1) (zip rest (map g (range_with_len n (length rest)))) ≡ count_by p (range_with_len n (length rest))
zip_count f p g n [] at = refl
zip_count f p g n (line ∷ rest) at =
    let here : p n ≡ f line (g n) = let none : n + 0 ≡ n = omega arith in let Same : ℕ → Type 0 = λ j. p j ≡ f line (g j) in subst Same none (at 0 (omega arith)) in
    let first = sum_by-cons (λ (x : Line × Bool). one_if (f x.0 x.1)) (line, g n) (zip rest (map g (range_with_len (n + 1) (length rest)))) in
    let second = sum_by-cons (λ (k : ℕ). one_if (p k)) n (range_with_len (n + 1) (length rest)) in
    let behind = zip_count f p g (n + 1) rest (λ k h. let on : n + suc k ≡ n + 1 + k = omega arith in let Same : ℕ → Type 0 = λ j. p j ≡ f (logged_line rest k) (g j) in subst Same on (at (suc k) (omega (arith, h)))) in
    omega (arith, first, second, behind, ap one_if here)

both_ways : (a b : Bool) → one_if a ≡ one_if (a && b) + one_if (a && not b)
both_ways true true = refl
both_ways true false = refl
both_ways false b = refl

not_twice : (a : Bool) → not (not a) ≡ a
not_twice true = refl
not_twice false = refl

module _ (m : LineRows) (b : Bridge) where
  -- the failing lines are those explained and those left
  split_count : (n : ℕ) → count_to (λ k. not (bit_at m.free k)) n ≡ explained_to m b n + left_to m b n
  unfolding explained_to left_to
  split_count zero = refl
  split_count (suc n) =
      let more : suc n ≡ n + 1 = omega arith in
      let fails = λ (k : ℕ). not (bit_at m.free k) in
      let whole : count_to fails (suc n) ≡ count_to fails n + one_if (fails n) = ap (count_to fails) more ∙ sum_by-range_more (one_of fails) n in
      omega (arith, whole, split_count n, ap (explained_to m b) more, ap (left_to m b) more, explained_more m b n, left_more m b n, both_ways (fails n) (is_explained_at m b n))

module _ (c : Circuit) (w : IsCircuit c) (patterns : List (List Bool)) (table : Answers) (lines : List Line) (m : LineRows) (are : AreLineRows c patterns lines m) (same : length m.free ≡ length lines)
    (failing_is : (k : ℕ) → k < length lines → is_failing table (logged_line lines k) ≡ not (bit_at m.free k)) where
  module _ (b : Bridge) where
    marks : List Bool
    marks = map (is_explained_at m b) (range_with_len 0 (length lines))

    explained_is : marked_failing table lines marks ≡ explained_to m b (length m.free)
    unfolding marks explained_to
    explained_is =
        zip_count (λ line mark. is_failing table line && mark) (λ k. not (bit_at m.free k) && is_explained_at m b k) (is_explained_at m b) 0 lines
        (λ k h. let on : k ≡ 0 + k = omega arith in let Same : ℕ → Type 0 = λ j. (not (bit_at m.free j) && is_explained_at m b j) ≡ (is_failing table (logged_line lines k) && is_explained_at m b j) in
        subst Same on (ap (λ (t : Bool). t && is_explained_at m b k) (sym (failing_is k h))))
        ∙ ap (λ (n : ℕ). count_by (λ k. not (bit_at m.free k) && is_explained_at m b k) (range_with_len 0 n)) (sym same)

    false_is : unmarked_passing table lines marks ≡ false_to m b (length m.free)
    unfolding marks false_to
    false_is =
        zip_count (λ line mark. not (is_failing table line) && not mark) (λ k. bit_at m.free k && not (is_explained_at m b k)) (is_explained_at m b) 0 lines
        (λ k h. let on : k ≡ 0 + k = omega arith in let Same : ℕ → Type 0 = λ j. (bit_at m.free j && not (is_explained_at m b j)) ≡ (not (is_failing table (logged_line lines k)) && not (is_explained_at m b j)) in
        subst Same on (ap (λ (t : Bool). t && not (is_explained_at m b k)) (sym (ap not (failing_is k h) ∙ not_twice (bit_at m.free k)))))
        ∙ ap (λ (n : ℕ). count_by (λ k. bit_at m.free k && not (is_explained_at m b k)) (range_with_len 0 n)) (sym same)

    failing_split : length (failing table lines) ≡ explained_to m b (length m.free) + left_to m b (length m.free)
    failing_split =
        failing_count table lines ∙ sym (count_listed (λ k. not (bit_at m.free k)) (is_failing table) (0, []) lines (λ k h. sym (failing_is k h)))
        ∙ ap (count_to (λ k. not (bit_at m.free k))) (sym same) ∙ split_count m b (length m.free)

    told_score : ScoredBridge
    told_score = record { bridge = b; explained = explained_to m b (length m.free); false_patterns = false_to m b (length m.free) }

    told_scored : IsBridgeOf c b → IsLoopless c b → IsScored c patterns table lines told_score
    unfolding told_score marks
    told_scored is loopless = record { marks = marks; are = told_marks c w patterns lines m are b is loopless; explained_is = sym explained_is; false_is = sym false_is }

  module _ (within : ℕ) (s : ScoredBridge) where
    found_from : IsFoundBy c m within s → IsFound c patterns table lines within s
    unfolding told_score
    found_from is =
        let facts = apart_facts c w s.bridge is.apart is.bridge.first_inside is.bridge.second_inside in
        let one : told_score s.bridge ≡ s = λ i. record { bridge = s.bridge; explained = sym is.told.explained i; false_patterns = sym is.told.false_patterns i } in
        record {
          bridge = facts.0;
          loopless = facts.1;
          scored = subst (IsScored c patterns table lines) one (told_scored s.bridge facts.0 facts.1);
          some = is.told.some;
          enough = omega (arith, failing_split s.bridge, is.told.explained, is.told.enough);
        }

    found_into : IsFound c patterns table lines within s → IsFoundBy c m within s
    unfolding told_score
    found_into is =
        let one = scored_once c patterns table lines s (told_score s.bridge) is.scored (told_scored s.bridge is.bridge is.loopless) refl in
        let explained : s.explained ≡ explained_to m s.bridge (length m.free) = ap (λ (z : ScoredBridge). z.explained) one in
        let wrong : s.false_patterns ≡ false_to m s.bridge (length m.free) = ap (λ (z : ScoredBridge). z.false_patterns) one in
        record {
          bridge = is.bridge;
          apart = facts_apart c w s.bridge is.bridge is.loopless;
          told = record { bridge = refl; explained = explained; false_patterns = wrong; some = is.some; enough = omega (arith, failing_split s.bridge, explained, is.enough) };
        }

  -- The search ends with the list of the log.
  pub searched_listed : (sought : Sought) (best : Best) → sought.rows ≡ m → sought.failing ≡ length (failing table lines) → AreChosen (λ k. not (bit_at m.free k)) (length m.free) sought.within sought.chosen.items
      → IsSearched c sought (IsMetBelow c sought.rows sought.chosen.items (line_count c)) best → AreListed c patterns table lines sought.within best.most (list_with best.listed.items best.found best.exact)
  searched_listed sought best rows fails chosen is =
      let Searched : LineRows → Type 0 = λ r. (s : ScoredBridge) → Contains is.ranked s ↔ (IsFoundBy c r sought.within s × IsMetBelow c r sought.chosen.items (line_count c) s.bridge) in
      let exactly = subst Searched rows is.are.exactly in
      record {
        ranked = is.ranked;
        are = record {
          exactly = λ s. (λ has. found_from sought.within s ((exactly s).0 has).0, λ found. let by = found_into sought.within s found in (exactly s).1 (by, met_all c m sought.within sought.chosen.items chosen s by));
          ascend = is.are.ascend;
        };
        first = is.kept.listed;
        found = is.kept.found;
        exact = is.kept.exact ∙ ap (λ (n : ℕ). count_by (λ s. s.explained == n && s.false_patterns == 0) is.ranked) fails;
      }

-- ---- failing lines

pub first_free : (c : Circuit) → fault_numbered c 0 ≡ Free
unfolding faults
first_free c = refl

above_zero : (n : ℕ) → nat_lt 0 n ≡ not (n == 0)
above_zero zero = refl
above_zero (suc n) = lt-ltb 0 (suc n) (omega arith) ∙ ap not (sym (ne_eqb (suc n) 0 (λ e. omega (arith, e))))

-- the rows say which lines of the log are failing
pub failing_told : (c : Circuit) (patterns : List (List Bool)) (table : Answers) (lines : List Line) (m : LineRows) → AreAnswers c patterns table → All (λ line. line.0 < length patterns) lines → AreLineRows c patterns lines m
    → (k : ℕ) → k < length lines → is_failing table (logged_line lines k) ≡ not (bit_at m.free k)
failing_told c patterns table lines m answers inside are k h =
    let line = logged_line lines k in
    let own = subst (λ (f : Fault). IsAnswer c f (vector_at patterns lines k) (answer_to table line.0 0)) (first_free c) (answer_is c patterns table answers line.0 0 (inside k (0, []) h) (some_number c)) in
    above_zero (differing_bits line.1 (answer_to table line.0 0)) ∙ ap not (sym (are.free k (answer_to table line.0 0) h own))

pub failing_counted : (table : Answers) (lines : List Line) (m : LineRows) → length m.free ≡ length lines → ((k : ℕ) → k < length lines → is_failing table (logged_line lines k) ≡ not (bit_at m.free k))
    → count_to (λ k. not (bit_at m.free k)) (length m.free) ≡ length (failing table lines)
failing_counted table lines m same failing_is =
    ap (count_to (λ k. not (bit_at m.free k))) same ∙ count_listed (λ k. not (bit_at m.free k)) (is_failing table) (0, []) lines (λ k h. sym (failing_is k h)) ∙ sym (failing_count table lines)
