-- Numbers of the patterns of a block, after those of the patterns before it.
use Rattle.std.proofs.Common.{◌≡◌, ◌∙◌, ℕ, ◌+◌, ◌-◌, ◌<◌, ◌≤◌, Bool, List, [], Some, length, get_or, map, sym, subst, arith}
use Rattle.std.specs.Prelude.{slice_range, All}
use Rattle.std.specs.List.{range_with_len}
use Rattle.net_model.specs.Circuit.{Circuit}
use Rattle.net_model.specs.Answer.{IsAnswer}
use Rattle.net_model.specs.ClassTable.{ClassTable, class_count, representative}
use Rattle.net_model.specs.FaultList.{fault_count, fault_numbered}
use Rattle.dict_rows.specs.AnswerTable.{Answers, AreAnswers, answer_to}
use Rattle.table_dicts.proofs.BlockLemmas.{lane_pattern}
use Rattle.table_dicts.proofs.FailLemmas.{patterns_are, answer_is}
use Rattle.answer_numbers.specs.AnswerNumbers.{AnswerNumbers, answer_numbers_with}
use Rattle.adaptive_planner.specs.declared.class_numbers.ClassNumbers.{ClassNumbers}
use Rattle.adaptive_planner.specs.Numbering.{AreNumbersTo, AreNumbersOfTable}
use Rattle.adaptive_planner.specs.CircuitNumbers.{AnswerSo, AnswerLaneSo, AddsLanes, AreLeadsNumbered}
use Rattle.adaptive_planner.proofs.TableNumberLemmas.{leads_long, lead_is}

module _ (c : Circuit) (patterns : List (List Bool)) (leads : List ℕ) where
  pub numbered_more : (first end lanes : ℕ) → first ≤ end → lanes ≡ end - first → (old new : ClassNumbers) → AreLeadsNumbered c patterns leads first old → AddsLanes (answer_numbers_with c leads (Some (slice_range patterns first end))) lanes old new
      → AreLeadsNumbered c patterns leads end new
  numbered_more first end lanes le many old new so_far adds = record {
    are = adds.are;
    count = omega (arith, adds.count, so_far.count, many, le);
    classes = adds.classes ∙ so_far.classes;
    to = λ answer given.
        let n : AnswerNumbers = answer_numbers_with c leads (Some (slice_range patterns first end)) in
        let before : AreNumbersTo answer (length old.firsts.items) (length leads) old = subst (λ k. AreNumbersTo answer k (length leads) old) (sym so_far.count) (so_far.to answer (λ p h. given p (omega (arith, h, le)))) in
        let lane_so : (lane : ℕ) → lane < lanes → AnswerLaneSo n lane (answer (length old.firsts.items + lane)) = λ lane h.
        subst (λ k. AnswerLaneSo n lane (answer (k + lane))) (sym so_far.count)
        (subst (λ (v : List Bool). AnswerSo c leads v (answer (first + lane))) (sym (lane_pattern patterns first end lane (omega (arith, h, many)))) (given (first + lane) (omega (arith, h, many, le)))) in
        subst (λ k. AreNumbersTo answer k (length leads) new) (let e : length old.firsts.items + lanes ≡ end = omega (arith, so_far.count, many, le) in e) (adds.to answer lane_so before);
  }

-- The numbers of all patterns are those of any table of the answers.
pub numbers_of_answers : (c : Circuit) (patterns : List (List Bool)) (t : ClassTable) (leads : List ℕ) (lowest : leads ≡ map (representative t) (range_with_len 0 (class_count t))) → All (λ lead. lead < fault_count c) leads → (table : Answers) → AreAnswers c patterns table → (numbers : ClassNumbers)
    → AreLeadsNumbered c patterns leads (length patterns) numbers → AreNumbersOfTable t table numbers
numbers_of_answers c patterns t leads lowest known table are numbers to =
    let many = leads_long t leads lowest in
    let answer : ℕ → ℕ → List Bool = λ p class. answer_to table p (representative t class) in
    let given : (p : ℕ) → p < length patterns → AnswerSo c leads (get_or patterns p []) (answer p) = λ p h place low.
    let lead : get_or leads place 0 ≡ representative t place = lead_is t leads lowest place (omega (arith, low, many)) in
    subst (λ (n : ℕ). IsAnswer c (fault_numbered c (get_or leads place 0)) (get_or patterns p []) (answer_to table p n)) lead (answer_is c patterns table are p (get_or leads place 0) h (known place 0 low)) in
    subst (λ k. AreNumbersTo answer k (class_count t) numbers) (sym (patterns_are c patterns table are)) (subst (λ k. AreNumbersTo answer (length patterns) k numbers) many (to.to answer given))
