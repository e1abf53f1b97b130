-- The answers of the classes to the patterns of a block.
use Rattle.std.proofs.Common.{◌≡◌, ◌∙◌, ℕ, ◌+◌, ◌-◌, ◌<◌, ◌≤◌, Bool, List, [], length, map, get_or, Some, sym, ap, subst, arith}
use Rattle.std.specs.Prelude.{All, slice_range}
use Rattle.std.proofs.lemmas.List.{length-map, get_or-map}
use Rattle.std.proofs.lemmas.Slice.Zip.{AllZip-long}
use Rattle.net_model.specs.Circuit.{Circuit}
use Rattle.net_model.specs.FaultList.{fault_count, fault_numbered}
use Rattle.net_model.specs.Answer.{IsAnswer}
use Rattle.net_model.specs.ClassTable.{ClassTable, representative}
use Rattle.net_model.specs.PatternRows.{IsAnswerRow, AreAnswerRows}
use Rattle.class_refine.proofs.PatternTables.{answer_in_row}
use Rattle.class_refine.proofs.Ranges.{zip_at}
use Rattle.table_dicts.proofs.BlockLemmas.{lane_pattern}
use Rattle.answer_numbers.specs.AnswerNumbers.{answer_numbers_with}
use Rattle.compact_tests.specs.Remaining.{Answered, answered_rows}
use Rattle.compact_tests.specs.Thinning.{IsAnswered, IsNumbered}
use Rattle.compact_tests.proofs.ThinValid.{map_item}

pub as_many_rows : (c : Circuit) (patterns : List (List Bool)) (all : List Answered) → AreAnswerRows c patterns (answered_rows all) → length all ≡ length patterns
as_many_rows c patterns all answers = sym (length-map all (λ (p : Answered). p.1)) ∙ AllZip-long (IsAnswerRow c) patterns (answered_rows all) answers

pub as_many_answered : (c : Circuit) (patterns : List (List Bool)) (t : ClassTable) (all : List Answered) → IsAnswered c patterns t all → length all ≡ length patterns
as_many_answered c patterns t all answered = as_many_rows c patterns all answered.answers

pub answer_row_at : (c : Circuit) (patterns : List (List Bool)) (all : List Answered) → AreAnswerRows c patterns (answered_rows all) → (k : ℕ) → k < length patterns → IsAnswerRow c (get_or patterns k []) (get_or all k ([], [])).1
answer_row_at c patterns all answers k h = subst (λ (row : List (List Bool)). IsAnswerRow c (get_or patterns k []) row) (map_item (λ (p : Answered). p.1) all k ([], [])) (zip_at (IsAnswerRow c) patterns (answered_rows all) k [] [] answers h)

module _ (c : Circuit) (patterns : List (List Bool)) (t : ClassTable) (all : List Answered) (answers : AreAnswerRows c patterns (answered_rows all)) (listed leads : List ℕ) (are : leads ≡ map (representative t) listed)
    (known : All (λ lead. lead < fault_count c) leads) where
  leads_many : length leads ≡ length listed
  leads_many = ap length are ∙ length-map listed (representative t)

  lead_is_lowest : (place : ℕ) → place < length listed → get_or leads place 0 ≡ representative t (get_or listed place 0)
  lead_is_lowest place h = ap (λ (xs : List ℕ). get_or xs place 0) are ∙ get_or-map (representative t) listed place 0 0 h

  -- The vector of a lane is a pattern.
  pub numbered_in : (first end lane : ℕ) → first ≤ end → end ≤ length patterns → lane < end - first → IsNumbered (answer_numbers_with c leads (Some (slice_range patterns first end))) lane listed t all (first + lane)
  numbered_in first end lane low within h =
      let k = first + lane in
      let inside : k < length patterns = omega (arith, h, low, within) in
      let row : List (List Bool) = (get_or all k ([], [])).1 in
      let own : ℕ → List Bool = λ class. get_or row (representative t class) [] in
      let at : (place : ℕ) → place < length listed → get_or (map own listed) place [] ≡ own (get_or listed place 0) = λ place hp. get_or-map own listed place 0 [] hp in
      record {
        within = omega (arith, inside, as_many_rows c patterns all answers);
        answers = map own listed;
        are = record {
          one_each = length-map listed own ∙ sym leads_many;
          each = λ place inside_leads.
              let hp : place < length listed = omega (arith, inside_leads, leads_many) in
              let class = get_or listed place 0 in
              subst (λ (answer : List Bool). IsAnswer c (fault_numbered c (get_or leads place 0)) (get_or (slice_range patterns first end) lane []) answer) (sym (at place hp))
              (subst (λ (v : List Bool). IsAnswer c (fault_numbered c (get_or leads place 0)) v (own class)) (sym (lane_pattern patterns first end lane h))
              (subst (λ (n : ℕ). IsAnswer c (fault_numbered c n) (get_or patterns k []) (own class)) (sym (lead_is_lowest place hp)) (answer_in_row c (get_or patterns k []) row (answer_row_at c patterns all answers k inside) (representative t class) (subst (λ (n : ℕ). n < fault_count c) (lead_is_lowest place hp) (known place 0 inside_leads)))));
        };
        own = at;
      }
