-- The candidates of patterns are the numbers of what the lowest numbers of the classes answer.
use Rattle.std.proofs.Common.{◌≡◌, ◌∙◌, ℕ, ◌+◌, ◌-◌, ◌<◌, ◌≤◌, Bool, List, [], length, get_or, map, Some, sym, ap, subst, arith, inl, inr}
use Rattle.std.specs.Prelude.{All, slice_range}
use Rattle.std.specs.List.{range_with_len}
use Rattle.std.proofs.lemmas.Bool.{cases_lt}
use Rattle.std.proofs.lemmas.List.{get_or_default}
use Rattle.std.proofs.lemmas.List.FromFn.{get_or-map-range_with_len, length-map-range_with_len}
use Rattle.net_model.specs.Circuit.{Circuit}
use Rattle.net_model.specs.FaultList.{fault_count, fault_numbered}
use Rattle.net_model.specs.Answer.{IsAnswer}
use Rattle.net_model.specs.ClassTable.{ClassTable, class_count, representative}
use Rattle.dict_rows.specs.AnswerTable.{Answers, AreAnswers, answer_in}
use Rattle.table_dicts.proofs.BlockLemmas.{lane_pattern}
use Rattle.table_dicts.proofs.FailLemmas.{patterns_are, answer_is}
use Rattle.answer_numbers.specs.AnswerNumbers.{AreLeadAnswers, answer_numbers_with}
use Rattle.answer_numbers.proofs.DistinctLemmas.{distinct_apart}
use Rattle.samediff_dict.specs.declared.numbering.Candidates.{Candidates}
use Rattle.samediff_dict.specs.Numbered.{class_answers, AreCandidates, HaveCandidates, AreLeadCandidates, AreLanesAdded, AreFoundTo}
use Rattle.samediff_dict.proofs.CandidateLemmas.{candidates_of_numbers}
use Rattle.samediff_dict.proofs.MadeLemmas.{lead_at}

pub found_none : (c : Circuit) (leads : List ℕ) (vectors : List (List Bool)) (patterns : List Candidates) → patterns ≡ [] → AreFoundTo c leads vectors 0 patterns
found_none c leads vectors patterns none = record { count = ap length none; each = λ pattern d h. absurd (omega (arith, h)) }

module _ {c : Circuit} {leads : List ℕ} {vectors : List (List Bool)} {first : ℕ} {old new : List Candidates} where
  -- those of the patterns of a block, after those of the patterns before it
  pub found_more : (end lanes : ℕ) → first ≤ end → lanes ≡ end - first → AreFoundTo c leads vectors first old → AreLanesAdded (answer_numbers_with c leads (Some (slice_range vectors first end))) lanes old new → AreFoundTo c leads vectors end new
  found_more end lanes le many so_far added = record {
    count = omega (arith, added.count, so_far.count, le, many);
    each = λ pattern d h. elim (cases_lt pattern first) [
      | inl low ↦ subst (AreLeadCandidates c leads (get_or vectors pattern [])) (sym (added.before pattern d (omega (arith, low, so_far.count)))) (so_far.each pattern d low)
      | inr over ↦
          let lane = pattern - first in
          let here : lane < end - first = omega (arith, h, over) in
          let place : length old + lane ≡ pattern = omega (arith, over, so_far.count) in
          let row : first + lane ≡ pattern = omega (arith, over) in
          subst (λ k. AreLeadCandidates c leads (get_or vectors k []) (get_or new pattern d)) row
          (subst (λ k. AreLeadCandidates c leads (get_or vectors (first + lane) []) (get_or new k d)) place
          (subst (λ v. AreLeadCandidates c leads v (get_or new (length old + lane) d)) (lane_pattern vectors first end lane here) (added.added lane d (omega (arith, here, many)))))
    ];
  }

module _ (t : ClassTable) (c : Circuit) (patterns : List (List Bool)) (leads : List ℕ) (are : leads ≡ map (representative t) (range_with_len 0 (class_count t))) (within : All (λ number. number < fault_count c) leads) where
  many : length leads ≡ class_count t
  many = ap length are ∙ length-map-range_with_len (representative t) 0 (class_count t)

  module _ (a : Answers) (of : AreAnswers c patterns a) where
    -- what the classes answer to a pattern
    abbrev row : ℕ → List (List Bool)
    row pattern = get_or a.rows pattern []

    many_answers : (pattern : ℕ) → length (class_answers t (row pattern)) ≡ class_count t
    many_answers pattern = length-map-range_with_len (λ class. answer_in (row pattern) (representative t class)) 0 (class_count t)

    leads_answer_so : (pattern : ℕ) → pattern < length patterns → AreLeadAnswers c leads (get_or patterns pattern []) (class_answers t (row pattern))
    leads_answer_so pattern h = record {
      one_each = many_answers pattern ∙ sym many;
      each = λ place hp.
          let low : place < class_count t = omega (arith, hp, many) in
          let known : representative t place < fault_count c = subst (λ n. n < fault_count c) (lead_at t leads are place low) (subst (λ n. n < fault_count c) (get_or_default leads place 0 0 hp) (within place 0 hp)) in
          let own : get_or (class_answers t (row pattern)) place [] ≡ answer_in (row pattern) (representative t place) = get_or-map-range_with_len (λ class. answer_in (row pattern) (representative t class)) 0 (class_count t) place place [] low (omega arith) in
          subst (λ answer. IsAnswer c (fault_numbered c (get_or leads place 0)) (get_or patterns pattern []) answer) (sym own)
          (subst (λ n. IsAnswer c (fault_numbered c n) (get_or patterns pattern []) (answer_in (row pattern) (representative t place))) (sym (lead_at t leads are place low))
          (answer_is c patterns a of pattern (representative t place) h known));
    }

    candidates_are : (pattern : ℕ) (found : Candidates) → pattern < length patterns → AreLeadCandidates c leads (get_or patterns pattern []) found → AreCandidates t (row pattern) found
    candidates_are pattern found h is =
        let answers = class_answers t (row pattern) in
        let so = leads_answer_so pattern h in
        let long : length answers ≡ length leads = many_answers pattern ∙ sym many in
        candidates_of_numbers t (row pattern) found
        (record {
          count_is = is.count_is answers so;
          different = record { apart = distinct_apart answers };
          one_each = is.one_each ∙ sym long;
          within = λ place hp. (is.each place (omega (arith, hp, long)) answers so).within;
          own = λ place hp. (is.each place (omega (arith, hp, long)) answers so).own;
        })

    -- all patterns have candidates
    pub found_all : (done : ℕ) (found : List Candidates) → AreFoundTo c leads patterns done found → done ≡ length patterns → HaveCandidates t a.rows found
    found_all done found so_far all = record {
      count = so_far.count ∙ (all ∙ sym (patterns_are c patterns a of));
      each = λ pattern d h.
          let here : pattern < length patterns = omega (arith, h, patterns_are c patterns a of) in
          candidates_are pattern (get_or found pattern d) here (so_far.each pattern d (omega (arith, here, all)));
    }
