-- The lowest numbers of classes with the chosen numbers, and what they answer.
use Rattle.std.proofs.Common.{◌≡◌, ◌∙◌, ℕ, ◌+◌, ◌-◌, ◌<◌, ◌≤◌, Bool, List, [], ◌∷◌, ◌++◌, length, length-append, get_or, drop, sym, ap, subst, arith}
use Rattle.std.specs.Prelude.{slice_range, All}
use Rattle.std.specs.List.{range_with_len}
use Rattle.std.proofs.lemmas.List.{get_or-take, get_or-drop, get_or_append_left, get_or_push}
use borrow.Author.Count.{below_more}
use Rattle.std.proofs.lemmas.List.Elements.{All-from_get_or}
use Rattle.std.proofs.lemmas.List.FromFn.{get_or-range_with_len}
use Rattle.net_model.specs.ClassTable.{ClassTable}
use Rattle.net_model.specs.Rows.{row_at}
use Rattle.dict_rows.specs.AnswerTable.{Answers, answer_in, answer_to}
use Rattle.samediff_dict.specs.declared.numbering.Candidates.{Candidates}
use Rattle.samediff_dict.specs.Chosen.{candidates}
use Rattle.samediff_dict.specs.Copied.{HasClass, HaveClasses, IsLead, AreLeads, AreWanted}
use Rattle.samediff_dict.specs.Numbered.{HaveCandidates, baselines_at}
use Rattle.samediff_dict.proofs.CandidateLemmas.{none, base_at}
use Rattle.samediff_dict.proofs.MadeLemmas.{length-range}

pub range_at : {X : Type 0} (xs : List X) (first end k : ℕ) (d : X) → first + k < end → get_or (slice_range xs first end) k d ≡ get_or xs (first + k) d
range_at xs first end k d h = get_or-take (end - first) (drop first xs) k d (omega (arith, h)) ∙ get_or-drop first xs k d

pub have_in_range : {classes : ℕ} (patterns : List Candidates) (chosen : List ℕ) (first end : ℕ) → end ≤ length chosen → HaveClasses classes patterns chosen → HaveClasses classes (slice_range patterns first end) (slice_range chosen first end)
have_in_range {classes} patterns chosen first end within have =
    let long = length-range chosen first end within in
    record {
      count = length-range patterns first end (omega (arith, within, have.count)) ∙ sym long;
      each = λ k d h.
          let inside : first + k < end = omega (arith, h, long) in
          subst (λ (c : Candidates). HasClass classes c (get_or (slice_range chosen first end) k 0)) (sym (range_at patterns first end k d inside))
          (subst (HasClass classes (get_or patterns (first + k) d)) (sym (range_at chosen first end k 0 inside)) (have.each (first + k) d (omega (arith, inside, within))));
    }

module _ {t : ClassTable} {patterns : List Candidates} {chosen : List ℕ} where
  pub leads_inside : {count : ℕ} {leads : List ℕ} → AreLeads t patterns chosen count leads → (numbers : ℕ) → length t.class_of ≡ numbers → All (λ lead. lead < numbers) leads
  leads_inside {count} {leads} are numbers e = All-from_get_or (λ lead. lead < numbers) leads 0 (λ k h. omega (arith, (are.each k none (omega (arith, h, are.one_each))).within, e))

-- with one for the next pattern
pub leads_more : (t : ClassTable) (patterns : List Candidates) (chosen leads : List ℕ) (lead count : ℕ) → AreLeads t patterns chosen count leads → ((d : Candidates) → IsLead t (get_or patterns count d) (get_or chosen count 0) lead)
    → AreLeads t patterns chosen (count + 1) (leads ++ lead ∷ [])
leads_more t patterns chosen leads lead count are here = record {
  one_each = omega (arith, length-append leads (lead ∷ []), are.one_each);
  each = λ k d.
      below_more (λ (k : ℕ). IsLead t (get_or patterns k d) (get_or chosen k 0) (get_or (leads ++ lead ∷ []) k 0)) count
      (λ k h. subst (IsLead t (get_or patterns k d) (get_or chosen k 0)) (sym (get_or_append_left leads (lead ∷ []) 0 k (omega (arith, h, are.one_each)))) (are.each k d h))
      (subst (IsLead t (get_or patterns count d) (get_or chosen count 0)) (sym (get_or_push leads lead 0 count are.one_each)) (here d))
      k;
}

-- those of a range
pub leads_in_range : {t : ClassTable} (patterns : List Candidates) (chosen : List ℕ) {count : ℕ} {leads : List ℕ} (first end : ℕ) → AreLeads t (slice_range patterns first end) (slice_range chosen first end) count leads
    → (k : ℕ) (d : Candidates) → first + k < end → k < count → IsLead t (get_or patterns (first + k) d) (get_or chosen (first + k) 0) (get_or leads k 0)
leads_in_range {t} patterns chosen {count} {leads} first end are k d inside h =
    subst (λ (c : Candidates). IsLead t c (get_or chosen (first + k) 0) (get_or leads k 0)) (range_at patterns first end k d inside)
    (subst (λ number. IsLead t (get_or (slice_range patterns first end) k d) number (get_or leads k 0)) (range_at chosen first end k 0 inside) (are.each k d h))

module _ (t : ClassTable) (rows : List (List (List Bool))) (patterns : List Candidates) (chosen : List ℕ) (numbered : HaveCandidates t rows patterns) (long : length chosen ≡ length rows) where
  -- such a number answers the baseline
  pub lead_answers : (pattern lead : ℕ) → pattern < length rows → ((d : Candidates) → IsLead t (get_or patterns pattern d) (get_or chosen pattern 0) lead) → answer_in (get_or rows pattern []) lead ≡ row_at (baselines_at t rows chosen) pattern
  lead_answers pattern lead h all =
      let is = all none in
      let row = get_or rows pattern [] in
      let are = numbered.each pattern none h in
      ap (answer_in row) is.lead_is
      ∙ (sym (are.own is.class is.known)
      ∙ (ap (λ number. row_at (candidates t row) number) is.own ∙ sym (base_at t rows chosen pattern (omega (arith, h, long)))))

  -- in a table of all numbers
  pub leads_wanted : (table : Answers) → rows ≡ table.rows → (leads : List ℕ) → AreLeads t patterns chosen (length chosen) leads → AreWanted table leads 0 (row_at (baselines_at t rows chosen))
  leads_wanted table same leads are = record {
    own = λ pattern h.
        let inside : pattern < length rows = omega (arith, h, ap length same) in
        let zero : pattern ≡ 0 + pattern = omega arith in
        ap (λ (rs : List (List (List Bool))). answer_in (get_or rs pattern []) (get_or leads pattern 0)) (sym same)
        ∙ (lead_answers pattern (get_or leads pattern 0) inside (λ d. are.each pattern d (omega (arith, inside, long))) ∙ ap (row_at (baselines_at t rows chosen)) zero);
  }

-- each pattern's own place in a table
pub places_wanted : (table : Answers) (places : List ℕ) (first : ℕ) (wanted : ℕ → List Bool) → places ≡ range_with_len 0 (length table.rows) → ((k : ℕ) → k < length table.rows → answer_to table k k ≡ wanted (first + k)) → AreWanted table places first wanted
places_wanted table places first wanted are own = record {
  own = λ k h.
      let same : 0 + k ≡ k = omega arith in
      let place : get_or places k 0 ≡ k = ap (λ (xs : List ℕ). get_or xs k 0) are ∙ (get_or-range_with_len 0 (length table.rows) k 0 h ∙ same) in
      ap (answer_to table k) place ∙ own k h;
}
