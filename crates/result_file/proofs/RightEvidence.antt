-- What right lines say of their evidence.
use Rattle.std.proofs.Common.{◌≡◌, ℕ, zero, suc, Bool, true, false, List, [], ◌∷◌, take, Option, Some, None, refl, ap, subst, inl, inr}
use Rattle.std.specs.Prelude.{◌==◌, ◌⊎◌, if◌then◌else◌}
use Rattle.std.specs.Option.{option_map}
use Rattle.std.specs.List.{find, slice_get}
use Rattle.std.proofs.lemmas.Bool.{and_parts, eqb-true}
use Rattle.std.proofs.lemmas.Option.{same_Some, get_or_from_slice_get, slice_get_within}
use Rattle.net_model.specs.Circuit.{Circuit}
use Rattle.net_model.specs.FaultList.{fault_numbered}
use Rattle.net_model.specs.ClassTable.{ClassTable, class_at, representative}
use Rattle.net_model.proofs.Elements.{found_passes}
use Rattle.result_records.specs.declared.record.Budgets.{Budgets}
use Rattle.result_records.specs.declared.record.Mark.{Mark}
use Rattle.result_records.specs.declared.record.Mark.TheVariants as mark
use Rattle.result_records.specs.declared.record.Evidence.{Evidence}
use Rattle.result_records.specs.declared.record.Record.{Record}
use Rattle.result_records.specs.declared.record.Record.TheVariants.{Head, Budget, Pattern, Same, Class, Member, End}
use Rattle.result_records.specs.Marks.{evidence_in, is_about, number_mark, mark_of}
use Rattle.result_file.specs.Lines.{IsRightLine, HasRightRoots, IsRightProof}
use Rattle.result_file.specs.Valid.{AreRightLines}
use Rattle.result_records.proofs.Marked.{found_at}

-- evidence has a line of its own
pub evidence_line : (lines : List Record) (k : ℕ) (e : Evidence) → slice_get (evidence_in lines) k ≡ Some e → (at : ℕ) × (slice_get lines at ≡ Some (Same e))
evidence_line [] k e there = absurd (cc)
evidence_line (Head s p n ∷ lines) k e there = let w = evidence_line lines k e there in (suc w.0, w.1)
evidence_line (Budget b ∷ lines) k e there = let w = evidence_line lines k e there in (suc w.0, w.1)
evidence_line (Pattern v ∷ lines) k e there = let w = evidence_line lines k e there in (suc w.0, w.1)
evidence_line (Same x ∷ lines) zero e there = (0, ap (λ (y : Evidence). Some (Same y)) (same_Some x e there))
evidence_line (Same x ∷ lines) (suc k) e there = let w = evidence_line lines k e there in (suc w.0, w.1)
evidence_line (Class n b ∷ lines) k e there = let w = evidence_line lines k e there in (suc w.0, w.1)
evidence_line (Member n k' m ∷ lines) k e there = let w = evidence_line lines k e there in (suc w.0, w.1)
evidence_line (End ∷ lines) k e there = let w = evidence_line lines k e there in (suc w.0, w.1)

-- The roots and the proof of evidence are right for its pair and the budgets.
pub record IsRightFor (c : Circuit) (budgets : Budgets) (e : Evidence) : Type 0 where
  pub roots : HasRightRoots c (fault_numbered c e.partner) (fault_numbered c e.member) e.proof
  pub right : IsRightProof c (fault_numbered c e.partner) (fault_numbered c e.member) budgets e.proof

module _ (c : Circuit) (budgets : Budgets) (sources positions numbers : ℕ) (rest : List Record) where
  abbrev lines : List Record
  lines = Head sources positions numbers ∷ Budget budgets ∷ rest

  line_right : AreRightLines c lines → (at : ℕ) (r : Record) → slice_get lines at ≡ Some r → IsRightLine c (take at lines) r
  line_right right at r there = subst (IsRightLine c (take at lines)) (get_or_from_slice_get lines at r End there) (right.right at (slice_get_within lines at r there))

  evidence_right : AreRightLines c lines → (at : ℕ) (e : Evidence) → slice_get lines at ≡ Some (Same e) → IsRightFor c budgets e
  evidence_right right zero e there = absurd (cc)
  evidence_right right (suc zero) e there = absurd (cc)
  evidence_right right (suc (suc k)) e there =
      let content = (line_right right (suc (suc k)) (Same e) there).content in
      record { roots = content.roots; right = content.right }

  -- each evidence of right lines is right
  pub all_right : AreRightLines c lines → (k : ℕ) (e : Evidence) → slice_get (evidence_in lines) k ≡ Some e → IsRightFor c budgets e
  all_right right k e there = let line = evidence_line lines k e there in evidence_right right line.0 e line.1

-- ---- marks

-- Some evidence names the number with its representative, and gives this mark.
pub record IsMarkedBy (t : ClassTable) (evidence : List Evidence) (n : ℕ) (m : Mark) : Type 0 where
  pub at : ℕ
  pub e : Evidence
  pub there : slice_get evidence at ≡ Some e
  pub member : e.member ≡ n
  pub partner : e.partner ≡ representative t (class_at t n)
  pub gives : mark_of e.proof ≡ m

module _ (t : ClassTable) (evidence : List Evidence) (n : ℕ) where
  abbrev lead : ℕ
  lead = representative t (class_at t n)

  found_marked : (m : Mark) (o : Option Evidence) → find (is_about t n) evidence ≡ o → option_map (λ (e : Evidence). mark_of e.proof) o ≡ Some m → IsMarkedBy t evidence n m
  found_marked m None found is = absurd (cc)
  found_marked m (Some e) found is =
      let about = and_parts (e.member == n) (e.partner == lead) (found_passes (is_about t n) evidence e found) in
      let place = found_at (is_about t n) evidence e found in
      record {
        at = place.0;
        e = e;
        there = place.1;
        member = eqb-true e.member n about.0;
        partner = eqb-true e.partner lead about.1;
        gives = same_Some (mark_of e.proof) m is;
      }

  marked_by : (m : Mark) (b : Bool) → (lead == n) ≡ b → (if b then Some mark.Rep else option_map (λ (e : Evidence). mark_of e.proof) (find (is_about t n) evidence)) ≡ Some m
      → ((lead ≡ n) × (mark.Rep ≡ m)) ⊎ IsMarkedBy t evidence n m
  marked_by m true same is = inl (eqb-true lead n same, same_Some mark.Rep m is)
  marked_by m false same is = inr (found_marked m (find (is_about t n) evidence) refl is)

  -- a number with a mark is a representative, or some evidence gives the mark
  pub mark_cases : (m : Mark) → number_mark t evidence n ≡ Some m → ((lead ≡ n) × (mark.Rep ≡ m)) ⊎ IsMarkedBy t evidence n m
  unfolding number_mark
  mark_cases m is = marked_by m (lead == n) refl is

-- ---- open members

taken_there : {X : Type 0} (xs : List X) (n at : ℕ) (x : X) → slice_get (take n xs) at ≡ Some x → slice_get xs at ≡ Some x
taken_there [] zero at x there = absurd (cc)
taken_there [] (suc n) at x there = absurd (cc)
taken_there (y ∷ xs) zero at x there = absurd (cc)
taken_there (y ∷ xs) (suc n) zero x there = there
taken_there (y ∷ xs) (suc n) (suc at) x there = taken_there xs n at x there

pub rep_spent : ◌≡◌ {A = Mark} mark.Rep mark.Spent → ⊥
rep_spent e = cc

-- The evidence is right and spends the budget.
pub record IsSpentBy (c : Circuit) (budgets : Budgets) (e : Evidence) : Type 0 where
  pub right : IsRightFor c budgets e
  pub gives : mark_of e.proof ≡ mark.Spent

module _ (c : Circuit) (budgets : Budgets) (sources positions numbers : ℕ) (rest : List Record) (right : AreRightLines c (Head sources positions numbers ∷ Budget budgets ∷ rest)) where
  -- an open member has evidence that spends the budget
  pub open_spent : (at n class : ℕ) → slice_get (lines c budgets sources positions numbers rest) at ≡ Some (Member n class mark.Spent) → (e : Evidence) × IsSpentBy c budgets e
  open_spent at n class there =
      let all = lines c budgets sources positions numbers rest in
      let line = line_right c budgets sources positions numbers rest right at (Member n class mark.Spent) there in
      elim (mark_cases line.t (evidence_in (take at all)) n mark.Spent line.content.mark_is) [
        | inl self ↦ absurd (rep_spent self.1)
        | inr by ↦
            let place = evidence_line (take at all) by.at by.e by.there in
            (by.e, record { right = evidence_right c budgets sources positions numbers rest right place.0 by.e (taken_there all at place.0 (Same by.e) place.1); gives = by.gives })
      ]
