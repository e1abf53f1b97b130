-- A log, chain by chain.
use Rattle.std.proofs.Common.{◌≡◌, ◌≢◌, ◌∙◌, ℕ, suc, ◌<◌, ◌≤◌, ◌+◌, ◌-◌, true, false, List, [], ◌∷◌, ◌++◌, length, get_or, take, eq-eqb, refl, sym, ap, subst, arith, inl, inr}
use Rattle.std.specs.Prelude.{Option, Some, None, slice_get}
use Rattle.std.proofs.lemmas.Bool.{cases_lt, ne_eqb}
use Rattle.std.proofs.lemmas.List.{get_or_default, length-append, take-append-le, length-take-le, get_or-take, take_all, get_or_append_left}
use Rattle.std.proofs.Math.Seq.{get_or-append_seam, take-suc}
use Rattle.std.proofs.lemmas.Option.{slice_get_within, slice_get-get_or, get_or_from_slice_get}
use Rattle.clause_pool.specs.Clauses.{Clause}
use Rattle.pair_miter.specs.ChainView.{ChainView}
use Rattle.pair_miter.specs.Log.{IsRefutation, IsSpentLog}
use Rattle.pair_miter.specs.Resolution.{chain_end, log_ends}
use Rattle.pair_miter.proofs.LogEnds.{log_more, log_long}
use Rattle.evidence_rules.specs.declared.refusal.EvidenceKind.{EvidenceKind}
use Rattle.evidence_rules.specs.declared.refusal.EvidenceKind.TheVariants.{Covered, Refuted, Spent}
use Rattle.evidence_rules.specs.LogRefusal.{IsRightEnd, IsRightLog, HasRightLength, AreRightBefore, is_last}

-- ---- right chains

module _ (kind : EvidenceKind) (clauses : List Clause) (log : List ChainView) where
  pub before_first : AreRightBefore kind clauses log 0
  before_first = record { ends = []; are = refl; each = λ k chain end c e. absurd (let h = slice_get_within [] k end e in omega (arith, h)) }

  pub first_ends : before_first.ends ≡ []
  unfolding before_first
  first_ends = refl

  pub ends_long : (at : ℕ) → at ≤ length log → (b : AreRightBefore kind clauses log at) → length b.ends ≡ at
  ends_long at h b = log_long clauses (take at log) b.ends b.are ∙ length-take-le at log h

  pub before_next : (at : ℕ) (chain : ChainView) (end : Clause) → (b : AreRightBefore kind clauses log at) → slice_get log at ≡ Some chain → chain_end (clauses ++ b.ends) chain ≡ Some end
      → IsRightEnd kind (is_last log at) (clauses ++ b.ends) chain end → AreRightBefore kind clauses log (at + 1)
  before_next at chain end b chain_is end_is right =
      let inside = slice_get_within log at chain chain_is in
      let long = ends_long at (omega (arith, inside)) b in
      let next : take (at + 1) log ≡ take at log ++ chain ∷ [] =
      let e : at + 1 ≡ suc at = omega arith in
      ap (λ k. take k log) e ∙ (take-suc log at chain inside ∙ ap (λ c. take at log ++ c ∷ []) (get_or_from_slice_get log at chain chain chain_is)) in
      record {
        ends = b.ends ++ end ∷ [];
        are = ap (log_ends clauses) next ∙ log_more clauses (take at log) chain b.ends end b.are end_is;
        each = λ k own found c e.
            let within = slice_get_within (b.ends ++ end ∷ []) k found e in
            let many = length-append b.ends (end ∷ []) in
            elim (cases_lt k at) [
              | inl early ↦
                  let same : slice_get b.ends k ≡ Some found =
                  slice_get-get_or b.ends k [] (omega (arith, early, long))
                  ∙ ap Some (sym (get_or_append_left b.ends (end ∷ []) [] k (omega (arith, early, long))) ∙ get_or_from_slice_get (b.ends ++ end ∷ []) k found [] e) in
                  subst (λ ends. IsRightEnd kind (is_last log k) (clauses ++ ends) own found) (sym (take-append-le k b.ends (end ∷ []) (omega (arith, early, long)))) (b.each k own found c same)
              | inr late ↦
                  let here : k ≡ at = omega (arith, late, within, many, long) in
                  let is_end : end ≡ found = sym (get_or-append_seam b.ends end [] []) ∙ (ap (λ i. get_or (b.ends ++ end ∷ []) i []) (long ∙ sym here) ∙ get_or_from_slice_get (b.ends ++ end ∷ []) k found [] e) in
                  let is_chain : chain ≡ own = let same : ◌≡◌ {A = Option ChainView} (Some chain) (Some own) = sym chain_is ∙ (ap (slice_get log) (sym here) ∙ c) in cc in
                  let all : take k (b.ends ++ end ∷ []) ≡ b.ends = take-append-le k b.ends (end ∷ []) (omega (arith, here, long)) ∙ take_all k b.ends (omega (arith, here, long)) in
                  subst (λ x. IsRightEnd kind (is_last log k) (clauses ++ take k (b.ends ++ end ∷ [])) own x) is_end
                  (subst (λ x. IsRightEnd kind (is_last log k) (clauses ++ take k (b.ends ++ end ∷ [])) x end) is_chain
                  (subst (λ ends. IsRightEnd kind (is_last log k) (clauses ++ ends) chain end) (sym all)
                  (subst (λ i. IsRightEnd kind (is_last log i) (clauses ++ b.ends) chain end) (sym here) right)))
            ];
      }

  pub next_ends : (at : ℕ) (chain : ChainView) (end : Clause) (b : AreRightBefore kind clauses log at) (chain_is : slice_get log at ≡ Some chain) (end_is : chain_end (clauses ++ b.ends) chain ≡ Some end)
      (right : IsRightEnd kind (is_last log at) (clauses ++ b.ends) chain end) → (before_next at chain end b chain_is end_is right).ends ≡ b.ends ++ end ∷ []
  unfolding before_next
  next_ends at chain end b chain_is end_is right = refl

  -- the chain at a place, and its end
  at_place : (b : AreRightBefore kind clauses log (length log)) (k : ℕ) → k < length log → (chain : ChainView) × (slice_get log k ≡ Some chain) × (slice_get b.ends k ≡ Some (get_or b.ends k []))
  at_place b k h =
      let long = ends_long (length log) (omega arith) b in
      let some : 0 < length log = omega (arith, h) in
      (get_or log k (record { start = 0; fresh_at = None; steps = [] }), slice_get-get_or log k (record { start = 0; fresh_at = None; steps = [] }) h, slice_get-get_or b.ends k [] (omega (arith, h, long)))

pub refutation_of : (clauses : List Clause) (limit : ℕ) (log : List ChainView) → HasRightLength Refuted limit log → AreRightBefore Refuted clauses log (length log) → IsRefutation clauses limit log
refutation_of clauses limit log (some, few) b =
    let long = ends_long Refuted clauses log (length log) (omega arith) b in
    let whole : take (length log) log ≡ log = take_all (length log) log (omega arith) in
    let last = length log - 1 in
    let inside : last < length log = omega (arith, some) in
    let at = at_place Refuted clauses log b last inside in
    let here : is_last log last ≡ true = eq-eqb (last + 1) (length log) (omega (arith, some)) in
    let empty : get_or b.ends last [] ≡ [] = subst (λ x. IsRightEnd Refuted x (clauses ++ take last b.ends) at.0 (get_or b.ends last [])) here (b.each last at.0 (get_or b.ends last []) at.1 at.2) in
    let cut : b.ends ≡ take last b.ends ++ [] ∷ [] =
    let e : suc last ≡ length b.ends = omega (arith, some, long) in
    sym (take_all (suc last) b.ends (omega (arith, e))) ∙ (take-suc b.ends last [] (omega (arith, inside, long)) ∙ ap (λ x. take last b.ends ++ x ∷ []) empty) in
    let short = length-take-le last b.ends (omega (arith, inside, long)) in
    record {
      ends = take last b.ends;
      are = ap (log_ends clauses) (sym whole) ∙ (b.are ∙ ap Some cut);
      nonempty = λ k d h.
          let below : k < last = omega (arith, h, short) in
          let own = at_place Refuted clauses log b k (omega (arith, below, inside)) in
          let other : is_last log k ≡ false = ne_eqb (k + 1) (length log) (λ e. omega (arith, e, below)) in
          let right : get_or b.ends k [] ≢ [] = subst (λ x. IsRightEnd Refuted x (clauses ++ take k b.ends) own.0 (get_or b.ends k [])) other (b.each k own.0 (get_or b.ends k []) own.1 own.2) in
          λ e. right (get_or_default b.ends k [] d (omega (arith, below, inside, long)) ∙ (sym (get_or-take last b.ends k d below) ∙ e));
      few = omega (arith, few, short, some);
    }

pub spent_of : (clauses : List Clause) (limit : ℕ) (log : List ChainView) → HasRightLength Spent limit log → AreRightBefore Spent clauses log (length log) → IsSpentLog clauses limit log
spent_of clauses limit log full b =
    let whole : take (length log) log ≡ log = take_all (length log) log (omega arith) in
    record { ends = b.ends; are = ap (log_ends clauses) (sym whole) ∙ b.are; full = full; fresh = λ at chain end c e. b.each at chain end c e }

pub right_log : (kind : EvidenceKind) (clauses : List Clause) (limit : ℕ) (log : List ChainView) → HasRightLength kind limit log → AreRightBefore kind clauses log (length log) → IsRightLog kind clauses limit log
right_log Covered clauses limit log h b = tt
right_log Refuted clauses limit log h b = refutation_of clauses limit log h b
right_log Spent clauses limit log h b = spent_of clauses limit log h b
