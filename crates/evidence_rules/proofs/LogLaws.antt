-- A log is refused only if it isn't right, and in one way.
use Rattle.std.proofs.Common.{◌≡◌, ◌≢◌, ◌∙◌, ℕ, ◌<◌, ◌≤◌, ◌+◌, ◌⊎◌, inl, inr, true, false, List, [], ◌∷◌, ◌++◌, length, take, get_or, refl, sym, ap, subst, arith}
use Rattle.std.specs.Prelude.{Bool, Some, slice_get}
use Rattle.std.proofs.lemmas.Bool.{cases_lt, eqb-true, eq-eqb}
use Rattle.std.proofs.lemmas.List.{length-append, length-take-le, take-take, take_all, get_or-take, get_or_append_left}
use Rattle.std.proofs.lemmas.Option.{none-some, same_Some, slice_get_within, slice_get-get_or, get_or_from_slice_get}
use Rattle.std.proofs.Math.Seq.{get_or-append_seam}
use Rattle.clause_pool.specs.Clauses.{Clause}
use Rattle.pair_miter.specs.ChainView.{ChainView}
use Rattle.pair_miter.specs.Resolution.{chain_end, log_ends}
use Rattle.pair_miter.specs.Log.{IsRefutation, IsSpentLog}
use Rattle.pair_miter.proofs.LogEnds.{log_long, log_part}
use Rattle.evidence_rules.specs.declared.refusal.EvidenceKind.{EvidenceKind}
use Rattle.evidence_rules.specs.declared.refusal.EvidenceKind.TheVariants.{Covered, Refuted, Spent}
use Rattle.evidence_rules.specs.declared.refusal.Refusal.{Refusal}
use Rattle.evidence_rules.specs.declared.refusal.RefusalKind.{RefusalKind}
use Rattle.evidence_rules.specs.LogRefusal.{ChainStops, IsRightEnd, IsRightLog, HasRightLength, AreRightBefore, ChainStopsAt, EndsWrong, LogRefused, wrong_count, at_step, at_end, end_refusal, is_last}
use Rattle.evidence_rules.proofs.ChainLaws.{stopped_has_no_end, stops_once}

module _ (kind : EvidenceKind) (clauses : List Clause) (log : List ChainView) where
  -- if the chains before a place have ends, each of them has its end over the ends before it
  part_before : (at later : ℕ) (chain : ChainView) (b : AreRightBefore kind clauses log later) → at < later → slice_get log at ≡ Some chain
      → (log_ends clauses (take at log) ≡ Some (take at b.ends)) × (chain_end (clauses ++ take at b.ends) chain ≡ slice_get b.ends at) × (at < length b.ends)
  part_before at later chain b lower is =
      let inside = slice_get_within log at chain is in
      let long = length_take later in
      let there : at < length (take later log) = omega (arith, inside, lower, long) in
      let here : slice_get (take later log) at ≡ Some chain = slice_get-get_or (take later log) at chain there ∙ ap Some (get_or-take later log at chain lower ∙ get_or_from_slice_get log at chain chain is) in
      let part = log_part clauses (take later log) b.ends at chain b.are here in
      (ap (log_ends clauses) (sym (take-take at later log (omega (arith, lower)))) ∙ part.0, part.1, omega (arith, there, log_long clauses (take later log) b.ends b.are))
    where
      length_take : (n : ℕ) → (length (take n log) ≡ n) ⊎ (length (take n log) ≡ length log)
      length_take n = elim (cases_lt n (length log)) [
        | inl below ↦ inl (length-take-le n log (omega (arith, below)))
        | inr past ↦ inr (ap length (take_all n log past))
      ]

  -- the ends before a place are the same
  same_before : (at : ℕ) (ends others : List Clause) → log_ends clauses (take at log) ≡ Some ends → log_ends clauses (take at log) ≡ Some others → ends ≡ others
  same_before at ends others are is = same_Some ends others (sym are ∙ is)

  not_stopped : (at later : ℕ) (rule : RefusalKind) → ChainStopsAt kind clauses log at rule → AreRightBefore kind clauses log later → at < later → ⊥
  not_stopped at later rule s b lower =
      let part = part_before at later s.chain b lower s.chain_is in
      let same = same_before at s.before.ends (take at b.ends) s.before.are part.0 in
      let none = stopped_has_no_end (clauses ++ s.before.ends) s.chain rule s.stops in
      let end = slice_get-get_or b.ends at [] part.2 in
      none-some (get_or b.ends at []) (sym none ∙ (ap (λ ends. chain_end (clauses ++ ends) s.chain) same ∙ (part.1 ∙ end)))

  not_wrong : (at later : ℕ) (end : Clause) → EndsWrong kind clauses log at end → AreRightBefore kind clauses log later → at < later → ⊥
  not_wrong at later end e b lower =
      let part = part_before at later e.chain b lower e.chain_is in
      let same = same_before at e.before.ends (take at b.ends) e.before.are part.0 in
      let here : slice_get b.ends at ≡ Some end = sym part.1 ∙ (ap (λ ends. chain_end (clauses ++ ends) e.chain) (sym same) ∙ e.end_is) in
      e.wrong (subst (λ ends. IsRightEnd kind (is_last log at) (clauses ++ ends) e.chain end) (sym same) (b.each at e.chain end e.chain_is here))

  -- two chains at one place are the same, over the same clauses
  same_end : (at : ℕ) (chain other : ChainView) (b d : AreRightBefore kind clauses log at) → slice_get log at ≡ Some chain → slice_get log at ≡ Some other
      → chain_end (clauses ++ b.ends) chain ≡ chain_end (clauses ++ d.ends) other
  same_end at chain other b d is too = let chains = same_Some chain other (sym is ∙ too) in let ends = same_before at b.ends d.ends b.are d.are in (λ i. chain_end (clauses ++ ends i) (chains i))

  one_stop : (at : ℕ) (rule other : RefusalKind) → ChainStopsAt kind clauses log at rule → ChainStopsAt kind clauses log at other → rule ≡ other
  one_stop at rule other s t =
      let chains = same_Some s.chain t.chain (sym s.chain_is ∙ t.chain_is) in
      let ends = same_before at s.before.ends t.before.ends s.before.are t.before.are in
      stops_once (clauses ++ t.before.ends) t.chain rule other (subst (λ (p : List Clause × ChainView). ChainStops (clauses ++ p.0) p.1 rule) (λ i. (ends i, chains i)) s.stops) t.stops

  stop_or_end : (at : ℕ) (rule : RefusalKind) (end : Clause) → ChainStopsAt kind clauses log at rule → EndsWrong kind clauses log at end → ⊥
  stop_or_end at rule end s e =
      none-some end (sym (stopped_has_no_end (clauses ++ s.before.ends) s.chain rule s.stops) ∙ (same_end at s.chain e.chain s.before e.before s.chain_is e.chain_is ∙ e.end_is))

  one_end : (at : ℕ) (end other : Clause) → EndsWrong kind clauses log at end → EndsWrong kind clauses log at other → end ≡ other
  one_end at end other e d = same_Some end other (sym e.end_is ∙ (same_end at e.chain d.chain e.before d.before e.chain_is d.chain_is ∙ d.end_is))

  -- two places, neither of them before the other, are the same
  same_place : (at other : ℕ) → (at < other → ⊥) → (other < at → ⊥) → at ≡ other
  same_place at other below above =
      elim (cases_lt at other) [
        | inl lower ↦ absurd (below lower)
        | inr past ↦ elim (cases_lt other at) [ inl lower ↦ absurd (above lower) | inr here ↦ omega (arith, past, here) ]
      ]

  module _ (limit : ℕ) where
    pub one_refusal : (refusal other : Refusal) → LogRefused kind clauses limit log refusal → LogRefused kind clauses limit log other → refusal ≡ other
    one_refusal refusal other (wrong_count many is) (wrong_count too are) = is ∙ sym are
    one_refusal refusal other (wrong_count many is) (at_step at rule long s are) = absurd (many long)
    one_refusal refusal other (wrong_count many is) (at_end at end long e are) = absurd (many long)
    one_refusal refusal other (at_step at rule long s is) (wrong_count many are) = absurd (many long)
    one_refusal refusal other (at_end at end long e is) (wrong_count many are) = absurd (many long)
    one_refusal refusal other (at_step at rule long s is) (at_step place broken too t are) =
        let here = same_place at place (not_stopped at place rule s t.before) (not_stopped place at broken t s.before) in
        let same = one_stop at rule broken s (subst (λ n. ChainStopsAt kind clauses log n broken) (sym here) t) in
        is ∙ ((λ i. record { kind = same i; step = here i }) ∙ sym are)
    one_refusal refusal other (at_step at rule long s is) (at_end place end too e are) =
        let here = same_place at place (not_stopped at place rule s e.before) (not_wrong place at end e s.before) in
        absurd (stop_or_end at rule end s (subst (λ n. EndsWrong kind clauses log n end) (sym here) e))
    one_refusal refusal other (at_end at end long e is) (at_step place broken too t are) =
        let here = same_place at place (not_wrong at place end e t.before) (not_stopped place at broken t e.before) in
        absurd (stop_or_end at broken end (subst (λ n. ChainStopsAt kind clauses log n broken) (sym here) t) e)
    one_refusal refusal other (at_end at end long e is) (at_end place last too d are) =
        let here = same_place at place (not_wrong at place end e d.before) (not_wrong place at last d e.before) in
        let same = one_end at end last e (subst (λ n. EndsWrong kind clauses log n last) (sym here) d) in
        is ∙ ((λ i. record { kind = end_refusal kind (is_last log (here i)) (same i); step = here i }) ∙ sym are)

    -- a log that is right from the beginning to the end isn't refused
    not_refused : (refusal : Refusal) → HasRightLength kind limit log → AreRightBefore kind clauses log (length log) → LogRefused kind clauses limit log refusal → ⊥
    not_refused refusal long b (wrong_count many is) = many long
    not_refused refusal long b (at_step at rule too s is) = not_stopped at (length log) rule s b (slice_get_within log at s.chain s.chain_is)
    not_refused refusal long b (at_end at end too e is) = not_wrong at (length log) end e b (slice_get_within log at e.chain e.chain_is)

-- ---- a right log has as many chains as it may have, and each is right

refutation_right : (clauses : List Clause) (limit : ℕ) (log : List ChainView) → IsRefutation clauses limit log → HasRightLength Refuted limit log × AreRightBefore Refuted clauses log (length log)
refutation_right clauses limit log r =
    let all = r.ends ++ [] ∷ [] in
    let long : length r.ends + 1 ≡ length log = omega (arith, length-append r.ends ([] ∷ []), log_long clauses log all r.are) in (
      (omega (arith, long), omega (arith, long, r.few)),
      record {
        ends = all;
        are = ap (log_ends clauses) (take_all (length log) log (omega arith)) ∙ r.are;
        each = λ k chain end chain_is end_is. right_end k end (is_last log k) refl (get_or_from_slice_get all k end [] end_is) (slice_get_within all k end end_is) chain;
      },
    )
  where
    right_end : (k : ℕ) (end : Clause) (last : Bool) → is_last log k ≡ last → get_or (r.ends ++ [] ∷ []) k [] ≡ end → k < length (r.ends ++ [] ∷ []) → (chain : ChainView)
        → IsRightEnd Refuted last (clauses ++ take k (r.ends ++ [] ∷ [])) chain end
    right_end k end true is end_is h chain =
        let many = length-append r.ends ([] ∷ []) in
        let here : k ≡ length r.ends = omega (arith, many, log_long clauses log (r.ends ++ [] ∷ []) r.are, eqb-true (k + 1) (length log) is) in
        sym end_is ∙ (ap (λ i. get_or (r.ends ++ [] ∷ []) i []) here ∙ get_or-append_seam r.ends [] [] [])
    right_end k end false is end_is h chain =
        let many = length-append r.ends ([] ∷ []) in
        let below : k < length r.ends = before_last k (omega (arith, h, many)) (λ e. let w : ◌≡◌ {A = Bool} true false = sym (eq-eqb (k + 1) (length log) (omega (arith, e, many, log_long clauses log (r.ends ++ [] ∷ []) r.are))) ∙ is in cc) in
        λ e. r.nonempty k [] below (sym (get_or_append_left r.ends ([] ∷ []) [] k below) ∙ (end_is ∙ e))
      where
        before_last : (k : ℕ) → k ≤ length r.ends → (k ≡ length r.ends → ⊥) → k < length r.ends
        before_last k le not = elim (cases_lt k (length r.ends)) [ inl below ↦ below | inr past ↦ absurd (not (omega (arith, le, past))) ]

spent_right : (clauses : List Clause) (limit : ℕ) (log : List ChainView) → IsSpentLog clauses limit log → HasRightLength Spent limit log × AreRightBefore Spent clauses log (length log)
spent_right clauses limit log s = (s.full, record { ends = s.ends; are = ap (log_ends clauses) (take_all (length log) log (omega arith)) ∙ s.are; each = s.fresh })

pub refused_is_wrong : (kind : EvidenceKind) (clauses : List Clause) (limit : ℕ) (log : List ChainView) (refusal : Refusal) → kind ≢ Covered → LogRefused kind clauses limit log refusal → ¬ IsRightLog kind clauses limit log
refused_is_wrong Covered clauses limit log refusal other refused right = other refl
refused_is_wrong Refuted clauses limit log refusal other refused right = let r = refutation_right clauses limit log right in not_refused Refuted clauses log limit refusal r.0 r.1 refused
refused_is_wrong Spent clauses limit log refusal other refused right = let r = spent_right clauses limit log right in not_refused Spent clauses log limit refusal r.0 r.1 refused
