-- The ends of the needed chains stay the same.
use Rattle.std.proofs.Common.{◌≡◌, ◌≢◌, ◌∙◌, ◌<◌, ◌≤◌, ◌+◌, ◌-◌, ℕ, List, [], ◌∷◌, ◌++◌, length, length-append, take, refl, sym, ap, subst, arith, inl, inr, get_or, lt-ltb, le-ltb}
use Rattle.std.specs.Prelude.{Bool, Option, Some, None, slice_get, unwrap_or, if◌then◌else◌, map, fold, Contains}
use Rattle.std.specs.Option.{option_and_then}
use Rattle.std.proofs.lemmas.Bool.{cases_eq, cases_lt, ne_eqb}
use Rattle.std.proofs.lemmas.List.{length_push, take-take, length-take-le, get_or-take, get_or_append_left, get_or-append_right, get_or_push}
use Rattle.std.proofs.lemmas.List.Elements.{All-take, All-push}
use Rattle.std.proofs.lemmas.Option.{slice_get_within, slice_get-get_or, slice_get_past}
use Rattle.net_model.proofs.Elements.{Contains-map}
use Rattle.net_model.proofs.Copies.{later}
use Rattle.clause_pool.specs.Literal.{Literal}
use Rattle.clause_pool.specs.Clauses.{Clause, numbered_clause}
use Rattle.clause_pool.proofs.Numbered.{numbered_at, numbered_longer, begins_appended}
use Rattle.pair_miter.specs.ChainView.{ChainView}
use Rattle.pair_miter.specs.Resolution.{clause_after_step, chain_end, log_ends, can_resolve, resolvent}
use Rattle.pair_miter.proofs.LogEnds.{log_more, log_long, log_part}
use Rattle.learn_solver.specs.Trimmed.{UsesClause}
use Rattle.learn_solver.specs.Needed.{IsNeededAt, IsEndAt, IsTrimmedTo, HasEnds, KeepsEnds, number_after, renumbered_chain}
use Rattle.learn_solver.proofs.TrimSteps.{pushed_cases}

-- ---- numbers

pub number_low : (count : ℕ) (numbers : List ℕ) (number : ℕ) → number ≤ count → number_after count numbers number ≡ number
number_low count numbers number low = ap (λ b. if b then unwrap_or (slice_get numbers (number - count - 1)) number else number) (le-ltb count number low)

number_high : (count : ℕ) (numbers : List ℕ) (at : ℕ) → number_after count numbers (count + at + 1) ≡ unwrap_or (slice_get numbers at) (count + at + 1)
number_high count numbers at =
    let back : count + at + 1 - count - 1 ≡ at = omega arith in
    ap (λ b. if b then unwrap_or (slice_get numbers (count + at + 1 - count - 1)) (count + at + 1) else count + at + 1) (lt-ltb count (count + at + 1) (omega arith))
    ∙ ap (λ k. unwrap_or (slice_get numbers k) (count + at + 1)) back

pub number_end : (count : ℕ) (numbers : List ℕ) (at place : ℕ) → IsEndAt count numbers at place → number_after count numbers (count + at + 1) ≡ count + place + 1
number_end count numbers at place is = number_high count numbers at ∙ ap (λ o. unwrap_or o (count + at + 1)) is

number_past : (count : ℕ) (numbers : List ℕ) (at : ℕ) → length numbers ≤ at → number_after count numbers (count + at + 1) ≡ count + at + 1
number_past count numbers at past = number_high count numbers at ∙ ap (λ o. unwrap_or o (count + at + 1)) (slice_get_past numbers at past)

numbered_past : (clauses : List Clause) (number : ℕ) → length clauses < number → numbered_clause clauses number ≡ None
numbered_past clauses number past = ap (λ b. if b then None else slice_get clauses (number - 1)) (ne_eqb number 0 (λ e. omega (arith, e, past))) ∙ slice_get_past clauses (number - 1) (omega (arith, past))

-- what a chain uses, it uses by its new number
pub uses_after : (count : ℕ) (numbers : List ℕ) (chain : ChainView) (number : ℕ) → UsesClause chain number → UsesClause (renumbered_chain count numbers chain) (number_after count numbers number)
uses_after count numbers chain number uses = elim uses [
  | inl first ↦ inl (ap (number_after count numbers) first)
  | inr step ↦ inr (step.0, Contains-map (λ (s : Literal × ℕ). (s.0, number_after count numbers s.1)) chain.steps (step.0, number) step.1)
]

-- ---- a chain over other clauses

module _ (cs ds : List Clause) (f : ℕ → ℕ) where
  renumbered_step : Literal × ℕ → Literal × ℕ
  renumbered_step s = (s.0, f s.1)

  step_same : (step : Literal × ℕ) (o : Option Clause) → numbered_clause cs step.1 ≡ numbered_clause ds (f step.1)
      → option_and_then (λ clause. clause_after_step cs clause step) o ≡ option_and_then (λ clause. clause_after_step ds clause (step.0, f step.1)) o
  unfolding clause_after_step
  step_same step None same = refl
  step_same step (Some clause) same = ap (option_and_then (λ other. if can_resolve step.0 clause other then Some (resolvent step.0 clause other) else None)) same

  steps_same : (steps : List (Literal × ℕ)) (o : Option Clause) → ((pivot : Literal) (number : ℕ) → Contains steps (pivot, number) → numbered_clause cs number ≡ numbered_clause ds (f number))
      → fold (λ end step. option_and_then (λ clause. clause_after_step cs clause step) end) o steps ≡ fold (λ end step. option_and_then (λ clause. clause_after_step ds clause step) end) o (map (λ s. (s.0, f s.1)) steps)
  steps_same [] o h = refl
  steps_same (step ∷ steps) o h =
      let first = step_same step o (h step.0 step.1 (0, omega arith, refl)) in
      ap (λ now. fold (λ end s. option_and_then (λ clause. clause_after_step cs clause s) end) now steps) first
      ∙ steps_same steps (option_and_then (λ clause. clause_after_step ds clause (step.0, f step.1)) o) (λ pivot number m. h pivot number (later step steps (pivot, number) m))

pub chain_same : (cs ds : List Clause) (count : ℕ) (numbers : List ℕ) (chain : ChainView) → ((number : ℕ) → UsesClause chain number → numbered_clause cs number ≡ numbered_clause ds (number_after count numbers number))
    → chain_end cs chain ≡ chain_end ds (renumbered_chain count numbers chain)
unfolding chain_end
chain_same cs ds count numbers chain h =
    ap (λ o. fold (λ end step. option_and_then (λ clause. clause_after_step cs clause step) end) o chain.steps) (h chain.start (inl refl))
    ∙ steps_same cs ds (number_after count numbers) chain.steps (numbered_clause ds (number_after count numbers chain.start)) (λ pivot number m. h number (inr (pivot, m)))

-- ---- the ends so far

module _ (count : ℕ) (chains : List ChainView) (marks : List Bool) where
  -- each clause that a later chain uses is found by its new number
  pub numbered_same : (upto : ℕ) (numbers : List ℕ) (short : List ChainView) (clauses ends : List Clause) (chain : ChainView)
      → IsTrimmedTo count chains marks upto numbers short → (h : HasEnds count marks numbers short clauses ends) → length clauses ≡ count → length ends ≡ upto → upto ≤ length chains
      → ((at : ℕ) → at < upto → UsesClause chain (count + at + 1) → IsNeededAt marks at)
      → (number : ℕ) → UsesClause chain number → numbered_clause (clauses ++ ends) number ≡ numbered_clause (clauses ++ h.kept) (number_after count numbers number)
  numbered_same upto numbers short clauses ends chain t h long ended inside marked number uses = elim (cases_lt count number) [
    | inl high ↦ behind (number - count - 1) (omega (arith, high))
    | inr low ↦ before (omega (arith, low))
  ]
    where
      kept_long : length h.kept ≡ length short
      kept_long = log_long clauses short h.kept h.are

      before : number ≤ count → numbered_clause (clauses ++ ends) number ≡ numbered_clause (clauses ++ h.kept) (number_after count numbers number)
      before low = elim (cases_eq number 0) [
        | inl zero_is ↦ ap (λ (n : ℕ). numbered_clause (clauses ++ ends) n) zero_is ∙ ap (numbered_clause (clauses ++ h.kept)) (sym zero_is ∙ sym (number_low count numbers number low))
        | inr ne ↦
            numbered_longer (clauses ++ ends) clauses number (begins_appended clauses ends) (omega (arith, ne)) (omega (arith, low, long))
            ∙ (sym (numbered_longer (clauses ++ h.kept) clauses number (begins_appended clauses h.kept) (omega (arith, ne)) (omega (arith, low, long)))
            ∙ ap (numbered_clause (clauses ++ h.kept)) (sym (number_low count numbers number low)))
      ]

      behind : (at : ℕ) → number ≡ count + at + 1 → numbered_clause (clauses ++ ends) number ≡ numbered_clause (clauses ++ h.kept) (number_after count numbers number)
      behind at is = elim (cases_lt at upto) [
        | inl low ↦
            let m = marked at low (subst (UsesClause chain) is uses) in
            let some : (x : ChainView) × (slice_get chains at ≡ Some x) = (get_or chains at chain, slice_get-get_or chains at chain (omega (arith, low, inside))) in
            let placed = t.placed at some.0 low m some.1 in
            let place = placed.0 in
            let within = t.within at place placed.1 in
            let full = length-append clauses ends in
            let kept_full = length-append clauses h.kept in
            let old : numbered_clause (clauses ++ ends) number ≡ Some (get_or ends at []) =
            ap (numbered_clause (clauses ++ ends)) is ∙ (numbered_at (clauses ++ ends) (count + at) [] (omega (arith, full, long, ended, low))
            ∙ ap Some (get_or-append_right clauses ends count (count + at) [] long (omega arith) ∙ (let back : count + at - count ≡ at = omega arith in ap (λ k. get_or ends k []) back))) in
            let new : numbered_clause (clauses ++ h.kept) (number_after count numbers number) ≡ Some (get_or h.kept place []) =
            ap (λ n. numbered_clause (clauses ++ h.kept) (number_after count numbers n)) is ∙ (ap (numbered_clause (clauses ++ h.kept)) (number_end count numbers at place placed.1)
            ∙ (numbered_at (clauses ++ h.kept) (count + place) [] (omega (arith, kept_full, long, kept_long, within))
            ∙ ap Some (get_or-append_right clauses h.kept count (count + place) [] long (omega arith) ∙ (let back : count + place - count ≡ place = omega arith in ap (λ k. get_or h.kept k []) back)))) in
            old ∙ (ap Some (sym (h.same at place (omega (arith, low, t.whole)) m placed.1)) ∙ sym new)
        | inr past ↦
            numbered_past (clauses ++ ends) number (omega (arith, is, past, long, ended, length-append clauses ends))
            ∙ sym (ap (λ n. numbered_clause (clauses ++ h.kept) (number_after count numbers n)) is ∙ (ap (numbered_clause (clauses ++ h.kept)) (number_past count numbers at (omega (arith, past, t.whole)))
            ∙ numbered_past (clauses ++ h.kept) (count + at + 1) (omega (arith, past, long, kept_long, t.few, length-append clauses h.kept))))
      ]

  pub ends_none : KeepsEnds count chains marks [] []
  ends_none last clauses ends needed long are = record {
    kept = [];
    are = refl;
    same = λ at place low m is. absurd (omega (arith, low));
    nonempty = λ h k d low. absurd (omega (arith, low));
  }

  -- the ends of the chains before a place, out of those up to it
  earlier_ends : (upto : ℕ) (clauses ends : List Clause) (here : ChainView) → slice_get chains upto ≡ Some here → log_ends clauses (take (upto + 1) chains) ≡ Some ends
      → (log_ends clauses (take upto chains) ≡ Some (take upto ends)) × (chain_end (clauses ++ take upto ends) here ≡ slice_get ends upto) × (length ends ≡ upto + 1)
  earlier_ends upto clauses ends here is are =
      let inside = slice_get_within chains upto here is in
      let whole : length (take (upto + 1) chains) ≡ upto + 1 = length-take-le (upto + 1) chains (omega (arith, inside)) in
      let there : slice_get (take (upto + 1) chains) upto ≡ Some here =
      slice_get-get_or (take (upto + 1) chains) upto here (omega (arith, whole)) ∙ (ap Some (get_or-take (upto + 1) chains upto here (omega arith)) ∙ (sym (slice_get-get_or chains upto here inside) ∙ is)) in
      let part = log_part clauses (take (upto + 1) chains) ends upto here are there in
      (ap (log_ends clauses) (sym (take-take upto (upto + 1) chains (omega arith))) ∙ part.0, part.1, log_long clauses (take (upto + 1) chains) ends are ∙ whole)

  pub ends_skip : (upto : ℕ) (numbers : List ℕ) (short : List ChainView) (here : ChainView) → slice_get chains upto ≡ Some here → (IsNeededAt marks upto → ⊥) → length numbers ≡ upto → KeepsEnds count chains marks numbers short
      → KeepsEnds count chains marks (numbers ++ 0 ∷ []) short
  ends_skip upto numbers short here is none whole h last clauses ends needed long are =
      let size = length_push numbers 0 in
      let parts = earlier_ends upto clauses ends here is (subst (λ n. log_ends clauses (take n chains) ≡ Some ends) (size ∙ ap (λ n. n + 1) whole) are) in
      let was = h last clauses (take upto ends) needed long (subst (λ n. log_ends clauses (take n chains) ≡ Some (take upto ends)) (sym whole) parts.0) in
      record {
        kept = was.kept;
        are = was.are;
        same = λ at place low m end_is. elim (cases_eq at upto) [
          | inl same ↦ absurd (none (subst (IsNeededAt marks) same m))
          | inr ne ↦ elim (pushed_cases numbers 0 (count + place + 1) at end_is) [
            | inl old ↦ was.same at place (omega (arith, low, size, ne, whole)) m old ∙ get_or-take upto ends at [] (omega (arith, low, size, ne, whole))
            | inr wrong ↦ absurd (omega (arith, wrong.1))
          ]
        ];
        nonempty = λ full. was.nonempty (All-take (λ (end : Clause). end ≢ []) upto ends full);
      }

  pub ends_more : (upto number : ℕ) (numbers : List ℕ) (short : List ChainView) (here : ChainView) → slice_get chains upto ≡ Some here → IsNeededAt marks upto → number ≡ count + length short + 1
      → IsTrimmedTo count chains marks upto numbers short → KeepsEnds count chains marks numbers short → KeepsEnds count chains marks (numbers ++ number ∷ []) (short ++ renumbered_chain count numbers here ∷ [])
  ends_more upto number numbers short here is marked next t h last clauses ends needed long are =
      let size = length_push numbers number in
      let inside = slice_get_within chains upto here is in
      let parts = earlier_ends upto clauses ends here is (subst (λ n. log_ends clauses (take n chains) ≡ Some ends) (size ∙ ap (λ n. n + 1) t.whole) are) in
      let was = h last clauses (take upto ends) needed long (subst (λ n. log_ends clauses (take n chains) ≡ Some (take upto ends)) (sym t.whole) parts.0) in
      let kept_long = log_long clauses short was.kept was.are in
      let before = length-take-le upto ends (omega (arith, parts.2)) in
      let end = get_or ends upto [] in
      let here_end : chain_end (clauses ++ take upto ends) here ≡ Some end = parts.1 ∙ slice_get-get_or ends upto [] (omega (arith, parts.2)) in
      let closed : (at : ℕ) → at < upto → UsesClause here (count + at + 1) → IsNeededAt marks at = λ at low uses. needed.all at (omega (arith, low, inside)) (inr (upto, here, low, marked, is, uses)) in
      let new_end : chain_end (clauses ++ was.kept) (renumbered_chain count numbers here) ≡ Some end =
      sym (chain_same (clauses ++ take upto ends) (clauses ++ was.kept) count numbers here (numbered_same upto numbers short clauses (take upto ends) here t was long before (omega (arith, inside)) closed)) ∙ here_end in
      record {
        kept = was.kept ++ end ∷ [];
        are = log_more clauses short (renumbered_chain count numbers here) was.kept end was.are new_end;
        same = λ at place low m end_is. elim (pushed_cases numbers number (count + place + 1) at end_is) [
          | inl old ↦
              let early = slice_get_within numbers at (count + place + 1) old in
              get_or_append_left was.kept (end ∷ []) [] place (omega (arith, kept_long, t.within at place old))
              ∙ (was.same at place early m old ∙ get_or-take upto ends at [] (omega (arith, early, t.whole)))
          | inr now ↦
              get_or_push was.kept end [] place (omega (arith, kept_long, now.1, next)) ∙ ap (λ k. get_or ends k []) (sym (now.0 ∙ t.whole))
        ];
        nonempty = λ full. All-push (λ (e : Clause). e ≢ []) was.kept end (was.nonempty (All-take (λ (e : Clause). e ≢ []) upto ends full)) (full upto [] (omega (arith, parts.2)));
      }
