-- Lists of clauses, place by place with the same literals: chains end alike over them, and are fresh alike.
use Rattle.std.proofs.Common.{◌≡◌, ◌∙◌, ℕ, ◌-◌, Bool, true, false, ◌==◌, List, [], ◌∷◌, length, get_or, refl, sym, ap, subst, arith, inl, inr, ◌++◌}
use Rattle.std.specs.Prelude.{Option, Some, None, fold, slice_get, ⊤, if◌then◌else◌}
use Rattle.std.specs.Option.{option_and_then}
use Rattle.std.proofs.lemmas.Bool.{cases_lt}
use Rattle.std.proofs.lemmas.List.{get_or_default, length-append, append-nil, get_or_append_left}
use Rattle.std.proofs.lemmas.Option.{slice_get-get_or, slice_get_past}
use Rattle.std.proofs.Math.Seq.{get_or-append_seam}
use Rattle.clause_pool.specs.Literal.{Literal}
use Rattle.clause_pool.specs.Clauses.{Clause, numbered_clause}
use Rattle.clause_pool.specs.Partial.{IsQuiet}
use Rattle.pair_miter.specs.ChainView.{ChainView}
use Rattle.pair_miter.specs.Fresh.{IsFresh}
use Rattle.pair_miter.specs.Resolution.{SameLiterals, AreAlike, resolvent, can_resolve, clause_after_step, chain_end}
use Rattle.pair_miter.proofs.SameLiterals.{same_sym, same_refl, can_alike, resolvent_alike}

-- ---- lists of clauses, place by place with the same literals

pub alike_sym : {cs ds : List Clause} → AreAlike cs ds → AreAlike ds cs
alike_sym {cs = cs} {ds = ds} are = record { long = sym are.long; each = λ k h. same_sym (get_or cs k []) (get_or ds k []) (are.each k (omega (arith, h, are.long))) }

-- both are clauses with the same literals, or none is
abbrev pub AlikeEnds : Option Clause → Option Clause → Type 0
AlikeEnds None None = ⊤
AlikeEnds (Some c) (Some d) = SameLiterals c d
AlikeEnds None (Some d) = ⊥
AlikeEnds (Some c) None = ⊥

-- if one end is a clause, the other is a clause with the same literals
pub alike_some : (o p : Option Clause) (d : Clause) → AlikeEnds o p → p ≡ Some d → (c : Clause) × (o ≡ Some c) × SameLiterals c d
alike_some o p d are e = by o (subst (AlikeEnds o) e are)
  where
    by : (o : Option Clause) → AlikeEnds o (Some d) → (c : Clause) × (o ≡ Some c) × SameLiterals c d
    by None are = absurd are
    by (Some c) are = (c, refl, are)

pub alike_none : (o p : Option Clause) → AlikeEnds o p → p ≡ None → o ≡ None
alike_none o p are e = by o (subst (AlikeEnds o) e are)
  where
    by : (o : Option Clause) → AlikeEnds o None → o ≡ None
    by None are = refl
    by (Some c) are = absurd are

module _ (cs ds : List Clause) (are : AreAlike cs ds) where
  at_place : (k : ℕ) → AlikeEnds (slice_get cs k) (slice_get ds k)
  at_place k =
      elim (cases_lt k (length cs)) [
        | inl h ↦
            subst (λ o. AlikeEnds o (slice_get ds k)) (sym (slice_get-get_or cs k [] h)) (subst (AlikeEnds (Some (get_or cs k []))) (sym (slice_get-get_or ds k [] (omega (arith, h, are.long)))) (are.each k h))
        | inr h ↦ subst (λ o. AlikeEnds o (slice_get ds k)) (sym (slice_get_past cs k h)) (subst (AlikeEnds None) (sym (slice_get_past ds k (omega (arith, h, are.long)))) tt)
      ]

  pub numbered_alike : (number : ℕ) → AlikeEnds (numbered_clause cs number) (numbered_clause ds number)
  numbered_alike number = by (number == 0)
    where
      by : (b : Bool) → AlikeEnds (if b then None else slice_get cs (number - 1)) (if b then None else slice_get ds (number - 1))
      by true = tt
      by false = at_place (number - 1)

  one_step : (pivot : Literal) (o p : Option Clause) (a b : Clause) → AlikeEnds o p → SameLiterals a b
      → AlikeEnds (option_and_then (λ other. if can_resolve pivot a other then Some (resolvent pivot a other) else None) o) (option_and_then (λ other. if can_resolve pivot b other then Some (resolvent pivot b other) else None) p)
  one_step pivot None None a b h s = tt
  one_step pivot None (Some d) a b h s = absurd h
  one_step pivot (Some c) None a b h s = absurd h
  one_step pivot (Some c) (Some d) a b h s = by (can_resolve pivot a c) (can_resolve pivot b d) (can_alike pivot a b c d s h)
    where
      by : (x y : Bool) → x ≡ y → AlikeEnds (if x then Some (resolvent pivot a c) else None) (if y then Some (resolvent pivot b d) else None)
      by true true e = resolvent_alike pivot a b c d s h
      by false false e = tt
      by true false e = absurd (let w : ◌≡◌ {A = Bool} true false = e in cc)
      by false true e = absurd (let w : ◌≡◌ {A = Bool} false true = e in cc)

  step_alike : (step : Literal × ℕ) (o p : Option Clause) → AlikeEnds o p → AlikeEnds (option_and_then (λ clause. clause_after_step cs clause step) o) (option_and_then (λ clause. clause_after_step ds clause step) p)
  unfolding clause_after_step
  step_alike step None None h = tt
  step_alike step None (Some b) h = absurd h
  step_alike step (Some a) None h = absurd h
  step_alike step (Some a) (Some b) h = one_step step.0 (numbered_clause cs step.1) (numbered_clause ds step.1) a b (numbered_alike step.1) h

  steps_alike : (steps : List (Literal × ℕ)) (o p : Option Clause) → AlikeEnds o p
      → AlikeEnds (fold (λ end step. option_and_then (λ clause. clause_after_step cs clause step) end) o steps) (fold (λ end step. option_and_then (λ clause. clause_after_step ds clause step) end) p steps)
  steps_alike [] o p h = h
  steps_alike (step ∷ steps) o p h =
      steps_alike steps (option_and_then (λ clause. clause_after_step cs clause step) o) (option_and_then (λ clause. clause_after_step ds clause step) p) (step_alike step o p h)

  pub chain_alike : (chain : ChainView) → AlikeEnds (chain_end cs chain) (chain_end ds chain)
  unfolding chain_end
  chain_alike chain = steps_alike chain.steps (numbered_clause cs chain.start) (numbered_clause ds chain.start) (numbered_alike chain.start)

  quiet_alike : (held a b : Clause) → SameLiterals a b → IsQuiet held b → IsQuiet held a
  quiet_alike held a b s (inl q) = inl (record { literal = q.literal; inside = (s q.literal).1 q.inside; is_held = q.is_held })
  quiet_alike held a b s (inr q) = inr (record {
    first = q.first;
    second = q.second;
    different = q.different;
    first_inside = (s q.first).1 q.first_inside;
    second_inside = (s q.second).1 q.second_inside;
    first_undetermined = q.first_undetermined;
    second_undetermined = q.second_undetermined;
  })

  pub fresh_alike : (a b : Clause) (at : Literal) → SameLiterals a b → IsFresh ds b at → IsFresh cs a at
  fresh_alike a b at s f = record {
    inside = (s at).1 f.inside;
    held = f.held;
    consistent = f.consistent;
    others = λ l m ne. f.others l ((s l).0 m) ne;
    undetermined = f.undetermined;
    quiet = λ k d h.
        subst (IsQuiet f.held) (get_or_default cs k [] d h)
        (quiet_alike f.held (get_or cs k []) (get_or ds k []) (are.each k h) (f.quiet k [] (omega (arith, h, are.long))));
  }

pub alike_first : (cs : List Clause) → AreAlike (cs ++ []) cs
alike_first cs = subst (λ x. AreAlike x cs) (sym (append-nil cs)) (record { long = refl; each = λ k h. same_refl (get_or cs k []) })

pub alike_more : (cs ds : List Clause) (a b : Clause) → AreAlike cs ds → SameLiterals a b → AreAlike (cs ++ a ∷ []) (ds ++ b ∷ [])
alike_more cs ds a b are s =
    let more_c = length-append cs (a ∷ []) in
    let more_d = length-append ds (b ∷ []) in
    record {
      long = omega (arith, are.long, more_c, more_d);
      each = λ k h. elim (cases_lt k (length cs)) [
        | inl below ↦
            subst (λ x. SameLiterals x (get_or (ds ++ b ∷ []) k [])) (sym (get_or_append_left cs (a ∷ []) [] k below))
            (subst (SameLiterals (get_or cs k [])) (sym (get_or_append_left ds (b ∷ []) [] k (omega (arith, below, are.long)))) (are.each k below))
        | inr over ↦
            let at_c : length cs ≡ k = omega (arith, over, h, more_c) in
            let at_d : length ds ≡ k = omega (arith, at_c, are.long) in
            subst (λ x. SameLiterals x (get_or (ds ++ b ∷ []) k [])) (sym (get_or-append_seam cs a [] []) ∙ ap (λ i. get_or (cs ++ a ∷ []) i []) at_c)
            (subst (SameLiterals a) (sym (get_or-append_seam ds b [] []) ∙ ap (λ i. get_or (ds ++ b ∷ []) i []) at_d) s)
      ];
    }
