-- Which clauses are settled, while unit propagation visits the lists.
use Rattle.std.proofs.Common.{◌≡◌, ◌≢◌, ◌∙◌, ◌⊎◌, ℕ, ◌<◌, ◌≤◌, ◌+◌, ◌-◌, inl, inr, refl, sym, ap, arith, subst, get_or, take, drop, drop-drop, take-append-drop, length-append}
use Rattle.std.specs.Prelude.{Bool, true, false, List, [], ◌∷◌, ◌++◌, length, Option, None, Some, Contains, All}
use Rattle.std.proofs.lemmas.List.{drop-append-le, drop_more, drop_all, get_or_default, length-set}
use Rattle.std.proofs.lemmas.List.Elements.{Contains-append_left, Contains-append_right}
use Rattle.clause_pool.specs.Literal.{Literal, opposite}
use Rattle.clause_pool.specs.LiteralCode.{code_of}
use Rattle.clause_pool.specs.Clauses.{Clause}
use Rattle.clause_pool.proofs.Literals.{opposite_opposite}
use Rattle.net_model.proofs.Elements.{none_in, first_or_later}
use Rattle.refute_check.specs.declared.assignment.Assignment.{Assignment}
use Rattle.refute_check.specs.Assignment.{IsAssignment}
use Rattle.refute_check.specs.Closure.{IsStep}
use Rattle.refute_check.specs.Held.{IsLiteralFalse, IsLiteralOpen, IsQuietAt, satisfied, two_open, value_at}
use Rattle.refute_check.specs.Index.{IsIndexOf, list_at}
use Rattle.refute_check.specs.declared.looked.Looked.{Looked}
use Rattle.refute_check.specs.Looked.{IsLookedAt}
use Rattle.refute_check.specs.Propagation.{IsClauseSettled, quiet, falsified, listed, AreClausesSettled, AreLooked, HoldsMore, nothing, one}
use Rattle.refute_check.proofs.ClosureLemmas.{no_step, two_steps}
use Rattle.refute_check.proofs.HeldLemmas.{opposite_true, opposite_open, open_not_true, open_not_false, hold, hold_kept, hold_cases}
use Rattle.refute_check.proofs.AssignmentLemmas.{last_in}

-- ---- one clause

-- a clause with two different literals, each of which, if it is false, is so by a literal still to be visited
two_settled : (values : List (Option Bool)) (coming : List Literal) (numbers : List ℕ) (number : ℕ) (clause : Clause) (l m : Literal) → l ≢ m → Contains clause l → Contains clause m
    → (IsLiteralFalse values l → Contains coming (opposite l)) → (IsLiteralFalse values m → Contains coming (opposite m)) → IsClauseSettled values coming numbers number clause
two_settled values coming numbers number clause l m ne in_l in_m false_l false_m = by (value_at values l) refl (value_at values m) refl
  where
    by : (o : Option Bool) → value_at values l ≡ o → (p : Option Bool) → value_at values m ≡ p → IsClauseSettled values coming numbers number clause
    by (Some true) e p d = quiet (satisfied l in_l e)
    by (Some false) e p d = falsified l in_l (false_l e)
    by None e (Some true) d = quiet (satisfied m in_m d)
    by None e (Some false) d = falsified m in_m (false_m d)
    by None e None d = quiet (two_open l m ne in_l in_m e d)

-- one more literal is held
module _ (values : List (Option Bool)) (x : Literal) (within : x.variable < length values) (o : IsLiteralOpen values x) (coming : List Literal) (numbers : List ℕ) (number : ℕ) (clause : Clause) where
  now_false : (l : Literal) → IsLiteralOpen values l → IsLiteralFalse (hold values x) l → Contains (coming ++ x ∷ []) (opposite l)
  now_false l o_l f = elim (hold_cases values x within (opposite l) (opposite_true (hold values x) l f)) [
    | inl was ↦ absurd (open_not_true values (opposite l) (opposite_open values l o_l) was)
    | inr e ↦ subst (Contains (coming ++ x ∷ [])) (sym e) (last_in coming x)
  ]

  pub still_settled : IsClauseSettled values coming numbers number clause → IsClauseSettled (hold values x) (coming ++ x ∷ []) numbers number clause
  still_settled (quiet (satisfied l m t)) = quiet (satisfied l m (hold_kept values x within (open_not_false values x o) l t))
  still_settled (quiet (two_open l m ne in_l in_m o_l o_m)) = two_settled (hold values x) (coming ++ x ∷ []) numbers number clause l m ne in_l in_m (now_false l o_l) (now_false m o_m)
  still_settled (falsified l m c) = falsified l m (Contains-append_left coming (x ∷ []) (opposite l) c)
  still_settled (listed m) = listed m

-- the clause of the first number is settled without it
pass_first : (values : List (Option Bool)) (coming : List Literal) (n : ℕ) (numbers : List ℕ) (number : ℕ) (clause : Clause) → (n ≡ number → IsClauseSettled values coming numbers number clause) → IsClauseSettled values coming (n ∷ numbers) number clause
    → IsClauseSettled values coming numbers number clause
pass_first values coming n numbers number clause here (quiet q) = quiet q
pass_first values coming n numbers number clause here (falsified l m c) = falsified l m c
pass_first values coming n numbers number clause here (listed m) = elim (first_or_later n numbers number m) [ inl e ↦ here e | inr more ↦ listed more ]

in_drop : {X : Type 0} → (s t : ℕ) (xs : List X) (x : X) → t ≤ s → Contains (drop s xs) x → Contains (drop t xs) x
in_drop s t xs x h m =
    let further : drop (s - t) (drop t xs) ≡ drop s xs = drop-drop (s - t) t xs ∙ ap (λ (k : ℕ). drop k xs) (omega arith) in
    let found = subst (λ ys. Contains ys x) (sym further) m in
    subst (λ ys. Contains ys x) (take-append-drop (s - t) (drop t xs)) (Contains-append_right (take (s - t) (drop t xs)) (drop (s - t) (drop t xs)) x found)

-- what was settled by later literals is so by more of them
settled_before : (values : List (Option Bool)) (trail : List Literal) (s t : ℕ) (numbers : List ℕ) (number : ℕ) (clause : Clause) → t ≤ s → IsClauseSettled values (drop s trail) [] number clause → IsClauseSettled values (drop t trail) numbers number clause
settled_before values trail s t numbers number clause h (quiet q) = quiet q
settled_before values trail s t numbers number clause h (falsified l m c) = falsified l m (in_drop s t trail (opposite l) h c)
settled_before values trail s t numbers number clause h (listed m) = absurd (none_in number m)

-- ---- one more literal, or none

module _ (a b : Assignment) where
  pub more_longer : HoldsMore a b → length a.trail.items ≤ length b.trail.items
  more_longer (nothing e) = omega (arith, ap (λ (x : Assignment). length x.trail.items) e)
  more_longer (one l within o values trail) = omega (arith, ap length trail ∙ length-append a.trail.items (l ∷ []))

  pub more_size : HoldsMore a b → length b.values.items ≡ length a.values.items
  more_size (nothing e) = ap (λ (x : Assignment). length x.values.items) e
  more_size (one l within o values trail) = ap length values ∙ length-set a.values.items l.variable (Some l.positive)

  more_settled : (from : ℕ) (numbers : List ℕ) (number : ℕ) (clause : Clause) → HoldsMore a b → from ≤ length a.trail.items → IsClauseSettled a.values.items (drop from a.trail.items) numbers number clause → IsClauseSettled b.values.items (drop from b.trail.items) numbers number clause
  more_settled from numbers number clause (nothing e) h settled = subst (λ (x : Assignment). IsClauseSettled x.values.items (drop from x.trail.items) numbers number clause) (sym e) settled
  more_settled from numbers number clause (one l within o values trail) h settled =
      subst (λ vs. IsClauseSettled vs (drop from b.trail.items) numbers number clause) (sym values)
      (subst (λ xs. IsClauseSettled (hold a.values.items l) xs numbers number clause) (sym (ap (drop from) trail ∙ drop-append-le from a.trail.items (l ∷ []) h))
      (still_settled a.values.items l within o (drop from a.trail.items) numbers number clause settled))

-- ---- all clauses

module _ (variables : ℕ) (clauses : List Clause) (lists : List (List ℕ)) (short : List ℕ) (index : IsIndexOf variables clauses lists short) where
  -- before anything is looked at
  pub first_settled : (a : Assignment) → IsAssignment a → AreClausesSettled clauses a 0 short
  first_settled a is k h = elim (index.all_short k h) [
    | inl two ↦
        two_settled a.values.items (drop 0 a.trail.items) short (k + 1) (get_or clauses k []) two.first two.second two.different two.first_inside two.second_inside
        (λ f. is.listed (opposite two.first) (opposite_true a.values.items two.first f)) (λ f. is.listed (opposite two.second) (opposite_true a.values.items two.second f))
    | inr m ↦ listed m
  ]

  -- the literal at the place is visited: the clauses with its opposite are to be looked at
  pub turn : (a : Assignment) (from : ℕ) (p q : Literal) → from < length a.trail.items → p ≡ get_or a.trail.items from p → q ≡ opposite p → AreClausesSettled clauses a from [] → AreClausesSettled clauses a (from + 1) (list_at lists (code_of q))
  turn a from p q h p_is q_is settled k inside = by (settled k inside)
    where
      by : IsClauseSettled a.values.items (drop from a.trail.items) [] (k + 1) (get_or clauses k []) → IsClauseSettled a.values.items (drop (from + 1) a.trail.items) (list_at lists (code_of q)) (k + 1) (get_or clauses k [])
      by (quiet e) = quiet e
      by (falsified l m c) = elim (first_or_later p (drop (from + 1) a.trail.items) (opposite l) (subst (λ xs. Contains xs (opposite l)) (drop_more a.trail.items from p h ∙ ap (λ y. y ∷ drop (from + 1) a.trail.items) (sym p_is)) c)) [
        | inl e ↦
            let same : l ≡ q = sym (opposite_opposite l) ∙ (ap opposite (sym e) ∙ sym q_is) in
            listed (subst (λ y. Contains (list_at lists (code_of y)) (k + 1)) same (index.all k l inside m))
        | inr more ↦ falsified l m more
      ]
      by (listed m) = absurd (none_in (k + 1) m)

  -- nothing is still to be visited
  pub all_quiet : (a : Assignment) (from : ℕ) → length a.trail.items ≤ from → AreClausesSettled clauses a from [] → All (IsQuietAt a.values.items) clauses
  all_quiet a from h settled k d inside = subst (IsQuietAt a.values.items) (get_or_default clauses k [] d inside) (by (settled k inside))
    where
      by : IsClauseSettled a.values.items (drop from a.trail.items) [] (k + 1) (get_or clauses k []) → IsQuietAt a.values.items (get_or clauses k [])
      by (quiet q) = q
      by (falsified l m c) = absurd (none_in (opposite l) (subst (λ xs. Contains xs (opposite l)) (drop_all from a.trail.items h) c))
      by (listed m) = absurd (none_in (k + 1) m)

-- ---- a list of clauses is looked at

-- The first clauses of the list have been looked at: what was settled stays so without them.
pub record HasSeen (clauses : List Clause) (at : Literal) (numbers : List ℕ) (from i : ℕ) (before after : Assignment) (looked : Looked) : Type 0 where
  pub assignment : IsAssignment after
  pub step : IsStep clauses at before.values.items after.values.items
  pub longer : length before.trail.items ≤ length after.trail.items
  pub looks : AreLooked clauses after looked
  pub settled : AreClausesSettled clauses before from numbers → AreClausesSettled clauses after from (drop i numbers)

module _ (clauses : List Clause) (at : Literal) (numbers : List ℕ) (from : ℕ) where
  pub seen_none : (a : Assignment) (looked : Looked) → IsAssignment a → AreLooked clauses a looked → IsLiteralOpen a.values.items at → HasSeen clauses at numbers from 0 a a looked
  seen_none a looked is are o = record { assignment = is; step = no_step clauses at a.values.items o; longer = omega arith; looks = are; settled = λ s. s }

  module _ (i n : ℕ) (inside : i < length numbers) (n_is : n ≡ get_or numbers i n) where
    next_of : drop i numbers ≡ n ∷ drop (i + 1) numbers
    next_of = drop_more numbers i n inside ∙ ap (λ m. m ∷ drop (i + 1) numbers) (sym n_is)

    pass : (a : Assignment) (k : ℕ) → (n ≡ k + 1 → IsClauseSettled a.values.items (drop from a.trail.items) (drop (i + 1) numbers) (k + 1) (get_or clauses k [])) → IsClauseSettled a.values.items (drop from a.trail.items) (drop i numbers) (k + 1) (get_or clauses k [])
        → IsClauseSettled a.values.items (drop from a.trail.items) (drop (i + 1) numbers) (k + 1) (get_or clauses k [])
    pass a k here settled =
        pass_first a.values.items (drop from a.trail.items) n (drop (i + 1) numbers) (k + 1) (get_or clauses k []) here
        (subst (λ ns. IsClauseSettled a.values.items (drop from a.trail.items) ns (k + 1) (get_or clauses k [])) next_of settled)

    -- the clause was looked at already
    pub seen_skipped : (before after : Assignment) (looked : Looked) (s : ℕ) → HasSeen clauses at numbers from i before after looked → from ≤ s → IsLookedAt looked n s → HasSeen clauses at numbers from (i + 1) before after looked
    seen_skipped before after looked s is late there = record {
      assignment = is.assignment;
      step = is.step;
      longer = is.longer;
      looks = is.looks;
      settled = λ all k low. pass after k
          (λ e. settled_before after.values.items after.trail.items s from (drop (i + 1) numbers) (k + 1) (get_or clauses k []) late (is.looks.settled k s low (subst (λ m. IsLookedAt looked m s) e there)))
          (is.settled all k low);
    }

    -- the clause is quiet now, and perhaps one more literal is held
    module _ (before mid after : Assignment) (looked new : Looked) (is : HasSeen clauses at numbers from i before mid looked) (more : HoldsMore mid after) (quiets : (k : ℕ) → n ≡ k + 1 → IsQuietAt after.values.items (get_or clauses k [])) where
      looked_more : length new.stamps.items ≡ length looked.stamps.items → ((other s : ℕ) → IsLookedAt new other s → IsLookedAt looked other s ⊎ ((other ≡ n) × (s ≤ length after.trail.items))) → AreLooked clauses after new
      looked_more room noted = record {
        room = room ∙ is.looks.room;
        earlier = λ other s now. elim (noted other s now) [ inl was ↦ omega (arith, is.looks.earlier other s was, more_longer mid after more) | inr here ↦ here.1 ];
        settled = λ k s low now. elim (noted (k + 1) s now) [
          | inl was ↦ more_settled mid after s [] (k + 1) (get_or clauses k []) more (is.looks.earlier (k + 1) s was) (is.looks.settled k s low was)
          | inr here ↦ quiet (quiets k (sym here.0))
        ];
      }

      pub seen_settled : IsAssignment after → IsStep clauses at mid.values.items after.values.items → from ≤ length before.trail.items → length new.stamps.items ≡ length looked.stamps.items
          → ((other s : ℕ) → IsLookedAt new other s → IsLookedAt looked other s ⊎ ((other ≡ n) × (s ≤ length after.trail.items))) → HasSeen clauses at numbers from (i + 1) before after new
      seen_settled assignment step early room noted = record {
        assignment = assignment;
        step = two_steps clauses at before.values.items mid.values.items after.values.items is.step step;
        longer = omega (arith, is.longer, more_longer mid after more);
        looks = looked_more room noted;
        settled = λ all k low. pass after k (λ e. quiet (quiets k e)) (more_settled mid after from (drop i numbers) (k + 1) (get_or clauses k []) more (omega (arith, early, is.longer)) (is.settled all k low));
      }

  -- the whole list has been looked at
  pub seen_all : (i : ℕ) (before after : Assignment) (looked : Looked) → length numbers ≤ i → HasSeen clauses at numbers from i before after looked → AreClausesSettled clauses before from numbers → AreClausesSettled clauses after from []
  seen_all i before after looked all is s k low = subst (λ ns. IsClauseSettled after.values.items (drop from after.trail.items) ns (k + 1) (get_or clauses k [])) (drop_all i numbers all) (is.settled s k low)

-- ---- the whole of unit propagation

-- The lists of the literals before a place have been visited.
pub record HasGone (clauses : List Clause) (at : Literal) (head : ℕ) (before after : Assignment) (looked : Looked) : Type 0 where
  pub assignment : IsAssignment after
  pub step : IsStep clauses at before.values.items after.values.items
  pub inside : head ≤ length after.trail.items
  pub looks : AreLooked clauses after looked
  pub settled : AreClausesSettled clauses after head []
