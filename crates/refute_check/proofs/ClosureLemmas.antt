-- Unit propagation, step by step.
use Rattle.std.proofs.Common.{◌≡◌, ◌≢◌, ◌∙◌, ℕ, zero, suc, ◌<◌, ◌+◌, inl, inr, refl, sym, ap, arith, subst, get_or}
use Rattle.std.specs.Prelude.{Bool, true, false, List, [], ◌∷◌, length, Option, None, Some, Contains, All, IsTrue, IsFalse, ◌↔◌}
use Rattle.std.proofs.lemmas.Bool.{cases_eq}
use Rattle.std.proofs.lemmas.List.{length-set, get_or_default}
use Rattle.std.proofs.lemmas.List.Elements.{All-contains, All-weaker}
use Rattle.clause_pool.specs.Literal.{Literal, opposite}
use Rattle.clause_pool.specs.Clauses.{Clause}
use Rattle.clause_pool.specs.Partial.{IsQuiet, IsUndetermined}
use Rattle.net_model.proofs.Copies.{later}
use Rattle.net_model.proofs.Elements.{none_in, first_or_later}
use Rattle.pair_miter.specs.Fresh.{IsFresh}
use Rattle.refute_check.specs.Held.{IsTrueAt, IsLiteralFalse, IsLiteralOpen, IsQuietAt, satisfied, two_open, IsUnitAt}
use Rattle.refute_check.specs.Closure.{IsClosure, IsStep, HoldsOthers, AssumesOthers}
use Rattle.refute_check.proofs.HeldLemmas.{true_is, is_true, opposite_true, opposite_false, opposite_open, open_not_true, open_not_false, true_not_false, hold, hold_open, hold_holds, hold_kept, hold_kept_false, hold_cases}
use Rattle.clause_pool.proofs.Literals.{opposite_opposite, literal_cases, same_literals, same_or_opposite}

-- ---- steps

module _ (clauses : List Clause) (at : Literal) where
  pub no_step : (values : List (Option Bool)) → IsLiteralOpen values at → IsStep clauses at values values
  no_step values o = record { size = refl; at_open = o; kept = λ l t. t; closes = λ held c. c }

  pub two_steps : (before between after : List (Option Bool)) → IsStep clauses at before between → IsStep clauses at between after → IsStep clauses at before after
  two_steps before between after first second = record {
    size = second.size ∙ first.size;
    at_open = second.at_open;
    kept = λ l t. second.kept l (first.kept l t);
    closes = λ held c. second.closes held (first.closes held c);
  }

-- ---- what a set of literals that closes the true ones holds

module _ (clauses : List Clause) (at : Literal) (values : List (Option Bool)) (held : List Literal) (closure : IsClosure clauses at values held) where
  holds_opposite : (l : Literal) → IsLiteralFalse values l → Contains held (opposite l)
  holds_opposite l f = closure.within (opposite l) (opposite_true values l f)

  unit_held_by : (clause : Clause) (unit : Literal) → IsUnitAt values clause unit → IsQuiet held clause → Contains held unit
  unit_held_by clause unit is (inl s) = elim (literal_cases s.literal unit) [
    | inl e ↦ subst (Contains held) e s.is_held
    | inr ne ↦ absurd (closure.consistent s.literal s.is_held (holds_opposite s.literal (is.others s.literal s.inside ne)))
  ]
  unit_held_by clause unit is (inr t) = absurd (t.different (must_be t.first t.first_inside t.first_undetermined ∙ sym (must_be t.second t.second_inside t.second_undetermined)))
    where
      must_be : (l : Literal) → Contains clause l → IsUndetermined held l → l ≡ unit
      must_be l m n = elim (literal_cases l unit) [
        | inl e ↦ e
        | inr ne ↦ absurd (n.opposite_not_held (holds_opposite l (is.others l m ne)))
      ]

  not_false_by : (clause : Clause) → All (IsLiteralFalse values) clause → IsQuiet held clause → ⊥
  not_false_by clause all (inl s) = closure.consistent s.literal s.is_held (holds_opposite s.literal (All-contains (IsLiteralFalse values) clause s.literal all s.inside))
  not_false_by clause all (inr t) = t.first_undetermined.opposite_not_held (holds_opposite t.first (All-contains (IsLiteralFalse values) clause t.first all t.first_inside))

  module _ (clause : Clause) (is_in : Contains clauses clause) where
    pub unit_held : (unit : Literal) → IsUnitAt values clause unit → Contains held unit
    unit_held unit is = unit_held_by clause unit is (All-contains (IsQuiet held) clauses clause closure.quiet is_in)

    pub not_false : All (IsLiteralFalse values) clause → ⊥
    not_false all = not_false_by clause all (All-contains (IsQuiet held) clauses clause closure.quiet is_in)

    pub not_at : (unit : Literal) → IsUnitAt values clause unit → unit.variable ≡ at.variable → ⊥
    not_at unit is v = elim (same_or_opposite unit at v) [
      | inl e ↦ closure.undetermined.not_held (subst (Contains held) e (unit_held unit is))
      | inr w ↦ closure.undetermined.opposite_not_held (subst (Contains held) w.0 (unit_held unit is))
    ]

pub unit_step : (clauses : List Clause) (at : Literal) (values : List (Option Bool)) (clause : Clause) (unit : Literal) → Contains clauses clause → IsUnitAt values clause unit → IsLiteralOpen values at → unit.variable < length values → unit.variable ≢ at.variable
    → IsStep clauses at values (hold values unit)
unit_step clauses at values clause unit is_in is o within ne = record {
  size = length-set values unit.variable (Some unit.positive);
  at_open = hold_open values unit at (λ e. ne (sym e)) o;
  kept = hold_kept values unit within (open_not_false values unit is.is_open);
  closes = λ held closure. record {
    consistent = closure.consistent;
    undetermined = closure.undetermined;
    quiet = closure.quiet;
    within = λ l t. elim (hold_cases values unit within l t) [
      | inl was ↦ closure.within l was
      | inr e ↦ subst (Contains held) (sym e) (unit_held clauses at values held closure clause is_in unit is)
    ];
  };
}

-- the step to a unit of a clause after a step
pub unit_after : (clauses : List Clause) (at : Literal) (before after : List (Option Bool)) (clause : Clause) (unit : Literal) → IsStep clauses at before after → Contains clauses clause → IsUnitAt after clause unit → unit.variable < length after → unit.variable ≢ at.variable
    → IsStep clauses at before (hold after unit)
unit_after clauses at before after clause unit step is_in is within ne = two_steps clauses at before after (hold after unit) step (unit_step clauses at after clause unit is_in is step.at_open within ne)

-- the variables of a unit are in range as those of all clauses
pub unit_within : (clauses : List Clause) (clause : Clause) (unit : Literal) (before after : List (Option Bool)) → All (All (λ (l : Literal). l.variable < length before)) clauses → Contains clauses clause → IsUnitAt after clause unit → length after ≡ length before → unit.variable < length after
unit_within clauses clause unit before after all is_in is size =
    let inside = All-contains (λ (l : Literal). l.variable < length before) clause unit (All-contains (All (λ (l : Literal). l.variable < length before)) clauses clause all is_in) is.inside in
    omega (arith, inside, size)

-- ---- the clause's other literals

-- What is true before place `k` of the clause: its other literals there are false, and no more literals are true.
pub record AreOthersFalseBefore (clause : Clause) (at : Literal) (k : ℕ) (values : List (Option Bool)) : Type 0 where
  pub at_open : IsLiteralOpen values at
  pub others : (j : ℕ) (d : Literal) → j < k → get_or clause j d ≢ at → IsLiteralFalse values (get_or clause j d)
  pub no_more : (l : Literal) → IsTrueAt values l → Contains clause (opposite l) × (opposite l ≢ at)

module _ (clause : Clause) (at : Literal) where
  module _ (k : ℕ) (values : List (Option Bool)) (are : AreOthersFalseBefore clause at k values) (l : Literal) (inside : k < length clause) (is : l ≡ get_or clause k l) where
    at_place : (d : Literal) → get_or clause k d ≡ l
    at_place d = get_or_default clause k d l inside ∙ sym is

    pub others_more : l.variable ≢ at.variable → (IsTrueAt values l → ⊥) → l.variable < length values → AreOthersFalseBefore clause at (k + 1) (hold values (opposite l))
    others_more apart untrue within =
        let free : IsLiteralFalse values (opposite l) → ⊥ = λ f. untrue (subst (IsTrueAt values) (opposite_opposite l) (opposite_true values (opposite l) f)) in
        let now : IsLiteralFalse (hold values (opposite l)) l = opposite_false (hold values (opposite l)) l (hold_holds values (opposite l) within) in
        record {
          at_open = hold_open values (opposite l) at (λ e. apart (sym e)) are.at_open;
          others = λ j d h ne. elim (cases_eq j k) [
            | inl e ↦ subst (IsLiteralFalse (hold values (opposite l))) (sym (ap (λ n. get_or clause n d) e ∙ at_place d)) now
            | inr late ↦ hold_kept_false values (opposite l) within free (get_or clause j d) (are.others j d (omega (arith, h, late)) ne)
          ];
          no_more = λ m t. elim (hold_cases values (opposite l) within m t) [
            | inl was ↦ are.no_more m was
            | inr e ↦
                let back : opposite m ≡ l = ap opposite e ∙ opposite_opposite l in
                (subst (Contains clause) (sym back) (k, inside, sym is), λ q. apart (ap (λ (x : Literal). x.variable) (sym back ∙ q)))
          ];
        }

    -- the literal is the one that stays open, or false already
    pub others_same : (l ≢ at → IsLiteralFalse values l) → AreOthersFalseBefore clause at (k + 1) values
    others_same f = record {
      at_open = are.at_open;
      others = λ j d h ne. elim (cases_eq j k) [
        | inl e ↦
            let here = ap (λ n. get_or clause n d) e ∙ at_place d in
            subst (IsLiteralFalse values) (sym here) (f (λ same. ne (here ∙ same)))
        | inr late ↦ are.others j d (omega (arith, h, late)) ne
      ];
      no_more = are.no_more;
    }

    module _ (set : List Literal) (holds : HoldsOthers clause at set) (other : l ≢ at) where
      pub not_of_at : l.variable ≡ at.variable → ⊥
      not_of_at v = elim (same_or_opposite l at v) [
        | inl e ↦ other e
        | inr w ↦ holds.undetermined.not_held (subst (Contains set) (ap opposite w.0 ∙ opposite_opposite at) (holds.others l (k, inside, sym is) other))
      ]

      pub not_true : IsTrueAt values l → ⊥
      not_true t =
          let o = are.no_more l t in
          holds.consistent l (subst (Contains set) (opposite_opposite l) (holds.others (opposite l) o.0 o.1)) (holds.others l (k, inside, sym is) other)

-- ---- the true literals

literals_from : ℕ → List (Option Bool) → List Literal
literals_from n [] = []
literals_from n (None ∷ values) = literals_from (n + 1) values
literals_from n (Some bit ∷ values) = record { variable = n; positive = bit } ∷ literals_from (n + 1) values

in_literals : (n : ℕ) (values : List (Option Bool)) (l : Literal) (k : ℕ) → get_or values k None ≡ Some l.positive → l.variable ≡ n + k → Contains (literals_from n values) l
unfolding literals_from
in_literals n [] l k e v = cc
in_literals n (None ∷ values) l zero e v = cc
in_literals n (None ∷ values) l (suc k) e v = in_literals (n + 1) values l k e (omega arith)
in_literals n (Some bit ∷ values) l zero e v =
    let place : n ≡ l.variable = omega arith in
    let sign : bit ≡ l.positive = cc in
    (0, omega arith, same_literals (record { variable = n; positive = bit }) l place sign)
in_literals n (Some bit ∷ values) l (suc k) e v = later (record { variable = n; positive = bit }) (literals_from (n + 1) values) l (in_literals (n + 1) values l k e (omega arith))

from_literals : (n : ℕ) (values : List (Option Bool)) (l : Literal) → Contains (literals_from n values) l → (k : ℕ) × (l.variable ≡ n + k) × (get_or values k None ≡ Some l.positive)
unfolding literals_from
from_literals n [] l m = absurd (none_in l m)
from_literals n (None ∷ values) l m = let w = from_literals (n + 1) values l m in (suc w.0, omega (arith, w.1), w.2)
from_literals n (Some bit ∷ values) l m = elim (first_or_later (record { variable = n; positive = bit }) (literals_from (n + 1) values) l m) [
  | inl e ↦ let place : n ≡ l.variable = ap (λ (x : Literal). x.variable) e in (0, omega arith, ap (λ (x : Literal). Some x.positive) e)
  | inr more ↦ let w = from_literals (n + 1) values l more in (suc w.0, omega (arith, w.1), w.2)
]

module _ (values : List (Option Bool)) where
  true_literals : List Literal
  true_literals = literals_from 0 values

  true_in : (l : Literal) → IsTrueAt values l → Contains true_literals l
  unfolding true_literals
  true_in l t = in_literals 0 values l l.variable (true_is values l t) (omega arith)

  in_true : (l : Literal) → Contains true_literals l → IsTrueAt values l
  unfolding true_literals
  in_true l m =
      let w = from_literals 0 values l m in
      let place : l.variable ≡ w.0 = omega (arith, w.1) in
      is_true values l (ap (λ n. get_or values n None) place ∙ w.2)

  open_in_true : (l : Literal) → IsLiteralOpen values l → IsUndetermined true_literals l
  open_in_true l o = record {
    not_held = λ m. open_not_true values l o (in_true l m);
    opposite_not_held = λ m. open_not_true values (opposite l) (opposite_open values l o) (in_true (opposite l) m);
  }

  quiet_in_true : (clause : Clause) → IsQuietAt values clause → IsQuiet true_literals clause
  quiet_in_true clause (satisfied l m t) = inl (record { literal = l; inside = m; is_held = true_in l t })
  quiet_in_true clause (two_open l m ne in_l in_m o_l o_m) = inr (record {
    first = l;
    second = m;
    different = ne;
    first_inside = in_l;
    second_inside = in_m;
    first_undetermined = open_in_true l o_l;
    second_undetermined = open_in_true m o_m;
  })

-- ---- freshness

module _ (clauses : List Clause) (clause : Clause) (at : Literal) where
  is_fresh : (before after : List (Option Bool)) → Contains clause at → AssumesOthers clause at before → IsStep clauses at before after → All (IsQuietAt after) clauses → IsFresh clauses clause at
  is_fresh before after inside are step quiet = record {
    inside = inside;
    held = true_literals after;
    consistent = λ l m n. true_not_false after l (in_true after l m) (opposite_false after l (in_true after (opposite l) n));
    others = λ l m ne. true_in after (opposite l) (step.kept (opposite l) (opposite_true before l (are.others l m ne)));
    undetermined = open_in_true after at step.at_open;
    quiet = All-weaker (IsQuietAt after) (IsQuiet (true_literals after)) (quiet_in_true after) clauses quiet;
  }

  pub others_is_fresh : ((set : List Literal) → ¬ HoldsOthers clause at set) → IsTrue false ↔ IsFresh clauses clause at
  others_is_fresh none = (
    λ t. cc,
    λ fresh. absurd (none fresh.held (record {
      consistent = fresh.consistent;
      others = fresh.others;
      undetermined = fresh.undetermined;
    })),
  )

  fresh_closes : (values : List (Option Bool)) → AssumesOthers clause at values → (fresh : IsFresh clauses clause at) → IsClosure clauses at values fresh.held
  fresh_closes values are fresh = record {
    consistent = fresh.consistent;
    undetermined = fresh.undetermined;
    quiet = fresh.quiet;
    within = λ l t. let o = are.no_more l t in subst (Contains fresh.held) (opposite_opposite l) (fresh.others (opposite l) o.0 o.1);
  }

  pub closed_is_fresh : (closed : Bool) (before after : List (Option Bool)) → Contains clause at → AssumesOthers clause at before → (IsTrue closed → IsStep clauses at before after) → (IsTrue closed → All (IsQuietAt after) clauses)
      → (IsFalse closed → (set : List Literal) → ¬ IsClosure clauses at before set) → IsTrue closed ↔ IsFresh clauses clause at
  closed_is_fresh true before after inside are step quiet none = (λ t. is_fresh before after inside are (step t) (quiet t), λ fresh. refl)
  closed_is_fresh false before after inside are step quiet none = (λ t. cc, λ fresh. absurd (none refl fresh.held (fresh_closes before are fresh)))
