-- An assignment and the list of what it holds, as literals come and go.
use Rattle.std.proofs.Common.{◌≡◌, ◌∙◌, ℕ, zero, suc, ◌<◌, ◌≤◌, ◌+◌, inl, inr, refl, sym, ap, arith, subst, get_or, length-append}
use Rattle.std.specs.Prelude.{Bool, true, false, cond, List, [], ◌∷◌, ◌++◌, length, set, Option, None, Some, is_none, Contains, vec_capacity}
use Rattle.std.proofs.lemmas.Bool.{cases_eq}
use Rattle.std.proofs.lemmas.List.{get_or-set_same, get_or-set_other, length-set}
use Rattle.std.proofs.lemmas.List.Elements.{Contains-append_left, Contains-append_right, Contains-append_cases}
use Rattle.std.proofs.lemmas.List.Sums.{sum_by-set, sum_by-cons}
use Rattle.clause_pool.specs.Literal.{Literal, opposite}
use Rattle.net_model.proofs.Elements.{none_in, first_or_later}
use Rattle.refute_check.specs.declared.assignment.Assignment.{Assignment}
use Rattle.refute_check.specs.Assignment.{IsAssignment, unset_count}
use Rattle.refute_check.specs.Held.{IsTrueAt, IsLiteralOpen, value_at}
use Rattle.refute_check.proofs.HeldLemmas.{true_is, is_true, opposite_true, open_not_true, open_not_false, hold, hold_holds, hold_kept, hold_cases, open_is}

pub last_in : {X : Type 0} → (xs : List X) (x : X) → Contains (xs ++ x ∷ []) x
last_in xs x = Contains-append_right xs (x ∷ []) x (0, omega arith, refl)

pub only_in : {X : Type 0} → (x y : X) → Contains (x ∷ []) y → y ≡ x
only_in x y m = elim (first_or_later x [] y m) [ inl e ↦ sym e | inr none ↦ absurd (none_in y none) ]

-- ---- how many variables are open

count_one : Option Bool → ℕ
count_one v = cond (is_none v) 1 0

pub open_one_less : (values : List (Option Bool)) (h : Literal) → h.variable < length values → IsLiteralOpen values h → unset_count (hold values h) + 1 ≡ unset_count values
unfolding count_one
open_one_less values h within o =
    let sums = sum_by-set count_one values h.variable (Some h.positive) None within in
    let was : count_one (get_or values h.variable None) ≡ 1 = ap count_one (open_is values h o) in
    omega (arith, sums, was)

-- a list of one value has it at each place
pub open_all : (values : List (Option Bool)) → ((k : ℕ) → get_or values k None ≡ None) → unset_count values ≡ length values
unfolding count_one
open_all [] none = refl
open_all (v ∷ values) none =
    let here : count_one v ≡ 1 = ap count_one (none 0) in
    omega (arith, sum_by-cons count_one v values, here, open_all values (λ k. none (suc k)))

-- a literal that is true has a place
pub true_within : (values : List (Option Bool)) (l : Literal) → IsTrueAt values l → l.variable < length values
true_within values l t = by values l.variable (true_is values l t)
  where
    by : (values : List (Option Bool)) (k : ℕ) → get_or values k None ≡ Some l.positive → k < length values
    by [] k e = cc
    by (v ∷ values) zero e = omega arith
    by (v ∷ values) (suc k) e = omega (arith, by values k e)

-- if no literal is true, all are open
pub none_true : (values : List (Option Bool)) → ((l : Literal) → IsTrueAt values l → ⊥) → (l : Literal) → IsLiteralOpen values l
none_true values none l = by (value_at values l) refl
  where
    by : (o : Option Bool) → value_at values l ≡ o → value_at values l ≡ None
    by None e = e
    by (Some true) e = absurd (none l e)
    by (Some false) e = absurd (none (opposite l) (opposite_true values l e))

open_place : (values : List (Option Bool)) → ((l : Literal) → IsLiteralOpen values l) → (k : ℕ) → get_or values k None ≡ None
open_place values all k = open_is values (record { variable = k; positive = true }) (all (record { variable = k; positive = true }))

-- ---- assignments

-- nothing is held
pub empty_assignment : (a : Assignment) → ((l : Literal) → IsLiteralOpen a.values.items l) → a.trail.items ≡ [] → length a.values.items ≤ vec_capacity a.trail → IsAssignment a
empty_assignment a all none room = record {
  listed = λ l t. absurd (open_not_true a.values.items l (all l) t);
  held = λ l m. absurd (none_in l (subst (λ xs. Contains xs l) none m));
  counted = omega (arith, ap length none, open_all a.values.items (open_place a.values.items all));
  room = room;
}

module _ (a : Assignment) (is : IsAssignment a) (x : Literal) (within : x.variable < length a.values.items) (o : IsLiteralOpen a.values.items x) where
  pub room_for_one : length a.trail.items < vec_capacity a.trail
  room_for_one = omega (arith, is.counted, is.room, open_one_less a.values.items x within o)

  pub one_held : (b : Assignment) → b.values.items ≡ hold a.values.items x → b.trail.items ≡ a.trail.items ++ x ∷ [] → vec_capacity b.trail ≡ vec_capacity a.trail → IsAssignment b
  one_held b values trail room = record {
    listed = λ l t. subst (λ xs. Contains xs l) (sym trail)
        (elim (hold_cases a.values.items x within l (subst (λ vs. IsTrueAt vs l) values t)) [
          | inl was ↦ Contains-append_left a.trail.items (x ∷ []) l (is.listed l was)
          | inr e ↦ subst (Contains (a.trail.items ++ x ∷ [])) (sym e) (last_in a.trail.items x)
        ]);
    held = λ l m. subst (λ vs. IsTrueAt vs l) (sym values)
        (elim (Contains-append_cases a.trail.items (x ∷ []) l (subst (λ xs. Contains xs l) trail m)) [
          | inl was ↦ hold_kept a.values.items x within (open_not_false a.values.items x o) l (is.held l was)
          | inr e ↦ subst (IsTrueAt (hold a.values.items x)) (sym (only_in x l e)) (hold_holds a.values.items x within)
        ]);
    counted = omega (
      arith,
      is.counted,
      open_one_less a.values.items x within o,
      ap length trail,
      length-append a.trail.items (x ∷ []),
      ap unset_count values,
      ap length values,
      length-set a.values.items x.variable (Some x.positive),
    );
    room = omega (arith, is.room, room, ap length values, length-set a.values.items x.variable (Some x.positive));
  }

-- ---- literals are dropped

-- What is true is listed, and what is listed has a place.
pub record IsListed (values : List (Option Bool)) (trail : List Literal) : Type 0 where
  pub listed : (l : Literal) → IsTrueAt values l → Contains trail l
  pub within : (l : Literal) → Contains trail l → l.variable < length values

pub listed_from : (a : Assignment) → IsAssignment a → IsListed a.values.items a.trail.items
listed_from a is = record { listed = is.listed; within = λ l m. true_within a.values.items l (is.held l m) }

pub last_within : (values : List (Option Bool)) (rest trail : List Literal) (x : Literal) → trail ≡ rest ++ x ∷ [] → IsListed values trail → x.variable < length values
last_within values rest trail x e is = is.within x (subst (λ xs. Contains xs x) (sym e) (last_in rest x))

pub one_less : (values : List (Option Bool)) (rest trail : List Literal) (x : Literal) → trail ≡ rest ++ x ∷ [] → IsListed values trail → IsListed (set values x.variable None) rest
one_less values rest trail x e is = record {
  listed = λ l t. elim (cases_eq l.variable x.variable) [
    | inl v ↦
        let now : get_or (set values x.variable None) l.variable None ≡ None = ap (λ n. get_or (set values x.variable None) n None) v ∙ get_or-set_same values x.variable None None (last_within values rest trail x e is) in
        let wrong : ◌≡◌ {A = Option Bool} None (Some l.positive) = sym now ∙ true_is (set values x.variable None) l t in
        cc
    | inr ne ↦
        let was = is_true values l (sym (get_or-set_other values x.variable l.variable None None ne) ∙ true_is (set values x.variable None) l t) in
        elim (Contains-append_cases rest (x ∷ []) l (subst (λ xs. Contains xs l) e (is.listed l was))) [
          | inl m ↦ m
          | inr m ↦ absurd (ne (ap (λ (y : Literal). y.variable) (only_in x l m)))
        ]
  ];
  within = λ l m.
      let before = is.within l (subst (λ xs. Contains xs l) (sym e) (Contains-append_left rest (x ∷ []) l m)) in
      omega (arith, before, length-set values x.variable None);
}
