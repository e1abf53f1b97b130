-- What an assignment holds, and what is found at a clause.
use Rattle.std.proofs.Common.{◌≡◌, ◌≢◌, ◌∙◌, ℕ, ◌<◌, ◌⊎◌, inl, inr, refl, sym, ap, subst, get_or, eqb-true}
use Rattle.std.specs.Prelude.{Bool, true, false, not, List, length, set, Option, None, Some, option_map, eqb, Contains}
use Rattle.std.specs.Bool.{beq}
use Rattle.std.specs.List.{HoldsAt, IsAnyAnswer}
use Rattle.std.specs.Option.{option_eq}
use Rattle.std.proofs.lemmas.Bool.{cases_eq}
use Rattle.std.proofs.lemmas.List.{get_or-set_same, get_or-set_other}
use Rattle.clause_pool.specs.Literal.{Literal, opposite}
use Rattle.clause_pool.specs.LiteralCode.{code_of}
use Rattle.clause_pool.specs.Clauses.{Clause}
use Rattle.clause_pool.proofs.Literals.{same_literals, same_or_opposite, same_by_code}
use Rattle.refute_check.specs.Held.{IsTrueAt, IsLiteralFalse, IsLiteralOpen}

-- a literal whose code is found in the clause is in the clause
pub contained : (clause : Clause) (at : Literal) (found : Bool) → IsAnyAnswer (λ l t. eqb (code_of l) (code_of at) ≡ t) clause found → found ≡ true → Contains clause at
contained clause at true is t = (is.0, is.1, same_by_code (get_or clause is.0 at) at (eqb-true (code_of (get_or clause is.0 at)) (code_of at) (is.2 at)))
contained clause at false is t = cc

-- ---- what a value says of a literal

true_value : (o : Option Bool) (p : Bool) → option_map (λ bit. beq bit p) o ≡ Some true → o ≡ Some p
true_value None p e = cc
true_value (Some true) true e = refl
true_value (Some true) false e = cc
true_value (Some false) true e = cc
true_value (Some false) false e = refl

false_value : (o : Option Bool) (p : Bool) → option_map (λ bit. beq bit p) o ≡ Some false → o ≡ Some (not p)
false_value None p e = cc
false_value (Some true) true e = cc
false_value (Some true) false e = refl
false_value (Some false) true e = refl
false_value (Some false) false e = cc

open_value : (o : Option Bool) (p : Bool) → option_map (λ bit. beq bit p) o ≡ None → o ≡ None
open_value None p e = refl
open_value (Some b) p e = cc

value_true : (p : Bool) → option_map (λ bit. beq bit p) (Some p) ≡ Some true
value_true true = refl
value_true false = refl

value_false : (p : Bool) → option_map (λ bit. beq bit p) (Some (not p)) ≡ Some false
value_false true = refl
value_false false = refl

module _ (values : List (Option Bool)) (l : Literal) where
  pub true_is : IsTrueAt values l → get_or values l.variable None ≡ Some l.positive
  true_is e = true_value (get_or values l.variable None) l.positive e

  pub is_true : get_or values l.variable None ≡ Some l.positive → IsTrueAt values l
  is_true e = ap (option_map (λ bit. beq bit l.positive)) e ∙ value_true l.positive

  false_is : IsLiteralFalse values l → get_or values l.variable None ≡ Some (not l.positive)
  false_is e = false_value (get_or values l.variable None) l.positive e

  is_false : get_or values l.variable None ≡ Some (not l.positive) → IsLiteralFalse values l
  is_false e = ap (option_map (λ bit. beq bit l.positive)) e ∙ value_false l.positive

  pub open_is : IsLiteralOpen values l → get_or values l.variable None ≡ None
  open_is e = open_value (get_or values l.variable None) l.positive e

  pub is_open : get_or values l.variable None ≡ None → IsLiteralOpen values l
  is_open e = ap (option_map (λ bit. beq bit l.positive)) e

  pub opposite_true : IsLiteralFalse values l → IsTrueAt values (opposite l)
  opposite_true f = ap (option_map (λ bit. beq bit (not l.positive))) (false_is f) ∙ value_true (not l.positive)

  pub opposite_open : IsLiteralOpen values l → IsLiteralOpen values (opposite l)
  opposite_open o = ap (option_map (λ bit. beq bit (not l.positive))) (open_is o)

  pub open_not_true : IsLiteralOpen values l → IsTrueAt values l → ⊥
  open_not_true o t = let e : ◌≡◌ {A = Option Bool} None (Some true) = sym o ∙ t in cc

  pub open_not_false : IsLiteralOpen values l → IsLiteralFalse values l → ⊥
  open_not_false o t = let e : ◌≡◌ {A = Option Bool} None (Some false) = sym o ∙ t in cc

  pub true_not_false : IsTrueAt values l → IsLiteralFalse values l → ⊥
  true_not_false t f = let e : ◌≡◌ {A = Option Bool} (Some true) (Some false) = sym t ∙ f in cc

pub opposite_false : (values : List (Option Bool)) (l : Literal) → IsTrueAt values (opposite l) → IsLiteralFalse values l
opposite_false values l t = is_false values l (true_is values (opposite l) t)

pub equals_true : (o : Option Bool) → option_eq beq o (Some true) ≡ true → o ≡ Some true
equals_true None e = cc
equals_true (Some true) e = refl
equals_true (Some false) e = cc

-- ---- one more literal is held

abbrev pub hold : List (Option Bool) → Literal → List (Option Bool)
hold values h = set values h.variable (Some h.positive)

module _ (values : List (Option Bool)) (h : Literal) where
  hold_other : (l : Literal) → l.variable ≢ h.variable → get_or (hold values h) l.variable None ≡ get_or values l.variable None
  hold_other l ne = get_or-set_other values h.variable l.variable (Some h.positive) None ne

  pub hold_open : (l : Literal) → l.variable ≢ h.variable → IsLiteralOpen values l → IsLiteralOpen (hold values h) l
  hold_open l ne o = is_open (hold values h) l (hold_other l ne ∙ open_is values l o)

  module _ (within : h.variable < length values) where
    pub hold_holds : IsTrueAt (hold values h) h
    hold_holds = is_true (hold values h) h (get_or-set_same values h.variable (Some h.positive) None within)

    pub hold_kept : (IsLiteralFalse values h → ⊥) → (l : Literal) → IsTrueAt values l → IsTrueAt (hold values h) l
    hold_kept free l t = elim (cases_eq l.variable h.variable) [
      | inl v ↦ elim (same_or_opposite l h v) [
        | inl e ↦ subst (IsTrueAt (hold values h)) (sym e) hold_holds
        | inr w ↦ absurd (free (opposite_false values h (subst (IsTrueAt values) w.0 t)))
      ]
      | inr ne ↦ is_true (hold values h) l (hold_other l ne ∙ true_is values l t)
    ]

    pub hold_kept_false : (IsLiteralFalse values h → ⊥) → (l : Literal) → IsLiteralFalse values l → IsLiteralFalse (hold values h) l
    hold_kept_false free l f = opposite_false (hold values h) l (hold_kept free (opposite l) (opposite_true values l f))

    pub hold_cases : (l : Literal) → IsTrueAt (hold values h) l → IsTrueAt values l ⊎ (l ≡ h)
    hold_cases l t = elim (cases_eq l.variable h.variable) [
      | inl v ↦
          let now : get_or (hold values h) l.variable None ≡ Some h.positive = ap (λ n. get_or (hold values h) n None) v ∙ get_or-set_same values h.variable (Some h.positive) None within in
          let both : ◌≡◌ {A = Option Bool} (Some l.positive) (Some h.positive) = sym (true_is (hold values h) l t) ∙ now in
          let sign : l.positive ≡ h.positive = cc in
          inr (same_literals l h v sign)
      | inr ne ↦ inl (is_true values l (sym (hold_other l ne) ∙ true_is (hold values h) l t))
    ]

-- ---- what is found among the clause's first literals

-- One open literal is among the first ones, and all others of them are false.
pub record HasOneOpen (values : List (Option Bool)) (clause : Clause) (k place : ℕ) : Type 0 where
  pub inside : place < k
  pub is_open : HoldsAt (IsLiteralOpen values) clause place
  pub others : (j : ℕ) (d : Literal) → j < k → get_or clause j d ≢ get_or clause place d → IsLiteralFalse values (get_or clause j d)

abbrev pub IsSoFar : List (Option Bool) → Clause → ℕ → Option ℕ → Type 0
IsSoFar values clause k None = (j : ℕ) (d : Literal) → j < k → IsLiteralFalse values (get_or clause j d)
IsSoFar values clause k (Some place) = HasOneOpen values clause k place
