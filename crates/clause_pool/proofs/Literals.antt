-- When two literals are equal.
use Rattle.std.proofs.Common.{◌≡◌, ◌≢◌, ◌⊎◌, inl, inr, ℕ, ◌+◌, ◌*◌, ◌<◌, ◌≤◌, refl, sym, ◌∙◌, ap, subst, eqb-true, eq-eqb, arith}
use Rattle.std.specs.Prelude.{Bool, true, false, not, ◌==◌, if◌then◌else◌}
use Rattle.std.specs.Bool.{beq}
use Rattle.std.specs.Cmp.{booleans_Decides}
use Rattle.std.proofs.lemmas.Bool.{and_parts}
use Rattle.std.proofs.Math.Bool.{not-not}
use Rattle.clause_pool.specs.Literal.{Literal, opposite, same_literal}
use Rattle.clause_pool.specs.LiteralCode.{code_of}

pub same_literals : (l m : Literal) → l.variable ≡ m.variable → l.positive ≡ m.positive → l ≡ m
same_literals l m variables signs = λ i. record { variable = variables i; positive = signs i }

pub same_is : (l m : Literal) → same_literal l m ≡ true → l ≡ m
same_is l m e =
    let both = and_parts (l.variable == m.variable) (beq l.positive m.positive) e in
    same_literals l m (eqb-true l.variable m.variable both.0) ((booleans_Decides l.positive m.positive).0 both.1)

pub same_literal-same : (l m : Literal) → l ≡ m → same_literal l m ≡ true
same_literal-same l m e = subst (λ n. same_literal l n ≡ true) e (rw (eq-eqb l.variable l.variable refl) ((booleans_Decides l.positive l.positive).1 refl))

pub literal_cases : (l m : Literal) → (l ≡ m) ⊎ (l ≢ m)
literal_cases l m = by (same_literal l m) refl
  where
    by : (b : Bool) → same_literal l m ≡ b → (l ≡ m) ⊎ (l ≢ m)
    by true e = inl (same_is l m e)
    by false e = inr (λ same. let t = same_literal-same l m same in let wrong : ◌≡◌ {A = Bool} true false = sym t ∙ e in cc)

pub opposite_opposite : (l : Literal) → opposite (opposite l) ≡ l
opposite_opposite l = λ i. record { variable = l.variable; positive = not-not l.positive i }

sign_cases : (p q : Bool) → (p ≡ q) ⊎ ((p ≡ not q) × (p ≢ q))
sign_cases true true = inl refl
sign_cases true false = inr (refl, λ e. cc)
sign_cases false true = inr (refl, λ e. cc)
sign_cases false false = inl refl

-- two literals of one variable are equal or opposite
pub same_or_opposite : (l m : Literal) → l.variable ≡ m.variable → (l ≡ m) ⊎ ((l ≡ opposite m) × (l ≢ m))
same_or_opposite l m variables = elim (sign_cases l.positive m.positive) [
  | inl signs ↦ inl (same_literals l m variables signs)
  | inr other ↦ inr (same_literals l (opposite m) variables other.0, λ e. other.1 (ap (λ (x : Literal). x.positive) e))
]

-- ---- codes

by_signs : (v w : ℕ) (p q : Bool) → 2 * v + (if p then 1 else 0) ≡ 2 * w + (if q then 1 else 0) → (v ≡ w) × (p ≡ q)
by_signs v w true true e = (omega (arith, e), refl)
by_signs v w true false e = absurd (omega (arith, e))
by_signs v w false true e = absurd (omega (arith, e))
by_signs v w false false e = (omega (arith, e), refl)

pub same_by_code : (l m : Literal) → code_of l ≡ code_of m → l ≡ m
same_by_code l m e = let both = by_signs l.variable m.variable l.positive m.positive e in same_literals l m both.0 both.1

code_by_sign : (v n : ℕ) (p : Bool) → v ≤ n → 2 * v + (if p then 1 else 0) < 2 * n + 2
code_by_sign v n true le = omega arith
code_by_sign v n false le = omega arith

pub code_within : (l : Literal) (n : ℕ) → l.variable ≤ n → code_of l < 2 * n + 2
code_within l n le = code_by_sign l.variable n l.positive le
