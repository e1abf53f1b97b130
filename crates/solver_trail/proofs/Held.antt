-- The literals of a list of set literals.
use Rattle.std.proofs.Common.{◌≡◌, ◌∙◌, inl, inr, ℕ, ◌<◌, List, [], ◌∷◌, ◌++◌, length, get_or, refl, sym, ap, arith}
use Rattle.std.specs.Prelude.{◌↔◌, Bool, true, false, not, Contains, IsTrue, None, Some}
use Rattle.std.proofs.lemmas.Bool.{cases_eq, cases_lt}
use Rattle.std.proofs.lemmas.List.{length-map, get_or-map, get_or_append_left, get_or_push}
use Rattle.clause_pool.specs.Literal.{Literal, opposite}
use Rattle.solver_trail.specs.declared.set_literals.SetLiteral.{SetLiteral}
use Rattle.solver_trail.specs.Assignment.{Assignment, IsTrail, IsValueOf, assigned_literals, literals_of, no_literal}

pub literal_at : (entries : List SetLiteral) (k : ℕ) (d : SetLiteral) (e : Literal) → k < length entries
    → get_or (literals_of entries) k e ≡ (get_or entries k d).literal
literal_at entries k d e h = get_or-map (λ (s : SetLiteral). s.literal) entries k d e h

pub length-literals_of : (entries : List SetLiteral) → length (literals_of entries) ≡ length entries
length-literals_of entries = length-map entries (λ (s : SetLiteral). s.literal)

-- where a set literal is
pub place_of : (entries : List SetLiteral) (l : Literal) → Contains (literals_of entries) l
    → (k : ℕ) × (k < length entries) × ((d : SetLiteral) → (get_or entries k d).literal ≡ l)
place_of entries l h =
    let within : h.0 < length entries = omega (arith, h.1, length-literals_of entries) in
    (h.0, within, λ d. sym (literal_at entries h.0 d l within) ∙ h.2)

pub held_at : (entries : List SetLiteral) (k : ℕ) (d : SetLiteral) (l : Literal) → k < length entries → (get_or entries k d).literal ≡ l
    → Contains (literals_of entries) l
held_at entries k d l h e =
    let within : k < length (literals_of entries) = omega (arith, h, length-literals_of entries) in
    (k, within, literal_at entries k d l h ∙ e)

-- one more literal at the end
pub at_push_before : (entries : List SetLiteral) (s d : SetLiteral) (k : ℕ) → k < length entries → get_or (entries ++ s ∷ []) k d ≡ get_or entries k d
at_push_before entries s d k h = get_or_append_left entries (s ∷ []) d k h

pub at_push_end : (entries : List SetLiteral) (s d : SetLiteral) (k : ℕ) → k ≡ length entries → get_or (entries ++ s ∷ []) k d ≡ s
at_push_end entries s d k e = get_or_push entries s d k (sym e)

not_differs : (b : Bool) → b ≡ not b → ⊥
not_differs true e = let w : ◌≡◌ {A = Bool} true false = e in cc
not_differs false e = let w : ◌≡◌ {A = Bool} false true = e in cc

pub opposite_differs : (l : Literal) → l ≡ opposite l → ⊥
opposite_differs l e = not_differs l.positive (ap (λ (m : Literal). m.positive) e)

pub not_both : (a : Assignment) (l : Literal) → IsTrail a → Contains (assigned_literals a) l → Contains (assigned_literals a) (opposite l) → ⊥
not_both a l trail one two =
    let j = place_of a.literals l one in
    let k = place_of a.literals (opposite l) two in
    let variables : (get_or a.literals j.0 no_literal).literal.variable ≡ (get_or a.literals k.0 no_literal).literal.variable =
    ap (λ (m : Literal). m.variable) (j.2 no_literal) ∙ sym (ap (λ (m : Literal). m.variable) (k.2 no_literal)) in
    elim (cases_lt j.0 k.0) [
      | inl less ↦ trail.once j.0 k.0 no_literal less k.1 variables
      | inr le ↦ elim (cases_eq j.0 k.0) [
        | inl same ↦ opposite_differs l (sym (j.2 no_literal) ∙ (ap (λ n. (get_or a.literals n no_literal).literal) same ∙ k.2 no_literal))
        | inr ne ↦ trail.once k.0 j.0 no_literal (omega arith) j.1 (sym variables)
      ]
    ]

-- ---- whether a literal is true

pub sign_is_true : (a : Assignment) (l : Literal) (sign : Bool) → IsTrail a → IsValueOf a l (Some sign) → IsTrue sign ↔ Contains (assigned_literals a) l
sign_is_true a l true trail v = (λ yes. v, λ there. refl)
sign_is_true a l false trail v = (λ yes. absurd (let wrong : ◌≡◌ {A = Bool} false true = yes in cc), λ there. absurd (not_both a l trail there v))

pub unset_is_not_true : (a : Assignment) (l : Literal) → IsValueOf a l None → IsTrue false ↔ Contains (assigned_literals a) l
unset_is_not_true a l v = (λ yes. absurd (let wrong : ◌≡◌ {A = Bool} false true = yes in cc), λ there. absurd (v.not_held there))
