-- What a set of held literals says of a literal.
use Rattle.std.proofs.Common.{◌≡◌, ◌≢◌, ◌⊎◌, inl, inr, zero, suc, ◌<◌, ℕ, List, [], ◌∷◌, length, get_or, arith}
use Rattle.std.specs.Prelude.{Contains}
use Rattle.clause_pool.specs.Literal.{Literal, opposite}
use Rattle.clause_pool.specs.Partial.{IsUndetermined}
use Rattle.clause_pool.proofs.Literals.{literal_cases}

pub decide_held : (held : List Literal) (l : Literal) → Contains held l ⊎ (¬ Contains held l)
decide_held [] l = inr (λ h. let less = h.1 in omega arith)
decide_held (x ∷ xs) l = elim (literal_cases x l) [
  | inl e ↦ inl (0, omega arith, e)
  | inr ne ↦ elim (decide_held xs l) [
    | inl h ↦ inl (suc h.0, (let less = h.1 in omega arith), h.2)
    | inr none ↦ inr (λ h. later h.0 h.1 h.2 ne none)
  ]
]
  where
    later : (k : ℕ) → k < length (x ∷ xs) → get_or (x ∷ xs) k l ≡ l → x ≢ l → ¬ Contains xs l → ⊥
    later zero less is ne none = ne is
    later (suc k) less is ne none = none (k, omega arith, is)

-- a literal is held, or its opposite is, or neither
pub literal_status : (held : List Literal) (l : Literal) → Contains held l ⊎ (Contains held (opposite l) ⊎ IsUndetermined held l)
literal_status held l = elim (decide_held held l) [
  | inl t ↦ inl t
  | inr untrue ↦ elim (decide_held held (opposite l)) [
    | inl f ↦ inr (inl f)
    | inr none ↦ inr (inr (record { not_held = untrue; opposite_not_held = none }))
  ]
]
