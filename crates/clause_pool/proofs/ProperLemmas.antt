-- Clauses over variables, with none twice.
use Rattle.std.proofs.Common.{◌≡◌, ◌≢◌, ◌∙◌, inl, inr, ℕ, ◌<◌, length, get_or, sym, ap, arith}
use Rattle.std.specs.Prelude.{Contains}
use Rattle.std.proofs.lemmas.Bool.{cases_eq, cases_lt}
use Rattle.std.proofs.lemmas.List.{get_or_default}
use Rattle.std.proofs.lemmas.List.Elements.{All-contains, Contains-get_or}
use Rattle.clause_pool.specs.Literal.{Literal}
use Rattle.clause_pool.specs.Clauses.{Clause}
use Rattle.clause_pool.specs.Proper.{IsVariable, HasVariablesUpTo, HasNoVariableTwice}

-- a clause whose literals are all in another clause has no other variables
pub variables_of_part : (n : ℕ) (part clause : Clause) → ((l : Literal) → Contains part l → Contains clause l) → HasVariablesUpTo n clause → HasVariablesUpTo n part
variables_of_part n part clause inside all = λ k d h.
    All-contains (λ (l : Literal). IsVariable n l.variable) clause (get_or part k d) all (inside (get_or part k d) (Contains-get_or part k d h))

pub places_apart : (clause : Clause) (i j : ℕ) (d : Literal) → HasNoVariableTwice clause → i < length clause → j < length clause → i ≢ j
    → (get_or clause i d).variable ≢ (get_or clause j d).variable
places_apart clause i j d once first second ne = elim (cases_lt i j) [
  | inl less ↦ once i j d less second
  | inr le ↦ λ e. once j i d (omega arith) first (sym e)
]

-- literals of the clause with one variable are equal
pub same_variable : (clause : Clause) (l m : Literal) → HasNoVariableTwice clause → Contains clause l → Contains clause m → l.variable ≡ m.variable → l ≡ m
same_variable clause l m once one two e =
    let first : get_or clause one.0 m ≡ l = get_or_default clause one.0 m l one.1 ∙ one.2 in
    elim (cases_eq one.0 two.0) [
      | inl same ↦ sym first ∙ (ap (λ n. get_or clause n m) same ∙ two.2)
      | inr ne ↦ absurd (places_apart clause one.0 two.0 m once one.1 two.1 ne (ap (λ (x : Literal). x.variable) first ∙ (e ∙ sym (ap (λ (x : Literal). x.variable) two.2))))
    ]
