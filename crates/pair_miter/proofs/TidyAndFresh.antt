-- Laws of tidying and of freshness.
use Rattle.std.proofs.Common.{◌≡◌, ◌≢◌, ◌⊎◌, refl, sym, ◌∙◌, ap, subst, inl, inr, ◌-◌}
use Rattle.std.specs.Prelude.{Bool, true, false, not, List, [], ◌∷◌, map, filter, cond, ◌||◌, ◌&&◌, Contains, if◌then◌else◌}
use Rattle.clause_pool.specs.Literal.{Literal, opposite, same_literal}
use Rattle.clause_pool.specs.Clauses.{Clause}
use Rattle.clause_pool.specs.Partial.{IsQuiet}
use Rattle.clause_pool.proofs.Literals.{same_is, literal_cases}
use Rattle.net_model.specs.Answer.{bit_at}
use Rattle.net_model.proofs.Elements.{any_from, passing}
use Rattle.pair_miter.specs.Miter.{has_literal, without_repeats, is_tautology, tidy, literal_bit, is_satisfied_by, is_model}
use Rattle.pair_miter.specs.Fresh.{IsFresh}

-- ---- freshness

-- A clause that has all literals of a clause of the list isn't fresh over the list.
pub superset_not_fresh : (clauses : List Clause) (clause smaller : Clause) (at : Literal) → Contains clauses smaller → ((l : Literal) → Contains smaller l → Contains clause l) → ¬ IsFresh clauses clause at
superset_not_fresh clauses clause smaller at (k, h, e) inside f = go (subst (IsQuiet f.held) e (f.quiet k smaller h))
  where
    must_be : (l : Literal) → Contains clause l → ¬ Contains f.held (opposite l) → l ≡ at
    must_be l m n = by (literal_cases l at)
      where
        by : (l ≡ at) ⊎ (l ≢ at) → l ≡ at
        by (inl e) = e
        by (inr d) = absurd (n (f.others l m d))

    go : IsQuiet f.held smaller → ⊥
    go (inl s) = f.undetermined.not_held (subst (Contains f.held) (must_be s.literal (inside s.literal s.inside) (λ o. f.consistent s.literal s.is_held o)) s.is_held)
    go (inr t) = t.different (must_be t.first (inside t.first t.first_inside) t.first_undetermined.opposite_not_held ∙ sym (must_be t.second (inside t.second t.second_inside) t.second_undetermined.opposite_not_held))

-- ---- tidying

or_of_false : (a b : Bool) → a ≡ false → b ≡ (a || b)
or_of_false a b e = rw e refl

kept_or_not : (bits : List Bool) (l m : Literal) (kept ls : List Literal) → literal_bit bits l ≡ false → is_satisfied_by bits kept ≡ is_satisfied_by bits ls → (b : Bool) → same_literal l m ≡ b
    → is_satisfied_by bits (cond (not b) (m ∷ kept) kept) ≡ (literal_bit bits m || is_satisfied_by bits ls)
kept_or_not bits l m kept ls e h true is = h ∙ or_of_false (literal_bit bits m) (is_satisfied_by bits ls) (ap (literal_bit bits) (sym (same_is l m is)) ∙ e)
kept_or_not bits l m kept ls e h false is = ap (λ b. literal_bit bits m || b) h

-- a literal that isn't true adds nothing
without_false : (bits : List Bool) (l : Literal) (ls : List Literal) → literal_bit bits l ≡ false → is_satisfied_by bits (filter (λ m. not (same_literal l m)) ls) ≡ is_satisfied_by bits ls
without_false bits l [] e = refl
without_false bits l (m ∷ ls) e = kept_or_not bits l m (filter (λ n. not (same_literal l n)) ls) ls e (without_false bits l ls e) (same_literal l m) refl

first_or_rest : (bits : List Bool) (l : Literal) (kept ls : List Literal) → is_satisfied_by bits kept ≡ is_satisfied_by bits ls → (b : Bool) → literal_bit bits l ≡ b
    → (b || is_satisfied_by bits (filter (λ m. not (same_literal l m)) kept)) ≡ (b || is_satisfied_by bits ls)
first_or_rest bits l kept ls h true e = refl
first_or_rest bits l kept ls h false e = without_false bits l kept e ∙ h

-- an assignment satisfies a clause whether its literals are repeated or not
satisfied_again : (bits : List Bool) (clause : Clause) → is_satisfied_by bits (without_repeats clause) ≡ is_satisfied_by bits clause
satisfied_again bits [] = refl
satisfied_again bits (l ∷ ls) = first_or_rest bits l (without_repeats ls) ls (satisfied_again bits ls) (literal_bit bits l) refl

opposite_sign : (positive bit : Bool) → (if not positive then bit else not bit) ≡ not (if positive then bit else not bit)
opposite_sign true bit = refl
opposite_sign false true = refl
opposite_sign false false = refl

pub opposite_bit : (bits : List Bool) (l : Literal) → literal_bit bits (opposite l) ≡ not (literal_bit bits l)
opposite_bit bits l = opposite_sign l.positive (bit_at bits (l.variable - 1))

either_true : (bits : List Bool) (clause : Clause) (l : Literal) → Contains clause l → Contains clause (opposite l) → (b : Bool) → literal_bit bits l ≡ b → is_satisfied_by bits clause ≡ true
either_true bits clause l m n true e = any_from (literal_bit bits) clause l m e
either_true bits clause l m n false e = any_from (literal_bit bits) clause (opposite l) n (opposite_bit bits l ∙ ap not e)

tautology_true : (bits : List Bool) (clause : Clause) → is_tautology clause ≡ true → is_satisfied_by bits clause ≡ true
tautology_true bits clause e =
    let found = passing (λ l. has_literal clause (opposite l)) clause e in
    let other = passing (same_literal (opposite found.0)) clause found.2 in
    let is : opposite found.0 ≡ other.0 = same_is (opposite found.0) other.0 other.2 in
    either_true bits clause found.0 found.1 (subst (Contains clause) (sym is) other.1) (literal_bit bits found.0) refl

-- An assignment satisfies a list of clauses exactly if it satisfies them tidied.
left_out_or_not : (bits : List Bool) (clause : Clause) (tidied clauses : List Clause) → is_model bits (map without_repeats tidied) ≡ is_model bits clauses → (b : Bool) → is_tautology clause ≡ b
    → is_model bits (map without_repeats (cond (not b) (clause ∷ tidied) tidied)) ≡ (is_satisfied_by bits clause && is_model bits clauses)
left_out_or_not bits clause tidied clauses h true e = rw (tautology_true bits clause e) h
left_out_or_not bits clause tidied clauses h false e = λ i. satisfied_again bits clause i && h i

pub is_model-tidy : (bits : List Bool) (clauses : List Clause) → is_model bits (tidy clauses) ≡ is_model bits clauses
unfolding tidy
is_model-tidy bits [] = refl
is_model-tidy bits (clause ∷ clauses) = left_out_or_not bits clause (filter (λ c. not (is_tautology c)) clauses) clauses (is_model-tidy bits clauses) (is_tautology clause) refl
