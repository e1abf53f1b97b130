-- Clauses with the same literals: they can be resolved alike, to clauses with the same literals.
use Rattle.std.proofs.Common.{◌≡◌, ◌≢◌, ◌∙◌, not, ◌&&◌, [], ◌∷◌, refl, ap, sym, subst, arith, inl, inr}
use Rattle.std.specs.Prelude.{Bool, true, false, Contains}
use Rattle.std.specs.Cmp.{both_ways}
use Rattle.std.proofs.lemmas.List.Elements.{Contains-append_left, Contains-append_right, Contains-append_cases}
use Rattle.net_model.proofs.Elements.{any_from, passing, Contains-filter, Contains-from_filter, none_in}
use Rattle.clause_pool.specs.Literal.{Literal, opposite, same_literal}
use Rattle.clause_pool.specs.Clauses.{Clause}
use Rattle.clause_pool.proofs.Literals.{same_is, same_literal-same}
use Rattle.pair_miter.specs.Miter.{has_literal}
use Rattle.pair_miter.specs.Resolution.{clause_without, resolvent, can_resolve}
use Rattle.pair_miter.specs.Resolution.{SameLiterals}

-- ---- whether a clause has a literal

pub has_from : (clause : Clause) (l : Literal) → Contains clause l → has_literal clause l ≡ true
has_from clause l m = any_from (same_literal l) clause l m (same_literal-same l l refl)

pub from_has : (clause : Clause) (l : Literal) → has_literal clause l ≡ true → Contains clause l
from_has clause l t = let found = passing (same_literal l) clause t in subst (Contains clause) (sym (same_is l found.0 found.2)) found.1

-- ---- clauses without a literal

pub differs : (l m : Literal) → m ≢ l → not (same_literal l m) ≡ true
differs l m ne = by (same_literal l m) refl
  where
    by : (b : Bool) → same_literal l m ≡ b → not b ≡ true
    by true e = absurd (ne (sym (same_is l m e)))
    by false e = refl

pub without_has : (l : Literal) (clause : Clause) (m : Literal) → Contains clause m → m ≢ l → Contains (clause_without l clause) m
without_has l clause m h ne = Contains-filter (λ n. not (same_literal l n)) clause m h (differs l m ne)

pub from_without : (l : Literal) (clause : Clause) (m : Literal) → Contains (clause_without l clause) m → Contains clause m × (m ≢ l)
from_without l clause m h =
    let both = Contains-from_filter (λ n. not (same_literal l n)) clause m h in
    (both.0, λ same. let e = ap not (same_literal-same l m (sym same)) in let wrong : ◌≡◌ {A = Bool} true false = sym both.1 ∙ e in cc)

-- ---- clauses with the same literals

pub same_sym : (a b : Clause) → SameLiterals a b → SameLiterals b a
same_sym a b s l = ((s l).1, (s l).0)

pub same_trans : (a b c : Clause) → SameLiterals a b → SameLiterals b c → SameLiterals a c
same_trans a b c s t l = (λ m. (t l).0 ((s l).0 m), λ m. (s l).1 ((t l).1 m))

pub same_refl : (a : Clause) → SameLiterals a a
same_refl a l = (λ m. m, λ m. m)

has_alike : (a b : Clause) → SameLiterals a b → (l : Literal) → has_literal a l ≡ has_literal b l
has_alike a b s l = both_ways (has_literal a l) (has_literal b l) (λ t. has_from b l ((s l).0 (from_has a l t))) (λ t. has_from a l ((s l).1 (from_has b l t)))

pub can_alike : (pivot : Literal) (a b c d : Clause) → SameLiterals a b → SameLiterals c d → can_resolve pivot a c ≡ can_resolve pivot b d
can_alike pivot a b c d s t = λ i. has_alike a b s pivot i && has_alike c d t (opposite pivot) i

without_one : (l : Literal) (a b : Clause) → SameLiterals a b → (m : Literal) → Contains (clause_without l a) m → Contains (clause_without l b) m
without_one l a b s m h =
    let parts = Contains-from_filter (λ n. not (same_literal l n)) a m h in
    Contains-filter (λ n. not (same_literal l n)) b m ((s m).0 parts.0) parts.1

resolvent_one : (pivot : Literal) (a b c d : Clause) → SameLiterals a b → SameLiterals c d → (m : Literal) → Contains (resolvent pivot a c) m → Contains (resolvent pivot b d) m
resolvent_one pivot a b c d s t m h =
    elim (Contains-append_cases (clause_without pivot a) (clause_without (opposite pivot) c) m h) [
      | inl x ↦ Contains-append_left (clause_without pivot b) (clause_without (opposite pivot) d) m (without_one pivot a b s m x)
      | inr x ↦ Contains-append_right (clause_without pivot b) (clause_without (opposite pivot) d) m (without_one (opposite pivot) c d t m x)
    ]

pub resolvent_alike : (pivot : Literal) (a b c d : Clause) → SameLiterals a b → SameLiterals c d → SameLiterals (resolvent pivot a c) (resolvent pivot b d)
resolvent_alike pivot a b c d s t m = (resolvent_one pivot a b c d s t m, resolvent_one pivot b a d c (same_sym a b s) (same_sym c d t) m)

pub empty_alike : (a b : Clause) → SameLiterals a b → b ≡ [] → a ≡ []
empty_alike [] b s e = refl
empty_alike (l ∷ ls) b s e = absurd (none_in l (subst (λ c. Contains c l) e ((s l).0 (0, omega arith, refl))))
