-- Clauses by their numbers, and lists that begin with the same clauses.
use Rattle.std.proofs.Common.{◌≡◌, ◌≢◌, ◌∙◌, ℕ, ◌+◌, ◌-◌, ◌<◌, ◌≤◌, List, [], ◌∷◌, ◌++◌, length, get_or, eq-eqb, sym, ap, subst, refl, arith, length-append, append_assoc}
use Rattle.std.specs.Prelude.{Bool, true, false, ◌==◌, Option, None, Some, All, Contains, slice_get, if◌then◌else◌}
use Rattle.std.proofs.lemmas.Bool.{ne_eqb}
use Rattle.std.proofs.lemmas.List.{get_or_append_left, get_or_push, length_push, append-nil}
use Rattle.std.proofs.lemmas.Option.{slice_get-get_or, slice_get_within}
use Rattle.clause_pool.specs.Clauses.{Clause, BeginsWith, numbered_clause}

-- ---- numbers

-- the clause at a place has the next number
pub numbered_at : (clauses : List Clause) (k : ℕ) (d : Clause) → k < length clauses → numbered_clause clauses (k + 1) ≡ Some (get_or clauses k d)
numbered_at clauses k d h =
    ap (λ b. if b then None else slice_get clauses (k + 1 - 1)) (ne_eqb (k + 1) 0 (λ e. omega arith))
    ∙ (let back : k + 1 - 1 ≡ k = omega arith in ap (slice_get clauses) back ∙ slice_get-get_or clauses k d h)

at_number : (clauses : List Clause) (number : ℕ) (d : Clause) → 0 < number → number ≤ length clauses → numbered_clause clauses number ≡ Some (get_or clauses (number - 1) d)
at_number clauses number d from below =
    let at : number - 1 + 1 ≡ number = omega arith in
    ap (numbered_clause clauses) (sym at) ∙ numbered_at clauses (number - 1) d (omega arith)

-- a number up to the list's length has a clause
pub has_numbered : (clauses : List Clause) (number : ℕ) → 0 < number → number ≤ length clauses → (clause : Clause) × (numbered_clause clauses number ≡ Some clause)
has_numbered clauses number from below = (get_or clauses (number - 1) [], at_number clauses number [] from below)

pub same_clause : (clauses : List Clause) (number : ℕ) (c d : Clause) → numbered_clause clauses number ≡ Some c → numbered_clause clauses number ≡ Some d → c ≡ d
same_clause clauses number c d first second = let e : ◌≡◌ {A = Option Clause} (Some c) (Some d) = sym first ∙ second in cc

-- a number that has a clause is within the list
pub numbered_within : (clauses : List Clause) (number : ℕ) (clause : Clause) → numbered_clause clauses number ≡ Some clause → (0 < number) × (number ≤ length clauses)
numbered_within clauses number clause is = by (number == 0) refl is
  where
    by : (b : Bool) → (number == 0) ≡ b → (if b then None else slice_get clauses (number - 1)) ≡ Some clause → (0 < number) × (number ≤ length clauses)
    by true e none = absurd (let wrong : ◌≡◌ {A = Option Clause} None (Some clause) = none in cc)
    by false e some =
        let from : number ≢ 0 = λ zero. let wrong : ◌≡◌ {A = Bool} true false = sym (eq-eqb number 0 zero) ∙ e in cc in
        let below = slice_get_within clauses (number - 1) clause some in
        (omega (arith, from), omega (arith, from, below))

pub numbered_in : (clauses : List Clause) (number : ℕ) (clause : Clause) → numbered_clause clauses number ≡ Some clause → Contains clauses clause
numbered_in clauses number clause is =
    let within = numbered_within clauses number clause is in
    (number - 1, omega (arith, within.0, within.1), same_clause clauses number (get_or clauses (number - 1) clause) clause (at_number clauses number clause within.0 within.1) is)

-- what holds of all clauses holds of a numbered one
pub all_at_number : (P : Clause → Type 0) (clauses : List Clause) (number : ℕ) (clause : Clause) → All P clauses → numbered_clause clauses number ≡ Some clause → P clause
all_at_number P clauses number clause all is = let h = numbered_in clauses number clause is in subst P h.2 (all h.0 clause h.1)

-- what holds of each numbered clause holds of all
pub all_numbered : (P : Clause → Type 0) (clauses : List Clause) → ((number : ℕ) (clause : Clause) → numbered_clause clauses number ≡ Some clause → P clause) → All P clauses
all_numbered P clauses h = λ k d within. h (k + 1) (get_or clauses k d) (numbered_at clauses k d within)

-- the clause that was added last has the last number
pub numbered_last : (clauses : List Clause) (clause : Clause) (number : ℕ) → number ≡ length (clauses ++ clause ∷ []) → numbered_clause (clauses ++ clause ∷ []) number ≡ Some clause
numbered_last clauses clause number is =
    let place : length clauses ≡ number - 1 = omega (arith, length_push clauses clause) in
    at_number (clauses ++ clause ∷ []) number [] (omega (arith, length_push clauses clause)) (omega arith) ∙ ap Some (get_or_push clauses clause [] (number - 1) place)

-- ---- lists that begin with the same clauses

pub begins_itself : (clauses : List Clause) → BeginsWith clauses clauses
begins_itself clauses = record { more = []; are = sym (append-nil clauses) }

pub begins_appended : (first more : List Clause) → BeginsWith (first ++ more) first
begins_appended first more = record { more = more; are = refl }

pub begins_through : (clauses middle first : List Clause) → BeginsWith clauses middle → BeginsWith middle first → BeginsWith clauses first
begins_through clauses middle first outer inner = record {
  more = inner.more ++ outer.more;
  are = outer.are ∙ (ap (λ cs. cs ++ outer.more) inner.are ∙ append_assoc first inner.more outer.more);
}

-- a clause of the first list has the same number in the longer one
pub numbered_longer : (clauses first : List Clause) (number : ℕ) → BeginsWith clauses first → 0 < number → number ≤ length first → numbered_clause clauses number ≡ numbered_clause first number
numbered_longer clauses first number h from below =
    let size = ap length h.are ∙ length-append first h.more in
    at_number clauses number [] from (omega (arith, size))
    ∙ (ap (λ cs. Some (get_or cs (number - 1) [])) h.are
    ∙ (ap Some (get_or_append_left first h.more [] (number - 1) (omega arith)) ∙ sym (at_number first number [] from below)))
