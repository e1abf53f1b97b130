-- A region of literals that is cut into clauses.
use Rattle.std.proofs.Common.{◌≡◌, ◌∙◌, ℕ, zero, suc, ◌+◌, ◌-◌, ◌<◌, ◌≤◌, List, [], ◌∷◌, ◌++◌, length, take, drop, get_or, false, cond, eqb, Some, None, refl, sym, ap, subst, arith}
use Rattle.std.specs.Prelude.{slice_get, slice_range}
use Rattle.std.proofs.lemmas.List.{length-drop, length-take-le, take-append-le, drop-append-le, drop-drop, drop-take, take-take}
use Rattle.std.proofs.lemmas.Bool.{ne_eqb}
use Rattle.std.proofs.lemmas.List.Sums.{sum_by-cons}
use Rattle.std.proofs.Math.Seq.{take-length}
use Rattle.clause_pool.specs.Literal.{Literal}
use Rattle.clause_pool.specs.Clauses.{Clause, clauses_of, literal_count, numbered_clause}
use Rattle.clause_pool.specs.PoolFields.{AreEnds, start_place}

pub AreEnds-le : (from : ℕ) (ends : List ℕ) (total : ℕ) → AreEnds from ends total → from ≤ total
AreEnds-le from [] total h = omega arith
AreEnds-le from (end ∷ ends) total h = omega (arith, h.0, AreEnds-le end ends total h.1)

pub AreEnds-push : (from : ℕ) (ends : List ℕ) (total end : ℕ) → AreEnds from ends total → total ≤ end → AreEnds from (ends ++ end ∷ []) end
AreEnds-push from [] total end h more = (omega arith, refl)
AreEnds-push from (e ∷ ends) total end h more = (h.0, AreEnds-push e ends total end h.1 more)

pub length-clauses_of : (from : ℕ) (ends : List ℕ) (literals : List Literal) → length (clauses_of from ends literals) ≡ length ends
length-clauses_of from [] literals = refl
length-clauses_of from (end ∷ ends) literals = ap suc (length-clauses_of end ends (drop (end - from) literals))

-- what is left of a region after its first clause
rest_fits : (from end total : ℕ) (ends : List ℕ) (literals : List Literal) → AreEnds from (end ∷ ends) total → from + length literals ≡ total
    → (end - from ≤ length literals) × (end + length (drop (end - from) literals) ≡ total)
rest_fits from end total ends literals h whole =
    let e = length-drop (end - from) literals in
    let le = AreEnds-le end ends total h.1 in
    (omega (arith, h.0), omega (arith, h.0, e))

pub clauses_of-push : (from : ℕ) (ends : List ℕ) (literals clause : List Literal) (total : ℕ) → AreEnds from ends total → from + length literals ≡ total
    → clauses_of from (ends ++ (total + length clause) ∷ []) (literals ++ clause) ≡ clauses_of from ends literals ++ clause ∷ []
clauses_of-push from [] [] clause total h whole =
    let e : (total + length clause) - from ≡ length clause = omega arith in
    ap (λ n. take n clause ∷ []) e ∙ ap (λ c. c ∷ []) (take-length clause)
clauses_of-push from [] (l ∷ ls) clause total h whole = absurd (omega arith)
clauses_of-push from (end ∷ ends) literals clause total h whole =
    let fits = rest_fits from end total ends literals h whole in
    ap (λ c. c ∷ clauses_of end (ends ++ (total + length clause) ∷ []) (drop (end - from) (literals ++ clause))) (take-append-le (end - from) literals clause fits.0)
    ∙ (ap (λ rest. take (end - from) literals ∷ clauses_of end (ends ++ (total + length clause) ∷ []) rest) (drop-append-le (end - from) literals clause fits.0)
    ∙ ap (λ cs. take (end - from) literals ∷ cs) (clauses_of-push end ends (drop (end - from) literals) clause total h.1 fits.1))

literal_count-cons : (clause : Clause) (clauses : List Clause) → literal_count (clause ∷ clauses) ≡ length clause + literal_count clauses
literal_count-cons clause clauses = sum_by-cons length clause clauses

pub literal_count-clauses_of : (from : ℕ) (ends : List ℕ) (literals : List Literal) (total : ℕ) → AreEnds from ends total → from + length literals ≡ total
    → from + literal_count (clauses_of from ends literals) ≡ total
literal_count-clauses_of from [] literals total h whole = omega arith
literal_count-clauses_of from (end ∷ ends) literals total h whole =
    let fits = rest_fits from end total ends literals h whole in
    let first = length-take-le (end - from) literals fits.0 in
    let more = literal_count-clauses_of end ends (drop (end - from) literals) total h.1 fits.1 in
    let parts = literal_count-cons (take (end - from) literals) (clauses_of end ends (drop (end - from) literals)) in
    omega (arith, h.0, parts)

-- where a clause begins, counted from the place where the region does
begin_at : ℕ → List ℕ → ℕ → ℕ
begin_at from ends zero = from
begin_at from [] (suc at) = from
begin_at from (end ∷ ends) (suc at) = begin_at end ends at

begin_at-suc : (from : ℕ) (ends : List ℕ) (at : ℕ) → at < length ends → begin_at from ends (suc at) ≡ get_or ends at 0
unfolding begin_at
begin_at-suc from [] at h = absurd (omega arith)
begin_at-suc from (end ∷ ends) zero h = refl
begin_at-suc from (end ∷ ends) (suc at) h = begin_at-suc end ends at (omega arith)

pub record IsWithin (from start end total : ℕ) : Type 0 where
  pub begins : from ≤ start
  pub ordered : start ≤ end
  pub ends : end ≤ total

within : (from : ℕ) (ends : List ℕ) (total at : ℕ) → AreEnds from ends total → at < length ends → IsWithin from (begin_at from ends at) (get_or ends at 0) total
unfolding begin_at
within from [] total at h below = absurd (omega arith)
within from (end ∷ ends) total zero h below = record { begins = omega arith; ordered = h.0; ends = AreEnds-le end ends total h.1 }
within from (end ∷ ends) total (suc at) h below =
    let w = within end ends total at h.1 (omega arith) in
    record { begins = omega (arith, h.0, w.begins); ordered = w.ordered; ends = w.ends }

clause_from : (from : ℕ) (ends : List ℕ) (literals : List Literal) (total at : ℕ) → AreEnds from ends total → from + length literals ≡ total → at < length ends
    → slice_get (clauses_of from ends literals) at ≡ Some (take (get_or ends at 0 - begin_at from ends at) (drop (begin_at from ends at - from) literals))
unfolding begin_at
clause_from from [] literals total at h whole below = absurd (omega arith)
clause_from from (end ∷ ends) literals total zero h whole below =
    let e : from - from ≡ 0 = omega arith in
    ap (λ n. Some (take (end - from) (drop n literals))) (sym e)
clause_from from (end ∷ ends) literals total (suc at) h whole below =
    let fits = rest_fits from end total ends literals h whole in
    let w = within end ends total at h.1 (omega arith) in
    let start = begin_at end ends at in
    let e : (end - from) + (start - end) ≡ start - from = omega (arith, h.0, w.begins) in
    clause_from end ends (drop (end - from) literals) total at h.1 fits.1 (omega arith)
    ∙ ap (λ ls. Some (take (get_or ends at 0 - start) ls)) (drop-drop (start - end) (end - from) literals ∙ ap (λ n. drop n literals) e)

start_is : (ends : List ℕ) (at : ℕ) → at < length ends → begin_at 0 ends at ≡ start_place ends at
unfolding begin_at
start_is ends zero h = refl
start_is ends (suc at) h =
    let e : at ≡ suc at - 1 = omega arith in
    let later : eqb (suc at) 0 ≡ false = ne_eqb (suc at) 0 (omega arith) in
    begin_at-suc 0 ends at (omega arith) ∙ (ap (λ n. get_or ends n 0) e ∙ ap (λ b. cond b 0 (get_or ends (suc at - 1) 0)) (sym later))

pub within_region : (ends : List ℕ) (total at : ℕ) → AreEnds 0 ends total → at < length ends → IsWithin 0 (start_place ends at) (get_or ends at 0) total
within_region ends total at h below = subst (λ start. IsWithin 0 start (get_or ends at 0) total) (start_is ends at below) (within 0 ends total at h below)

pub clause_at : (ends : List ℕ) (literals : List Literal) (at : ℕ) → AreEnds 0 ends (length literals) → at < length ends
    → slice_get (clauses_of 0 ends literals) at ≡ Some (slice_range literals (start_place ends at) (get_or ends at 0))
clause_at ends literals at h below =
    let zero_off : begin_at 0 ends at - 0 ≡ begin_at 0 ends at = omega arith in
    clause_from 0 ends literals (length literals) at h (omega arith) below
    ∙ (ap (λ n. Some (take (get_or ends at 0 - begin_at 0 ends at) (drop n literals))) zero_off
    ∙ ap (λ start. Some (slice_range literals start (get_or ends at 0))) (start_is ends at below))

-- the ends of the first clauses cut the literals of these clauses
pub AreEnds-take : (from : ℕ) (ends : List ℕ) (literals : List Literal) (total k : ℕ) → AreEnds from ends total → from + length literals ≡ total → k ≤ length ends
    → AreEnds from (take k ends) (from + literal_count (take k (clauses_of from ends literals)))
AreEnds-take from ends literals total zero h whole le = omega arith
AreEnds-take from [] literals total (suc k) h whole le = absurd (omega arith)
AreEnds-take from (end ∷ ends) literals total (suc k) h whole le =
    let fits = rest_fits from end total ends literals h whole in
    let first = length-take-le (end - from) literals fits.0 in
    let more = literal_count (take k (clauses_of end ends (drop (end - from) literals))) in
    let parts = literal_count-cons (take (end - from) literals) (take k (clauses_of end ends (drop (end - from) literals))) in
    let e : end + more ≡ from + literal_count (take (end - from) literals ∷ take k (clauses_of end ends (drop (end - from) literals))) = omega (arith, h.0, parts) in
    (h.0, subst (λ n. AreEnds end (take k ends) n) e (AreEnds-take end ends (drop (end - from) literals) total k h.1 fits.1 (omega arith)))

pub clauses_of-take : (from : ℕ) (ends : List ℕ) (literals : List Literal) (total k : ℕ) → AreEnds from ends total → from + length literals ≡ total → k ≤ length ends
    → clauses_of from (take k ends) (take (literal_count (take k (clauses_of from ends literals))) literals) ≡ take k (clauses_of from ends literals)
clauses_of-take from ends literals total zero h whole le = refl
clauses_of-take from [] literals total (suc k) h whole le = absurd (omega arith)
clauses_of-take from (end ∷ ends) literals total (suc k) h whole le =
    let fits = rest_fits from end total ends literals h whole in
    let first = length-take-le (end - from) literals fits.0 in
    let n = end - from in
    let more = literal_count (take k (clauses_of end ends (drop n literals))) in
    let parts = literal_count-cons (take n literals) (take k (clauses_of end ends (drop n literals))) in
    let e : literal_count (take n literals ∷ take k (clauses_of end ends (drop n literals))) ≡ n + more = omega (arith, parts, first) in
    ap (λ m. take n (take m literals) ∷ clauses_of end (take k ends) (drop n (take m literals))) e
    ∙ (ap (λ c. c ∷ clauses_of end (take k ends) (drop n (take (n + more) literals))) (take-take n (n + more) literals (omega arith))
    ∙ (ap (λ ls. take n literals ∷ clauses_of end (take k ends) ls) (drop-take n more literals)
    ∙ ap (λ cs. take n literals ∷ cs) (clauses_of-take end ends (drop n literals) total k h.1 fits.1 (omega arith))))

-- the clauses that a pool shows, by its region
pub shown_count : (ends : List ℕ) (literals : List Literal) (clauses : List Clause) → clauses_of 0 ends literals ≡ clauses → length clauses ≡ length ends
shown_count ends literals clauses same = ap length (sym same) ∙ length-clauses_of 0 ends literals

pub shown_literals : (ends : List ℕ) (literals : List Literal) (clauses : List Clause) → AreEnds 0 ends (length literals) → clauses_of 0 ends literals ≡ clauses
    → literal_count clauses ≡ length literals
shown_literals ends literals clauses cut same =
    let count = literal_count-clauses_of 0 ends literals (length literals) cut (omega arith) in
    let there : literal_count (clauses_of 0 ends literals) ≡ length literals = omega (arith, count) in
    ap literal_count (sym same) ∙ there

pub shown_clause : (ends : List ℕ) (literals : List Literal) (clauses : List Clause) (number : ℕ) → AreEnds 0 ends (length literals) → clauses_of 0 ends literals ≡ clauses
    → 0 < number → number ≤ length clauses
    → numbered_clause clauses number ≡ Some (slice_range literals (start_place ends (number - 1)) (get_or ends (number - 1) 0))
shown_clause ends literals clauses number cut same from below =
    let count = shown_count ends literals clauses same in
    let some : eqb number 0 ≡ false = ne_eqb number 0 (omega arith) in
    ap (λ b. cond b None (slice_get clauses (number - 1))) some
    ∙ (ap (λ cs. slice_get cs (number - 1)) (sym same)
    ∙ clause_at ends literals (number - 1) cut (omega (arith, count)))
