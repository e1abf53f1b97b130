-- Marks of the literals of a clause, literal by literal.
use Rattle.std.proofs.Common.{◌≡◌, ◌≢◌, ℕ, ◌+◌, ◌*◌, ◌<◌, refl, sym, ap, ◌∙◌, arith, length, set, true≢false}
use Rattle.std.specs.Prelude.{Bool, true, false, List, [], ◌∷◌, ◌++◌, ◌||◌, ◌&&◌, ◌==◌, if◌then◌else◌}
use Rattle.std.specs.Bool.{beq}
use Rattle.std.proofs.lemmas.List.{get_or-set_same, get_or-set_other}
use Rattle.std.proofs.lemmas.Bool.Decides.{nat_tests}
use Rattle.net_model.specs.Answer.{bit_at}
use Rattle.clause_pool.specs.Literal.{Literal, same_literal}
use Rattle.clause_pool.specs.LiteralCode.{code_of}
use Rattle.clause_pool.specs.Clauses.{Clause}
use Rattle.pair_miter.specs.Marks.{AreMarksOfClause}
use Rattle.pair_miter.specs.Miter.{has_literal, without_repeats}
use Rattle.std.proofs.Math.Bool.{or-true, or-false}
use Rattle.pair_miter.proofs.TidyParts.{has_literal-push, kept_with, without_repeats-push}

-- different literals have different codes
pub same_code : (l m : Literal) → (code_of l == code_of m) ≡ same_literal l m
same_code l m = by l.positive m.positive
  where
    by : (a b : Bool) → (2 * l.variable + (if a then 1 else 0) == 2 * m.variable + (if b then 1 else 0)) ≡ ((l.variable == m.variable) && beq a b)
    by true true = grind (arith, nat_tests)
    by true false = grind (arith, nat_tests)
    by false true = grind (arith, nat_tests)
    by false false = grind (arith, nat_tests)

other_code : (l m : Literal) → same_literal l m ≡ false → code_of l ≢ code_of m
other_code l m e same = let test = same_code l m ∙ e in grind (arith, nat_tests)

same_code_of : (l m : Literal) → same_literal l m ≡ true → code_of l ≡ code_of m
same_code_of l m e = let test = same_code l m ∙ e in grind (arith, nat_tests)

-- a marked literal that comes again
pub marks_again : (marks : List Bool) (xs : Clause) (m : Literal) → AreMarksOfClause marks xs → bit_at marks (code_of m) ≡ true → AreMarksOfClause marks (xs ++ m ∷ [])
marks_again marks xs m are marked l = by (same_literal l m) refl
  where
    by : (b : Bool) → same_literal l m ≡ b → bit_at marks (code_of l) ≡ has_literal (xs ++ m ∷ []) l
    by true e = ap (bit_at marks) (same_code_of l m e) ∙ (marked ∙ (sym (or-true (has_literal xs l)) ∙ (ap (λ b. has_literal xs l || b) (sym e) ∙ sym (has_literal-push xs m l))))
    by false e = are l ∙ (sym (or-false (has_literal xs l)) ∙ (ap (λ b. has_literal xs l || b) (sym e) ∙ sym (has_literal-push xs m l)))

-- a literal that is marked now
pub marks_more : (marks : List Bool) (xs : Clause) (m : Literal) → AreMarksOfClause marks xs → code_of m < length marks → AreMarksOfClause (set marks (code_of m) true) (xs ++ m ∷ [])
marks_more marks xs m are room l = by (same_literal l m) refl
  where
    by : (b : Bool) → same_literal l m ≡ b → bit_at (set marks (code_of m) true) (code_of l) ≡ has_literal (xs ++ m ∷ []) l
    by true e =
        ap (bit_at (set marks (code_of m) true)) (same_code_of l m e)
        ∙ (get_or-set_same marks (code_of m) true false room ∙ (sym (or-true (has_literal xs l)) ∙ (ap (λ b. has_literal xs l || b) (sym e) ∙ sym (has_literal-push xs m l))))
    by false e =
        get_or-set_other marks (code_of m) (code_of l) true false (other_code l m e)
        ∙ (are l ∙ (sym (or-false (has_literal xs l)) ∙ (ap (λ b. has_literal xs l || b) (sym e) ∙ sym (has_literal-push xs m l))))

-- all marked literals are of the clause
abbrev pub AreWithin : List Bool → Clause → Type 0
AreWithin marks clause = (l : Literal) → bit_at marks (code_of l) ≡ true → has_literal clause l ≡ true

-- if the mark of a clause's first literal is removed, those of the others are left
pub within_less : (marks : List Bool) (m : Literal) (rest : Clause) → AreWithin marks (m ∷ rest) → code_of m < length marks → AreWithin (set marks (code_of m) false) rest
within_less marks m rest within room l marked = by (same_literal l m) refl
  where
    by : (b : Bool) → same_literal l m ≡ b → has_literal rest l ≡ true
    by true e = absurd (true≢false (sym marked ∙ (ap (bit_at (set marks (code_of m) false)) (same_code_of l m e) ∙ get_or-set_same marks (code_of m) false false room)))
    by false e = ap (λ b. b || has_literal rest l) (sym e) ∙ within l (sym (get_or-set_other marks (code_of m) (code_of l) false false (other_code l m e)) ∙ marked)

-- if no literal is left, none is marked
pub within_none : (marks : List Bool) → AreWithin marks [] → AreMarksOfClause marks []
within_none marks within l = by (bit_at marks (code_of l)) refl
  where
    by : (b : Bool) → bit_at marks (code_of l) ≡ b → bit_at marks (code_of l) ≡ false
    by true e = absurd (true≢false (sym (within l e)))
    by false e = e

-- ---- a literal is kept if it isn't marked

module _ (marks : List Bool) (kept xs : Clause) (m : Literal) (are : AreMarksOfClause marks xs) (so_far : kept ≡ without_repeats xs) where
  pub keeps_new : bit_at marks (code_of m) ≡ false → kept ++ m ∷ [] ≡ without_repeats (xs ++ m ∷ [])
  keeps_new unmarked =
      ap (λ ks. ks ++ m ∷ []) so_far
      ∙ (ap (λ b. kept_with b (without_repeats xs) m) (sym unmarked ∙ are m) ∙ sym (without_repeats-push xs m))

  pub keeps_old : bit_at marks (code_of m) ≡ true → kept ≡ without_repeats (xs ++ m ∷ [])
  keeps_old marked = so_far ∙ (ap (λ b. kept_with b (without_repeats xs) m) (sym marked ∙ are m) ∙ sym (without_repeats-push xs m))

-- a literal's mark has a place if both literals of its variable have one
pub code_within : (l : Literal) (n : ℕ) → 2 * l.variable + 1 < n → code_of l < n
code_within l n h = by l.positive
  where
    by : (b : Bool) → 2 * l.variable + (if b then 1 else 0) < n
    by true = h
    by false = omega arith
