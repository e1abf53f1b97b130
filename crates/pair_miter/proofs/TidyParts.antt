-- Tidying part by part: lists of clauses, one clause, and a clause with one more literal.
use Rattle.std.proofs.Common.{◌≡◌, refl, sym, ap, ◌∙◌, arith}
use Rattle.std.specs.Prelude.{Bool, true, false, not, List, [], ◌∷◌, ◌++◌, map, filter, ◌||◌, ◌&&◌, if◌then◌else◌}
use Rattle.std.specs.Bool.{beq}
use Rattle.std.specs.List.{list_any}
use Rattle.std.proofs.lemmas.List.{map-append, append-nil}
use Rattle.std.proofs.lemmas.List.Elements.{filter-append}
use Rattle.std.proofs.lemmas.List.Folds.{list_any-append}
use Rattle.net_model.proofs.Elements.{eq-comm}
use Rattle.fault_list.proofs.Split.{or_exchange}
use Rattle.clause_pool.specs.Literal.{Literal, opposite, same_literal}
use Rattle.clause_pool.specs.Clauses.{Clause}
use Rattle.pair_miter.specs.Miter.{has_literal, without_repeats, is_tautology, tidy}
use Rattle.std.proofs.Math.Bool.{or-true, or-false}

-- ---- lists of clauses

pub tidy-append : (xs ys : List Clause) → tidy (xs ++ ys) ≡ tidy xs ++ tidy ys
unfolding tidy
tidy-append xs ys =
    ap (map without_repeats) (filter-append (λ clause. not (is_tautology clause)) xs ys)
    ∙ map-append without_repeats (filter (λ clause. not (is_tautology clause)) xs) (filter (λ clause. not (is_tautology clause)) ys)

pub tidy_none : tidy [] ≡ []
unfolding tidy
tidy_none = refl

pub tidy_opposites : (clause : Clause) → is_tautology clause ≡ true → tidy (clause ∷ []) ≡ []
unfolding tidy
tidy_opposites clause e = ap (λ b. map without_repeats (if not b then clause ∷ [] else [])) e

pub tidy_kept : (clause : Clause) → is_tautology clause ≡ false → tidy (clause ∷ []) ≡ without_repeats clause ∷ []
unfolding tidy
tidy_kept clause e = ap (λ b. map without_repeats (if not b then clause ∷ [] else [])) e

-- ---- literals

same_sign : (a b : Bool) → beq a b ≡ beq b a
same_sign true true = refl
same_sign true false = refl
same_sign false true = refl
same_sign false false = refl

pub same_literal-comm : (l m : Literal) → same_literal l m ≡ same_literal m l
same_literal-comm l m = λ i. eq-comm l.variable m.variable i && same_sign l.positive m.positive i

opposite_sign : (a b : Bool) → beq (not a) b ≡ beq (not b) a
opposite_sign true true = refl
opposite_sign true false = refl
opposite_sign false true = refl
opposite_sign false false = refl

opposite-comm : (l m : Literal) → same_literal (opposite l) m ≡ same_literal (opposite m) l
opposite-comm l m = λ i. eq-comm l.variable m.variable i && opposite_sign l.positive m.positive i

pub has_literal-push : (xs : Clause) (l m : Literal) → has_literal (xs ++ l ∷ []) m ≡ (has_literal xs m || same_literal m l)
has_literal-push xs l m = list_any-append (same_literal m) xs (l ∷ []) ∙ ap (λ b. has_literal xs m || b) (or-false (same_literal m l))

-- ---- a clause with one more literal

or_of_false : (a b : Bool) → b ≡ false → (a || b) ≡ a
or_of_false a b e = ap (λ c. a || c) e ∙ or-false a

-- a clause without repeats, and a literal that it may have
abbrev pub kept_with : Bool → Clause → Literal → Clause
kept_with there kept l = if there then kept else kept ++ l ∷ []

pub without_repeats-push : (xs : Clause) (l : Literal) → without_repeats (xs ++ l ∷ []) ≡ kept_with (has_literal xs l) (without_repeats xs) l
without_repeats-push [] l = refl
without_repeats-push (m ∷ ms) l = ap (λ ks. m ∷ without ks) (without_repeats-push ms l) ∙ by (has_literal ms l)
  where
    without : Clause → Clause
    without ks = filter (λ k. not (same_literal m k)) ks

    last : (same : Bool) → m ∷ without (without_repeats ms) ++ (if not same then l ∷ [] else []) ≡ kept_with same (m ∷ without (without_repeats ms)) l
    last true = ap (λ ks. m ∷ ks) (append-nil (without (without_repeats ms)))
    last false = refl

    by : (there : Bool) → m ∷ without (kept_with there (without_repeats ms) l) ≡ kept_with (same_literal l m || there) (m ∷ without (without_repeats ms)) l
    by true = ap (λ b. kept_with b (m ∷ without (without_repeats ms)) l) (sym (or-true (same_literal l m)))
    by false =
        ap (λ ks. m ∷ ks) (filter-append (λ k. not (same_literal m k)) (without_repeats ms) (l ∷ []))
        ∙ (last (same_literal m l)
        ∙ ap (λ b. kept_with b (m ∷ without (without_repeats ms)) l) (same_literal-comm m l ∙ sym (or-false (same_literal l m))))

-- the literals whose opposite is in a clause with one more literal
opposites-push : (xs : Clause) (l : Literal) (ys : Clause) → list_any (λ m. has_literal (xs ++ l ∷ []) (opposite m)) ys ≡ (list_any (λ m. has_literal xs (opposite m)) ys || has_literal ys (opposite l))
opposites-push xs l [] = refl
opposites-push xs l (m ∷ ms) =
    (λ i. (has_literal-push xs l (opposite m) ∙ ap (λ b. has_literal xs (opposite m) || b) (opposite-comm m l)) i || opposites-push xs l ms i)
    ∙ or_exchange (has_literal xs (opposite m)) (same_literal (opposite l) m) (list_any (λ k. has_literal xs (opposite k)) ms) (has_literal ms (opposite l))

pub is_tautology-push : (xs : Clause) (l : Literal) → is_tautology (xs ++ l ∷ []) ≡ (is_tautology xs || has_literal (xs ++ l ∷ []) (opposite l))
is_tautology-push xs l =
    list_any-append (λ m. has_literal (xs ++ l ∷ []) (opposite m)) xs (l ∷ [])
    ∙ ((λ i. opposites-push xs l xs i || (has_literal (xs ++ l ∷ []) (opposite l) || false))
    ∙ ((λ i. (is_tautology xs || has_literal xs (opposite l)) || (has_literal-push xs l (opposite l) i || false))
    ∙ (again (is_tautology xs) (has_literal xs (opposite l)) (same_literal (opposite l) l)
    ∙ ap (λ b. is_tautology xs || b) (sym (has_literal-push xs l (opposite l))))))
  where
    again : (a b c : Bool) → ((a || b) || ((b || c) || false)) ≡ (a || (b || c))
    again true b c = refl
    again false true c = refl
    again false false true = refl
    again false false false = refl
