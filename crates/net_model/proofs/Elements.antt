-- Tests of the elements of a list, and the elements that pass.
use Rattle.std.proofs.Common.{◌≡◌, ◌∙◌, ℕ, zero, suc, ◌≤◌, ◌⊎◌, inl, inr, refl, sym, ap, arith, subst}
use Rattle.std.specs.Prelude.{Bool, true, false, Option, List, [], ◌∷◌, length, map, filter, flat_map, cond, None, is_some, get_or, replicate, slice_get, ◌||◌, ◌==◌, Contains, All, Some, ◌++◌, find}
use Rattle.std.specs.List.{list_all, list_any}
use Rattle.std.proofs.lemmas.Bool.{and_from, and_parts, cases_Bool}
use Rattle.std.proofs.lemmas.Bool.Decides.{nat_tests}
use Rattle.std.proofs.lemmas.List.Elements.{All-contains, All-contains_itself, All-filter, Contains-append_cases, Contains-append_left, Contains-append_right, filter_passes, All-tail}
use Rattle.std.proofs.lemmas.List.Folds.{list_any_at, Any-from_list_any}
use Rattle.std.proofs.lemmas.List.{length-append, get_or_append_left}
use Rattle.std.proofs.lemmas.List.Sums.{length-filter, count_by-le-length}
use Rattle.std.proofs.lemmas.Option.{same_Some}
use Rattle.net_model.specs.Gate.{odd_ones}
use Rattle.net_model.proofs.Copies.{later}

pub true_false : {P : Type 0} (b : Bool) → b ≡ true → b ≡ false → P
true_false b t f = absurd (let e : ◌≡◌ {A = Bool} true false = sym t ∙ f in cc)

pub eq-comm : (m n : ℕ) → (m == n) ≡ (n == m)
eq-comm m n = grind (arith, nat_tests)

pub none_is : {A : Type 0} (o : Option A) → is_some o ≡ false → o ≡ None
none_is None none = refl
none_is (Some x) none = cc

-- ---- elements

pub none_in : {A : Type 0} (x : A) → Contains {X = A} [] x → ⊥
none_in x (k, h, e) = omega (arith, h)

pub first_or_later : {A : Type 0} (y : A) (ys : List A) (x : A) → Contains (y ∷ ys) x → (y ≡ x) ⊎ Contains ys x
first_or_later y ys x (zero, h, e) = inl e
first_or_later y ys x (suc k, h, e) = inr (k, omega (arith, h), e)

-- in a list of one repeated element that element is read at any place, also past the end if it is the default
pub get_or-replicate_anywhere : {A : Type 0} (n k : ℕ) (x : A) → get_or (replicate n x) k x ≡ x
get_or-replicate_anywhere zero k x = refl
get_or-replicate_anywhere (suc n) zero x = refl
get_or-replicate_anywhere (suc n) (suc k) x = get_or-replicate_anywhere n k x

pub slice_get-none : {A : Type 0} (xs : List A) (i : ℕ) → slice_get xs i ≡ None → length xs ≤ i
slice_get-none [] i e = omega arith
slice_get-none (x ∷ xs) zero e = cc
slice_get-none (x ∷ xs) (suc i) e = let h = slice_get-none xs i e in omega (arith, h)

pub Contains-map : {A B : Type 0} (f : A → B) (xs : List A) (x : A) → Contains xs x → Contains (map f xs) (f x)
Contains-map f [] x m = absurd (none_in x m)
Contains-map f (y ∷ ys) x (zero, h, e) = (0, omega arith, ap f e)
Contains-map f (y ∷ ys) x (suc k, h, e) = later (f y) (map f ys) (f x) (Contains-map f ys x (k, omega (arith, h), e))

pub Contains-from_map : {A B : Type 0} (f : A → B) (xs : List A) (y : B) → Contains (map f xs) y → (x : A) × Contains xs x × (f x ≡ y)
Contains-from_map f [] y m = absurd (none_in y m)
Contains-from_map f (x ∷ xs) y m = elim (first_or_later (f x) (map f xs) y m) [
  | inl here ↦ (x, (0, omega arith, refl), here)
  | inr more ↦ let found = Contains-from_map f xs y more in (found.0, later x xs found.0 found.1, found.2)
]

pub Contains-flat_map : {A B : Type 0} (f : A → List B) (xs : List A) (x : A) (y : B) → Contains xs x → Contains (f x) y → Contains (flat_map f xs) y
Contains-flat_map f [] x y m n = absurd (none_in x m)
Contains-flat_map f (z ∷ zs) x y m n = elim (first_or_later z zs x m) [
  | inl here ↦ Contains-append_left (f z) (flat_map f zs) y (subst (λ k. Contains (f k) y) (sym here) n)
  | inr more ↦ Contains-append_right (f z) (flat_map f zs) y (Contains-flat_map f zs x y more n)
]

pub Contains-from_flat_map : {A B : Type 0} (f : A → List B) (xs : List A) (y : B) → Contains (flat_map f xs) y → (x : A) × Contains xs x × Contains (f x) y
Contains-from_flat_map f [] y m = absurd (none_in y m)
Contains-from_flat_map f (x ∷ xs) y m = elim (Contains-append_cases (f x) (flat_map f xs) y m) [
  | inl here ↦ (x, (0, omega arith, refl), here)
  | inr more ↦ let found = Contains-from_flat_map f xs y more in (found.0, later x xs found.0 found.1, found.2)
]

pub odd_one : (bit : Bool) → odd_ones (bit ∷ []) ≡ bit
odd_one true = refl
odd_one false = refl

-- ---- what holds of all elements

pub All-left : {X : Type 0} (P : X → Type 0) (xs ys : List X) → All P (xs ++ ys) → All P xs
All-left P xs ys both k d below = rw (get_or_append_left xs ys d k below) at (both k d (omega (arith, below, length-append xs ys)))

pub All-right : {X : Type 0} (P : X → Type 0) (xs ys : List X) → All P (xs ++ ys) → All P ys
All-right P [] ys a = a
All-right P (x ∷ xs) ys a = All-right P xs ys (All-tail P x (xs ++ ys) a)

-- ---- whether all elements pass

pub all_parts : {X : Type 0} (p : X → Bool) (xs : List X) → list_all p xs ≡ true → (x : X) → Contains xs x → p x ≡ true
all_parts p [] t x (k, h, e) = absurd (omega (arith, h))
all_parts p (y ∷ ys) t x (zero, h, e) = ap p (sym e) ∙ (and_parts (p y) (list_all p ys) t).0
all_parts p (y ∷ ys) t x (suc k, h, e) = all_parts p ys (and_parts (p y) (list_all p ys) t).1 x (k, omega (arith, h), e)

pub all_from : {X : Type 0} (p : X → Bool) (xs : List X) → ((x : X) → Contains xs x → p x ≡ true) → list_all p xs ≡ true
all_from p [] h = refl
all_from p (y ∷ ys) h = and_from (p y) (list_all p ys) (h y (0, omega arith, refl)) (all_from p ys (λ x m. h x (later y ys x m)))

-- ---- whether some element passes

pub any_from : {A : Type 0} (test : A → Bool) (xs : List A) (x : A) → Contains xs x → test x ≡ true → list_any test xs ≡ true
any_from test xs x m t = list_any_at test xs m.0 x m.1 (ap test m.2 ∙ t)

-- an element that passes
pub passing : {A : Type 0} (test : A → Bool) (xs : List A) → list_any test xs ≡ true → (x : A) × Contains xs x × (test x ≡ true)
passing test xs t = let w = Any-from_list_any test xs t in (w.1, (w.0, w.2, w.3), w.4)

-- two tests that agree on the elements
pub same_any : {A : Type 0} (test other : A → Bool) (xs : List A) → ((x : A) → Contains xs x → test x ≡ other x) → list_any test xs ≡ list_any other xs
same_any test other [] h = refl
same_any test other (x ∷ xs) h = λ i. h x (0, omega arith, refl) i || same_any test other xs (λ y m. h y (later x xs y m)) i

-- what is found passes
pub found_passes : {X : Type 0} (p : X → Bool) (xs : List X) (x : X) → find p xs ≡ Some x → p x ≡ true
found_passes p [] x e = absurd (cc)
found_passes p (y ∷ ys) x e = elim (cases_Bool (p y)) [
  | inl so ↦ subst (λ z. p z ≡ true) (same_Some y x (sym (ap (λ b. cond b (Some y) (find p ys)) so) ∙ e)) so
  | inr not_so ↦ found_passes p ys x (sym (ap (λ b. cond b (Some y) (find p ys)) not_so) ∙ e)
]

-- ---- the elements that pass

cond_later : {A : Type 0} (b : Bool) (y : A) (ys : List A) (x : A) → Contains ys x → Contains (cond b (y ∷ ys) ys) x
cond_later true y ys x m = later y ys x m
cond_later false y ys x m = m

pub Contains-filter : {A : Type 0} (test : A → Bool) (xs : List A) (x : A) → Contains xs x → test x ≡ true → Contains (filter test xs) x
Contains-filter test [] x (k, h, e) t = absurd (omega (arith, h))
Contains-filter test (y ∷ ys) x (zero, h, e) t = let here : test y ≡ true = ap test e ∙ t in rw here (0, omega arith, e)
Contains-filter test (y ∷ ys) x (suc k, h, e) t = cond_later (test y) y (filter test ys) x (Contains-filter test ys x (k, omega (arith, h), e) t)

pub Contains-from_filter : {A : Type 0} (test : A → Bool) (xs : List A) (x : A) → Contains (filter test xs) x → Contains xs x × (test x ≡ true)
Contains-from_filter test xs x m = (
  All-contains (Contains xs) (filter test xs) x (All-filter test (Contains xs) xs (All-contains_itself xs)) m,
  All-contains (λ y. test y ≡ true) (filter test xs) x (filter_passes test xs) m,
)

-- at most as many pass as there are
pub length-filter-le : {A : Type 0} (test : A → Bool) (xs : List A) → length (filter test xs) ≤ length xs
length-filter-le test xs = omega (arith, length-filter test xs, count_by-le-length test xs)
