-- Places of names among names, and of keys of a set.
use Rattle.std.proofs.Common.{◌≡◌, ◌∙◌, ℕ, suc, ◌+◌, ◌<◌, Bool, true, false, List, [], ◌∷◌, ◌++◌, length, refl, ap, sym, arith, one-add, Some, None}
use Rattle.std.specs.Prelude.{map, Vec, not, ◌||◌, position, nat_lt, unwrap_or, if◌then◌else◌}
use Rattle.std.specs.List.{list_any, position_or_len}
use Rattle.std.specs.Str.{bytes_eq}
use Rattle.std.specs.declared.alloc.Global.{Global}
use Rattle.std.proofs.lemmas.Bool.Decides.{nat_tests}
use Rattle.text_fields.specs.Fields.{Text}
use Rattle.bench_reader.specs.Numbering.{is_one_of}

abbrev pub text_of : Vec ℕ Global → Text
text_of v = v.items

-- a place is found exactly if some item passes
pub found : {X : Type 0} (p : X → Bool) (xs : List X) → list_any p xs ≡ nat_lt (position_or_len p xs) (length xs)
found p [] = refl
found p (x ∷ xs) = by (p x) (found p xs)
  where
    by : (b : Bool) → list_any p xs ≡ nat_lt (position_or_len p xs) (length xs) → (b || list_any p xs) ≡ nat_lt (if not b then 1 + position_or_len p xs else 0) (length (x ∷ xs))
    by true e = grind (arith, nat_tests)
    by false e = e ∙ grind (arith, nat_tests)

position_mapped : (name : Text) (ks : List (Vec ℕ Global)) → position_or_len (λ (k : Vec ℕ Global). bytes_eq name k.items) ks ≡ position_or_len (bytes_eq name) (map text_of ks)
position_mapped name [] = refl
position_mapped name (k ∷ ks) = ap (λ (n : ℕ). if not (bytes_eq name k.items) then 1 + n else 0) (position_mapped name ks)

any_mapped : (name : Text) (ks : List (Vec ℕ Global)) → list_any (λ (k : Vec ℕ Global). bytes_eq name k.items) ks ≡ list_any (λ (s : Text). bytes_eq name s) (map text_of ks)
any_mapped name [] = refl
any_mapped name (k ∷ ks) = ap (λ (b : Bool). bytes_eq name k.items || b) (any_mapped name ks)

pub number_is : (name : Text) (ks : List (Vec ℕ Global)) → position (λ (k : Vec ℕ Global). bytes_eq name k.items) ks ≡ (if is_one_of (map text_of ks) name then Some (position_or_len (bytes_eq name) (map text_of ks)) else None)
number_is name ks =
    ap (λ (b : Bool). if b then Some (position_or_len (λ (k : Vec ℕ Global). bytes_eq name k.items) ks) else None) (sym (found (λ (k : Vec ℕ Global). bytes_eq name k.items) ks) ∙ any_mapped name ks)
    ∙ ap (λ (n : ℕ). if is_one_of (map text_of ks) name then Some n else None) (position_mapped name ks)

pushed : (ks : List (Vec ℕ Global)) (k : Vec ℕ Global) → map text_of (ks ++ k ∷ []) ≡ map text_of ks ++ text_of k ∷ []
pushed [] k = refl
pushed (x ∷ ks) k = ap (λ (r : List Text). text_of x ∷ r) (pushed ks k)

pub added : (ks : List (Vec ℕ Global)) (k : Vec ℕ Global) → is_one_of (map text_of ks) k.items ≡ false
    → map text_of (if list_any (λ (x : Vec ℕ Global). bytes_eq k.items x.items) ks then ks else ks ++ k ∷ []) ≡ map text_of ks ++ text_of k ∷ []
added ks k e = rw (any_mapped k.items ks, e) (pushed ks k)

-- ---- numbers that stay

pub number_stays : {X : Type 0} (p : X → Bool) (xs ys : List X) → list_any p xs ≡ true → (position_or_len p (xs ++ ys) ≡ position_or_len p xs) × (list_any p (xs ++ ys) ≡ true)
number_stays p [] ys e = cc
number_stays p (x ∷ xs) ys e = by (p x) (number_stays p xs ys) e
  where
    by : (b : Bool) → (list_any p xs ≡ true → (position_or_len p (xs ++ ys) ≡ position_or_len p xs) × (list_any p (xs ++ ys) ≡ true)) → (b || list_any p xs) ≡ true → ((if not b then 1 + position_or_len p (xs ++ ys) else 0) ≡ (if not b then 1 + position_or_len p xs else 0)) × ((b || list_any p (xs ++ ys)) ≡ true)
    by true more e = (refl, refl)
    by false more e = let h = more e in (ap (λ (n : ℕ). 1 + n) h.0, h.1)

pub number_is_new : (p : Text → Bool) (xs : List Text) (y : Text) → list_any p xs ≡ false → p y ≡ true
    → (position_or_len p (xs ++ y ∷ []) ≡ length xs) × (position_or_len p xs ≡ length xs) × (list_any p (xs ++ y ∷ []) ≡ true)
number_is_new p [] y e h = (rw h refl, refl, rw h refl)
number_is_new p (x ∷ xs) y e h = by (p x) (λ f. number_is_new p xs y f h) e
  where
    by : (b : Bool) → (list_any p xs ≡ false → (position_or_len p (xs ++ y ∷ []) ≡ length xs) × (position_or_len p xs ≡ length xs) × (list_any p (xs ++ y ∷ []) ≡ true)) → (b || list_any p xs) ≡ false → ((if not b then 1 + position_or_len p (xs ++ y ∷ []) else 0) ≡ length (x ∷ xs)) × ((if not b then 1 + position_or_len p xs else 0) ≡ length (x ∷ xs)) × ((b || list_any p (xs ++ y ∷ [])) ≡ true)
    by true more e = cc
    by false more e = let h = more e in (rw (h.0, one-add) refl, rw (h.1, one-add) refl, h.2)

-- the place of an item that is in a list
pub placed : {X : Type 0} (p : X → Bool) (xs : List X) → list_any p xs ≡ true → (unwrap_or (position p xs) 0 ≡ position_or_len p xs) × (position_or_len p xs < length xs)
placed p xs e =
    let t : nat_lt (position_or_len p xs) (length xs) ≡ true = sym (found p xs) ∙ e in
    (ap (λ (b : Bool). unwrap_or (if b then Some (position_or_len p xs) else None) 0) t, grind (arith, nat_tests))

-- ---- a look-up that found something, or nothing

pub is_known : {A : Type 0} (b : Bool) (x y : A) → Some x ≡ (if b then Some y else None) → (b ≡ true) × (x ≡ y)
is_known true x y e = (refl, cc)
is_known false x y e = cc

pub is_unknown : {A : Type 0} (b : Bool) (y : A) → None ≡ (if b then Some y else None) → b ≡ false
is_unknown true y e = cc
is_unknown false y e = refl

pub length_mapped : (ks : List (Vec ℕ Global)) → length (map text_of ks) ≡ length ks
length_mapped [] = refl
length_mapped (k ∷ ks) = ap suc (length_mapped ks)

pub all_before : (p : Text → Bool) (xs : List Text) → list_any p xs ≡ false → position_or_len p xs ≡ length xs
all_before p [] e = refl
all_before p (x ∷ xs) e = by (p x) (all_before p xs) e
  where
    by : (b : Bool) → (list_any p xs ≡ false → position_or_len p xs ≡ length xs) → (b || list_any p xs) ≡ false → (if not b then 1 + position_or_len p xs else 0) ≡ length (x ∷ xs)
    by true more e = cc
    by false more e = rw (more e, one-add) refl
