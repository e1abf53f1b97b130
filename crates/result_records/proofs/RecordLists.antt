-- What lists of records of one kind count for.
use Rattle.std.proofs.Common.{◌≡◌, ℕ, ◌+◌, Bool, true, false, cond, List, [], ◌∷◌, ◌++◌, map, length, Option, Some, None, refl, ap, ◌∙◌, arith}
use Rattle.std.specs.List.{filter_map, count_by}
use Rattle.std.proofs.lemmas.List.{append-nil}
use Rattle.std.proofs.lemmas.List.Elements.{filter_map-append}
use Rattle.std.proofs.lemmas.List.Sums.{sum_by-cons, sum_by-append}
use Rattle.std.proofs.lemmas.List.Concat.{flat_map-append}
use Rattle.result_records.specs.declared.record.Record.{Record}
use Rattle.result_records.specs.Spelling.{spelling, text_of}

module _ {X : Type 0} (f : X → Record) where
  -- no record is counted if the test fails for all, and all are if it holds for all
  pub count_none : (p : Record → Bool) → ((x : X) → p (f x) ≡ false) → (xs : List X) → count_by p (map f xs) ≡ 0
  count_none p refused [] = refl
  count_none p refused (x ∷ xs) =
      let e : ◌≡◌ {A = ℕ} (cond (p (f x)) 1 0) 0 = ap (λ (b : Bool). cond {A = ℕ} b 1 0) (refused x) in
      omega (arith, e, sum_by-cons (λ r. cond (p r) 1 0) (f x) (map f xs), count_none p refused xs)

  pub count_all : (p : Record → Bool) → ((x : X) → p (f x) ≡ true) → (xs : List X) → count_by p (map f xs) ≡ length xs
  count_all p taken [] = refl
  count_all p taken (x ∷ xs) =
      let e : ◌≡◌ {A = ℕ} (cond (p (f x)) 1 0) 1 = ap (λ (b : Bool). cond {A = ℕ} b 1 0) (taken x) in
      omega (arith, e, sum_by-cons (λ r. cond (p r) 1 0) (f x) (map f xs), count_all p taken xs)

  -- nothing is read if nothing is read from any record, and all is if something is from each
  pub read_none : {Y : Type 0} (h : Record → Option Y) → ((x : X) → h (f x) ≡ None) → (xs : List X) → filter_map h (map f xs) ≡ []
  read_none h refused [] = refl
  read_none h refused (x ∷ xs) = rw (refused x) (read_none h refused xs)

  pub read_all : {Y : Type 0} (h : Record → Option Y) (g : X → Y) → ((x : X) → h (f x) ≡ Some (g x)) → (xs : List X) → filter_map h (map f xs) ≡ map g xs
  read_all {Y} h g taken [] = refl
  read_all {Y} h g taken (x ∷ xs) = rw (taken x) (ap (λ (ys : List Y). g x ∷ ys) (read_all h g taken xs))

  -- the same after other records
  module _ (before : List Record) where
    pub count_kept : (p : Record → Bool) → ((x : X) → p (f x) ≡ false) → (xs : List X) → count_by p (before ++ map f xs) ≡ count_by p before
    count_kept p refused xs = omega (arith, sum_by-append (λ r. cond (p r) 1 0) before (map f xs), count_none p refused xs)

    pub count_more : (p : Record → Bool) → ((x : X) → p (f x) ≡ true) → (xs : List X) → count_by p (before ++ map f xs) ≡ count_by p before + length xs
    count_more p taken xs = omega (arith, sum_by-append (λ r. cond (p r) 1 0) before (map f xs), count_all p taken xs)

    pub read_kept : {Y : Type 0} (h : Record → Option Y) → ((x : X) → h (f x) ≡ None) → (xs : List X) → filter_map h (before ++ map f xs) ≡ filter_map h before
    read_kept {Y} h refused xs =
        filter_map-append h before (map f xs) ∙ ap (λ (ys : List Y). filter_map h before ++ ys) (read_none h refused xs) ∙ append-nil (filter_map h before)

    pub read_more : {Y : Type 0} (h : Record → Option Y) (g : X → Y) → ((x : X) → h (f x) ≡ Some (g x)) → (xs : List X) → filter_map h (before ++ map f xs) ≡ filter_map h before ++ map g xs
    read_more {Y} h g taken xs = filter_map-append h before (map f xs) ∙ ap (λ (ys : List Y). filter_map h before ++ ys) (read_all h g taken xs)

-- the text of records after others
pub text-append : (xs ys : List Record) → text_of (xs ++ ys) ≡ text_of xs ++ text_of ys
text-append xs ys = flat_map-append (λ r. spelling r ++ 10 ∷ []) xs ys
