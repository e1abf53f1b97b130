-- Which number comes next for evidence.
use Rattle.std.proofs.Common.{◌≡◌, ℕ, zero, suc, ◌+◌, ◌<◌, ◌≤◌, Bool, true, false, cond, List, [], ◌∷◌, length, Option, Some, None, refl, ap, ap₂, ◌∙◌, inl, inr, arith}
use Rattle.std.specs.Prelude.{is_none, unwrap_or}
use Rattle.std.specs.List.{find, range_with_len, slice_get}
use Rattle.std.proofs.lemmas.Bool.{cases_lt}
use Rattle.net_model.specs.ClassTable.{ClassTable}
use Rattle.result_records.specs.declared.record.Evidence.{Evidence}
use Rattle.result_records.specs.Marks.{number_mark, next_member}

-- the first number of a range that passes; none before it does
pub find_lowest : (p : ℕ → Bool) (a k n : ℕ) → a ≤ n → n < a + k → ((m : ℕ) → a ≤ m → m < n → p m ≡ false) → p n ≡ true → find p (range_with_len a k) ≡ Some n
find_lowest p a zero n low high before here = absurd (omega arith)
find_lowest p a (suc k) n low high before here = elim (cases_lt a n) [
  | inl less ↦ rw (before a (omega arith) less) (find_lowest p (a + 1) k n (omega arith) (omega arith) (λ m h. before m (omega arith)) here)
  | inr most ↦
      let e : a ≡ n = omega arith in
      let now : p a ≡ true = ap p e ∙ here in
      rw now (ap Some e)
]

pub find_none : (p : ℕ → Bool) (a k : ℕ) → ((m : ℕ) → a ≤ m → m < a + k → p m ≡ false) → find p (range_with_len a k) ≡ None
find_none p a zero refused = refl
find_none p a (suc k) refused = rw (refused a (omega arith) (omega arith)) (find_none p (a + 1) k (λ m low high. refused m (omega arith) (omega arith)))

module _ (t : ClassTable) (evidence : List Evidence) where
  -- the number is marked, or is a representative
  abbrev pub IsSettled : ℕ → Type 0
  IsSettled n = is_none (number_mark t evidence n) ≡ false

  pub next_is : (n : ℕ) → n < length t.class_of → ((m : ℕ) → m < n → IsSettled m) → number_mark t evidence n ≡ None → next_member t evidence ≡ Some n
  unfolding next_member
  next_is n below before here = find_lowest (λ m. is_none (number_mark t evidence m)) 0 (length t.class_of) n (omega arith) (omega arith) (λ m low. before m) (ap is_none here)

  pub none_next : ((m : ℕ) → m < length t.class_of → IsSettled m) → next_member t evidence ≡ None
  unfolding next_member
  none_next all = find_none (λ m. is_none (number_mark t evidence m)) 0 (length t.class_of) (λ m low high. all m (omega arith))

found_by : (b : Bool) (a : ℕ) (rest : Option ℕ) (d bound : ℕ) → a < bound → unwrap_or rest d < bound → unwrap_or (cond b (Some a) rest) d < bound
found_by true a rest d bound here there = here
found_by false a rest d bound here there = there

found_by_place : {X : Type 0} (b : Bool) (y : X) (rest : Option X) (xs : List X) (x : X) → cond b (Some y) rest ≡ Some x → (rest ≡ Some x → (at : ℕ) × (slice_get xs at ≡ Some x)) → (at : ℕ) × (slice_get (y ∷ xs) at ≡ Some x)
found_by_place true y rest xs x found later = (0, found)
found_by_place false y rest xs x found later = let there = later found in (suc there.0, there.1)

-- what is found in a range is in it
pub found_within : (p : ℕ → Bool) (a k d bound : ℕ) → d < bound → a + k ≤ bound → unwrap_or (find p (range_with_len a k)) d < bound
found_within p a zero d bound low high = low
found_within p a (suc k) d bound low high = found_by (p a) a (find p (range_with_len (a + 1) k)) d bound (omega arith) (found_within p (a + 1) k d bound low (omega arith))

-- what is found in a list has a place there
pub found_at : {X : Type 0} (p : X → Bool) (xs : List X) (x : X) → find p xs ≡ Some x → (at : ℕ) × (slice_get xs at ≡ Some x)
found_at p [] x found = absurd (cc)
found_at p (y ∷ xs) x found = found_by_place (p y) y (find p xs) xs x found (found_at p xs x)

first_found : (b : Bool) (a : ℕ) (rest : Option ℕ) → (x : ℕ) × (rest ≡ Some x) → (x : ℕ) × (cond b (Some a) rest ≡ Some x)
first_found true a rest found = (a, refl)
first_found false a rest found = found

-- something is found in a range that has a number which passes
pub find_some : (p : ℕ → Bool) (a k n : ℕ) → a ≤ n → n < a + k → p n ≡ true → (x : ℕ) × (find p (range_with_len a k) ≡ Some x)
find_some p a zero n low high here = absurd (omega arith)
find_some p a (suc k) n low high here = elim (cases_lt a n) [
  | inl less ↦ first_found (p a) a (find p (range_with_len (a + 1) k)) (find_some p (a + 1) k n (omega arith) (omega arith) here)
  | inr most ↦
      let e : a ≡ n = omega arith in
      (a, ap (λ (b : Bool). cond b (Some a) (find p (range_with_len (a + 1) k))) (ap p e ∙ here))
]

-- tests that agree on a range find the same
pub find_same : (p q : ℕ → Bool) (a k : ℕ) → ((m : ℕ) → a ≤ m → m < a + k → p m ≡ q m) → find p (range_with_len a k) ≡ find q (range_with_len a k)
find_same p q a zero same = refl
find_same p q a (suc k) same =
    ap₂ (λ (b : Bool) (rest : Option ℕ). cond b (Some a) rest) (same a (omega arith) (omega arith)) (find_same p q (a + 1) k (λ m low high. same m (omega arith) (omega arith)))
