-- A partial log has one list of suspects.
use Rattle.std.proofs.Common.{◌≡◌, ◌∙◌, ℕ, zero, suc, ◌+◌, ◌<◌, ◌≤◌, ◌⊎◌, Bool, true, false, cond, List, [], ◌∷◌, get_or, refl, sym, ap, ap₂, subst, arith, inl, inr}
use Rattle.std.specs.Prelude.{sum_by, nat_lt, ◌==◌, All, map, take, insert, IsPermutation}
use Rattle.std.specs.List.{AllByRecursion}
use Rattle.std.specs.List.Sorted.{IsSorted}
use Rattle.std.specs.Cmp.{IsStrictWeakOrder}
use Rattle.std.specs.Ordering.{is_lt, ordering_then}
use Rattle.std.specs.declared.cmp.Ordering.TheVariants.{Less, Equal, Greater}
use Rattle.std.proofs.lemmas.Bool.{cases_lt, cases_eq, ltb-false, ltb-true, eqb-true, eq-eqb}
use Rattle.std.proofs.lemmas.List.Sums.{sum_by-cons}
use Rattle.std.proofs.lemmas.List.Sorted.{sum_by-IsPermutation, All-permutation, IsPermutation-refl, IsPermutation-trans, IsPermutation-cons, IsPermutation-insert}
use Rattle.std.proofs.lemmas.List.Elements.{All-head, All-tail, All-map, All-filter}
use Rattle.net_model.specs.ClassTable.{ClassTable}
use Rattle.dict_rows.specs.AnswerTable.{Answers}
use Rattle.ranked_diag.specs.PartialLog.{Line}
use Rattle.suspect_scores.specs.declared.suspect.Suspect.{Suspect}
use Rattle.suspect_scores.specs.Listed.{representatives, suspect_of, hitting, unlike_bits, suspect_cmp, AreRanked}
use Rattle.suspect_scores.specs.Laws.{HaveOneListing}

-- ---- the order

-- A suspect isn't after another.
abbrev pub IsAtMost : Suspect → Suspect → Type 0
IsAtMost a b = (b.explained < a.explained) ⊎ ((a.explained ≡ b.explained) × ((unlike_bits a < unlike_bits b) ⊎ ((unlike_bits a ≡ unlike_bits b) × (a.number ≤ b.number))))

abbrev compared : Bool → Bool → Bool → Bool → Bool → Bool → Bool
compared p q r s u v = is_lt (ordering_then (cond p Less (cond q Equal Greater)) (ordering_then (cond r Less (cond s Equal Greater)) (cond u Less (cond v Equal Greater))))

tests_say : (p q r s u v : Bool) → compared p q r s u v ≡ false → (p ≡ false) × (q ≡ true → (r ≡ false) × (s ≡ true → u ≡ false))
tests_say true q r s u v e = let clash : ◌≡◌ {A = Bool} true false = e in absurd (cc)
tests_say false true true s u v e = let clash : ◌≡◌ {A = Bool} true false = e in absurd (cc)
tests_say false true false true true v e = let clash : ◌≡◌ {A = Bool} true false = e in absurd (cc)
tests_say false true false true false v e = (refl, λ same. (refl, λ also. refl))
tests_say false true false false u v e = (refl, λ same. (refl, λ also. absurd (cc)))
tests_say false false r s u v e = (refl, λ same. absurd (cc))

tests_tell : (p q r s u v : Bool) → compared p q r s u v ≡ true → (p ≡ true) ⊎ ((q ≡ true) × ((r ≡ true) ⊎ ((s ≡ true) × (u ≡ true))))
tests_tell true q r s u v e = inl refl
tests_tell false true true s u v e = inr (refl, inl refl)
tests_tell false true false true true v e = inr (refl, inr (refl, refl))
tests_tell false true false true false true e = let clash : ◌≡◌ {A = Bool} false true = e in absurd (cc)
tests_tell false true false true false false e = let clash : ◌≡◌ {A = Bool} false true = e in absurd (cc)
tests_tell false true false false u v e = let clash : ◌≡◌ {A = Bool} false true = e in absurd (cc)
tests_tell false false r s u v e = let clash : ◌≡◌ {A = Bool} false true = e in absurd (cc)

-- of two numbers one is lower, or they are the same
pub lower_or_same : (a b : ℕ) → a ≤ b → (a < b) ⊎ (a ≡ b)
lower_or_same a b le = elim (cases_eq a b) [
  | inl same ↦ inr same
  | inr other ↦ elim (cases_lt a b) [ inl lt ↦ inl lt | inr ge ↦ absurd (other (omega (arith, le, ge))) ]
]

pub at_most : (a b : Suspect) → is_lt (suspect_cmp b a) ≡ false → IsAtMost a b
at_most a b e =
    let told = tests_say (nat_lt a.explained b.explained) (a.explained == b.explained) (nat_lt (unlike_bits b) (unlike_bits a)) (unlike_bits b == unlike_bits a) (nat_lt b.number a.number) (b.number == a.number) e in
    elim (lower_or_same b.explained a.explained (ltb-false a.explained b.explained told.0)) [
      | inl lt ↦ inl lt
      | inr same ↦
          let next = told.1 (eq-eqb a.explained b.explained (sym same)) in
          inr (
            sym same,
            elim (lower_or_same (unlike_bits a) (unlike_bits b) (ltb-false (unlike_bits b) (unlike_bits a) next.0)) [
              | inl lt ↦ inl lt
              | inr alike ↦ inr (alike, ltb-false b.number a.number (next.1 (eq-eqb (unlike_bits b) (unlike_bits a) (sym alike))))
            ],
          )
    ]

stands_before : (a b : Suspect) → is_lt (suspect_cmp a b) ≡ true → (b.explained < a.explained) ⊎ ((b.explained ≡ a.explained) × ((unlike_bits a < unlike_bits b) ⊎ ((unlike_bits a ≡ unlike_bits b) × (a.number < b.number))))
stands_before a b e =
    elim (tests_tell (nat_lt b.explained a.explained) (b.explained == a.explained) (nat_lt (unlike_bits a) (unlike_bits b)) (unlike_bits a == unlike_bits b) (nat_lt a.number b.number) (a.number == b.number) e) [
      | inl lt ↦ inl (ltb-true b.explained a.explained lt)
      | inr (same, more) ↦ inr (
        eqb-true b.explained a.explained same,
        elim more [
          | inl lt ↦ inl (ltb-true (unlike_bits a) (unlike_bits b) lt)
          | inr (alike, lower) ↦ inr (eqb-true (unlike_bits a) (unlike_bits b) alike, ltb-true a.number b.number lower)
        ],
      )
    ]

-- if one comes before another, the other doesn't come before it
not_before : (a b : Suspect) → is_lt (suspect_cmp a b) ≡ true → is_lt (suspect_cmp b a) ≡ false
not_before a b e = by (is_lt (suspect_cmp b a)) refl
  where
    by : (c : Bool) → is_lt (suspect_cmp b a) ≡ c → c ≡ false
    by false is = refl
    by true is = grind (arith, stands_before a b e, stands_before b a is)

-- nor does it if it is at most that
not_behind : (a b : Suspect) → IsAtMost a b → is_lt (suspect_cmp b a) ≡ false
not_behind a b low = by (is_lt (suspect_cmp b a)) refl
  where
    by : (c : Bool) → is_lt (suspect_cmp b a) ≡ c → c ≡ false
    by false is = refl
    by true is = grind (arith, low, stands_before b a is)

chain : (a b d : Suspect) → IsAtMost a b → IsAtMost b d → IsAtMost a d
chain a b d (inl x) (inl y) = inl (omega (arith, x, y))
chain a b d (inl x) (inr y) = inl (omega (arith, x, y.0))
chain a b d (inr x) (inl y) = inl (omega (arith, x.0, y))
chain a b d (inr (same, inl x)) (inr (also, inl y)) = inr (same ∙ also, inl (omega (arith, x, y)))
chain a b d (inr (same, inl x)) (inr (also, inr y)) = inr (same ∙ also, inl (omega (arith, x, y.0)))
chain a b d (inr (same, inr x)) (inr (also, inl y)) = inr (same ∙ also, inl (omega (arith, x.0, y)))
chain a b d (inr (same, inr x)) (inr (also, inr y)) = inr (same ∙ also, inr (x.0 ∙ y.0, omega (arith, x.1, y.1)))

pub suspects_rank : IsStrictWeakOrder (λ a b. is_lt (suspect_cmp a b))
suspects_rank = record { one_way = not_before; chain = λ a b d low next. not_behind d a (chain d b a (at_most d b next) (at_most b a low)) }

pub both_ways : (a b : Suspect) → IsAtMost a b → IsAtMost b a → a.number ≡ b.number
both_ways a b (inl x) (inl y) = absurd (omega (arith, x, y))
both_ways a b (inl x) (inr y) = absurd (omega (arith, x, y.0))
both_ways a b (inr x) (inl y) = absurd (omega (arith, x.0, y))
both_ways a b (inr (same, inl x)) (inr (also, inl y)) = absurd (omega (arith, x, y))
both_ways a b (inr (same, inl x)) (inr (also, inr y)) = absurd (omega (arith, x, y.0))
both_ways a b (inr (same, inr x)) (inr (also, inl y)) = absurd (omega (arith, x.0, y))
both_ways a b (inr (same, inr x)) (inr (also, inr y)) = omega (arith, x.1, y.1)

-- ---- suspects in order

-- The first suspect is at most each other, and so on.
abbrev pub AreRising : List Suspect → Type 0
AreRising [] = Unit {0}
AreRising (x ∷ xs) = AllByRecursion (IsAtMost x) xs × AreRising xs

through : (x y : Suspect) (xs : List Suspect) → IsAtMost x y → AllByRecursion (IsAtMost y) xs → AllByRecursion (IsAtMost x) xs
through x y [] low all = tt
through x y (z ∷ xs) low all = (chain x y z low all.0, through x y xs low all.1)

pub rising : (xs : List Suspect) → IsSorted suspect_cmp xs → AreRising xs
rising [] sorted = tt
rising (x ∷ []) sorted = (tt, tt)
rising (x ∷ y ∷ xs) sorted =
    let first : IsAtMost x y = at_most x y (sorted 0 x (omega arith) (omega arith)) in
    let rest : AreRising (y ∷ xs) = rising (y ∷ xs) (λ k d low high.
    let next : suc k + 1 ≡ suc (k + 1) = omega arith in
    subst (λ (n : ℕ). is_lt (suspect_cmp (get_or (x ∷ y ∷ xs) n d) (get_or (x ∷ y ∷ xs) (suc k) d)) ≡ false) next (sorted (suc k) d (omega arith) (omega (arith, high)))) in
    ((first, through x y xs first rest.0), rest)

-- ---- suspects that are those of their numbers

-- whether a suspect has a number, as a count
abbrev one_of : ℕ → Suspect → ℕ
one_of n z = cond (z.number == n) 1 0

module _ (own : ℕ → Suspect) where
  -- The suspect is that of its number.
  abbrev pub IsOwn : Suspect → Type 0
  IsOwn z = z ≡ own z.number

  same_own : (x z : Suspect) → IsOwn x → IsOwn z → z.number ≡ x.number → z ≡ x
  same_own x z is also e = also ∙ (ap own e ∙ sym is)

  -- what is true of each of some suspects is true of one whose number is among theirs
  standing_step : (Q : Suspect → Type 0) (x z : Suspect) (zs : List Suspect) (b : Bool) → IsOwn x → IsOwn z → (z.number == x.number) ≡ b → Q z → 0 < sum_by (one_of x.number) (z ∷ zs) → (0 < sum_by (one_of x.number) zs → Q x) → Q x
  standing_step Q x z zs true is also e here some rest = subst Q (same_own x z is also (eqb-true z.number x.number e)) here
  standing_step Q x z zs false is also e here some rest =
      let none : ◌≡◌ {A = ℕ} (one_of x.number z) 0 = ap (λ (b : Bool). cond {A = ℕ} b 1 0) e in
      rest (omega (arith, some, none, sum_by-cons (one_of x.number) z zs))

  standing : (Q : Suspect → Type 0) (x : Suspect) (zs : List Suspect) → IsOwn x → All IsOwn zs → AllByRecursion Q zs → 0 < sum_by (one_of x.number) zs → Q x
  standing Q x [] is own_all all some = absurd (omega (arith, some))
  standing Q x (z ∷ zs) is own_all all some =
      standing_step Q x z zs (z.number == x.number) is (All-head IsOwn z zs own_all) refl all.0 some (λ more. standing Q x zs is (All-tail IsOwn z zs own_all) all.1 more)

  first_counts : (x : Suspect) (xs : List Suspect) → 0 < sum_by (one_of x.number) (x ∷ xs)
  first_counts x xs = let one : ◌≡◌ {A = ℕ} (one_of x.number x) 1 = ap (λ (b : Bool). cond {A = ℕ} b 1 0) (eq-eqb x.number x.number refl) in omega (arith, one, sum_by-cons (one_of x.number) x xs)

  first_low : (y x : Suspect) (ys : List Suspect) → IsOwn x → All IsOwn (y ∷ ys) → AreRising (y ∷ ys) → 0 < sum_by (one_of x.number) (y ∷ ys) → IsAtMost y x
  first_low y x ys is own_all all some = standing (IsAtMost y) x (y ∷ ys) is own_all (inr (refl, inr (refl, omega arith)), all.0) some

  rising_once : (xs ys : List Suspect) → All IsOwn xs → All IsOwn ys → AreRising xs → AreRising ys → ((f : Suspect → ℕ) → sum_by f xs ≡ sum_by f ys) → xs ≡ ys
  rising_once [] [] a b first second same = refl
  rising_once [] (y ∷ ys) a b first second same = absurd (omega (arith, same (λ z. 1), sum_by-cons (λ (z : Suspect). 1) y ys))
  rising_once (x ∷ xs) [] a b first second same = absurd (omega (arith, same (λ z. 1), sum_by-cons (λ (z : Suspect). 1) x xs))
  rising_once (x ∷ xs) (y ∷ ys) a b first second same =
      let is = All-head IsOwn x xs a in
      let also = All-head IsOwn y ys b in
      let low = first_low y x ys is b second (omega (arith, first_counts x xs, same (one_of x.number))) in
      let high = first_low x y xs also a first (omega (arith, first_counts y ys, same (one_of y.number))) in
      let head : x ≡ y = same_own y x also is (both_ways x y high low) in
      ap₂ (λ (z : Suspect) (zs : List Suspect). z ∷ zs) head
      (rising_once xs ys (All-tail IsOwn x xs a) (All-tail IsOwn y ys b) first.1 second.1 (λ f. let e : f x ≡ f y = ap f head in omega (arith, same f, e, sum_by-cons f x xs, sum_by-cons f y ys)))

pub hitting_own : (t : ClassTable) (table : Answers) (lines : List Line) → All (IsOwn (suspect_of table lines)) (hitting t table lines)
unfolding hitting suspect_of
hitting_own t table lines =
    All-filter (λ (suspect : Suspect). nat_lt 0 suspect.hit_bits) (IsOwn (suspect_of table lines)) (map (suspect_of table lines) (representatives t))
    (All-map (IsOwn (suspect_of table lines)) (suspect_of table lines) (representatives t) (λ k d h. refl))

pub ranked_own : (t : ClassTable) (table : Answers) (lines : List Line) (ranked : List Suspect) → AreRanked t table lines ranked → All (IsOwn (suspect_of table lines)) ranked
ranked_own t table lines ranked are = All-permutation (IsOwn (suspect_of table lines)) (hitting t table lines) ranked are.exactly (hitting_own t table lines)

ranked_once : (t : ClassTable) (table : Answers) (lines : List Line) (ranked others : List Suspect) → AreRanked t table lines ranked → AreRanked t table lines others → ranked ≡ others
ranked_once t table lines ranked others are also =
    rising_once (suspect_of table lines) ranked others (ranked_own t table lines ranked are) (ranked_own t table lines others also) (rising ranked are.ascend) (rising others also.ascend)
    (λ f. sum_by-IsPermutation f (hitting t table lines) ranked are.exactly ∙ sym (sum_by-IsPermutation f (hitting t table lines) others also.exactly))

-- ---- some order

-- No suspect comes before the one listed before it.
abbrev IsUp : List Suspect → Type 0
IsUp [] = Unit {0}
IsUp (x ∷ []) = Unit {0}
IsUp (x ∷ y ∷ xs) = (is_lt (suspect_cmp y x) ≡ false) × IsUp (y ∷ xs)

up_sorted : (xs : List Suspect) → IsUp xs → IsSorted suspect_cmp xs
up_sorted [] up = λ k d low high. absurd (omega (arith, high))
up_sorted (x ∷ []) up = λ k d low high. absurd (omega (arith, high))
up_sorted (x ∷ y ∷ xs) up = at up.0 (up_sorted (y ∷ xs) up.1)
  where
    at : is_lt (suspect_cmp y x) ≡ false → IsSorted suspect_cmp (y ∷ xs) → IsSorted suspect_cmp (x ∷ y ∷ xs)
    at first rest zero d low high = first
    at first rest (suc k) d low high =
        let next : suc k + 1 ≡ suc (k + 1) = omega arith in
        subst (λ (n : ℕ). is_lt (suspect_cmp (get_or (x ∷ y ∷ xs) n d) (get_or (x ∷ y ∷ xs) (suc k) d)) ≡ false) (sym next) (rest k d (omega arith) (omega (arith, high)))

-- there is a place for one more
place_in : (y : Suspect) (xs : List Suspect) → IsUp xs → (i : ℕ) × IsUp (insert xs i y)
place_in y [] up = (0, tt)
place_in y (x ∷ []) up = by (is_lt (suspect_cmp y x)) refl
  where
    by : (b : Bool) → is_lt (suspect_cmp y x) ≡ b → (i : ℕ) × IsUp (insert (x ∷ []) i y)
    by true e = (0, (not_before y x e, tt))
    by false e = (1, (e, tt))
place_in y (x ∷ z ∷ zs) up = by (is_lt (suspect_cmp y x)) refl (place_in y (z ∷ zs) up.1)
  where
    behind : is_lt (suspect_cmp y x) ≡ false → (i : ℕ) → IsUp (insert (z ∷ zs) i y) → IsUp (insert (x ∷ z ∷ zs) (suc i) y)
    behind e zero rest = (e, rest)
    behind e (suc i) rest = (up.0, rest)

    by : (b : Bool) → is_lt (suspect_cmp y x) ≡ b → (i : ℕ) × IsUp (insert (z ∷ zs) i y) → (i : ℕ) × IsUp (insert (x ∷ z ∷ zs) i y)
    by true e rest = (0, (not_before y x e, up))
    by false e rest = (suc rest.0, behind e rest.0 rest.1)

some_up : (xs : List Suspect) → (ys : List Suspect) × IsPermutation xs ys × IsUp ys
some_up [] = ([], IsPermutation-refl [], tt)
some_up (x ∷ xs) =
    let rest = some_up xs in
    let place = place_in x rest.0 rest.2 in
    (insert rest.0 place.0 x, IsPermutation-trans (x ∷ xs) (x ∷ rest.0) (insert rest.0 place.0 x) (IsPermutation-cons x xs rest.0 rest.1) (IsPermutation-insert rest.0 place.0 x), place.1)

pub have_one_listing : HaveOneListing
have_one_listing t table lines most =
    let some = some_up (hitting t table lines) in
    let are : AreRanked t table lines some.0 = record { exactly = some.1; ascend = up_sorted some.0 some.2 } in
    (take most some.0, record { ranked = some.0; are = are; first = refl }, λ other is. is.first ∙ ap (take most) (ranked_once t table lines is.ranked some.0 is.are are))
