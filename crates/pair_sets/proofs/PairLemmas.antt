-- Which pairs are in a set: in an image, in what a gate gives, and in a set with values put in.
use Rattle.std.proofs.Common.{◌≡◌, refl, sym, ◌∙◌, arith, subst, inl, inr}
use Rattle.std.specs.Prelude.{Bool, true, false, List, [], ◌∷◌, map, Option, unwrap_or, Contains}
use Rattle.std.specs.Bool.{beq}
use Rattle.std.specs.List.{list_any, AllZip}
use Rattle.std.specs.Cmp.{both_ways, booleans_Decides}
use Rattle.std.proofs.lemmas.Bool.{and_parts}
use Rattle.net_model.proofs.Elements.{none_in, first_or_later, any_from, passing, Contains-filter, Contains-from_filter, Contains-map, Contains-from_map, Contains-flat_map, Contains-from_flat_map}
use Rattle.pair_sets.specs.PairSet.{PairSet}
use Rattle.pair_sets.specs.PairSet.{Pair, has_pair, set_of, pairs_of, same_pair, image_of, forced_pairs, choices, value_pairs, IsWithin}

-- the pair is in the set
abbrev pub Has : PairSet → Pair → Type 0
Has s p = has_pair s p.0 p.1 ≡ true

-- ---- tests

pub same_pair_is : (p q : Pair) → same_pair p q ≡ true → p ≡ q
same_pair_is p q e =
    let both = and_parts (beq p.0 q.0) (beq p.1 q.1) e in
    λ i. ((booleans_Decides p.0 q.0).0 both.0 i, (booleans_Decides p.1 q.1).0 both.1 i)

pub same_pair_same : (p : Pair) → same_pair p p ≡ true
same_pair_same p = rw ((booleans_Decides p.0 p.0).1 refl, (booleans_Decides p.1 p.1).1 refl) refl

-- ---- sets

pub same_set : (s t : PairSet) → ((p : Pair) → Has s p → Has t p) → ((p : Pair) → Has t p → Has s p) → s ≡ t
same_set s t h k = λ i. record {
  both_zero = both_ways s.both_zero t.both_zero (h (false, false)) (k (false, false)) i;
  zero_one = both_ways s.zero_one t.zero_one (h (false, true)) (k (false, true)) i;
  one_zero = both_ways s.one_zero t.one_zero (h (true, false)) (k (true, false)) i;
  both_one = both_ways s.both_one t.both_one (h (true, true)) (k (true, true)) i;
}

abbrev four_pairs : List Pair
four_pairs = (false, false) ∷ (false, true) ∷ (true, false) ∷ (true, true) ∷ []

among_four : (a b : Bool) → Contains four_pairs (a, b)
among_four false false = (0, omega arith, refl)
among_four false true = (1, omega arith, refl)
among_four true false = (2, omega arith, refl)
among_four true true = (3, omega arith, refl)

pub pairs_from : (s : PairSet) (p : Pair) → Has s p → Contains (pairs_of s) p
pairs_from s p h = Contains-filter (λ (q : Pair). has_pair s q.0 q.1) four_pairs p (among_four p.0 p.1) h

pub pairs_are : (s : PairSet) (p : Pair) → Contains (pairs_of s) p → Has s p
pairs_are s p m = (Contains-from_filter (λ (q : Pair). has_pair s q.0 q.1) four_pairs p m).1

has-set_of : (test : Pair → Bool) (a b : Bool) → has_pair (set_of test) a b ≡ test (a, b)
has-set_of test false false = refl
has-set_of test false true = refl
has-set_of test true false = refl
has-set_of test true true = refl

pub image_from : {A : Type 0} (value : A → Pair) (items : List A) (x : A) → Contains items x → Has (image_of value items) (value x)
image_from value items x m =
    has-set_of (λ p. list_any (λ y. same_pair p (value y)) items) (value x).0 (value x).1
    ∙ any_from (λ y. same_pair (value x) (value y)) items x m (same_pair_same (value x))

pub image_is : {A : Type 0} (value : A → Pair) (items : List A) (p : Pair) → Has (image_of value items) p → (x : A) × Contains items x × (value x ≡ p)
image_is value items p h =
    let found = passing (λ y. same_pair p (value y)) items (sym (has-set_of (λ q. list_any (λ y. same_pair q (value y)) items) p.0 p.1) ∙ h) in
    (found.0, found.1, sym (same_pair_is p (value found.0) found.2))

-- ---- values put in

abbrev pub forced_pair : Option Bool → Option Bool → Pair → Pair
forced_pair first second p = (unwrap_or first p.0, unwrap_or second p.1)

pub forced_from : (first second : Option Bool) (s : PairSet) (p : Pair) → Has s p → Has (forced_pairs first second s) (forced_pair first second p)
unfolding forced_pairs
forced_from first second s p h = image_from (forced_pair first second) (pairs_of s) p (pairs_from s p h)

pub forced_is : (first second : Option Bool) (s : PairSet) (p : Pair) → Has (forced_pairs first second s) p → (q : Pair) × Has s q × (forced_pair first second q ≡ p)
unfolding forced_pairs
forced_is first second s p h =
    let found = image_is (forced_pair first second) (pairs_of s) p h in
    (found.0, pairs_are s found.0 found.1, found.2)

-- ---- functions of bits

-- the pair of a function's values of the first bits and of the second bits
abbrev pub value_pair : (List Bool → Bool) → List Pair → Pair
value_pair value ps = (value (map (λ p. p.0) ps), value (map (λ p. p.1) ps))

choice_is : (sets : List PairSet) (ps : List Pair) → Contains (choices sets) ps → AllZip Has sets ps
choice_is [] ps m = elim (first_or_later {A = List Pair} [] [] ps m) [
  | inl here ↦ subst (AllZip Has []) here tt
  | inr more ↦ absurd (none_in ps more)
]
choice_is (s ∷ sets) ps m =
    let first = Contains-from_flat_map (λ p. map (λ qs. p ∷ qs) (choices sets)) (pairs_of s) ps m in
    let rest = Contains-from_map (λ qs. first.0 ∷ qs) (choices sets) ps first.2 in
    subst (AllZip Has (s ∷ sets)) rest.2 (pairs_are s first.0 first.1, choice_is sets rest.0 rest.1)

choice_from : (sets : List PairSet) (ps : List Pair) → AllZip Has sets ps → Contains (choices sets) ps
choice_from [] [] h = (0, omega arith, refl)
choice_from [] (p ∷ ps) h = absurd h
choice_from (s ∷ sets) [] h = absurd h
choice_from (s ∷ sets) (p ∷ ps) h =
    Contains-flat_map (λ q. map (λ qs. q ∷ qs) (choices sets)) (pairs_of s) p (p ∷ ps) (pairs_from s p h.0)
    (Contains-map (λ qs. p ∷ qs) (choices sets) ps (choice_from sets ps h.1))

pub values_from : (value : List Bool → Bool) (sets : List PairSet) (ps : List Pair) → AllZip Has sets ps → Has (value_pairs value sets) (value_pair value ps)
unfolding value_pairs
values_from value sets ps h = image_from (value_pair value) (choices sets) ps (choice_from sets ps h)

pub values_are : (value : List Bool → Bool) (sets : List PairSet) (p : Pair) → Has (value_pairs value sets) p → (ps : List Pair) × AllZip Has sets ps × (value_pair value ps ≡ p)
unfolding value_pairs
values_are value sets p h =
    let found = image_is (value_pair value) (choices sets) p h in
    (found.0, choice_is sets found.0 found.1, found.2)

-- ---- fewer pairs give fewer

pub within_same : (s t : PairSet) → s ≡ t → IsWithin s t
within_same s t e a b h = subst (λ u. has_pair u a b ≡ true) e h

pub within_more : (s t u : PairSet) → IsWithin s t → IsWithin t u → IsWithin s u
within_more s t u w x a b h = x a b (w a b h)

pub within_forced : (first second : Option Bool) (s t : PairSet) → IsWithin s t → IsWithin (forced_pairs first second s) (forced_pairs first second t)
within_forced first second s t w a b h =
    let found = forced_is first second s (a, b) h in
    subst (Has (forced_pairs first second t)) found.2 (forced_from first second t found.0 (w found.0.0 found.0.1 found.1))

wider_zip : (sets others : List PairSet) (ps : List Pair) → AllZip IsWithin sets others → AllZip Has sets ps → AllZip Has others ps
wider_zip [] [] ps w h = h
wider_zip [] (t ∷ ts) ps w h = absurd w
wider_zip (s ∷ ss) [] ps w h = absurd w
wider_zip (s ∷ ss) (t ∷ ts) [] w h = absurd h
wider_zip (s ∷ ss) (t ∷ ts) (p ∷ ps) w h = (w.0 p.0 p.1 h.0, wider_zip ss ts ps w.1 h.1)

pub within_values : (value : List Bool → Bool) (sets others : List PairSet) → AllZip IsWithin sets others → IsWithin (value_pairs value sets) (value_pairs value others)
within_values value sets others w a b h =
    let found = values_are value sets (a, b) h in
    subst (Has (value_pairs value others)) found.2 (values_from value others found.0 (wider_zip sets others found.0 w found.1))
