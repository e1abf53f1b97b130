-- Sets of at most one pair, and sets of several.
use Rattle.std.proofs.Common.{◌≡◌, ℕ, suc, ◌<◌, refl, sym, ◌∙◌, ap, arith, get_or, length}
use Rattle.std.specs.Prelude.{Bool, true, false, not, List, [], ◌∷◌, Option, ◌||◌, ◌&&◌}
use Rattle.std.specs.Bool.{beq}
use Rattle.std.specs.List.{AllZip}
use Rattle.std.specs.Cmp.{booleans_Decides}
use Rattle.std.proofs.lemmas.Bool.{and_from, and_parts, false≢true, not-false}
use Rattle.pair_sets.specs.PairSet.{PairSet, Pair, has_pair, same_pair, has_several, free_pairs, fixed_pairs, forced_pairs, value_pairs, only_equal, only_unequal}
use Rattle.pair_sets.proofs.PairLemmas.{Has, same_pair_is, same_pair_same, forced_pair, forced_is, value_pair, values_are}
use Rattle.pair_sets.proofs.GateLemmas.{every_bit, at_bit, implied, every_set, at_set}

-- the set has at most one pair
abbrev pub IsSingle : PairSet → Type 0
IsSingle s = (p q : Pair) → Has s p → Has s q → p ≡ q

-- ---- tables

abbrev every_pair : (Pair → Bool) → Bool
every_pair test = every_bit (λ a. every_bit (λ b. test (a, b)))

at_pair : (test : Pair → Bool) → every_pair test ≡ true → (p : Pair) → test p ≡ true
at_pair test e p = at_bit (λ b. test (p.0, b)) (at_bit (λ a. every_bit (λ b. test (a, b))) e p.0) p.1

each_pair : (test : Pair → Bool) → ((p : Pair) → test p ≡ true) → every_pair test ≡ true
each_pair test h =
    and_from (every_bit (λ b. test (false, b))) (every_bit (λ b. test (true, b)))
    (and_from (test (false, false)) (test (false, true)) (h (false, false)) (h (false, true))) (and_from (test (true, false)) (test (true, true)) (h (true, false)) (h (true, true)))

abbrev same_test : PairSet → Pair → Pair → Bool
same_test s p q = not (has_pair s p.0 p.1 && has_pair s q.0 q.1) || same_pair p q

abbrev single_test : PairSet → Bool
single_test s = every_pair (λ p. every_pair (same_test s p))

passes_single : (s : PairSet) → IsSingle s → single_test s ≡ true
passes_single s single =
    each_pair (λ p. every_pair (same_test s p))
    (λ p. each_pair (same_test s p)
    (λ q. implied (has_pair s p.0 p.1 && has_pair s q.0 q.1) (same_pair p q)
    (λ both. let has = and_parts (has_pair s p.0 p.1) (has_pair s q.0 q.1) both in ap (same_pair p) (sym (single p q has.0 has.1)) ∙ same_pair_same p)))

single_passes : (s : PairSet) → single_test s ≡ true → IsSingle s
single_passes s e p q h k =
    same_pair_is p q
    (conclusion (has_pair s p.0 p.1 && has_pair s q.0 q.1) (same_pair p q) (and_from (has_pair s p.0 p.1) (has_pair s q.0 q.1) h k) (at_pair (same_test s p) (at_pair (λ x. every_pair (same_test s x)) e p) q))
  where
    conclusion : (a b : Bool) → a ≡ true → (not a || b) ≡ true → b ≡ true
    conclusion true b t e = e
    conclusion false b t e = cc

several_table : every_set (λ s. beq (has_several s) (not (single_test s))) ≡ true
several_table = refl

several_is : (s : PairSet) → has_several s ≡ not (single_test s)
several_is s = (booleans_Decides (has_several s) (not (single_test s))).0 (at_set (λ x. beq (has_several x) (not (single_test x))) several_table s)

pub no_single : (s : PairSet) → has_several s ≡ true → IsSingle s → ⊥
no_single s e single = false≢true (ap not (sym (passes_single s single)) ∙ sym (several_is s) ∙ e)

pub not_several : (s : PairSet) → has_several s ≡ false → IsSingle s
not_several s e = single_passes s (not-false (single_test s) (sym (several_is s) ∙ e))

pub several_if : (s t : PairSet) → (IsSingle t → IsSingle s) → has_several s ≡ true → has_several t ≡ true
several_if s t single e = by (has_several t) refl
  where
    by : (b : Bool) → has_several t ≡ b → has_several t ≡ true
    by true d = d
    by false d = absurd (no_single s e (single (not_several t d)))

mixed_table : every_set (λ s. (only_equal s || only_unequal s) || has_several s) ≡ true
mixed_table = refl

-- a set with equal and with unequal pairs has several
pub mixed_several : (s : PairSet) → (only_equal s || only_unequal s) ≡ false → has_several s ≡ true
mixed_several s e = rest_of (only_equal s || only_unequal s) (has_several s) e (at_set (λ x. (only_equal x || only_unequal x) || has_several x) mixed_table s)
  where
    rest_of : (a b : Bool) → a ≡ false → (a || b) ≡ true → b ≡ true
    rest_of false b e t = t
    rest_of true b e t = cc

pub not_mixed : (s : PairSet) → IsSingle s → (only_equal s || only_unequal s) ≡ false → ⊥
not_mixed s single e = no_single s (mixed_several s e) single

-- ---- when a set is single

pub single_fixed : (bit : Bool) → IsSingle (fixed_pairs bit)
single_fixed true = single_passes (fixed_pairs true) refl
single_fixed false = single_passes (fixed_pairs false) refl

pub single_forced : (first second : Option Bool) (s : PairSet) → IsSingle s → IsSingle (forced_pairs first second s)
single_forced first second s single p q h k =
    let one = forced_is first second s p h in
    let two = forced_is first second s q k in
    sym one.2 ∙ ap (forced_pair first second) (single one.0 two.0 one.1 two.1) ∙ two.2

-- all of these sets are single
abbrev pub AllSingle : List PairSet → Type 0
AllSingle [] = Unit {0}
AllSingle (s ∷ sets) = IsSingle s × AllSingle sets

pub single_each : (sets : List PairSet) → ((k : ℕ) → k < length sets → IsSingle (get_or sets k free_pairs)) → AllSingle sets
single_each [] h = tt
single_each (s ∷ sets) h = (h 0 (omega arith), single_each sets (λ k l. h (suc k) (omega (arith, l))))

one_choice : (sets : List PairSet) (ps qs : List Pair) → AllSingle sets → AllZip Has sets ps → AllZip Has sets qs → ps ≡ qs
one_choice [] [] [] o h k = refl
one_choice [] [] (q ∷ qs) o h k = absurd k
one_choice [] (p ∷ ps) qs o h k = absurd h
one_choice (s ∷ sets) [] qs o h k = absurd h
one_choice (s ∷ sets) (p ∷ ps) [] o h k = absurd k
one_choice (s ∷ sets) (p ∷ ps) (q ∷ qs) o h k = λ i. o.0 p q h.0 k.0 i ∷ one_choice sets ps qs o.1 h.1 k.1 i

pub single_value : (value : List Bool → Bool) (sets : List PairSet) → AllSingle sets → IsSingle (value_pairs value sets)
single_value value sets all p q h k =
    let one = values_are value sets p h in
    let two = values_are value sets q k in
    sym one.2 ∙ ap (value_pair value) (one_choice sets one.0 two.0 all one.1 two.1) ∙ two.2

-- a set with values put in has several pairs only if it had several before
pub several_before : (first second : Option Bool) (s : PairSet) → has_several (forced_pairs first second s) ≡ true → has_several s ≡ true
several_before first second s e = several_if (forced_pairs first second s) s (single_forced first second s) e
