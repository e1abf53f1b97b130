-- What a gate gives pin by pin, and tables of all sets.
use Rattle.std.proofs.Common.{ltb-true, ◌≡◌, ◌≢◌, ℕ, ◌+◌, ◌<◌, ◌≤◌, ◌%◌, refl, sym, ◌∙◌, ap, arith, subst}
use Rattle.std.specs.Prelude.{Bool, true, false, not, List, [], ◌∷◌, map, count_by, Option, None, Some, ◌==◌, ◌||◌, ◌&&◌, cond, nat_lt, if◌then◌else◌}
use Rattle.std.specs.Bool.{beq}
use Rattle.std.specs.List.{AllZip}
use Rattle.std.proofs.lemmas.Bool.Decides.{nat_tests}
use Rattle.std.proofs.lemmas.List.Sums.{sum_by-cons}
use Rattle.std.proofs.Math.Bool.{and-true, or-false}
use Rattle.std.specs.Cmp.{booleans_Decides}
use Rattle.std.proofs.lemmas.Bool.{and_from, and_parts}
use Rattle.net_model.specs.declared.gate.Kind.{Kind}
use Rattle.net_model.specs.declared.gate.Kind.TheVariants.{Not}
use Rattle.net_model.specs.declared.operation.Fold.{Fold}
use Rattle.net_model.specs.declared.operation.Fold.TheVariants.{AllOf, AnyOf, OddOf}
use Rattle.net_model.specs.declared.operation.Operation.TheVariants.{Folded, Chosen}
use Rattle.net_model.specs.Gate.{gate_value, operation_value, odd_ones, folded_bit, inverted, inverts, operation_of}
use Rattle.net_model.proofs.Elements.{odd_one}
use Rattle.pair_sets.specs.PairSet.{PairSet, Pair, forced_pairs, value_pairs, gate_pairs, operation_pairs, fixed_pairs, some_pair, has_pair, has_first, has_second, IsWithin}
use Rattle.pair_sets.specs.Trail.{pairs_in_set}
use Rattle.pair_sets.proofs.PairLemmas.{Has, same_set, value_pair, values_from, values_are}

-- ---- a fold of many pins is a fold of two, again and again

module _ (value : List Bool → Bool) (op : Bool → Bool → Bool) (more : (b : Bool) (bits : List Bool) → value (b ∷ bits) ≡ op b (value bits)) (one : (b : Bool) → value (b ∷ []) ≡ b) where
  two : (b : Bool) (bits : List Bool) → value (b ∷ value bits ∷ []) ≡ value (b ∷ bits)
  two b bits = more b (value bits ∷ []) ∙ ap (op b) (one (value bits)) ∙ sym (more b bits)

  two_pairs : (p : Pair) (ps : List Pair) → value_pair value (p ∷ value_pair value ps ∷ []) ≡ value_pair value (p ∷ ps)
  two_pairs p ps = λ i. (two p.0 (map (λ q. q.0) ps) i, two p.1 (map (λ q. q.1) ps) i)

  module _ (s : PairSet) (sets : List PairSet) where
    splits : (p : Pair) (ps : List Pair) → AllZip Has (s ∷ sets) ps → value_pair value ps ≡ p → Has (value_pairs value (s ∷ value_pairs value sets ∷ [])) p
    splits p [] h e = absurd h
    splits p (q ∷ qs) h e =
        subst (Has (value_pairs value (s ∷ value_pairs value sets ∷ []))) (two_pairs q qs ∙ e)
        (values_from value (s ∷ value_pairs value sets ∷ []) (q ∷ value_pair value qs ∷ []) (h.0, (values_from value sets qs h.1, tt)))

    joins : (p : Pair) (ps : List Pair) → AllZip Has (s ∷ value_pairs value sets ∷ []) ps → value_pair value ps ≡ p → Has (value_pairs value (s ∷ sets)) p
    joins p [] h e = absurd h
    joins p (q ∷ []) h e = absurd h.1
    joins p (q ∷ r ∷ (t ∷ ts)) h e = absurd h.1.1
    joins p (q ∷ r ∷ []) h e =
        let found = values_are value sets r h.1.0 in
        subst (Has (value_pairs value (s ∷ sets))) (sym (two_pairs q found.0) ∙ ap (λ x. value_pair value (q ∷ x ∷ [])) found.2 ∙ e)
        (values_from value (s ∷ sets) (q ∷ found.0) (h.0, found.1))

    pin_by_pin : value_pairs value (s ∷ sets) ≡ value_pairs value (s ∷ value_pairs value sets ∷ [])
    pin_by_pin = same_set (value_pairs value (s ∷ sets)) (value_pairs value (s ∷ value_pairs value sets ∷ []))
        (λ p h. let found = values_are value (s ∷ sets) p h in splits p found.0 found.1 found.2)
        (λ p h. let found = values_are value (s ∷ value_pairs value sets ∷ []) p h in joins p found.0 found.1 found.2)

next_odd : (n : ℕ) → ((n + 1) % 2 == 1) ≡ not (n % 2 == 1)
next_odd n = grind (arith, nat_tests)

odd_more : (b : Bool) (bits : List Bool) → odd_ones (b ∷ bits) ≡ (if b then not (odd_ones bits) else odd_ones bits)
odd_more true bits = ap (λ n. n % 2 == 1) (sum_by-cons (λ b. cond b 1 0) true bits ∙ (let e : 1 + count_by (λ b. b) bits ≡ count_by (λ b. b) bits + 1 = omega arith in e)) ∙ next_odd (count_by (λ b. b) bits)
odd_more false bits = ap (λ n. n % 2 == 1) (sum_by-cons (λ b. cond b 1 0) false bits ∙ (let e : 0 + count_by (λ b. b) bits ≡ count_by (λ b. b) bits = omega arith in e))

pub fold_more : (fold : Fold) (s : PairSet) (sets : List PairSet) → operation_pairs (Folded fold) (s ∷ sets) ≡ operation_pairs (Folded fold) (s ∷ operation_pairs (Folded fold) sets ∷ [])
fold_more AllOf = pin_by_pin (folded_bit AllOf) (λ a b. a && b) (λ b bits. refl) and-true
fold_more AnyOf = pin_by_pin (folded_bit AnyOf) (λ a b. a || b) (λ b bits. refl) or-false
fold_more OddOf = pin_by_pin (folded_bit OddOf) (λ a b. if a then not b else b) odd_more odd_one

-- ---- a gate that inverts

module _ (value : List Bool → Bool) (sets : List PairSet) where
  turned : (ps : List Pair) → value_pair (gate_value Not) (value_pair value ps ∷ []) ≡ value_pair (λ bits. not (value bits)) ps
  turned ps = λ i. (not (and-true (value (map (λ q. q.0) ps)) i), not (and-true (value (map (λ q. q.1) ps)) i))

  before : (p : Pair) (ps : List Pair) → AllZip Has (value_pairs value sets ∷ []) ps → value_pair (gate_value Not) ps ≡ p → Has (value_pairs (λ bits. not (value bits)) sets) p
  before p [] h e = absurd h
  before p (q ∷ (r ∷ rs)) h e = absurd h.1
  before p (q ∷ []) h e =
      let found = values_are value sets q h.0 in
      subst (Has (value_pairs (λ bits. not (value bits)) sets)) (sym (turned found.0) ∙ ap (λ x. value_pair (gate_value Not) (x ∷ [])) found.2 ∙ e) (values_from (λ bits. not (value bits)) sets found.0 found.1)

  turned_pairs : value_pairs (λ bits. not (value bits)) sets ≡ gate_pairs Not (value_pairs value sets ∷ [])
  turned_pairs =
      let gives : List Bool → Bool = λ bits. not (value bits) in
      same_set (value_pairs gives sets) (gate_pairs Not (value_pairs value sets ∷ []))
      (λ p h. let found = values_are gives sets p h in subst (Has (gate_pairs Not (value_pairs value sets ∷ []))) (turned found.0 ∙ found.2) (values_from (gate_value Not) (value_pairs value sets ∷ []) (value_pair value found.0 ∷ []) (values_from value sets found.0 found.1, tt)))
      (λ p h. let found = values_are (gate_value Not) (value_pairs value sets ∷ []) p h in before p found.0 found.1 found.2)

  inverting : (turns : Bool) → value_pairs (λ bits. inverted turns (value bits)) sets ≡ (if turns then gate_pairs Not (value_pairs value sets ∷ []) else value_pairs value sets)
  inverting true = turned_pairs
  inverting false = refl

-- a gate's pairs are those of its operation, or the opposite ones if it inverts
pub by_operation : (kind : Kind) (sets : List PairSet) → gate_pairs kind sets ≡ (if inverts kind then gate_pairs Not (operation_pairs (operation_of kind) sets ∷ []) else operation_pairs (operation_of kind) sets)
by_operation kind sets = inverting (operation_value (operation_of kind)) sets (inverts kind)

-- ---- tables of all sets

abbrev pub every_bit : (Bool → Bool) → Bool
every_bit test = test false && test true

pub at_bit : (test : Bool → Bool) → every_bit test ≡ true → (b : Bool) → test b ≡ true
at_bit test e false = (and_parts (test false) (test true) e).0
at_bit test e true = (and_parts (test false) (test true) e).1

abbrev set_with : Bool → Bool → Bool → Bool → PairSet
set_with a b c d = record { both_zero = a; zero_one = b; one_zero = c; both_one = d }

abbrev pub every_set : (PairSet → Bool) → Bool
every_set test = every_bit (λ a. every_bit (λ b. every_bit (λ c. every_bit (λ d. test (set_with a b c d)))))

pub at_set : (test : PairSet → Bool) → every_set test ≡ true → (s : PairSet) → test s ≡ true
at_set test e s =
    at_bit (λ d. test (set_with s.both_zero s.zero_one s.one_zero d))
    (at_bit (λ c. every_bit (λ d. test (set_with s.both_zero s.zero_one c d)))
    (at_bit (λ b. every_bit (λ c. every_bit (λ d. test (set_with s.both_zero b c d))))
    (at_bit (λ a. every_bit (λ b. every_bit (λ c. every_bit (λ d. test (set_with a b c d))))) e s.both_zero) s.zero_one) s.one_zero) s.both_one

abbrev pub same_sets : PairSet → PairSet → Bool
same_sets s t = beq s.both_zero t.both_zero && (beq s.zero_one t.zero_one && (beq s.one_zero t.one_zero && beq s.both_one t.both_one))

pub same_sets_are : (s t : PairSet) → same_sets s t ≡ true → s ≡ t
same_sets_are s t e =
    let first = and_parts (beq s.both_zero t.both_zero) (beq s.zero_one t.zero_one && (beq s.one_zero t.one_zero && beq s.both_one t.both_one)) e in
    let second = and_parts (beq s.zero_one t.zero_one) (beq s.one_zero t.one_zero && beq s.both_one t.both_one) first.1 in
    let third = and_parts (beq s.one_zero t.one_zero) (beq s.both_one t.both_one) second.1 in
    λ i. record {
      both_zero = (booleans_Decides s.both_zero t.both_zero).0 first.0 i;
      zero_one = (booleans_Decides s.zero_one t.zero_one).0 second.0 i;
      one_zero = (booleans_Decides s.one_zero t.one_zero).0 third.0 i;
      both_one = (booleans_Decides s.both_one t.both_one).0 third.1 i;
    }

abbrev pub and_set : PairSet → PairSet → PairSet
and_set s t = record {
  both_zero = (((s.both_zero && some_pair t) || (some_pair s && t.both_zero)) || (s.zero_one && t.one_zero)) || (s.one_zero && t.zero_one);
  zero_one = (s.zero_one && (t.zero_one || t.both_one)) || (s.both_one && t.zero_one);
  one_zero = (s.one_zero && (t.one_zero || t.both_one)) || (s.both_one && t.one_zero);
  both_one = s.both_one && t.both_one;
}

abbrev pub not_set : PairSet → PairSet
not_set s = record { both_zero = s.both_one; zero_one = s.one_zero; one_zero = s.zero_one; both_one = s.both_zero }

-- whether two sets have a pair in common
abbrev pub meets : PairSet → PairSet → Bool
meets s t = (((s.both_zero && t.both_zero) || (s.zero_one && t.zero_one)) || (s.one_zero && t.one_zero)) || (s.both_one && t.both_one)

-- the set with the bit in each pair's second place inverted
abbrev pub second_turned : PairSet → PairSet
second_turned s = record { both_zero = s.zero_one; zero_one = s.both_zero; one_zero = s.both_one; both_one = s.one_zero }

abbrev pub xor_set : PairSet → PairSet → PairSet
xor_set s t =
    let turned = second_turned t in
    record { both_zero = meets s t; zero_one = meets s turned; one_zero = meets s (not_set turned); both_one = meets s (not_set t) }

abbrev table_of : Fold → (PairSet → PairSet → PairSet) → PairSet → PairSet → Bool
table_of fold op s t = same_sets (op s t) (operation_pairs (Folded fold) (s ∷ t ∷ []))

and_table : every_set (λ s. every_set (table_of AllOf and_set s)) ≡ true
unfolding value_pairs
and_table = refl

-- an OR is an AND between inverters
abbrev pub or_set : PairSet → PairSet → PairSet
or_set s t = not_set (and_set (not_set s) (not_set t))

or_table : every_set (λ s. every_set (table_of AnyOf or_set s)) ≡ true
unfolding value_pairs
or_table = refl

xor_table : every_set (λ s. every_set (table_of OddOf xor_set s)) ≡ true
unfolding value_pairs
xor_table = refl

not_table : every_set (λ s. same_sets (not_set s) (gate_pairs Not (s ∷ []))) ≡ true
unfolding value_pairs
not_table = refl

from_table : (fold : Fold) (op : PairSet → PairSet → PairSet) → every_set (λ s. every_set (table_of fold op s)) ≡ true → (s t : PairSet) → op s t ≡ operation_pairs (Folded fold) (s ∷ t ∷ [])
from_table fold op e s t = same_sets_are (op s t) (operation_pairs (Folded fold) (s ∷ t ∷ [])) (at_set (table_of fold op s) (at_set (λ x. every_set (table_of fold op x)) e s) t)

pub and_is : (s t : PairSet) → and_set s t ≡ operation_pairs (Folded AllOf) (s ∷ t ∷ [])
and_is = from_table AllOf and_set and_table

pub or_is : (s t : PairSet) → or_set s t ≡ operation_pairs (Folded AnyOf) (s ∷ t ∷ [])
or_is = from_table AnyOf or_set or_table

pub xor_is : (s t : PairSet) → xor_set s t ≡ operation_pairs (Folded OddOf) (s ∷ t ∷ [])
xor_is = from_table OddOf xor_set xor_table

pub not_is : (s : PairSet) → not_set s ≡ gate_pairs Not (s ∷ [])
not_is s = same_sets_are (not_set s) (gate_pairs Not (s ∷ [])) (at_set (λ x. same_sets (not_set x) (gate_pairs Not (x ∷ []))) not_table s)

-- the pairs of a fold of no pins
pub unit_is : (fold : Fold) → operation_pairs (Folded fold) [] ≡ fixed_pairs (folded_bit fold [])
unfolding value_pairs
unit_is AllOf = refl
unit_is AnyOf = refl
unit_is OddOf = refl

-- whether a multiplexer has a pair, by the pairs of its first pin; the data pins are independent, even if both read one
-- line
abbrev pub chooses : PairSet → PairSet → PairSet → Bool → Bool → Bool
chooses s low high a b =
    ((((s.both_zero && has_pair low a b) && some_pair high) || ((s.zero_one && has_first low a) && has_second high b)) || ((s.one_zero && has_first high a) && has_second low b)) || ((s.both_one && some_pair low) && has_pair high a b)

abbrev chosen_set : PairSet → PairSet → PairSet → PairSet
chosen_set s low high = record { both_zero = chooses s low high false false; zero_one = chooses s low high false true; one_zero = chooses s low high true false; both_one = chooses s low high true true }

abbrev chosen_test : PairSet → PairSet → PairSet → Bool
chosen_test s low high = same_sets (chosen_set s low high) (operation_pairs Chosen (s ∷ low ∷ high ∷ []))

chosen_table : every_set (λ s. every_set (λ low. every_set (chosen_test s low))) ≡ true
unfolding value_pairs
chosen_table = refl

chosen_is : (s low high : PairSet) → chosen_set s low high ≡ operation_pairs Chosen (s ∷ low ∷ high ∷ [])
chosen_is s low high =
    same_sets_are (chosen_set s low high) (operation_pairs Chosen (s ∷ low ∷ high ∷ []))
    (at_set (chosen_test s low) (at_set (λ x. every_set (chosen_test s x)) (at_set (λ x. every_set (λ y. every_set (chosen_test x y))) chosen_table s) low) high)

pub chooses_is : (s low high : PairSet) (a b : Bool) → chooses s low high a b ≡ has_pair (operation_pairs Chosen (s ∷ low ∷ high ∷ [])) a b
chooses_is s low high false false = ap (λ (t : PairSet). t.both_zero) (chosen_is s low high)
chooses_is s low high false true = ap (λ (t : PairSet). t.zero_one) (chosen_is s low high)
chooses_is s low high true false = ap (λ (t : PairSet). t.one_zero) (chosen_is s low high)
chooses_is s low high true true = ap (λ (t : PairSet). t.both_one) (chosen_is s low high)

-- ---- values put in

abbrev put_first : Option Bool → PairSet → PairSet
put_first None s = s
put_first (Some bit) s = record { both_zero = not bit && (s.both_zero || s.one_zero); zero_one = not bit && (s.zero_one || s.both_one); one_zero = bit && (s.both_zero || s.one_zero); both_one = bit && (s.zero_one || s.both_one) }

abbrev put_second : Option Bool → PairSet → PairSet
put_second None s = s
put_second (Some bit) s = record { both_zero = not bit && (s.both_zero || s.zero_one); zero_one = bit && (s.both_zero || s.zero_one); one_zero = not bit && (s.one_zero || s.both_one); both_one = bit && (s.one_zero || s.both_one) }

abbrev every_place : (Option Bool → Bool) → Bool
every_place test = test None && every_bit (λ b. test (Some b))

at_place : (test : Option Bool → Bool) → every_place test ≡ true → (o : Option Bool) → test o ≡ true
at_place test e None = (and_parts (test None) (every_bit (λ b. test (Some b))) e).0
at_place test e (Some b) = at_bit (λ b. test (Some b)) (and_parts (test None) (every_bit (λ b. test (Some b))) e).1 b

abbrev forced_test : Option Bool → Option Bool → PairSet → Bool
forced_test first second s = same_sets (put_second second (put_first first s)) (forced_pairs first second s)

forced_table : every_place (λ first. every_place (λ second. every_set (forced_test first second))) ≡ true
unfolding forced_pairs
forced_table = refl

pub put_is : (first second : Option Bool) (s : PairSet) → put_second second (put_first first s) ≡ forced_pairs first second s
put_is first second s =
    same_sets_are (put_second second (put_first first s)) (forced_pairs first second s)
    (at_set (forced_test first second) (at_place (λ o. every_set (forced_test first o)) (at_place (λ o. every_place (λ second. every_set (forced_test o second))) forced_table first) second) s)

pub free_is : (s : PairSet) → s ≡ forced_pairs None None s
free_is s = put_is None None s

-- a value put in one place and then in the other
pub one_by_one : (first second : Option Bool) (s : PairSet) → forced_pairs None second (forced_pairs first None s) ≡ forced_pairs first second s
one_by_one first second s = sym (put_is None second (forced_pairs first None s)) ∙ ap (put_second second) (sym (put_is first None s)) ∙ put_is first second s

-- ---- numbers of pairs

abbrev within_test : PairSet → PairSet → Bool
within_test s t = ((not s.both_zero || t.both_zero) && (not s.zero_one || t.zero_one)) && ((not s.one_zero || t.one_zero) && (not s.both_one || t.both_one))

abbrev fewer_test : PairSet → PairSet → Bool
fewer_test s t = not (within_test s t) || same_sets s t || nat_lt (pairs_in_set s) (pairs_in_set t)

fewer_table : every_set (λ s. every_set (fewer_test s)) ≡ true
fewer_table = refl

pub implied : (a b : Bool) → (a ≡ true → b ≡ true) → (not a || b) ≡ true
implied true b h = h refl
implied false b h = refl

is_within_test : (s t : PairSet) → IsWithin s t → within_test s t ≡ true
is_within_test s t w =
    and_from ((not s.both_zero || t.both_zero) && (not s.zero_one || t.zero_one)) ((not s.one_zero || t.one_zero) && (not s.both_one || t.both_one))
    (and_from (not s.both_zero || t.both_zero) (not s.zero_one || t.zero_one) (implied s.both_zero t.both_zero (w false false)) (implied s.zero_one t.zero_one (w false true)))
    (and_from (not s.one_zero || t.one_zero) (not s.both_one || t.both_one) (implied s.one_zero t.one_zero (w true false)) (implied s.both_one t.both_one (w true true)))

third : (a b d : Bool) → a ≡ true → (b ≡ true → ⊥) → (not a || b || d) ≡ true → d ≡ true
third true true d x n e = absurd (n refl)
third true false d x n e = e
third false b d x n e = cc

-- a set of some of the pairs of another, and not all of them, has fewer
pub fewer_pairs : (s t : PairSet) → IsWithin s t → s ≢ t → pairs_in_set s < pairs_in_set t
fewer_pairs s t w ne =
    ltb-true (pairs_in_set s) (pairs_in_set t)
    (third (within_test s t) (same_sets s t) (nat_lt (pairs_in_set s) (pairs_in_set t)) (is_within_test s t w) (λ e. ne (same_sets_are s t e)) (at_set (fewer_test s) (at_set (λ x. every_set (fewer_test x)) fewer_table s) t))

four_table : every_set (λ s. nat_lt (pairs_in_set s) 5) ≡ true
four_table = refl

pub four_at_most : (s : PairSet) → pairs_in_set s ≤ 4
four_at_most s = let h : pairs_in_set s < 5 = ltb-true (pairs_in_set s) 5 (at_set (λ x. nat_lt (pairs_in_set x) 5) four_table s) in omega arith
