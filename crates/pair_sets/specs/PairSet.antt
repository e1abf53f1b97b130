-- Sets of pairs of bits: the value of a line under one fault, and under another.
use Rattle.std.specs.Prelude.{◌≡◌, Bool, true, false, not, ◌&&◌, ◌||◌, List, [], ◌∷◌, map, filter, flat_map, length, nat_lt, Option, unwrap_or}
use Rattle.std.specs.Bool.{beq}
use Rattle.std.specs.List.{list_any}
use Rattle.net_model.specs.declared.gate.Kind.{Kind}
use Rattle.net_model.specs.declared.operation.Operation.{Operation}
use Rattle.net_model.specs.Gate.{gate_value, operation_value}

abbrev pub Pair : Type 0
Pair = Bool × Bool

-- whether each of the four pairs is in the set
pub record PairSet : Type 0 where
  pub both_zero : Bool
  pub zero_one : Bool
  pub one_zero : Bool
  pub both_one : Bool

-- the equal pairs of both values, which a free source has
abbrev pub free_pairs : PairSet
free_pairs = record { both_zero = true; zero_one = false; one_zero = false; both_one = true }

-- the equal pair of one value, which a fixed source has
abbrev pub fixed_pairs : Bool → PairSet
fixed_pairs bit = record { both_zero = not bit; zero_one = false; one_zero = false; both_one = bit }

-- whether the pair of these two bits is in the set
abbrev pub has_pair : PairSet → Bool → Bool → Bool
has_pair s false false = s.both_zero
has_pair s false true = s.zero_one
has_pair s true false = s.one_zero
has_pair s true true = s.both_one

-- whether the set has a pair
abbrev pub some_pair : PairSet → Bool
some_pair s = ((s.both_zero || s.zero_one) || s.one_zero) || s.both_one

-- whether the set has a pair with this bit in its first place
abbrev pub has_first : PairSet → Bool → Bool
has_first s bit = has_pair s bit false || has_pair s bit true

-- whether the set has a pair with this bit in its second place
abbrev pub has_second : PairSet → Bool → Bool
has_second s bit = has_pair s false bit || has_pair s true bit

-- the set of the pairs that pass a test
abbrev pub set_of : (Pair → Bool) → PairSet
set_of test = record { both_zero = test (false, false); zero_one = test (false, true); one_zero = test (true, false); both_one = test (true, true) }

-- Each pair of the first set is in the second.
abbrev pub IsWithin : PairSet → PairSet → Type 0
IsWithin s t = (a b : Bool) → has_pair s a b ≡ true → has_pair t a b ≡ true

-- the pairs of the set, as a list
abbrev pub pairs_of : PairSet → List Pair
pairs_of s = filter (λ p. has_pair s p.0 p.1) ((false, false) ∷ (false, true) ∷ (true, false) ∷ (true, true) ∷ [])

abbrev pub same_pair : Pair → Pair → Bool
same_pair p q = beq p.0 q.0 && beq p.1 q.1

-- the set of the pairs that the function gives for the items of the list
abbrev pub image_of : {A : Type 0} → (A → Pair) → List A → PairSet
image_of value items = set_of (λ p. list_any (λ x. same_pair p (value x)) items)

-- the set with the first value, if there is one, put in the first place of each pair, and the second value, if there is
-- one, in the second place
unfoldable pub forced_pairs : Option Bool → Option Bool → PairSet → PairSet
forced_pairs first second s = image_of (λ p. (unwrap_or first p.0, unwrap_or second p.1)) (pairs_of s)

-- the ways to take one pair from each set, independently
abbrev pub choices : List PairSet → List (List Pair)
choices [] = [] ∷ []
choices (s ∷ sets) = flat_map (λ p. map (λ ps. p ∷ ps) (choices sets)) (pairs_of s)

-- the image of all choices of one pair from each set: the function's value of the first bits of a choice, and its value
-- of the second bits
unfoldable pub value_pairs : (List Bool → Bool) → List PairSet → PairSet
value_pairs value sets = image_of (λ ps. (value (map (λ p. p.0) ps), value (map (λ p. p.1) ps))) (choices sets)

-- the pairs that a gate gives for what its pins see: the image of all choices of one pair for each pin
abbrev pub gate_pairs : Kind → List PairSet → PairSet
gate_pairs kind sets = value_pairs (gate_value kind) sets

-- the pairs that an operation gives for what the pins of its gate see, before the gate may invert them
abbrev pub operation_pairs : Operation → List PairSet → PairSet
operation_pairs operation sets = value_pairs (operation_value operation) sets

-- whether no pair of the set has two different bits
abbrev pub only_equal : PairSet → Bool
only_equal s = not (s.zero_one || s.one_zero)

-- whether each pair of the set has two different bits
abbrev pub only_unequal : PairSet → Bool
only_unequal s = not (s.both_zero || s.both_one)

-- whether the set has two pairs or more
abbrev pub has_several : PairSet → Bool
has_several s = nat_lt 1 (length (pairs_of s))
