-- Bridges put in order, each once.
use Rattle.std.proofs.Common.{◌≡◌, ◌∙◌, ℕ, zero, suc, ◌⊎◌, List, [], ◌∷◌, get_or, refl, sym, ap, subst, arith, inl, inr}
use Rattle.std.specs.Prelude.{Contains, AllPairs}
use Rattle.std.specs.Cmp.{IsTotalOrder, then_total, on_total, back_total}
use Rattle.std.specs.Ordering.{nat_cmp, ordering_then, ordering_reverse}
use Rattle.std.specs.declared.cmp.Ordering.{Ordering}
use Rattle.std.specs.declared.cmp.Ordering.TheVariants.{Less, Equal, Greater}
use Rattle.std.proofs.lemmas.Cmp.{nat_cmp_total, ranked}
use Rattle.std.proofs.lemmas.List.Elements.{Contains-get_or}
use Rattle.net_model.proofs.Elements.{none_in, first_or_later}
use Rattle.net_model.proofs.Copies.{later}
use Rattle.bridging_faults.specs.declared.bridge.BridgeKind.{BridgeKind}
use Rattle.bridging_faults.specs.declared.bridge.BridgeKind.TheVariants.{And, Or, Dominant}
use Rattle.bridging_faults.specs.declared.scored.ScoredBridge.{ScoredBridge}
use Rattle.bridging_faults.specs.Found.{kind_rank, bridge_cmp, Precedes}
use Rattle.bridging_faults.specs.Search.{put_at, put}
use Rattle.bridging_faults.proofs.Listings.{cmp_reverse, first_precedes, rest_pairs}

pub bridges_total : IsTotalOrder bridge_cmp
bridges_total =
    then_total (on_total (λ (s : ScoredBridge). s.explained) (back_total nat_cmp_total))
    (then_total (on_total (λ (s : ScoredBridge). s.false_patterns) nat_cmp_total)
    (then_total (on_total (λ (s : ScoredBridge). kind_rank s.bridge.kind) nat_cmp_total)
    (then_total (on_total (λ (s : ScoredBridge). s.bridge.first) nat_cmp_total) (on_total (λ (s : ScoredBridge). s.bridge.second) nat_cmp_total))))

-- ---- the same place is the same bridge

then_equal : (p q : Ordering) → ordering_then p q ≡ Equal → (p ≡ Equal) × (q ≡ Equal)
then_equal Less q e = let clash : ◌≡◌ {A = Ordering} Less Equal = e in absurd (cc)
then_equal Equal q e = (refl, e)
then_equal Greater q e = let clash : ◌≡◌ {A = Ordering} Greater Equal = e in absurd (cc)

equal_numbers : (x y : ℕ) → nat_cmp x y ≡ Equal → x ≡ y
equal_numbers x y e = ranked x y Equal (sym e)

pub same_kind : (a b : BridgeKind) → kind_rank a ≡ kind_rank b → a ≡ b
same_kind And And e = refl
same_kind Or Or e = refl
same_kind Dominant Dominant e = refl
same_kind And Or e = absurd (omega (arith, e))
same_kind And Dominant e = absurd (omega (arith, e))
same_kind Or And e = absurd (omega (arith, e))
same_kind Or Dominant e = absurd (omega (arith, e))
same_kind Dominant And e = absurd (omega (arith, e))
same_kind Dominant Or e = absurd (omega (arith, e))

pub equal_same : (a b : ScoredBridge) → bridge_cmp a b ≡ Equal → a ≡ b
equal_same a b e =
    let lines_of = ordering_then (nat_cmp a.bridge.first b.bridge.first) (nat_cmp a.bridge.second b.bridge.second) in
    let kinds_of = ordering_then (nat_cmp (kind_rank a.bridge.kind) (kind_rank b.bridge.kind)) lines_of in
    let wrongs_of = ordering_then (nat_cmp a.false_patterns b.false_patterns) kinds_of in
    let one = then_equal (nat_cmp b.explained a.explained) wrongs_of e in
    let two = then_equal (nat_cmp a.false_patterns b.false_patterns) kinds_of one.1 in
    let three = then_equal (nat_cmp (kind_rank a.bridge.kind) (kind_rank b.bridge.kind)) lines_of two.1 in
    let four = then_equal (nat_cmp a.bridge.first b.bridge.first) (nat_cmp a.bridge.second b.bridge.second) three.1 in
    let explained = sym (equal_numbers b.explained a.explained one.0) in
    let wrong = equal_numbers a.false_patterns b.false_patterns two.0 in
    let kind = same_kind a.bridge.kind b.bridge.kind (equal_numbers (kind_rank a.bridge.kind) (kind_rank b.bridge.kind) three.0) in
    let first = equal_numbers a.bridge.first b.bridge.first four.0 in
    let second = equal_numbers a.bridge.second b.bridge.second four.1 in
    (λ i. record { bridge = record { kind = kind i; first = first i; second = second i }; explained = explained i; false_patterns = wrong i })

-- ---- one more

-- bridges in order
abbrev pub in_order : List ScoredBridge → List ScoredBridge
in_order [] = []
in_order (x ∷ xs) = put x (in_order xs)

from_put_at : (o : Ordering) (x y : ScoredBridge) (ys rest : List ScoredBridge) (s : ScoredBridge) → (Contains rest s → (x ≡ s) ⊎ Contains ys s) → Contains (put_at o x y ys rest) s → (x ≡ s) ⊎ Contains (y ∷ ys) s
from_put_at Less x y ys rest s inner m = first_or_later x (y ∷ ys) s m
from_put_at Equal x y ys rest s inner m = inr m
from_put_at Greater x y ys rest s inner m = elim (first_or_later y rest s m) [
  | inl here ↦ inr (0, omega arith, here)
  | inr behind ↦ elim (inner behind) [ inl same ↦ inl same | inr more ↦ inr (later y ys s more) ]
]

pub from_put : (x : ScoredBridge) (xs : List ScoredBridge) (s : ScoredBridge) → Contains (put x xs) s → (x ≡ s) ⊎ Contains xs s
from_put x [] s m = elim (first_or_later x [] s m) [ inl same ↦ inl same | inr more ↦ absurd (none_in s more) ]
from_put x (y ∷ ys) s m = from_put_at (bridge_cmp x y) x y ys (put x ys) s (from_put x ys s) m

into_put_at : (o : Ordering) (x y : ScoredBridge) (ys rest : List ScoredBridge) (s : ScoredBridge) → bridge_cmp x y ≡ o → ((x ≡ s) ⊎ Contains ys s → Contains rest s) → (x ≡ s) ⊎ Contains (y ∷ ys) s → Contains (put_at o x y ys rest) s
into_put_at Less x y ys rest s e inner (inl same) = (0, omega arith, same)
into_put_at Less x y ys rest s e inner (inr more) = later x (y ∷ ys) s more
into_put_at Equal x y ys rest s e inner (inl same) = (0, omega arith, sym (equal_same x y e) ∙ same)
into_put_at Equal x y ys rest s e inner (inr more) = more
into_put_at Greater x y ys rest s e inner (inl same) = later y rest s (inner (inl same))
into_put_at Greater x y ys rest s e inner (inr more) = elim (first_or_later y ys s more) [
  | inl here ↦ (0, omega arith, here)
  | inr behind ↦ later y rest s (inner (inr behind))
]

pub into_put : (x : ScoredBridge) (xs : List ScoredBridge) (s : ScoredBridge) → (x ≡ s) ⊎ Contains xs s → Contains (put x xs) s
into_put x [] s (inl same) = (0, omega arith, same)
into_put x [] s (inr more) = absurd (none_in s more)
into_put x (y ∷ ys) s either = into_put_at (bridge_cmp x y) x y ys (put x ys) s refl (into_put x ys s) either

pub from_order : (xs : List ScoredBridge) (s : ScoredBridge) → Contains (in_order xs) s → Contains xs s
from_order [] s m = m
from_order (x ∷ xs) s m = elim (from_put x (in_order xs) s m) [ inl same ↦ (0, omega arith, same) | inr more ↦ later x xs s (from_order xs s more) ]

pub into_order : (xs : List ScoredBridge) (s : ScoredBridge) → Contains xs s → Contains (in_order xs) s
into_order [] s m = m
into_order (x ∷ xs) s m = elim (first_or_later x xs s m) [
  | inl same ↦ into_put x (in_order xs) s (inl same)
  | inr more ↦ into_put x (in_order xs) s (inr (into_order xs s more))
]

-- ---- they ascend

first_pairs : (x : ScoredBridge) (xs : List ScoredBridge) → ((s : ScoredBridge) → Contains xs s → Precedes x s) → AllPairs Precedes xs → AllPairs Precedes (x ∷ xs)
first_pairs x xs before all zero zero d lt h = absurd (omega (arith, lt))
first_pairs x xs before all zero (suc j) d lt h = before (get_or xs j d) (Contains-get_or xs j d (omega (arith, h)))
first_pairs x xs before all (suc i) zero d lt h = absurd (omega (arith, lt))
first_pairs x xs before all (suc i) (suc j) d lt h = all i j d (omega (arith, lt)) (omega (arith, h))

module _ (x y : ScoredBridge) (ys rest : List ScoredBridge) (all : AllPairs Precedes (y ∷ ys)) where
  put_pairs : (o : Ordering) → bridge_cmp x y ≡ o → AllPairs Precedes rest → ((s : ScoredBridge) → Contains rest s → (x ≡ s) ⊎ Contains ys s) → AllPairs Precedes (put_at o x y ys rest)
  put_pairs Less e next inner =
      first_pairs x (y ∷ ys) (λ s m. elim (first_or_later y ys s m) [
        | inl here ↦ subst (Precedes x) here e
        | inr behind ↦ bridges_total.trans x y s e (first_precedes y ys s all behind)
      ]) all
  put_pairs Equal e next inner = all
  put_pairs Greater e next inner =
      let turned : Precedes y x = cmp_reverse y x ∙ ap ordering_reverse e in
      first_pairs y rest (λ s m. elim (inner s m) [
        | inl same ↦ subst (Precedes y) same turned
        | inr behind ↦ first_precedes y ys s all behind
      ]) next

pub put_ascends : (x : ScoredBridge) (xs : List ScoredBridge) → AllPairs Precedes xs → AllPairs Precedes (put x xs)
put_ascends x [] all = first_pairs x [] (λ s m. absurd (none_in s m)) all
put_ascends x (y ∷ ys) all = put_pairs x y ys (put x ys) all (bridge_cmp x y) refl (put_ascends x ys (rest_pairs y ys all)) (from_put x ys)

pub order_ascends : (xs : List ScoredBridge) → AllPairs Precedes (in_order xs)
order_ascends [] = λ i j d lt h. absurd (omega (arith, lt, h))
order_ascends (x ∷ xs) = put_ascends x (in_order xs) (order_ascends xs)
