-- What the state of a cube says of its vectors.
use Rattle.std.proofs.Common.{◌≡◌, ◌≢◌, ℕ, zero, suc, ◌<◌, refl, sym, ◌∙◌, ap, arith, subst, length}
use Rattle.std.specs.Prelude.{Bool, true, false, not, List, [], ◌∷◌, find, Option, None, Some, cond, ◌||◌, ◌&&◌, Contains, if◌then◌else◌}
use Rattle.std.specs.Option.{option_map_or}
use Rattle.std.specs.List.{list_all}
use Rattle.std.proofs.lemmas.Bool.{false≢true, or_from}
use Rattle.net_model.specs.declared.fault.Fault.{Fault}
use Rattle.net_model.specs.Circuit.{Circuit, IsCircuit}
use Rattle.net_model.specs.Fault.{stuck_position}
use Rattle.net_model.specs.Answer.{bit_at, IsAnswer, shown_bits}
use Rattle.net_model.specs.Scope.{is_reached, reached_positions}
use Rattle.net_model.proofs.Copies.{later, same_bits_same_list}
use Rattle.net_model.proofs.Evaluation.{Agrees-exists}
use Rattle.net_model.proofs.Seen.{length-seen_bits}
use Rattle.net_model.proofs.Relevance.{reached_listed, listed_reached}
use Rattle.net_model.proofs.Elements.{none_in, all_parts}
use Rattle.fault_list.proofs.Pair.{same_unreached}
use Rattle.pair_sets.specs.PairSet.{PairSet}
use Rattle.pair_sets.specs.declared.state.PairState.{PairState}
use Rattle.pair_sets.specs.declared.state.PairState.TheVariants.{AllSame, Apart, Undecided}
use Rattle.pair_sets.specs.Cube.{Cube, InCube, IsClosed}
use Rattle.pair_sets.specs.PairSet.{has_pair, only_equal, only_unequal}
use Rattle.pair_sets.specs.CubeState.{position_pairs, state_of, IsState}
use Rattle.pair_sets.specs.Laws.{DifferAt, IsApart}
use Rattle.pair_sets.proofs.Coverage.{covered_position}

-- ---- tests of lists

not_all : {A : Type 0} (test : A → Bool) (xs : List A) → list_all test xs ≡ false → (x : A) × Contains xs x × (test x ≡ false)
not_all test [] e = cc
not_all {A = A} test (y ∷ ys) e = by (test y) refl e (not_all test ys)
  where
    by : (b : Bool) → test y ≡ b → (b && list_all test ys) ≡ false → (list_all test ys ≡ false → (x : A) × Contains ys x × (test x ≡ false)) → (x : A) × Contains (y ∷ ys) x × (test x ≡ false)
    by true t e rest = let found = rest e in (found.0, later y ys found.0 found.1, found.2)
    by false t e rest = (y, (0, omega arith, refl), t)

found_at : {A : Type 0} (test : A → Bool) (xs : List A) (x : A) → find test xs ≡ Some x → Contains xs x × (test x ≡ true)
found_at test [] x e = cc
found_at {A = A} test (y ∷ ys) x e = by (test y) refl e (found_at test ys x)
  where
    by : (b : Bool) → test y ≡ b → cond b (Some y) (find test ys) ≡ Some x → (find test ys ≡ Some x → Contains ys x × (test x ≡ true)) → Contains (y ∷ ys) x × (test x ≡ true)
    by true t e rest = let same : y ≡ x = cc in ((0, omega arith, same), ap test (sym same) ∙ t)
    by false t e rest = let found = rest e in (later y ys x found.0, found.1)

none_found : {A : Type 0} (test : A → Bool) (xs : List A) → find test xs ≡ None → (x : A) → Contains xs x → test x ≡ false
none_found test [] e x m = absurd (none_in x m)
none_found {A = A} test (y ∷ ys) e x m = by (test y) refl e m (none_found test ys)
  where
    by : (b : Bool) → test y ≡ b → cond b (Some y) (find test ys) ≡ None → Contains (y ∷ ys) x → (find test ys ≡ None → (z : A) → Contains ys z → test z ≡ false) → test x ≡ false
    by true t e m rest = cc
    by false t e (zero, h, at) rest = ap test (sym at) ∙ t
    by false t e (suc k, h, at) rest = rest e x (k, omega (arith, h), at)

-- ---- states

module _ (all : Bool) (found : Option ℕ) where
  abbrev state_from : PairState
  state_from = if all then AllSame else option_map_or Apart found Undecided

from_same : (all : Bool) (found : Option ℕ) → AllSame ≡ state_from all found → all ≡ true
from_same true found e = refl
from_same false None e = cc
from_same false (Some at) e = cc

from_apart : (all : Bool) (found : Option ℕ) (at : ℕ) → Apart at ≡ state_from all found → found ≡ Some at
from_apart true found at e = cc
from_apart false None at e = cc
from_apart false (Some other) at e = let same : at ≡ other = cc in ap Some (sym same)

from_undecided : (all : Bool) (found : Option ℕ) → Undecided ≡ state_from all found → (all ≡ false) × (found ≡ None)
from_undecided true found e = cc
from_undecided false None e = (refl, refl)
from_undecided false (Some at) e = cc

module _ (c : Circuit) (f g : Fault) (sets : List PairSet) where
  abbrev equal_at : ℕ → Bool
  equal_at at = only_equal (position_pairs c f g sets at)

  abbrev unequal_at : ℕ → Bool
  unequal_at at = only_unequal (position_pairs c f g sets at)

  same_is : AllSame ≡ state_of c f g sets → list_all (λ at. only_equal (position_pairs c f g sets at)) (reached_positions c f g) ≡ true
  unfolding state_of
  same_is e = from_same (list_all equal_at (reached_positions c f g)) (find unequal_at (reached_positions c f g)) e

  apart_is : (at : ℕ) → Apart at ≡ state_of c f g sets → find (λ at. only_unequal (position_pairs c f g sets at)) (reached_positions c f g) ≡ Some at
  unfolding state_of
  apart_is at e = from_apart (list_all equal_at (reached_positions c f g)) (find unequal_at (reached_positions c f g)) at e

  undecided_is : Undecided ≡ state_of c f g sets → (list_all (λ at. only_equal (position_pairs c f g sets at)) (reached_positions c f g) ≡ false) × (find (λ at. only_unequal (position_pairs c f g sets at)) (reached_positions c f g) ≡ None)
  unfolding state_of
  undecided_is e = from_undecided (list_all equal_at (reached_positions c f g)) (find unequal_at (reached_positions c f g)) e

  -- some reached position of an undecided cube shows equal and unequal pairs
  pub undecided_mixed : Undecided ≡ state_of c f g sets → (at : ℕ) × Contains (reached_positions c f g) at × ((equal_at at || unequal_at at) ≡ false)
  undecided_mixed e =
      let is = undecided_is e in
      let found = not_all equal_at (reached_positions c f g) is.0 in
      (found.0, found.1, or_from (equal_at found.0) (unequal_at found.0) found.2 (none_found unequal_at (reached_positions c f g) is.1 found.0 found.1))

-- ---- equal and unequal pairs

neither : (a b : Bool) → b ≡ true → not (a || b) ≡ true → ⊥
neither true b t e = cc
neither false b t e = false≢true (sym (ap not t) ∙ e)

equal_pair : (s : PairSet) (a b : Bool) → only_equal s ≡ true → has_pair s a b ≡ true → a ≡ b
equal_pair s true true e h = refl
equal_pair s false false e h = refl
equal_pair s false true e h = absurd (false≢true (sym (ap (λ x. not (x || s.one_zero)) h) ∙ e))
equal_pair s true false e h = absurd (neither (s.zero_one) (s.one_zero) h e)

unequal_pair : (s : PairSet) (a b : Bool) → only_unequal s ≡ true → has_pair s a b ≡ true → a ≢ b
unequal_pair s true false e h = λ d. false≢true (sym d)
unequal_pair s false true e h = λ d. false≢true d
unequal_pair s false false e h = absurd (false≢true (sym (ap (λ x. not (x || s.both_one)) h) ∙ e))
unequal_pair s true true e h = absurd (neither (s.both_zero) (s.both_one) h e)

-- ---- laws

pub same_closed : (c : Circuit) (f g : Fault) (cube : Cube) → IsCircuit c → IsState c f g cube AllSame → IsClosed c f g cube
same_closed c f g cube w state v first second width inside p q =
    let x = p.bits in
    let y = q.bits in
    let all = same_is c f g state.sets state.is in
    let same : (at : ℕ) → at < length c.positions → bit_at (shown_bits c f x) at ≡ bit_at (shown_bits c g y) at =
    λ at h. by_reach at h (is_reached c f g at) refl all in
    p.shows
    ∙ same_bits_same_list (shown_bits c f x) (shown_bits c g y) (length-seen_bits (stuck_position f) x c.positions ∙ sym (length-seen_bits (stuck_position g) y c.positions))
    (λ at h. same at (subst (λ n. at < n) (length-seen_bits (stuck_position f) x c.positions) h))
    ∙ sym q.shows
  where
    by_reach : (at : ℕ) → at < length c.positions → (b : Bool) → is_reached c f g at ≡ b → list_all (λ at. only_equal (position_pairs c f g state.sets at)) (reached_positions c f g) ≡ true
        → bit_at (shown_bits c f p.bits) at ≡ bit_at (shown_bits c g q.bits) at
    by_reach at h true t all =
        equal_pair (position_pairs c f g state.sets at) (bit_at (shown_bits c f p.bits) at) (bit_at (shown_bits c g q.bits) at)
        (all_parts (λ k. only_equal (position_pairs c f g state.sets k)) (reached_positions c f g) all at (reached_listed c f g at h t))
        (covered_position c f g cube v p.bits q.bits state.sets inside w p.agrees q.agrees state.are at h)
    by_reach at h false t all = same_unreached c w f g v p.bits q.bits p.agrees q.agrees at h t

pub apart_differs : (c : Circuit) (f g : Fault) (cube : Cube) (v : List Bool) (at : ℕ) → IsCircuit c → length v ≡ c.sources → IsState c f g cube (Apart at) → InCube cube v → IsApart c f g v at
apart_differs c f g cube v at w width state inside =
    let found = found_at (λ k. only_unequal (position_pairs c f g state.sets k)) (reached_positions c f g) at (apart_is c f g state.sets at state.is) in
    let reached = listed_reached c f g at found.0 in
    let differ : DifferAt c f g v at =
    λ first second p q e.
    unequal_pair (position_pairs c f g state.sets at) (bit_at (shown_bits c f p.bits) at) (bit_at (shown_bits c g q.bits) at) found.1
    (covered_position c f g cube v p.bits q.bits state.sets inside w p.agrees q.agrees state.are at reached.0)
    (ap (λ bits. bit_at bits at) (sym p.shows) ∙ e ∙ ap (λ bits. bit_at bits at) q.shows) in
    let x = Agrees-exists c f v w in
    let y = Agrees-exists c g v w in
    let p : IsAnswer c f v (shown_bits c f x.0) = record { bits = x.0; agrees = x.1; shows = refl } in
    let q : IsAnswer c g v (shown_bits c g y.0) = record { bits = y.0; agrees = y.1; shows = refl } in
    record {
      position = reached.0;
      differ = differ;
      separates = record {
        width = width;
        first = shown_bits c f x.0;
        second = shown_bits c g y.0;
        first_is = p;
        second_is = q;
        differ = λ e. differ (shown_bits c f x.0) (shown_bits c g y.0) p q (ap (λ bits. bit_at bits at) e);
      };
    }
