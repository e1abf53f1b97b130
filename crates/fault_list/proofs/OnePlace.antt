-- No site occurs twice in the list of a circuit's sites.
use Rattle.std.proofs.Common.{◌≡◌, ◌≢◌, ℕ, zero, suc, ◌+◌, ◌<◌, Bool, true, false, eqb, List, [], ◌∷◌, ◌++◌, length, get_or, map, refl, ap, arith, subst}
use Rattle.std.specs.Prelude.{All, Some, slice_get, flat_map, nat_le, if◌then◌else◌}
use Rattle.std.specs.Bool.{then_some}
use Rattle.std.specs.List.{range_with_len, cons_option}
use Rattle.std.proofs.lemmas.Bool.{eqb-true}
use Rattle.std.proofs.lemmas.List.Elements.{All-nil, All-cons, All-head, All-tail, All-append, All-map, All-weaker}
use Rattle.net_model.specs.declared.fault.Site.{Site}
use Rattle.net_model.specs.declared.fault.Site.TheVariants.{Stem, Pin, Position}
use Rattle.net_model.specs.Circuit.{Circuit, all_lines, gate_lines, pins_of}
use Rattle.net_model.specs.FaultList.{places_of, destinations, branches, sites_of_line}
use Rattle.fault_list.proofs.Places.{places_from}
use Rattle.net_model.proofs.Copies.{All-at}
use Rattle.net_model.proofs.Listed.{All-if, All-flat_map, All-range_with_len}

-- ---- lists in which nothing occurs twice

-- each element differs from all after it
pub Apart : {X : Type 0} → List X → Type 0
Apart [] = Unit {0}
Apart (x ∷ xs) = All (λ y. x ≢ y) xs × Apart xs

pub one_place : {X : Type 0} (xs : List X) → Apart xs → (j k : ℕ) (x : X) → slice_get xs j ≡ Some x → slice_get xs k ≡ Some x → j ≡ k
unfolding Apart
one_place [] a j k x p q = cc
one_place (y ∷ ys) a zero zero x p q = refl
one_place (y ∷ ys) a zero (suc k) x p q = let same : y ≡ x = cc in absurd (All-at (λ z. y ≢ z) ys k x a.0 q same)
one_place (y ∷ ys) a (suc j) zero x p q = let same : y ≡ x = cc in absurd (All-at (λ z. y ≢ z) ys j x a.0 p same)
one_place (y ∷ ys) a (suc j) (suc k) x p q = ap suc (one_place ys a.1 j k x p q)

Apart-append : {X : Type 0} (xs ys : List X) → Apart xs → Apart ys → All (λ x. All (λ y. x ≢ y) ys) xs → Apart (xs ++ ys)
unfolding Apart
Apart-append [] ys a b h = b
Apart-append {X = X} (x ∷ xs) ys a b h =
    let Other : X → Type 0 = λ x. All (λ y. x ≢ y) ys in
    (All-append (λ y. x ≢ y) xs ys a.0 (All-head Other x xs h), Apart-append xs ys a.1 b (All-tail Other x xs h))

-- consecutive lists that a key distinguishes
Apart-flat_map : {X : Type 0} (f : ℕ → List X) (key : X → ℕ) → ((n : ℕ) → Apart (f n)) → ((n : ℕ) → All (λ x. key x ≡ n) (f n)) → (first count : ℕ) → Apart (flat_map f (range_with_len first count))
unfolding Apart
Apart-flat_map f key each keys first zero = tt
Apart-flat_map {X = X} f key each keys first (suc count) =
    let rest = flat_map f (range_with_len (first + 1) count) in
    let Later : X → Type 0 = λ y. first < key y in
    let later : All Later rest = All-flat_map Later f (range_with_len (first + 1) count)
    (All-range_with_len (λ n. All Later (f n)) (first + 1) count (λ n low high. All-weaker (λ y. key y ≡ n) Later (λ y e. omega (arith, e)) (f n) (keys n))) in
    Apart-append (f first) rest (each first) (Apart-flat_map f key each keys (first + 1) count)
    (All-weaker (λ x. key x ≡ first) (λ x. All (λ y. x ≢ y) rest) (λ x e. All-weaker Later (λ y. x ≢ y) (λ y l same. absurd (omega (arith, e, l, ap key same))) rest later) (f first) (keys first))

Apart-map : {X Y : Type 0} (f : X → Y) → ((a b : X) → f a ≡ f b → a ≡ b) → (xs : List X) → Apart xs → Apart (map f xs)
unfolding Apart
Apart-map f one [] a = tt
Apart-map f one (x ∷ xs) a = (All-map (λ y. f x ≢ y) f xs (All-weaker (λ z. x ≢ z) (λ z. f x ≢ f z) (λ z ne e. ne (one x z e)) xs a.0), Apart-map f one xs a.1)

-- ---- places

All-then : (P : ℕ → Type 0) (b : Bool) (n : ℕ) (xs : List ℕ) → (b ≡ true → P n) → All P xs → All P (cons_option (then_some b n) xs)
All-then P true n xs p h = All-cons P n xs (p refl) h
All-then P false n xs p h = h

Apart-then : (b : Bool) (n : ℕ) (xs : List ℕ) → All (λ y. n ≢ y) xs → Apart xs → Apart (cons_option (then_some b n) xs)
unfolding Apart
Apart-then true n xs h a = (h, a)
Apart-then false n xs h a = a

-- what holds of each place at which the number occurs
pub All-places : (P : ℕ → Type 0) (x n : ℕ) (xs : List ℕ) → ((k : ℕ) → k < length xs → get_or xs k 0 ≡ x → P (n + k)) → All P (places_from x n xs)
All-places P x n [] h = All-nil P
All-places P x n (y ∷ ys) h =
    All-then P (eqb y x) n (places_from x (n + 1) ys) (λ e. subst P (omega arith) (h 0 (omega arith) (eqb-true y x e)))
    (All-places P x (n + 1) ys (λ k l e. subst P (omega arith) (h (suc k) (omega (arith, l)) e)))

Apart-places : (x n : ℕ) (xs : List ℕ) → Apart (places_from x n xs)
unfolding Apart
Apart-places x n [] = tt
Apart-places x n (y ∷ ys) =
    Apart-then (eqb y x) n (places_from x (n + 1) ys) (All-places (λ k. n ≢ k) x (n + 1) ys (λ k l e same. absurd (omega (arith, same)))) (Apart-places x (n + 1) ys)

Apart-places_of : (x : ℕ) (xs : List ℕ) → Apart (places_of x xs)
unfolding places_of
Apart-places_of x xs = Apart-places x 0 xs

All-places_of : (P : ℕ → Type 0) (x : ℕ) (xs : List ℕ) → ((k : ℕ) → get_or xs k 0 ≡ x → P k) → All P (places_of x xs)
unfolding places_of
All-places_of P x xs h = All-places P x 0 xs (λ k l e. subst P (omega arith) (h k e))

-- ---- sites

module _ (c : Circuit) where
  -- the line that a site reads or is
  line_at : Site → ℕ
  line_at (Stem line) = line
  line_at (Pin gate pin) = get_or (pins_of c gate) pin 0
  line_at (Position at) = get_or c.positions at 0

  gate_of : Site → ℕ
  gate_of (Stem line) = 0
  gate_of (Pin gate pin) = gate
  gate_of (Position at) = 0

  unfoldable pub pins_at : ℕ → ℕ → List Site
  pins_at line gate = map (Pin gate) (places_of line (pins_of c gate))

  pins_of_line : ℕ → List Site
  pins_of_line line = flat_map (pins_at line) (gate_lines c)

  All-pins : (P : Site → Type 0) (line : ℕ) → ((gate pin : ℕ) → get_or (pins_of c gate) pin 0 ≡ line → P (Pin gate pin)) → All P (pins_of_line line)
  unfolding pins_at pins_of_line
  All-pins P line h =
      All-flat_map P (pins_at line) (gate_lines c)
      (All-range_with_len (λ gate. All P (pins_at line gate)) c.sources (length c.gates)
      (λ gate low high. All-map P (Pin gate) (places_of line (pins_of c gate)) (All-places_of (λ pin. P (Pin gate pin)) line (pins_of c gate) (h gate))))

  All-positions : (P : Site → Type 0) (line : ℕ) → ((at : ℕ) → get_or c.positions at 0 ≡ line → P (Position at)) → All P (map Position (places_of line c.positions))
  All-positions P line h = All-map P Position (places_of line c.positions) (All-places_of (λ at. P (Position at)) line c.positions h)

  All-destinations : (P : Site → Type 0) (line : ℕ) → ((gate pin : ℕ) → get_or (pins_of c gate) pin 0 ≡ line → P (Pin gate pin)) → ((at : ℕ) → get_or c.positions at 0 ≡ line → P (Position at)) → All P (destinations c line)
  unfolding destinations pins_of_line pins_at
  All-destinations P line pins positions = All-append P (pins_of_line line) (map Position (places_of line c.positions)) (All-pins P line pins) (All-positions P line positions)

  Apart-pins : (line gate : ℕ) → Apart (pins_at line gate)
  unfolding pins_at
  Apart-pins line gate = Apart-map (Pin gate) (λ a b e. cc) (places_of line (pins_of c gate)) (Apart-places_of line (pins_of c gate))

  gate_of-pins : (line gate : ℕ) → All (λ site. gate_of site ≡ gate) (pins_at line gate)
  unfolding pins_at gate_of
  gate_of-pins line gate = All-map (λ site. gate_of site ≡ gate) (Pin gate) (places_of line (pins_of c gate)) (All-places_of (λ pin. gate ≡ gate) line (pins_of c gate) (λ k e. refl))

  Apart-destinations : (line : ℕ) → Apart (destinations c line)
  unfolding destinations pins_of_line pins_at
  Apart-destinations line =
      Apart-append (pins_of_line line) (map Position (places_of line c.positions))
      (Apart-flat_map (pins_at line) gate_of (Apart-pins line) (gate_of-pins line) c.sources (length c.gates))
      (Apart-map Position (λ a b e. cc) (places_of line c.positions) (Apart-places_of line c.positions))
      (All-pins (λ site. All (λ y. site ≢ y) (map Position (places_of line c.positions))) line (λ gate pin e. All-positions (λ y. Pin gate pin ≢ y) line (λ at f same. cc)))

  Apart-if : (b : Bool) (xs : List Site) → Apart xs → Apart (if b then xs else [])
  unfolding Apart
  Apart-if true xs a = a
  Apart-if false xs a = tt

  Apart-line : (line : ℕ) → Apart (sites_of_line c line)
  unfolding Apart branches
  Apart-line line = (
    All-if (λ y. Stem line ≢ y) (nat_le 2 (length (destinations c line))) (destinations c line) (All-destinations (λ y. Stem line ≢ y) line (λ gate pin e same. cc) (λ at e same. cc)),
    Apart-if (nat_le 2 (length (destinations c line))) (destinations c line) (Apart-destinations line),
  )

  line_at-sites : (line : ℕ) → All (λ site. line_at site ≡ line) (sites_of_line c line)
  unfolding branches line_at
  line_at-sites line =
      All-cons (λ site. line_at site ≡ line) (Stem line) (branches c line) refl
      (All-if (λ site. line_at site ≡ line) (nat_le 2 (length (destinations c line))) (destinations c line) (All-destinations (λ site. line_at site ≡ line) line (λ gate pin e. e) (λ at e. e)))

  pub Apart-sites : Apart (flat_map (sites_of_line c) (all_lines c))
  Apart-sites = Apart-flat_map (sites_of_line c) line_at Apart-line line_at-sites 0 (c.sources + length c.gates)
