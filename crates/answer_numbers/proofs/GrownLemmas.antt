-- Cells that advance by a position, some after others.
use Rattle.std.proofs.Common.{◌≡◌, ◌≢◌, ◌∙◌, ℕ, ◌+◌, ◌-◌, ◌*◌, ◌/◌, ◌%◌, ◌<◌, ◌≤◌, ◌^◌, Bool, true, false, not, cond, eqb, ltb, leb, ◌||◌, ◌&&◌, List, length, refl, sym, ap, arith, inl, inr, w64}
use Rattle.std.specs.Prelude.{bit_and}
use Rattle.std.specs.Int.{trailing_zeros, bit_at as digit_of}
use Rattle.std.proofs.lemmas.Nat.Bits.{bit_at-trailing_zeros, bit_at-zero}
use Rattle.std.proofs.lemmas.Bool.{cases_Bool, cases_lt, cases_eq, cond-true, cond-false, true≢false, false≢true, eq-eqb, ne_eqb, eqb-true, leb-true, ltb-true, lt-ltb, le-ltb, le-leb, lt-leb, and_left, and_right, and_from, and_parts}
use Rattle.std.proofs.lemmas.Nat.{div-mul-add, mod-mul-add, and_le_l}
use Rattle.net_model.specs.Answer.{bit_at}
use Rattle.net_model.specs.Rows.{bit_of}
use Rattle.net_model.proofs.SingleWords.{bit-cleared}
use Rattle.word_sim.specs.declared.lanes.TheConstants.{LANES}
use Rattle.answer_numbers.specs.declared.trees.LaneTrees.{LaneTrees}
use Rattle.answer_numbers.specs.declared.trees.Node.{Node}
use Rattle.answer_numbers.specs.Trees.{Way, longer_way, IsForest, AreTrees, way_at, AreGrown}
use Rattle.answer_numbers.specs.Growing.{in_word, in_lanes}

-- ---- trees in general

pub forest_higher : (lanes limit more : ℕ) (nodes : List Node) → limit ≤ more → IsForest lanes limit nodes → IsForest lanes more nodes
forest_higher lanes limit more nodes h forest = record {
  roots = forest.roots;
  few = forest.few;
  lower = forest.lower;
  apart = forest.apart;
  last = forest.last;
  known = forest.known;
  low = λ n l. omega (arith, forest.low n l, h);
}

pub trees_higher : (limit more : ℕ) (t : LaneTrees) → limit ≤ more → AreTrees limit t → AreTrees more t
trees_higher limit more t h trees = record { forest = forest_higher t.lanes limit more t.nodes.items h trees.forest; within = trees.within }

-- if no cell is marked, all is as before
pub grown_none : (position : ℕ) (marks : ℕ → Bool) (t : LaneTrees) → AreTrees (position + 1) t → ((cell : ℕ) → cell < length t.stands.items → marks cell ≡ false) → AreGrown position marks t t
grown_none position marks t trees none = record {
  lanes = refl;
  cells = refl;
  trees = trees;
  ways = λ cell h. sym (cond-false (marks cell) (longer_way position (way_at t cell)) (way_at t cell) (none cell h));
}

marked_twice : (f s m : Bool) (p : ℕ) (w v u : Way) → v ≡ cond f (longer_way p w) w → u ≡ cond s (longer_way p v) v → (s ≡ true → f ≡ false) → m ≡ (f || s) → u ≡ cond m (longer_way p w) w
marked_twice true true m p w v u ev eu apart em = absurd (true≢false (apart refl))
marked_twice true false m p w v u ev eu apart em = eu ∙ (ev ∙ sym (cond-true m (longer_way p w) w em))
marked_twice false true m p w v u ev eu apart em = eu ∙ (ap (longer_way p) ev ∙ sym (cond-true m (longer_way p w) w em))
marked_twice false false m p w v u ev eu apart em = eu ∙ (ev ∙ sym (cond-false m (longer_way p w) w em))

-- first some cells advance, and then others
pub grown_then : {position : ℕ} {first second : ℕ → Bool} {old mid new : LaneTrees} (marks : ℕ → Bool) → AreGrown position first old mid → AreGrown position second mid new
    → ((cell : ℕ) → cell < length old.stands.items → second cell ≡ true → first cell ≡ false) → ((cell : ℕ) → cell < length old.stands.items → marks cell ≡ (first cell || second cell)) → AreGrown position marks old new
grown_then {position} {first} {second} {old} {mid} {new} marks was more apart union = record {
  lanes = more.lanes ∙ was.lanes;
  cells = more.cells ∙ was.cells;
  trees = more.trees;
  ways = λ cell h. marked_twice (first cell) (second cell) (marks cell) position (way_at old cell) (way_at mid cell) (way_at new cell) (was.ways cell h) (more.ways cell (omega (arith, h, was.cells))) (apart cell h) (union cell h);
}

-- the same for marks that are equal
pub grown_as : {position : ℕ} {first : ℕ → Bool} {old new : LaneTrees} (marks : ℕ → Bool) → AreGrown position first old new → ((cell : ℕ) → cell < length old.stands.items → marks cell ≡ first cell) → AreGrown position marks old new
grown_as {position} {first} {old} {new} marks grown same = record {
  lanes = grown.lanes;
  cells = grown.cells;
  trees = grown.trees;
  ways = λ cell h. grown.ways cell h ∙ ap (λ b. cond b (longer_way position (way_at old cell)) (way_at old cell)) (sym (same cell h));
}

-- ---- the cells of a word, one after another

-- whether a cell is one of the 64 starting at the first one
abbrev pub is_near : ℕ → ℕ → Bool
is_near first cell = leb first cell && ltb (cell - first) 64

-- whether a word has a cell and what is left of the word doesn't
abbrev pub word_done : ℕ → ℕ → ℕ → ℕ → Bool
word_done first word left cell = in_word first word cell && not (in_word first left cell)

done_apart : (b w l : Bool) → b ≡ true → l ≡ true → ((b && w) && not (b && l)) ≡ false
done_apart true w true e f = and_right w false refl
done_apart true w false e f = absurd (false≢true f)
done_apart false w l e f = absurd (false≢true e)

done_same : (b w l k : Bool) → k ≡ l → ((b && w) && not (b && k)) ≡ (((b && w) && not (b && l)) || false)
done_same true true true k e = ap (λ x. (true && true) && not (true && x)) e
done_same true true false k e = ap (λ x. (true && true) && not (true && x)) e
done_same true false l k e = refl
done_same false w l k e = refl

done_here : (b w l k : Bool) → b ≡ true → w ≡ true → k ≡ false → ((b && w) && not (b && k)) ≡ (((b && w) && not (b && l)) || true)
done_here true true true k e f g = ap (λ x. (true && true) && not (true && x)) g
done_here true true false k e f g = ap (λ x. (true && true) && not (true && x)) g
done_here true false l k e f g = absurd (false≢true f)
done_here false w l k e f g = absurd (false≢true e)

done_far : (b w l k : Bool) → b ≡ false → ((b && w) && not (b && k)) ≡ (((b && w) && not (b && l)) || false)
done_far true w l k e = absurd (true≢false e)
done_far false w l k e = refl

module _ (first word left digit next : ℕ) (small : digit < 64) (has : bit_of left digit ≡ true) (among : (k : ℕ) → k < 64 → bit_of left k ≡ true → bit_of word k ≡ true)
    (cleared : (k : ℕ) → k < 64 → bit_of next k ≡ cond (eqb k digit) false (bit_of left k)) where
  near_digit : (cell : ℕ) → cell ≡ first + digit → (is_near first cell ≡ true) × (cell - first ≡ digit)
  near_digit cell e = (and_from (leb first cell) (ltb (cell - first) 64) (le-leb first cell (omega (arith, e))) (lt-ltb (cell - first) 64 (omega (arith, e, small))), omega (arith, e))

  pub digit_apart : (cell : ℕ) → eqb cell (first + digit) ≡ true → word_done first word left cell ≡ false
  digit_apart cell t =
      let near = near_digit cell (eqb-true cell (first + digit) t) in
      done_apart (is_near first cell) (bit_of word (cell - first)) (bit_of left (cell - first)) near.0 (ap (bit_of left) near.1 ∙ has)

  pub digit_more : (cell : ℕ) → word_done first word next cell ≡ (word_done first word left cell || eqb cell (first + digit))
  digit_more cell = elim (cases_eq cell (first + digit)) [
    | inl e ↦
        let near = near_digit cell e in
        done_here (is_near first cell) (bit_of word (cell - first)) (bit_of left (cell - first)) (bit_of next (cell - first)) near.0 (ap (bit_of word) near.1 ∙ among digit small has)
        (ap (bit_of next) near.1 ∙ (cleared digit small ∙ cond-true (eqb digit digit) false (bit_of left digit) (eq-eqb digit digit refl)))
        ∙ ap (λ b. word_done first word left cell || b) (sym (eq-eqb cell (first + digit) e))
    | inr ne ↦
        let as_before : word_done first word next cell ≡ (word_done first word left cell || false) = elim (cases_Bool (is_near first cell)) [
          | inr far ↦ done_far (is_near first cell) (bit_of word (cell - first)) (bit_of left (cell - first)) (bit_of next (cell - first)) far
          | inl near ↦
              let parts = and_parts (leb first cell) (ltb (cell - first) 64) near in
              let from : first ≤ cell = leb-true first cell parts.0 in
              let low : cell - first < 64 = ltb-true (cell - first) 64 parts.1 in
              let other : cell - first ≢ digit = λ e. ne (omega (arith, e, from)) in
              done_same (is_near first cell) (bit_of word (cell - first)) (bit_of left (cell - first)) (bit_of next (cell - first))
              (cleared (cell - first) low ∙ cond-false (eqb (cell - first) digit) false (bit_of left (cell - first)) (ne_eqb (cell - first) digit other))
        ] in
        as_before ∙ ap (λ b. word_done first word left cell || b) (sym (ne_eqb cell (first + digit) ne))
  ]

  pub still_among : (k : ℕ) → k < 64 → bit_of next k ≡ true → bit_of word k ≡ true
  still_among k h t = elim (cases_eq k digit) [
    | inl e ↦ absurd (false≢true (sym (cleared k h ∙ cond-true (eqb k digit) false (bit_of left k) (eq-eqb k digit e)) ∙ t))
    | inr ne ↦ among k h (sym (cleared k h ∙ cond-false (eqb k digit) false (bit_of left k) (ne_eqb k digit ne)) ∙ t)
  ]

-- at the end of a word no cell of it is left
pub word_whole : (first word cell : ℕ) → ((k : ℕ) → bit_of 0 k ≡ false) → in_word first word cell ≡ word_done first word 0 cell
word_whole first word cell zero = whole (is_near first cell) (bit_of word (cell - first)) (bit_of 0 (cell - first)) (zero (cell - first))
  where
    whole : (b w l : Bool) → l ≡ false → (b && w) ≡ ((b && w) && not (b && l))
    whole true true l e = ap not (sym e)
    whole true false l e = refl
    whole false w l e = refl

-- at the start of a word no cell of it is done
pub word_none : (first word cell : ℕ) → word_done first word word cell ≡ false
word_none first word cell = none (is_near first cell) (bit_of word (cell - first))
  where
    none : (b w : Bool) → ((b && w) && not (b && w)) ≡ false
    none true true = refl
    none true false = refl
    none false w = refl

-- ---- the words of lanes, one after another

-- whether the lanes below a limit have a cell
abbrev pub lanes_done : ℕ → List Bool → ℕ → ℕ → Bool
lanes_done first row limit cell = in_lanes first row cell && ltb (cell - first) limit

module _ (first at : ℕ) (row : List Bool) (word : ℕ) (low : at < LANES / 64) (bits : (lane : ℕ) → lane < LANES → lane / 64 ≡ at → bit_of word (lane % 64) ≡ bit_at row lane) where
  abbrev begin : ℕ
  begin = first + at * 64

  -- a lane of the word
  in_word_is : (k : ℕ) → k < 64 → bit_of word k ≡ bit_at row (at * 64 + k)
  in_word_is k h =
      let lane : at * 64 + k < LANES = omega (arith, h, low) in
      let place : (at * 64 + k) / 64 ≡ at = div-mul-add at 64 k h in
      let rest : (at * 64 + k) % 64 ≡ k = mod-mul-add at 64 k h in
      ap (bit_of word) (sym rest) ∙ bits (at * 64 + k) lane place

  pub bit_in_row : (k : ℕ) → k < 64 → bit_of word k ≡ true → bit_at row (at * 64 + k) ≡ true
  bit_in_row k h t = sym (in_word_is k h) ∙ t

  pub word_apart : (cell : ℕ) → in_word begin word cell ≡ true → lanes_done first row (at * 64) cell ≡ false
  word_apart cell t =
      let near = and_parts (is_near begin cell) (bit_of word (cell - begin)) t in
      let parts = and_parts (leb begin cell) (ltb (cell - begin) 64) near.0 in
      let from : begin ≤ cell = leb-true begin cell parts.0 in
      and_right (in_lanes first row cell) (ltb (cell - first) (at * 64)) (le-ltb (cell - first) (at * 64) (omega (arith, from)))

  pub word_more : (cell : ℕ) → lanes_done first row ((at + 1) * 64) cell ≡ (lanes_done first row (at * 64) cell || in_word begin word cell)
  word_more cell = elim (cases_lt cell begin) [
    | inl before ↦
        -- not yet a cell of the word
        let none : in_word begin word cell ≡ false = and_left (is_near begin cell) (bit_of word (cell - begin)) (and_left (leb begin cell) (ltb (cell - begin) 64) (lt-leb begin cell before)) in
        elim (cases_lt cell first) [
          | inl under ↦
              let out : in_lanes first row cell ≡ false = and_left (leb first cell && ltb (cell - first) LANES) (bit_at row (cell - first)) (and_left (leb first cell) (ltb (cell - first) LANES) (lt-leb first cell under)) in
              and_left (in_lanes first row cell) (ltb (cell - first) ((at + 1) * 64)) out
              ∙ sym (or_none (lanes_done first row (at * 64) cell) (in_word begin word cell) none ∙ and_left (in_lanes first row cell) (ltb (cell - first) (at * 64)) out)
          | inr over ↦
              let low : cell - first < at * 64 = omega (arith, before, over) in
              and_true (in_lanes first row cell) (ltb (cell - first) ((at + 1) * 64)) (lt-ltb (cell - first) ((at + 1) * 64) (omega (arith, low)))
              ∙ sym (or_none (lanes_done first row (at * 64) cell) (in_word begin word cell) none ∙ and_true (in_lanes first row cell) (ltb (cell - first) (at * 64)) (lt-ltb (cell - first) (at * 64) low))
        ]
    | inr from ↦ elim (cases_lt (cell - begin) 64) [
      | inl near ↦
          let lane : cell - first ≡ at * 64 + (cell - begin) = omega (arith, from) in
          let inside : in_lanes first row cell ≡ bit_at row (cell - first) =
          true_and (leb first cell && ltb (cell - first) LANES) (bit_at row (cell - first)) (and_from (leb first cell) (ltb (cell - first) LANES) (le-leb first cell (omega (arith, from))) (lt-ltb (cell - first) LANES (omega (arith, lane, near, low)))) in
          let here : in_word begin word cell ≡ bit_at row (cell - first) =
          true_and (is_near begin cell) (bit_of word (cell - begin)) (and_from (leb begin cell) (ltb (cell - begin) 64) (le-leb begin cell from) (lt-ltb (cell - begin) 64 near)) ∙ (in_word_is (cell - begin) near ∙ ap (bit_at row) (sym lane)) in
          and_true (in_lanes first row cell) (ltb (cell - first) ((at + 1) * 64)) (lt-ltb (cell - first) ((at + 1) * 64) (omega (arith, lane, near)))
          ∙ (inside ∙ (sym here ∙ sym (none_or (lanes_done first row (at * 64) cell) (in_word begin word cell) (and_right (in_lanes first row cell) (ltb (cell - first) (at * 64)) (le-ltb (cell - first) (at * 64) (omega (arith, from)))))))
      | inr far ↦
          and_right (in_lanes first row cell) (ltb (cell - first) ((at + 1) * 64)) (le-ltb (cell - first) ((at + 1) * 64) (omega (arith, from, far)))
          ∙ sym (or_none (lanes_done first row (at * 64) cell) (in_word begin word cell) (and_left (is_near begin cell) (bit_of word (cell - begin)) (and_right (leb begin cell) (ltb (cell - begin) 64) (le-ltb (cell - begin) 64 far)))
          ∙ and_right (in_lanes first row cell) (ltb (cell - first) (at * 64)) (le-ltb (cell - first) (at * 64) (omega (arith, from))))
    ]
  ]
    where
      or_none : (x y : Bool) → y ≡ false → (x || y) ≡ x
      or_none true y e = refl
      or_none false y e = e

      none_or : (x y : Bool) → x ≡ false → (x || y) ≡ y
      none_or true y e = absurd (true≢false e)
      none_or false y e = refl

      true_and : (x y : Bool) → x ≡ true → (x && y) ≡ y
      true_and true y e = refl
      true_and false y e = absurd (false≢true e)

      and_true : (x y : Bool) → y ≡ true → (x && y) ≡ x
      and_true true y e = e
      and_true false y e = refl

-- at the end all lanes are done
pub lanes_whole : (first : ℕ) (row : List Bool) (limit cell : ℕ) → LANES ≤ limit → in_lanes first row cell ≡ lanes_done first row limit cell
lanes_whole first row limit cell h = elim (cases_lt (cell - first) limit) [
  | inl low ↦ sym (with_true (in_lanes first row cell) (ltb (cell - first) limit) (lt-ltb (cell - first) limit low))
  | inr high ↦
      let out : in_lanes first row cell ≡ false = and_left (leb first cell && ltb (cell - first) LANES) (bit_at row (cell - first)) (and_right (leb first cell) (ltb (cell - first) LANES) (le-ltb (cell - first) LANES (omega (arith, high, h)))) in
      out ∙ sym (and_left (in_lanes first row cell) (ltb (cell - first) limit) out)
]
  where
    with_true : (x y : Bool) → y ≡ true → (x && y) ≡ x
    with_true true y e = e
    with_true false y e = refl

-- ---- the lowest digit of a word, and the word without it

lowest_has : (word : ℕ) → 0 < word → word < 2 ^ 64 → (trailing_zeros w64 word < 64) × (bit_of word (trailing_zeros w64 word) ≡ true)
lowest_has word some small =
    let lowest = bit_at-trailing_zeros w64 word some small in
    (lowest.0, eq-eqb (digit_of word (trailing_zeros w64 word)) 1 lowest.1)

pub lowest_small : (word : ℕ) → 0 < word → word < 2 ^ 64 → trailing_zeros w64 word < 64
lowest_small word some small = (lowest_has word some small).0

pub lowest_is : (word : ℕ) → 0 < word → word < 2 ^ 64 → bit_of word (trailing_zeros w64 word) ≡ true
lowest_is word some small = (lowest_has word some small).1

-- a word without one of its digits is less
pub fewer : (word digit : ℕ) → digit < 64 → word < 2 ^ 64 → bit_of word digit ≡ true → bit_and word (2 ^ 64 - 1 - 1 * 2 ^ digit % 2 ^ 64) < word
fewer word digit low small has =
    let less = bit_and word (2 ^ 64 - 1 - 1 * 2 ^ digit % 2 ^ 64) in
    let most : less ≤ word = and_le_l word (2 ^ 64 - 1 - 1 * 2 ^ digit % 2 ^ 64) in
    elim (cases_lt less word) [
      | inl below ↦ below
      | inr not_below ↦
          let same : less ≡ word = omega (arith, most, not_below) in
          let gone : bit_of less digit ≡ false = bit-cleared word digit low small digit low ∙ cond-true (eqb digit digit) false (bit_of word digit) (eq-eqb digit digit refl) in
          absurd (false≢true (sym gone ∙ (ap (λ w. bit_of w digit) same ∙ has)))
    ]

pub none_set : (k : ℕ) → bit_of 0 k ≡ false
none_set k = ap (λ d. eqb d 1) (bit_at-zero k)
