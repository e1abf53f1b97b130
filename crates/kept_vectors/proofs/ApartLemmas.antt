-- Notes of two numbers, place by place, and the first lane of some.
use Rattle.std.proofs.Common.{◌≡◌, ◌≢◌, ◌↔◌, ℕ, zero, suc, ◌+◌, ◌<◌, ◌≤◌, Bool, true, false, ◌&&◌, ◌||◌, ◌⊎◌, not, eqb, List, [], ◌∷◌, length, get_or, drop, refl, sym, ap, subst, ◌∙◌, arith, inl, inr}
use Rattle.std.specs.Prelude.{All, if◌then◌else◌}
use Rattle.std.proofs.lemmas.Bool.{cases_eq, eq-eqb, ne_eqb, or_from, or_parts, false≢true}
use Rattle.std.proofs.Math.Seq.{drop-cons}
use Rattle.std.proofs.lemmas.List.{get_or-drop, length-drop}
use Rattle.std.proofs.lemmas.List.Elements.{All-head, All-tail}
use Rattle.net_model.specs.Answer.{bit_at}
use Rattle.kept_vectors.specs.declared.notes.Note.{Note}
use Rattle.kept_vectors.specs.Notes.{is_noted, AreAscending, AreNotedAlike}

-- ---- one note in front

-- what comes after the first note has higher positions
behind : (x : Note) (xs : List Note) → AreAscending (x ∷ xs) → All (λ n. x.position < n.position) xs
behind x xs up k d h = up 0 (suc k) d (omega arith) (omega (arith, h))

module _ (lane : ℕ) where
  none_higher : (position : ℕ) (notes : List Note) → All (λ n. position < n.position) notes → is_noted notes lane position ≡ false
  none_higher position [] all = refl
  none_higher position (n ∷ notes) all =
      let less = All-head (λ (m : Note). position < m.position) n notes all in
      let other : eqb n.position position ≡ false = ne_eqb n.position position (λ e. omega (arith, e, less)) in
      let rest = none_higher position notes (All-tail (λ (m : Note). position < m.position) n notes all) in
      λ i. (other i && bit_at n.lanes lane) || rest i

  module _ (x : Note) (xs : List Note) (up : AreAscending (x ∷ xs)) where
    here : is_noted (x ∷ xs) lane x.position ≡ bit_at x.lanes lane
    here = (λ i. (eq-eqb x.position x.position refl i && bit_at x.lanes lane) || none_higher x.position xs (behind x xs up) i) ∙ or_false (bit_at x.lanes lane)
      where
        or_false : (b : Bool) → (b || false) ≡ b
        or_false true = refl
        or_false false = refl

    beside : (position : ℕ) → x.position ≢ position → is_noted (x ∷ xs) lane position ≡ is_noted xs lane position
    beside position other = λ i. (ne_eqb x.position position other i && bit_at x.lanes lane) || is_noted xs lane position

    lower : (position : ℕ) → position < x.position → is_noted (x ∷ xs) lane position ≡ false
    lower position less = none_higher position (x ∷ xs) (λ k d h. first_or k d h)
      where
        first_or : All (λ n. position < n.position) (x ∷ xs)
        first_or zero d h = less
        first_or (suc k) d h = let more = behind x xs up k d (omega (arith, h)) in omega (arith, more, less)

    -- a note that doesn't have the lane doesn't count
    without : bit_at x.lanes lane ≡ false → (position : ℕ) → is_noted (x ∷ xs) lane position ≡ is_noted xs lane position
    without off position = (λ i. (eqb x.position position && off i) || is_noted xs lane position) ∙ none (eqb x.position position) (is_noted xs lane position)
      where
        none : (a b : Bool) → ((a && false) || b) ≡ b
        none true b = refl
        none false b = refl

  module _ (x y : Note) (xs ys : List Note) (one : AreAscending (x ∷ xs)) (other : AreAscending (y ∷ ys)) where
    -- the lower position is noted by one list only
    pub alike_lower : x.position < y.position → AreNotedAlike lane (x ∷ xs) (y ∷ ys) ↔ ((bit_at x.lanes lane ≡ false) × AreNotedAlike lane xs (y ∷ ys))
    alike_lower less = (
      λ same.
          let off = sym (here x xs one) ∙ (same x.position ∙ lower y ys other x.position less) in
          (off, λ position. sym (without x xs one off position) ∙ same position),
      λ parts position. without x xs one parts.0 position ∙ parts.1 position,
    )

    pub alike_equal : x.position ≡ y.position → AreNotedAlike lane (x ∷ xs) (y ∷ ys) ↔ ((bit_at x.lanes lane ≡ bit_at y.lanes lane) × AreNotedAlike lane xs ys)
    alike_equal e = (
      λ same. (
        sym (here x xs one) ∙ (same x.position ∙ (ap (λ (p : ℕ). is_noted (y ∷ ys) lane p) e ∙ here y ys other)),
        λ position. elim (cases_eq x.position position) [
          | inl is ↦ rw (sym is) (none_higher x.position xs (behind x xs one) ∙ sym (ap (λ (p : ℕ). is_noted ys lane p) e ∙ none_higher y.position ys (behind y ys other)))
          | inr ne ↦ sym (beside x xs one position ne) ∙ (same position ∙ beside y ys other position (λ is. ne (e ∙ is)))
        ],
      ),
      λ parts position. λ i. (eqb (e i) position && parts.0 i) || parts.1 position i,
    )

-- ---- place by place

pub ascending_drop : (notes : List Note) (k : ℕ) → AreAscending notes → AreAscending (drop k notes)
ascending_drop notes k up i j d less h = rw (get_or-drop k notes i d, get_or-drop k notes j d) (up (k + i) (k + j) d (omega (arith, less)) (omega (arith, h, length-drop k notes)))

same_xor : (a b : Bool) → (if a then not b else b) ≡ false → a ≡ b
same_xor true true e = refl
same_xor true false e = absurd (false≢true (sym e))
same_xor false true e = absurd (false≢true (sym e))
same_xor false false e = refl

xor_same : (a b : Bool) → a ≡ b → (if a then not b else b) ≡ false
xor_same true true e = refl
xor_same true false e = absurd (false≢true (sym e))
xor_same false true e = absurd (false≢true e)
xor_same false false e = refl

one_more : (k : ℕ) → suc k ≡ k + 1
one_more k = omega arith

-- The two rests note the same in the lane, and so far the lane has 0.
abbrev pub SameFrom : ℕ → List Bool → List Note → List Note → Type 0
SameFrom lane lanes one other = (bit_at lanes lane ≡ false) × AreNotedAlike lane one other

module _ (lane : ℕ) (one other : List Note) (at by : ℕ) (x y : Note) (up : AreAscending one) (up_too : AreAscending other) (h : at < length one) (h_too : by < length other) (x_is : x ≡ get_or one at x) (y_is : y ≡ get_or other by y) (lanes new : List Bool) where
  first : drop at one ≡ x ∷ drop (at + 1) one
  first = drop-cons one at x h ∙ (λ i. sym x_is i ∷ drop (one_more at i) one)

  second : drop by other ≡ y ∷ drop (by + 1) other
  second = drop-cons other by y h_too ∙ (λ i. sym y_is i ∷ drop (one_more by i) other)

  up_first : AreAscending (x ∷ drop (at + 1) one)
  up_first = subst AreAscending first (ascending_drop one at up)

  up_second : AreAscending (y ∷ drop (by + 1) other)
  up_second = subst AreAscending second (ascending_drop other by up_too)

  pub step_lower : x.position < y.position → bit_at new lane ≡ (bit_at lanes lane || bit_at x.lanes lane) → SameFrom lane lanes (drop at one) (drop by other) ↔ SameFrom lane new (drop (at + 1) one) (drop by other)
  step_lower less is =
      let step = alike_lower lane x y (drop (at + 1) one) (drop (by + 1) other) up_first up_second less in
      rw (first, second) (
        λ same. let both = step.0 same.1 in (is ∙ or_from (bit_at lanes lane) (bit_at x.lanes lane) same.0 both.0, both.1),
        λ same. let both = or_parts (bit_at lanes lane) (bit_at x.lanes lane) (sym is ∙ same.0) in (both.0, step.1 (both.1, same.1)),
      )

  pub step_equal : x.position ≡ y.position → bit_at new lane ≡ (bit_at lanes lane || (if bit_at x.lanes lane then not (bit_at y.lanes lane) else bit_at y.lanes lane)) → SameFrom lane lanes (drop at one) (drop by other) ↔ SameFrom lane new (drop (at + 1) one) (drop (by + 1) other)
  step_equal e is =
      let step = alike_equal lane x y (drop (at + 1) one) (drop (by + 1) other) up_first up_second e in
      let bit : Bool = if bit_at x.lanes lane then not (bit_at y.lanes lane) else bit_at y.lanes lane in
      rw (first, second) (
        λ same. let both = step.0 same.1 in (is ∙ or_from (bit_at lanes lane) bit same.0 (xor_same (bit_at x.lanes lane) (bit_at y.lanes lane) both.0), both.1),
        λ same. let both = or_parts (bit_at lanes lane) bit (sym is ∙ same.0) in (both.0, step.1 (same_xor (bit_at x.lanes lane) (bit_at y.lanes lane) both.1, same.1)),
      )

-- the lists change places
pub other_way : (lane : ℕ) (lanes : List Bool) (one other : List Note) → SameFrom lane lanes one other ↔ SameFrom lane lanes other one
other_way lane lanes one other = (λ same. (same.0, λ position. sym (same.1 position)), λ same. (same.0, λ position. sym (same.1 position)))

pub and_then : {A B C : Type 0} → A ↔ B → B ↔ C → A ↔ C
and_then one two = (λ a. two.0 (one.0 a), λ c. one.1 (two.1 c))

-- the same for one list and an empty one
pub step_end : (lane : ℕ) (notes : List Note) (at : ℕ) (x : Note) (lanes new : List Bool) → AreAscending notes → at < length notes → x ≡ get_or notes at x → bit_at new lane ≡ (bit_at lanes lane || bit_at x.lanes lane)
    → SameFrom lane lanes (drop at notes) [] ↔ SameFrom lane new (drop (at + 1) notes) []
step_end lane notes at x lanes new up h x_is is =
    let rest = drop (at + 1) notes in
    let front : drop at notes ≡ x ∷ rest = drop-cons notes at x h ∙ (λ i. sym x_is i ∷ drop (one_more at i) notes) in
    let up_front : AreAscending (x ∷ rest) = subst AreAscending front (ascending_drop notes at up) in
    rw front (
      λ same.
          let off = sym (here lane x rest up_front) ∙ same.1 x.position in
          (is ∙ or_from (bit_at lanes lane) (bit_at x.lanes lane) same.0 off, λ position. sym (without lane x rest up_front off position) ∙ same.1 position),
      λ same. let both = or_parts (bit_at lanes lane) (bit_at x.lanes lane) (sym is ∙ same.0) in (both.0, λ position. without lane x rest up_front both.1 position ∙ same.1 position),
    )

-- if one list has come to its end, only the other's lanes count
pub at_end : (lane : ℕ) (lanes a b : List Bool) (xs ys : List Note) → (xs ≡ []) ⊎ (ys ≡ []) → (bit_at a lane ≡ false) ↔ AreNotedAlike lane xs [] → (bit_at b lane ≡ false) ↔ AreNotedAlike lane ys []
    → SameFrom lane lanes xs ys ↔ (((bit_at lanes lane || bit_at a lane) || bit_at b lane) ≡ false)
at_end lane lanes a b xs ys end first second = (
  λ same. or_from (bit_at lanes lane || bit_at a lane) (bit_at b lane) (or_from (bit_at lanes lane) (bit_at a lane) same.0 (first.1 (no_first same.1))) (second.1 (no_second same.1)),
  λ none.
      let outer = or_parts (bit_at lanes lane || bit_at a lane) (bit_at b lane) none in
      let inner = or_parts (bit_at lanes lane) (bit_at a lane) outer.0 in
      (inner.0, λ position. first.0 inner.1 position ∙ sym (second.0 outer.1 position)),
)
  where
    no_first : AreNotedAlike lane xs ys → AreNotedAlike lane xs []
    no_first same = elim end [ inl e ↦ rw e (λ position. refl) | inr e ↦ rw e at same ]

    no_second : AreNotedAlike lane xs ys → AreNotedAlike lane ys []
    no_second same = elim end [ inl e ↦ (λ position. sym (same position) ∙ ap (λ (ns : List Note). is_noted ns lane position) e) | inr e ↦ rw e (λ position. refl) ]

-- a list has come to its end
pub ended : (notes : List Note) (at : ℕ) → length notes ≤ at → drop at notes ≡ []
ended notes at over = none (drop at notes) (omega (arith, length-drop at notes, over))
  where
    none : (ns : List Note) → length ns ≡ 0 → ns ≡ []
    none [] e = refl
    none (n ∷ ns) e = absurd (omega (arith, e))
