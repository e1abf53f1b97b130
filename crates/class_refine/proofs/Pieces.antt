-- The pieces into which a row of answers cuts the classes of a table.
use Rattle.std.proofs.Common.{◌≡◌, ◌≢◌, ◌∙◌, ℕ, ◌+◌, ◌<◌, ◌≤◌, Bool, true, false, not, eqb, ◌⊎◌, List, length, get_or, refl, sym, ap, arith, inl, inr, Option, None, filter, MatchOption, All, AllPairs, Contains}
use Rattle.std.specs.Bool.{Decides}
use Rattle.std.specs.Cmp.{booleans_Decides}
use Rattle.std.specs.List.{range_with_len}
use Rattle.std.specs.Option.{option_map_or}
use Rattle.std.proofs.lemmas.Bool.{eqb-true, eq-eqb}
use Rattle.std.proofs.lemmas.Bool.Decides.{Decides-eqb, Decides-and, Decides-not}
use Rattle.std.proofs.lemmas.List.Elements.{All-contains, All-filter, filter_passes, Contains-get_or}
use Rattle.std.proofs.lemmas.List.Kept.{AllPairs-filter}
use Rattle.std.proofs.lemmas.Slice.Eq.{slice_eq-Decides}
use Rattle.net_model.specs.ClassTable.{ClassTable, same_bits, number_range, class_count, class_at, members, representative, answer_at, stay_together, piece_lowest, begins_class, new_lowest, class_after}
use Rattle.net_model.proofs.Elements.{true_false, Contains-filter, Contains-flat_map}
use Rattle.class_refine.specs.Laws.{ComesBefore}
use Rattle.class_refine.proofs.Ranges.{IsLowest, found_lowest, lowest_once, range_below, range-contains, Ascends, range_ascends, AreDistinct, same_place, from_parts, parts-pairs, position_cases}

-- Each number has a class that is counted, and each class except class 0 was cut from a lower one by one of the
-- patterns.
pub record IsSound (t : ClassTable) : Type 0 where
  pub classes : (n : ℕ) → n < length t.class_of → class_at t n < class_count t
  pub births : (class : ℕ) → class < class_count t → MatchOption (get_or t.births class None) (class ≡ 0) (λ birth. (birth.0 < class) × (birth.1 < t.patterns))

module _ (t : ClassTable) where
  -- the representative of a number's class is the lowest number of the class
  pub representative_lowest : (n : ℕ) → n < length t.class_of → IsLowest (λ m. eqb (class_at t m) (class_at t n)) n (representative t (class_at t n))
  unfolding representative
  representative_lowest n h =
      found_lowest (λ m. eqb (class_at t m) (class_at t n)) 0 (length t.class_of) n (omega arith) (λ e. absurd (omega (arith, e))) (eq-eqb (class_at t n) (class_at t n) refl)

  pub members-All : (class : ℕ) → All (λ n. (n < length t.class_of) × (class_at t n ≡ class)) (members t class)
  unfolding members
  members-All class k d h = (
    All-filter (λ n. eqb (class_at t n) class) (λ n. n < length t.class_of) (number_range t) (range_below (length t.class_of)) k d h,
    eqb-true (class_at t (get_or (members t class) k d)) class (filter_passes (λ n. eqb (class_at t n) class) (number_range t) k d h),
  )

  pub members-contains : (n : ℕ) → n < length t.class_of → Contains (members t (class_at t n)) n
  unfolding members
  members-contains n h = Contains-filter (λ m. eqb (class_at t m) (class_at t n)) (number_range t) n (range-contains (length t.class_of) n h) (eq-eqb (class_at t n) (class_at t n) refl)

  pub members_ascend : (class : ℕ) → Ascends (members t class)
  unfolding members
  members_ascend class = AllPairs-filter (λ x y. x < y) (λ n. eqb (class_at t n) class) (number_range t) (range_ascends (length t.class_of))

  module _ (row : List (List Bool)) where
    -- ---- pieces

    together : (m n : ℕ) → Decides (stay_together t row m n) ((class_at t m ≡ class_at t n) × (answer_at t row m ≡ answer_at t row n))
    together m n =
        Decides-and (eqb (class_at t m) (class_at t n)) (same_bits (answer_at t row m) (answer_at t row n)) (Decides-eqb (class_at t m) (class_at t n))
        (slice_eq-Decides booleans_Decides (answer_at t row m) (answer_at t row n) (same_bits (answer_at t row m) (answer_at t row n)) refl)

    pub stays : (m n : ℕ) → stay_together t row m n ≡ true → (class_at t m ≡ class_at t n) × (answer_at t row m ≡ answer_at t row n)
    stays m n = (together m n).0

    pub staying : (m n : ℕ) → class_at t m ≡ class_at t n → answer_at t row m ≡ answer_at t row n → stay_together t row m n ≡ true
    staying m n class answer = (together m n).1 (class, answer)

    pub piece_lowest-is : (n : ℕ) → n < length t.class_of → IsLowest (stay_together t row n) n (piece_lowest t row n)
    unfolding piece_lowest
    piece_lowest-is n h = found_lowest (stay_together t row n) n (length t.class_of) n (omega arith) (λ e. refl) (staying n n refl refl)

    pub same_piece : (m n : ℕ) → m < length t.class_of → n < length t.class_of → class_at t m ≡ class_at t n → answer_at t row m ≡ answer_at t row n
        → piece_lowest t row m ≡ piece_lowest t row n
    same_piece m n hm hn class answer =
        let other = piece_lowest-is n hn in
        lowest_once (stay_together t row m) m n (piece_lowest t row m) (piece_lowest t row n) (piece_lowest-is m hm) (record {
          passes = let s = stays n (piece_lowest t row n) other.passes in staying m (piece_lowest t row n) (class ∙ s.0) (answer ∙ s.1);
          within = other.within;
          below = λ k l. grind (arith, other.below k l, stays m k, staying n k);
        })

    -- the lowest of a piece is of the number's class, has its answer, and is the lowest of its own piece
    pub record IsPiece (n low : ℕ) : Type 0 where
      pub inside : low < length t.class_of
      pub within : low ≤ n
      pub class : class_at t low ≡ class_at t n
      pub answer : answer_at t row low ≡ answer_at t row n
      pub own : piece_lowest t row low ≡ low

    pub piece_is : (n : ℕ) → n < length t.class_of → IsPiece n (piece_lowest t row n)
    piece_is n h =
        let is = piece_lowest-is n h in
        let s = stays n (piece_lowest t row n) is.passes in
        let inside : piece_lowest t row n < length t.class_of = omega (arith, is.within) in
        record { inside = inside; within = is.within; class = sym s.0; answer = sym s.1; own = same_piece (piece_lowest t row n) n inside h (sym s.0) (sym s.1) }

    -- the representative of a number's class, which is the lowest of its own piece
    pub lead_is : (n : ℕ) → n < length t.class_of → let rep = representative t (class_at t n) in (rep < length t.class_of) × (class_at t rep ≡ class_at t n) × (piece_lowest t row rep ≡ rep)
    lead_is n h =
        let rep = representative t (class_at t n) in
        let is = representative_lowest n h in
        let class = eqb-true (class_at t rep) (class_at t n) is.passes in
        let inside : rep < length t.class_of = omega (arith, is.within) in
        let piece = piece_is rep inside in
        (inside, class, grind (arith, is.below (piece_lowest t row rep), piece.within, eq-eqb (class_at t (piece_lowest t row rep)) (class_at t n) (piece.class ∙ class)))

    -- ---- the lowest numbers of the new classes

    -- The number is the lowest of a piece that leaves its class.
    pub record Begins (n : ℕ) : Type 0 where
      pub inside : n < length t.class_of
      pub own : piece_lowest t row n ≡ n
      pub leaves : representative t (class_at t n) ≢ n

    begins : (n : ℕ) → Decides (begins_class t row n) ((piece_lowest t row n ≡ n) × (representative t (class_at t n) ≢ n))
    unfolding begins_class
    begins n =
        Decides-and (eqb (piece_lowest t row n) n) (not (eqb (representative t (class_at t n)) n)) (Decides-eqb (piece_lowest t row n) n)
        (Decides-not (eqb (representative t (class_at t n)) n) (Decides-eqb (representative t (class_at t n)) n))

    pub begins-true : (n : ℕ) → Begins n → begins_class t row n ≡ true
    begins-true n b = (begins n).1 (b.own, b.leaves)

    pub begins_from : (n : ℕ) → n < length t.class_of → begins_class t row n ≡ true → Begins n
    begins_from n h e = let is = (begins n).0 e in record { inside = h; own = is.0; leaves = is.1 }

    abbrev part : ℕ → List ℕ
    part class = filter (begins_class t row) (members t class)

    part-All : (class : ℕ) → All (λ n. Begins n × (class_at t n ≡ class)) (part class)
    part-All class k d h =
        let is = All-filter (begins_class t row) (λ n. (n < length t.class_of) × (class_at t n ≡ class)) (members t class) (members-All class) k d h in
        (begins_from (get_or (part class) k d) is.0 (filter_passes (begins_class t row) (members t class) k d h), is.1)

    pub new_lowest-All : All Begins (new_lowest t row)
    unfolding new_lowest
    new_lowest-All k d h =
        let n = get_or (new_lowest t row) k d in
        let w = from_parts part (range_with_len 0 (class_count t)) n (Contains-get_or (new_lowest t row) k d h) in
        (All-contains (λ n. Begins n × (class_at t n ≡ w.0)) (part w.0) n (part-All w.0) w.2).0

    pub new_lowest_ordered : AllPairs (ComesBefore t) (new_lowest t row)
    unfolding new_lowest
    new_lowest_ordered =
        parts-pairs (ComesBefore t) (λ b c. b < c) part (range_with_len 0 (class_count t))
        (λ class i j d l h. inr (
          (part-All class i d (omega (arith, l, h))).1 ∙ sym (part-All class j d h).1,
          AllPairs-filter (λ x y. x < y) (begins_class t row) (members t class) (members_ascend class) i j d l h,
        ))
        (λ b c x y l in_x in_y. let class_of : (d z : ℕ) → Contains (part d) z → class_at t z ≡ d = λ d z m. (All-contains (λ n. Begins n × (class_at t n ≡ d)) (part d) z (part-All d) m).1 in inl (omega (arith, l, class_of b x in_x, class_of c y in_y)))
        (range_ascends (class_count t))

    pub new_lowest_distinct : AreDistinct (new_lowest t row)
    new_lowest_distinct = λ i j d l h e. elim (new_lowest_ordered i j d l h) [ inl class ↦ let same = ap (class_at t) e in omega (arith, class, same) | inr (class, less) ↦ omega (arith, less, e) ]

    pub new_lowest-contains : (n : ℕ) → class_at t n < class_count t → Begins n → Contains (new_lowest t row) n
    unfolding new_lowest
    new_lowest-contains n counted b =
        Contains-flat_map part (range_with_len 0 (class_count t)) (class_at t n) n (range-contains (class_count t) (class_at t n) counted)
        (Contains-filter (begins_class t row) (members t (class_at t n)) n (members-contains n b.inside) (begins-true n b))

    -- ---- the classes after the cut

    -- the number stays in its class, with the representative
    pub record Stays (n : ℕ) : Type 0 where
      pub lowest : piece_lowest t row n ≡ representative t (class_at t n)
      pub after : class_after t row n ≡ class_at t n

    -- the number comes into the k-th new class
    pub record Moves (n k : ℕ) : Type 0 where
      pub within : k < length (new_lowest t row)
      pub lowest : get_or (new_lowest t row) k 0 ≡ piece_lowest t row n
      pub after : class_after t row n ≡ class_count t + k

    -- what the position of the lowest of a piece says of the class
    abbrev class_at_place : Option ℕ → ℕ → ℕ
    class_at_place place n = option_map_or (λ k. class_count t + k) place (class_at t n)

    pub after_cases : IsSound t → (n : ℕ) → n < length t.class_of → Stays n ⊎ ((k : ℕ) × Moves n k)
    unfolding class_after
    after_cases sound n h =
        let low = piece_lowest t row n in
        let piece = piece_is n h in
        elim (position_cases (λ m. eqb m low) (new_lowest t row)) [
          | inr (k, l, same, found) ↦ inr (k, record { within = l; lowest = eqb-true (get_or (new_lowest t row) k 0) low same; after = ap (λ o. class_at_place o n) found })
          | inl (none, all) ↦ inl (record {
            lowest = grind (
              arith,
              λ (leaves : representative t (class_at t low) ≢ low). true_false {P = ⊥} (eqb low low) (eq-eqb low low refl)
                  (All-contains (λ m. eqb m low ≡ false) (new_lowest t row) low all (new_lowest-contains low (sound.classes low piece.inside) (record { inside = piece.inside; own = piece.own; leaves = leaves }))),
              ap (representative t) piece.class,
            );
            after = ap (λ o. class_at_place o n) none;
          })
        ]

    -- the numbers of the piece that begins the k-th new class come into it, and no others do
    pub moves_into : IsSound t → (k n : ℕ) → k < length (new_lowest t row) → n < length t.class_of → piece_lowest t row n ≡ get_or (new_lowest t row) k 0 → class_after t row n ≡ class_count t + k
    moves_into sound k n h inside own =
        grind (arith, after_cases sound n inside, new_lowest-All k 0 h, piece_is n inside, own, λ (j : ℕ) (l : j < length (new_lowest t row)). same_place (new_lowest t row) j k new_lowest_distinct l h)

    pub moved_from : IsSound t → (k n : ℕ) → n < length t.class_of → class_after t row n ≡ class_count t + k → get_or (new_lowest t row) k 0 ≡ piece_lowest t row n
    moved_from sound k n inside after = grind (arith, after_cases sound n inside, sound.classes n inside, after)

    -- the lowest of the k-th new class is in it
    pub lowest_moves : IsSound t → (k : ℕ) → k < length (new_lowest t row) → class_after t row (get_or (new_lowest t row) k 0) ≡ class_count t + k
    lowest_moves sound k h = let b = new_lowest-All k 0 h in moves_into sound k (get_or (new_lowest t row) k 0) h b.inside b.own

    -- the representative of a class stays in it
    pub lead_stays : IsSound t → (n : ℕ) → n < length t.class_of → class_after t row (representative t (class_at t n)) ≡ class_at t n
    lead_stays sound n h =
        let rep = representative t (class_at t n) in
        let lead = lead_is n h in
        grind (arith, after_cases sound rep lead.0, lead.1, lead.2, λ (k : ℕ) (l : k < length (new_lowest t row)). new_lowest-All k 0 l)
