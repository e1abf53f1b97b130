-- The numbers that leave, in order, begin the pieces that leave.
use Rattle.std.proofs.Common.{◌≡◌, ◌∙◌, ℕ, ◌<◌, ◌≤◌, Bool, eqb, List, length, get_or, map, take, sym, ap, subst, arith, inr, filter, All, AllPairs, Contains}
use Rattle.std.proofs.lemmas.Bool.{eqb-true}
use Rattle.std.proofs.lemmas.List.{length-map, get_or-map, take_all}
use Rattle.std.proofs.lemmas.List.Elements.{All-contains, All-map}
use Rattle.std.proofs.lemmas.List.Kept.{AllPairs-filter}
use Rattle.net_model.specs.ClassTable.{ClassTable, class_at, members, representative, answer_at, piece_lowest, begins_class, new_lowest}
use Rattle.net_model.proofs.Elements.{Contains-filter, Contains-from_filter}
use Rattle.class_refine.specs.declared.leaver.Leaver.{Leaver}
use Rattle.class_refine.specs.Laws.{ComesBefore}
use Rattle.class_refine.specs.Leavers.{LeavesClass, AreLeavers}
use Rattle.class_refine.specs.Steps.{piece_of}
use Rattle.class_refine.proofs.Ranges.{same_ordered, map_where}
use Rattle.class_refine.proofs.Pieces.{IsSound, Begins, begins-true, begins_from, members-All, members_ascend, members-contains, piece_is, lead_is, same_piece, new_lowest-All, new_lowest_ordered, new_lowest-contains}
use Rattle.class_refine.proofs.Leaving.{keyed}

-- what is read if there is no leaver
abbrev pub no_leaver : Leaver
no_leaver = record { number = 0; start = 0; end = 0 }

abbrev pub numbers_of : List Leaver → List ℕ
numbers_of leavers = map (λ leaver. leaver.number) leavers

pub never_both : (t : ClassTable) (x y : ℕ) → ComesBefore t x y → ComesBefore t y x → ⊥
never_both t x y one other = grind (arith, one, other)

module _ (t : ClassTable) (row : List (List Bool)) where
  begins_leave : (n : ℕ) → Begins t row n → LeavesClass t row n
  begins_leave n b =
      let lead = lead_is t row n b.inside in
      record { below = b.inside; differs = λ e. b.leaves (sym lead.2 ∙ (same_piece t row (representative t (class_at t n)) n lead.0 b.inside lead.1 (sym e) ∙ b.own)) }

  -- the lowest number of a leaver's piece begins a class
  pub low_begins : (n : ℕ) → LeavesClass t row n → Begins t row (piece_lowest t row n)
  low_begins n l =
      let piece = piece_is t row n l.below in
      record { inside = piece.inside; own = piece.own; leaves = λ e. l.differs (sym piece.answer ∙ ap (answer_at t row) (sym e ∙ ap (representative t) piece.class)) }

  pub low_leaves : (n : ℕ) → LeavesClass t row n → LeavesClass t row (piece_lowest t row n)
  low_leaves n l = begins_leave (piece_lowest t row n) (low_begins n l)

  -- All numbers that leave, in order.
  pub record AreNumbers (ns : List ℕ) : Type 0 where
    pub ordered : AllPairs (ComesBefore t) ns
    pub only : All (LeavesClass t row) ns
    pub all : (n : ℕ) → LeavesClass t row n → Contains ns n

  pub numbers_are : (leavers : List Leaver) (positions : List ℕ) → AreLeavers t row leavers positions → AreNumbers (numbers_of leavers)
  numbers_are leavers positions are = record {
    ordered = λ i j d l h.
        let long = length-map leavers (λ (leaver : Leaver). leaver.number) in
        rw (get_or-map (λ (leaver : Leaver). leaver.number) leavers i no_leaver d (omega (arith, l, h, long)), get_or-map (λ (leaver : Leaver). leaver.number) leavers j no_leaver d (omega (arith, h, long)))
        (are.ordered i j no_leaver l (omega (arith, h, long)));
    only = All-map (LeavesClass t row) (λ (leaver : Leaver). leaver.number) leavers are.only;
    all = are.all;
  }

  module _ (ns : List ℕ) where
    -- the lowest numbers of the pieces that the first numbers begin, and what these pieces have so far
    abbrev pub begun : ℕ → List ℕ
    begun i = filter (begins_class t row) (take i ns)

    abbrev pub so_far : ℕ → List (List ℕ)
    so_far i = keyed (piece_lowest t row) (take i ns) (begun i)

    -- ---- after all numbers

    module _ (are : AreNumbers ns) where
      all_begin : IsSound t → filter (begins_class t row) ns ≡ new_lowest t row
      all_begin sound =
          same_ordered (ComesBefore t) (never_both t) (filter (begins_class t row) ns) (new_lowest t row) (AllPairs-filter (ComesBefore t) (begins_class t row) ns are.ordered) (new_lowest_ordered t row)
          (λ x has.
          let parts = Contains-from_filter (begins_class t row) ns x has in
          let inside = (All-contains (LeavesClass t row) ns x are.only parts.0).below in
          new_lowest-contains t row x (sound.classes x inside) (begins_from t row x inside parts.1))
          (λ y has.
          let b = All-contains (Begins t row) (new_lowest t row) y (new_lowest-All t row) has in
          Contains-filter (begins_class t row) ns y (are.all y (begins_leave y b)) (begins-true t row y b))

      -- the numbers that leave with a piece are its members
      piece_numbers : (low : ℕ) → Begins t row low → filter (λ n. eqb (piece_lowest t row n) low) ns ≡ piece_of t row low
      piece_numbers low b =
          let p : ℕ → Bool = λ n. eqb (piece_lowest t row n) low in
          let all = members t (class_at t low) in
          same_ordered (ComesBefore t) (never_both t) (filter p ns) (filter p all) (AllPairs-filter (ComesBefore t) p ns are.ordered)
          (AllPairs-filter (ComesBefore t) p all (λ i j d l h. inr ((members-All t (class_at t low) i d (omega (arith, l, h))).1 ∙ sym (members-All t (class_at t low) j d h).1, members_ascend t (class_at t low) i j d l h)))
          (λ x has.
          let parts = Contains-from_filter p ns x has in
          let inside = (All-contains (LeavesClass t row) ns x are.only parts.0).below in
          let class : class_at t x ≡ class_at t low = sym (piece_is t row x inside).class ∙ ap (class_at t) (eqb-true (piece_lowest t row x) low parts.1) in
          Contains-filter p all x (subst (λ c. Contains (members t c) x) class (members-contains t x inside)) parts.1)
          (λ y has.
          let parts = Contains-from_filter p all y has in
          let is = All-contains (λ n. (n < length t.class_of) × (class_at t n ≡ class_at t low)) all y (members-All t (class_at t low)) parts.0 in
          let answer : answer_at t row low ≡ answer_at t row y = ap (answer_at t row) (sym (eqb-true (piece_lowest t row y) low parts.1)) ∙ (piece_is t row y is.0).answer in
          Contains-filter p ns y (are.all y (record { below = is.0; differs = λ e. (begins_leave low b).differs (answer ∙ (e ∙ ap (λ c. answer_at t row (representative t c)) is.1)) })) parts.1)

      pub record AreDone (i : ℕ) : Type 0 where
        pub begun_are : begun i ≡ new_lowest t row
        pub pieces_are : so_far i ≡ map (piece_of t row) (new_lowest t row)

      pub done : IsSound t → (i : ℕ) → length ns ≤ i → AreDone i
      done sound i over =
          let all : begun i ≡ new_lowest t row = ap (filter (begins_class t row)) (take_all i ns over) ∙ all_begin sound in
          record {
            begun_are = all;
            pieces_are = (λ j. keyed (piece_lowest t row) (take_all i ns over j) (all j))
                ∙ map_where (λ low. filter (λ n. eqb (piece_lowest t row n) low) ns) (piece_of t row) (new_lowest t row) (λ k d l. piece_numbers (get_or (new_lowest t row) k d) (new_lowest-All t row k d l));
          }
