-- The fields after a cut.
use Rattle.std.proofs.Common.{◌≡◌, ◌≢◌, ◌∙◌, ℕ, ◌+◌, ◌-◌, ◌<◌, ◌≤◌, ◌^◌, ◌&&◌, ◌⊎◌, Bool, eqb, List, [], ◌∷◌, ◌++◌, replicate, length, get_or, map, refl, sym, ap, subst, arith, inl, inr, Option, Some, IsTrue, ◌↔◌, filter, find, unwrap_or, All, Contains}
use Rattle.std.specs.List.{range_with_len}
use Rattle.std.proofs.lemmas.Bool.{cases_lt, cases_Bool, and_parts, and_from, eqb-true, eqb-false, eq-eqb}
use Rattle.std.proofs.lemmas.Bool.Decides.{nat_tests}
use Rattle.std.proofs.lemmas.List.{length-append, length-map, length-replicate, get_or-map, get_or-replicate, get_or_append_left, get_or-append_right, get_or_default}
use Rattle.std.proofs.lemmas.List.Elements.{All-map}
use Rattle.std.proofs.lemmas.Option.{slice_get-get_or}
use Rattle.std.proofs.lemmas.Simd.{map-map}
use Rattle.std.specs.Cmp.Derive.{one_truth}
use Rattle.net_model.specs.ClassTable.{ClassTable, first_table, class_count, class_at, members, representative, piece_lowest, new_lowest, class_after, refined_table, cuts_class, SplitBy}
use Rattle.net_model.proofs.Elements.{true_false}
use Rattle.class_refine.specs.Fields.{IsWhole, HasGroups, table_with}
use Rattle.class_refine.specs.Steps.{is_in, piece_of, ArePieces, staying, IsMove}
use Rattle.class_refine.proofs.Ranges.{filter_all, range_below, position_cases}
use Rattle.class_refine.proofs.Pieces.{IsSound, representative_lowest, members-All, members-contains, piece_is, new_lowest-All, after_cases, moves_into, moved_from}
use Rattle.class_refine.proofs.Refined.{sound_from, representative-member, split_adds, adds_split, cuts_from, from_cuts, whole-first, few_classes, whole-refined, count-refined, numbers-refined, class-refined, class_old, part_members}

-- after a cut there are at most as many classes as numbers, whether it adds some or not
pub few_after : (t : ClassTable) (row : List (List Bool)) → IsWhole t → class_count t + length (new_lowest t row) ≤ length t.class_of
few_after t row w =
    grind (arith, few_classes t w, few_classes (refined_table t row), whole-refined t row w, count-refined t row, numbers-refined t row)

is_in-inside : (class_of : List ℕ) (class n : ℕ) → n < length class_of → is_in class_of class n ≡ eqb (get_or class_of n 0) class
is_in-inside class_of class n h = rw (slice_get-get_or class_of n 0 h) refl

-- The groups with the pieces after them, before any number leaves.
pub record AreJoined (t : ClassTable) (row : List (List Bool)) (groups : List (List ℕ)) : Type 0 where
  pub whole : IsWhole t
  pub small : length t.class_of < 2 ^ 32
  pub count : length groups ≡ class_count (refined_table t row)
  pub old : (class : ℕ) → class < class_count t → get_or groups class [] ≡ members t class
  pub new : (class : ℕ) → class_count t ≤ class → class < class_count (refined_table t row) → get_or groups class [] ≡ members (refined_table t row) class

module _ (t : ClassTable) (row : List (List Bool)) (sound : IsSound t) where
  -- a piece has the members of the class that it becomes
  piece_members : (k : ℕ) → k < length (new_lowest t row) → piece_of t row (get_or (new_lowest t row) k 0) ≡ members (refined_table t row) (class_count t + k)
  piece_members k h =
      let low = get_or (new_lowest t row) k 0 in
      part_members t row (class_at t low) (class_count t + k) (λ n. eqb (piece_lowest t row n) low)
      (λ n inside.
      let was = eqb (class_at t n) (class_at t low) in
      let own = eqb (piece_lowest t row n) low in
      let after = class-refined t row n inside in
      one_truth (was && own) (eqb (class_at (refined_table t row) n) (class_count t + k)) (λ e. grind (arith, nat_tests, and_parts was own e, after, moves_into t row sound k n h inside))
      (λ e. grind (arith, nat_tests, and_from was own, after, moved_from t row sound k n inside, (piece_is t row n inside).class, e)))

  joined_by : (groups pieces : List (List ℕ)) (parents : List ℕ) → HasGroups t groups → ArePieces t row (new_lowest t row) pieces parents → AreJoined t row (groups ++ pieces)
  joined_by groups pieces parents kept are =
      let long : length pieces ≡ length (new_lowest t row) = ap length are.groups_are ∙ length-map (new_lowest t row) (piece_of t row) in
      record {
        whole = kept.whole;
        small = kept.small;
        count = omega (arith, length-append groups pieces, long, kept.count, count-refined t row);
        old = λ class h. get_or_append_left groups pieces [] class (omega (arith, h, kept.count)) ∙ kept.each class h;
        new = λ class from below.
            let k = class - class_count t in
            let place : class_count t + k ≡ class = omega (arith, from) in
            let inside : k < length (new_lowest t row) = omega (arith, from, below, count-refined t row) in
            get_or-append_right groups pieces (class_count t) class [] kept.count from
            ∙ (ap (λ gs. get_or gs k []) are.groups_are ∙ (get_or-map (piece_of t row) (new_lowest t row) k 0 [] inside ∙ (piece_members k inside ∙ ap (members (refined_table t row)) place)));
      }

pub joined : (t : ClassTable) (row : List (List Bool)) (groups pieces : List (List ℕ)) (parents : List ℕ) → HasGroups t groups → ArePieces t row (new_lowest t row) pieces parents → AreJoined t row (groups ++ pieces)
joined t row groups pieces parents kept are = joined_by t row (sound_from t kept.whole) groups pieces parents kept are

module _ (t : ClassTable) (row : List (List Bool)) (groups : List (List ℕ)) (are : AreJoined t row groups) where
  abbrev sound : IsSound t
  sound = sound_from t are.whole

  pub few_joined : length groups < 2 ^ 32
  few_joined = omega (arith, few_after t row are.whole, are.small, are.count, count-refined t row)

  pub joined_inside : All (All (λ n. n < length t.class_of)) groups
  joined_inside k d h =
      let group = get_or_default groups k d [] h in
      elim (cases_lt k (class_count t)) [
        | inl old ↦ rw (group ∙ are.old k old) (λ a b l. (members-All t k a b l).0)
        | inr new ↦ rw (group ∙ are.new k new (omega (arith, h, are.count))) (λ a b l. omega (arith, (members-All (refined_table t row) k a b l).0, numbers-refined t row))
      ]

  pub parents_inside : (parents : List ℕ) → parents ≡ map (class_at t) (new_lowest t row) → All (λ parent. parent < length groups) parents
  parents_inside parents parents_are =
      rw parents_are
      (All-map (λ parent. parent < length groups) (class_at t) (new_lowest t row)
      (λ k d h. omega (arith, sound.classes (get_or (new_lowest t row) k d) (new_lowest-All t row k d h).inside, are.count, count-refined t row)))

  pub moves : IsMove t.class_of groups (class_count t) (class_after t row)
  moves = record {
    moved = λ class from below.
        rw (are.new class from (omega (arith, below, are.count)))
        (λ k d l.
        let is = members-All (refined_table t row) class k d l in
        sym (class-refined t row (get_or (members (refined_table t row) class) k d) (omega (arith, is.0, numbers-refined t row))) ∙ is.1);
    others = λ n h. elim (after_cases t row sound n h) [
      | inl s ↦ inl s.after
      | inr (k, m) ↦
          let class = class_after t row n in
          let from : class_count t ≤ class = omega (arith, m.after) in
          let below : class < class_count (refined_table t row) = omega (arith, m.after, m.within, count-refined t row) in
          let has = subst (λ c. Contains (members (refined_table t row) c) n) (class-refined t row n h) (members-contains (refined_table t row) n (omega (arith, h, numbers-refined t row))) in
          inr (class, from, omega (arith, below, are.count), subst (λ g. Contains g n) (sym (are.new class from below)) has)
    ];
  }

  new_left : (class : ℕ) → class_count t ≤ class → class < class_count (refined_table t row) → staying (refined_table t row).class_of groups class ≡ members (refined_table t row) class
  new_left class from below =
      rw (are.new class from below)
      (filter_all (is_in (refined_table t row).class_of class) (members (refined_table t row) class)
      (λ k d l. let is = members-All (refined_table t row) class k d l in is_in-inside (refined_table t row).class_of class _ is.0 ∙ eq-eqb _ class is.1))

  -- the numbers of a group that are of its class after the cut are the members of the class
  pub left_are : (class : ℕ) → class < class_count (refined_table t row) → staying (refined_table t row).class_of groups class ≡ members (refined_table t row) class
  left_are class below =
      elim (cases_lt class (class_count t)) [
        | inr new ↦ new_left class new below
        | inl old ↦
            let now = (refined_table t row).class_of in
            rw (are.old class old)
            (part_members t row class class (is_in now class)
            (λ n inside.
            let is = is_in-inside now class n (omega (arith, inside, numbers-refined t row)) in
            rw is
            (one_truth (eqb (class_at t n) class && eqb (get_or now n 0) class) (eqb (get_or now n 0) class) (λ e. (and_parts (eqb (class_at t n) class) (eqb (get_or now n 0) class) e).1)
            (λ e. grind (arith, nat_tests, and_from (eqb (class_at t n) class) (eqb (get_or now n 0) class), class_old t row sound n inside, class-refined t row n inside, e)))))
      ]

  -- a class is the parent of a piece, or no number left it
  pub left_or_parent : (parents : List ℕ) → parents ≡ map (class_at t) (new_lowest t row) → (class : ℕ) → class < class_count (refined_table t row)
      → Contains parents class ⊎ (staying (refined_table t row).class_of groups class ≡ get_or groups class [])
  left_or_parent parents parents_are class below =
      elim (cases_lt class (class_count t)) [
        | inr new ↦ inr (new_left class new below ∙ sym (are.new class new below))
        | inl old ↦ elim (position_cases (λ parent. eqb parent class) parents) [
          | inr (k, l, e, found) ↦ inl (k, l, get_or_default parents k class 0 l ∙ eqb-true (get_or parents k 0) class e)
          | inl (none, all) ↦
              let other : (j : ℕ) → j < length (new_lowest t row) → class_at t (get_or (new_lowest t row) j 0) ≢ class = λ j l e.
              let parent : get_or parents j 0 ≡ class = ap (λ ps. get_or ps j 0) parents_are ∙ (get_or-map (class_at t) (new_lowest t row) j 0 0 l ∙ e) in
              eqb-false (get_or parents j 0) class (all j 0 (omega (arith, l, ap length parents_are, length-map (new_lowest t row) (class_at t)))) parent in
              inr (rw (are.old class old) (filter_all (is_in (refined_table t row).class_of class) (members t class)
              (λ k d l.
              let n = get_or (members t class) k d in
              let is = members-All t class k d l in
              is_in-inside (refined_table t row).class_of class n (omega (arith, is.0, numbers-refined t row))
              ∙ eq-eqb (class_at (refined_table t row) n) class (grind (arith, class-refined t row n is.0, after_cases t row sound n is.0, is.1, (piece_is t row n is.0).class, other)))))
        ]
      ]

  pub kept_after : (left : List (List ℕ)) (parents : List ℕ) → 0 < length (new_lowest t row) → parents ≡ map (class_at t) (new_lowest t row) → length left ≡ length groups
      → ((class : ℕ) → Contains parents class ⊎ (staying (refined_table t row).class_of groups class ≡ get_or groups class []) → get_or left class [] ≡ staying (refined_table t row).class_of groups class)
      → HasGroups (refined_table t row) left
  kept_after left parents some parents_are long each = record {
    whole = whole-refined t row are.whole some;
    small = omega (arith, numbers-refined t row, are.small);
    count = long ∙ are.count;
    each = λ class h. each class (left_or_parent parents parents_are class h) ∙ left_are class h;
  }

-- ---- the fields

pub kept_first : (numbers : ℕ) (group : List ℕ) → group ≡ range_with_len 0 numbers → 0 < numbers → numbers < 2 ^ 32 → HasGroups (first_table numbers) (group ∷ [])
unfolding members
kept_first numbers group is some fits =
    let long = length-replicate {A = ℕ} numbers 0 in
    record {
      whole = whole-first numbers some;
      small = omega (arith, long, fits);
      count = refl;
      each = λ class h.
          let zero : class ≡ 0 = omega (arith, h) in
          rw (zero, long)
          (is
          ∙ sym (filter_all (λ m. eqb (get_or (replicate numbers 0) m 0) 0) (range_with_len 0 numbers)
          (λ k d l. let m = get_or (range_with_len 0 numbers) k d in eq-eqb (get_or (replicate numbers 0) m 0) 0 (get_or-replicate numbers m 0 0 (range_below numbers k d l)))));
    }

pub table_after : (t : ClassTable) (row : List (List Bool)) (classes parents : List ℕ) (births : List (Option (ℕ × ℕ))) (patterns : ℕ) → classes ≡ map (class_after t row) (range_with_len 0 (length t.class_of))
    → parents ≡ map (class_at t) (new_lowest t row) → births ≡ t.births ++ map (λ parent. Some (parent, patterns)) parents → patterns ≡ t.patterns → table_with classes births (patterns + 1) ≡ refined_table t row
unfolding refined_table
table_after t row classes parents births patterns classes_are parents_are births_are patterns_are =
    rw (classes_are, births_are, parents_are, patterns_are, map-map {C = Option (ℕ × ℕ)} (λ (parent : ℕ). Some (parent, t.patterns)) (class_at t) (new_lowest t row)) refl

-- ---- the first member of a group

-- the number is the lowest member of a class
pub record IsRepresentative (t : ClassTable) (class n : ℕ) : Type 0 where
  pub value : n ≡ representative t class
  pub member : class_at t n ≡ class
  pub within : n < length t.class_of
  pub lowest : (k : ℕ) → k < n → class_at t k ≢ class

first-filter : (p : ℕ → Bool) (xs : List ℕ) → get_or (filter p xs) 0 0 ≡ unwrap_or (find p xs) 0
first-filter p [] = refl
first-filter p (x ∷ xs) =
    elim (cases_Bool (p x)) [
      | inl t ↦ rw t refl
      | inr f ↦ rw f (first-filter p xs)
    ]

pub first_is : (t : ClassTable) (groups : List (List ℕ)) (class : ℕ) → HasGroups t groups → class < class_count t → (0 < length (get_or groups class [])) × IsRepresentative t class (get_or (get_or groups class []) 0 0)
unfolding members representative
first_is t groups class kept h =
    let n = kept.whole.inhabited class h in
    let rep = representative-member t kept.whole class h in
    let is = representative_lowest t n.0 n.1 in
    let has = subst (λ c. Contains (members t c) n.0) n.2 (members-contains t n.0 n.1) in
    let value : get_or (get_or groups class []) 0 0 ≡ representative t class = ap (λ g. get_or g 0 0) (kept.each class h) ∙ first-filter (λ m. eqb (class_at t m) class) (range_with_len 0 (length t.class_of)) in (
      omega (arith, ap length (kept.each class h), has.1),
      subst (IsRepresentative t class) (sym value) (record {
        value = refl;
        member = rep.1;
        within = rep.0;
        lowest = λ k l here. true_false (eqb (class_at t k) (class_at t n.0)) (eq-eqb (class_at t k) (class_at t n.0) (here ∙ sym n.2)) (is.below k (subst (λ c. k < representative t c) (sym n.2) l));
      }),
    )

-- ---- what is added

pub record Adds (t : ClassTable) (row : List (List Bool)) (added : ℕ) : Type 0 where
  pub cuts : (0 < added) ↔ IsTrue (cuts_class t row)
  pub splits : (0 < added) ↔ SplitBy t row

pub adds : (t : ClassTable) (row : List (List Bool)) (added : ℕ) → IsWhole t → added ≡ length (new_lowest t row) → Adds t row added
adds t row added w e = record {
  cuts = (λ h. cuts_from t row (omega (arith, e, h)), λ cut. omega (arith, e, from_cuts t row cut));
  splits = (λ h. adds_split t row (sound_from t w) (omega (arith, e, h)), λ split. omega (arith, e, split_adds t row (sound_from t w) split));
}

pub none_added : (t : ClassTable) (row : List (List Bool)) → IsWhole t → (SplitBy t row → ⊥) → 0 ≡ length (new_lowest t row)
none_added t row w none = grind (arith, adds_split t row (sound_from t w), none)
