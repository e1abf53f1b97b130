-- One more pattern is looked at.
use Rattle.std.proofs.Common.{◌≡◌, ◌∙◌, ◌⊎◌, ◌↔◌, ℕ, ◌+◌, ◌<◌, inl, inr, Bool, List, [], ◌∷◌, ◌++◌, length, map, take, reverse, get_or, sym, ap, subst, arith}
use Rattle.std.specs.Prelude.{All, slice_index_or}
use Rattle.std.proofs.lemmas.Bool.{cases_lt, cases_eq}
use Rattle.std.proofs.lemmas.List.{take-map, length-map, get_or_default, get_or-map, reverse-append, take_all, drop_all}
use Rattle.std.proofs.lemmas.List.Elements.{All-append, All-cons, All-nil, All-head, All-tail}
use Rattle.net_model.specs.ClassTable.{ClassTable, class_table, class_count, class_at, representative}
use Rattle.answer_numbers.specs.AnswerNumbers.{AnswerNumbers}
use Rattle.compact_tests.specs.declared.thinning.Thinning.{Thinning}
use Rattle.compact_tests.specs.Remaining.{Answered, answered_rows, remaining_behind, classes_by}
use Rattle.compact_tests.specs.Earlier.{class_before, ShareEarlier}
use Rattle.compact_tests.specs.Thinning.{HaveSameAnswers, patterns_at, remaining_from, IsThinnedTo, IsTableOfAll, IsNumbered}
use Rattle.compact_tests.specs.Sharing.{ListsSharing}
use Rattle.compact_tests.specs.Numbered.{HasParted}
use Rattle.compact_tests.proofs.EarlierLemmas.{before_pattern}
use Rattle.compact_tests.proofs.NeededLemmas.{IsAlikePair, lead, pair_remains, none_remains}

-- The pattern is needed: two classes of one group share the class that they were before it. The groups are cut by its
-- row.
pub record IsKept (t : ClassTable) (row : List (List Bool)) (pattern : ℕ) (old new : Thinning) : Type 0 where
  pub share : ShareEarlier old.groups new.earlier.items
  pub parted : (a b : ℕ) → a < class_count t → b < class_count t → class_at new.groups a ≡ class_at new.groups b ↔ ((class_at old.groups a ≡ class_at old.groups b) × (slice_index_or row (representative t a) [] ≡ slice_index_or row (representative t b) []))
  pub needed : new.needed.items ≡ old.needed.items ++ pattern ∷ []

-- The pattern isn't needed, and the groups and the needed patterns stay as they are.
pub record IsLeft (old new : Thinning) : Type 0 where
  pub none : ShareEarlier old.groups new.earlier.items → ⊥
  pub groups : new.groups ≡ old.groups
  pub needed : new.needed.items ≡ old.needed.items

pub record IsPassed (t : ClassTable) (row : List (List Bool)) (pattern : ℕ) (old new : Thinning) : Type 0 where
  pub long : length old.earlier.items ≡ class_count t
  pub earlier : new.earlier.items ≡ map (class_before t.births pattern) old.earlier.items
  pub step : IsKept t row pattern old new ⊎ IsLeft old new

module _ (numbers : ℕ) (some : 0 < numbers) (all : List Answered) (place : ℕ) (within : place < length all) where
  abbrev t : ClassTable
  t = class_table numbers (answered_rows all)

  abbrev pattern : Answered
  pattern = get_or all place ([], [])

  -- The classes before the pattern, from those after it.
  abbrev AreEarlier : ℕ → List ℕ → Type 0
  AreEarlier k earlier = (class : ℕ) → class < class_count t → get_or earlier class 0 ≡ class_at (class_table numbers (answered_rows (take k all))) (representative t class)

  earlier_more : (old : List ℕ) → length old ≡ class_count t → AreEarlier (place + 1) old → AreEarlier place (map (class_before t.births place) old)
  earlier_more old long each class h =
      let rows = answered_rows all in
      let same : (k : ℕ) → class_table numbers (answered_rows (take k all)) ≡ class_table numbers (take k rows) = λ k. ap (class_table numbers) (sym (take-map (λ (p : Answered). p.1) k all)) in
      get_or-map (class_before t.births place) old class 0 0 (omega (arith, h, long))
      ∙ ap (class_before t.births place) (each class h ∙ ap (λ (u : ClassTable). class_at u (representative t class)) (same (place + 1)))
      ∙ before_pattern numbers some rows place (omega (arith, within, length-map all (λ (p : Answered). p.1))) (representative t class) (lead numbers some all class h).0
      ∙ ap (λ (u : ClassTable). class_at u (representative t class)) (sym (same place))

  module _ (old new : Thinning) (so_far : IsThinnedTo numbers t all (place + 1) old) (long : length old.earlier.items ≡ class_count t) (earlier : new.earlier.items ≡ map (class_before t.births place) old.earlier.items) where
    earlier_are : AreEarlier place new.earlier.items
    earlier_are = subst (AreEarlier place) (sym earlier) (earlier_more old.earlier.items long so_far.earlier)

    new_long : length new.earlier.items ≡ class_count t
    new_long = ap length earlier ∙ length-map old.earlier.items (class_before t.births place) ∙ long

    shared_pair : (s : ShareEarlier old.groups new.earlier.items) → IsAlikePair numbers all place s.first s.second
    shared_pair s =
        let hb : s.second < class_count t = omega (arith, s.within, new_long) in
        let ha : s.first < class_count t = omega (arith, s.order, hb) in
        record {
          first_in = ha;
          second_in = hb;
          apart = λ e. absurd (omega (arith, e, s.order));
          before = sym (earlier_are s.first ha) ∙ (s.same ∙ earlier_are s.second hb);
          behind = (so_far.groups s.first s.second ha hb).0 s.together;
        }

    pair_shared : (a b : ℕ) → IsAlikePair numbers all place a b → ShareEarlier old.groups new.earlier.items
    pair_shared a b p =
        let same = earlier_are a p.first_in ∙ (p.before ∙ sym (earlier_are b p.second_in)) in
        let one = (so_far.groups a b p.first_in p.second_in).1 p.behind in
        elim (cases_lt a b) [
          | inl low ↦ record { first = a; second = b; order = low; within = omega (arith, p.second_in, new_long); together = one; same = same }
          | inr over ↦ record { first = b; second = a; order = omega (arith, over, p.apart); within = omega (arith, p.first_in, new_long); together = sym one; same = sym same }
        ]

    abbrev AreParted : List Answered → Type 0
    AreParted ps = (a b : ℕ) → a < class_count t → b < class_count t → class_at new.groups a ≡ class_at new.groups b ↔ HaveSameAnswers (answered_rows ps) (representative t a) (representative t b)

    kept : IsKept t pattern.1 place old new → IsThinnedTo numbers t all place new
    kept is =
        let behind = remaining_from numbers all (place + 1) in
        let remains = pair_remains numbers some all place within is.share.first is.share.second (shared_pair is.share) in
        record {
          earlier = earlier_are;
          groups = subst AreParted (sym remains) (λ a b ha hb.
              let SameAnswer : List (List Bool) → Type 0 = λ row. slice_index_or row (representative t a) [] ≡ slice_index_or row (representative t b) [] in (
                (λ same.
                    let parts = (is.parted a b ha hb).0 same in
                    All-cons SameAnswer pattern.1 (answered_rows behind) parts.1 ((so_far.groups a b ha hb).0 parts.0)),
                (λ alike. (is.parted a b ha hb).1 ((so_far.groups a b ha hb).1 (All-tail SameAnswer pattern.1 (answered_rows behind) alike), All-head SameAnswer pattern.1 (answered_rows behind) alike)),
              ));
          places = subst (All (λ p. p < length all)) (sym is.needed) (All-append (λ p. p < length all) old.needed.items (place ∷ []) so_far.places (All-cons (λ p. p < length all) place [] within (All-nil (λ p. p < length all))));
          needed = ap (λ (ps : List ℕ). patterns_at all (reverse ps)) is.needed ∙ ap (patterns_at all) (reverse-append old.needed.items (place ∷ [])) ∙ ap (λ (ps : List Answered). pattern ∷ ps) so_far.needed ∙ sym remains;
        }

    left : IsLeft old new → IsThinnedTo numbers t all place new
    left is =
        let remains = none_remains numbers some all place within (λ a b p. is.none (pair_shared a b p)) in
        record {
          earlier = earlier_are;
          groups = subst AreParted (sym remains) (subst (λ (g : ClassTable). (a b : ℕ) → a < class_count t → b < class_count t → class_at g a ≡ class_at g b ↔ HaveSameAnswers (answered_rows (remaining_from numbers all (place + 1))) (representative t a) (representative t b)) (sym is.groups) so_far.groups);
          places = subst (All (λ p. p < length all)) (sym is.needed) so_far.places;
          needed = ap (λ (ps : List ℕ). patterns_at all (reverse ps)) is.needed ∙ so_far.needed ∙ sym remains;
        }

  at_table : (old new : Thinning) → IsThinnedTo numbers t all (place + 1) old → IsPassed t pattern.1 place old new → IsThinnedTo numbers t all place new
  at_table old new so_far passed = elim passed.step [ inl is ↦ kept old new so_far passed.long passed.earlier is | inr is ↦ left old new so_far passed.long passed.earlier is ]

pub thinned_more : (numbers : ℕ) (t : ClassTable) (all : List Answered) (place : ℕ) (old new : Thinning) → IsTableOfAll numbers t all → place < length all → IsThinnedTo numbers t all (place + 1) old → IsPassed t (get_or all place ([], [])).1 place old new → IsThinnedTo numbers t all place new
thinned_more numbers t all place old new table within =
    subst (λ (u : ClassTable). IsThinnedTo numbers u all (place + 1) old → IsPassed u (get_or all place ([], [])).1 place old new → IsThinnedTo numbers u all place new) (sym table.is) (at_table numbers table.some all place within old new)

-- Groups that are cut by the answers of the leads are cut by the pattern's row.
pub parted_by : {n : AnswerNumbers} {lane : ℕ} {listed : List ℕ} {old new : ClassTable} (t : ClassTable) (all : List Answered) (pattern : ℕ) → IsNumbered n lane listed t all pattern → ListsSharing old listed → HasParted n lane listed old new → length old.class_of ≡ class_count t
    → (a b : ℕ) → a < class_count t → b < class_count t → class_at new a ≡ class_at new b ↔ ((class_at old a ≡ class_at old b) × (slice_index_or (get_or all pattern ([], [])).1 (representative t a) [] ≡ slice_index_or (get_or all pattern ([], [])).1 (representative t b) []))
parted_by {listed = listed} {old = old} {new = new} t all pattern numbered lists parted size a b ha hb =
    let row = (get_or all pattern ([], [])).1 in
    let ia : a < length old.class_of = omega (arith, ha, size) in
    let ib : b < length old.class_of = omega (arith, hb, size) in
    let Own : ℕ → ℕ → Type 0 = λ x y. class_at new x ≡ class_at new y ↔ ((class_at old x ≡ class_at old y) × (slice_index_or row (representative t x) [] ≡ slice_index_or row (representative t y) [])) in
    let at : (p q : ℕ) → p < length listed → q < length listed → Own (get_or listed p 0) (get_or listed q 0) = λ p q hp hq.
    let is = parted.together numbered.answers numbered.are p q hp hq in (
      (λ same. let both = is.0 same in (both.0, sym (numbered.own p hp) ∙ (both.1 ∙ numbered.own q hq))),
      (λ both. is.1 (both.0, numbered.own p hp ∙ (both.1 ∙ sym (numbered.own q hq)))),
    ) in
    let apart : (a ≡ b → ⊥) → class_at old a ≡ class_at old b → Own a b = λ other together.
    let p = lists.all a b ia ib other together in
    let q = lists.all b a ib ia (λ e. other (sym e)) (sym together) in
    let at_a : get_or listed p.0 0 ≡ a = get_or_default listed p.0 0 a p.1 ∙ p.2 in
    let at_b : get_or listed q.0 0 ≡ b = get_or_default listed q.0 0 b q.1 ∙ q.2 in
    subst (λ (y : ℕ). Own a y) at_b (subst (λ (x : ℕ). Own x (get_or listed q.0 0)) at_a (at p.0 q.0 p.1 q.1)) in
    elim (cases_eq a b) [
      | inl e ↦ (
        (λ same. (ap (class_at old) e, ap (λ (x : ℕ). slice_index_or row (representative t x) []) e)),
        (λ both. ap (class_at new) e),
      )
      | inr other ↦ (
        (λ same. (apart other (parted.before a b ia ib same)).0 same),
        (λ both. (apart other both.0).1 both),
      )
    ]

-- ---- behind the last pattern

module _ (numbers : ℕ) (some : 0 < numbers) (all : List Answered) (thinning : Thinning) where
  abbrev whole : ClassTable
  whole = class_table numbers (answered_rows all)

  nothing_left : remaining_from numbers all (length all) ≡ []
  nothing_left = ap (remaining_behind numbers (classes_by numbers all) (take (length all) all)) (drop_all (length all) all (omega arith))

  begun_at : ((class : ℕ) → class < class_count whole → get_or thinning.earlier.items class 0 ≡ class) → ((class : ℕ) → class < class_count whole → class_at thinning.groups class ≡ 0) → thinning.needed.items ≡ [] → IsThinnedTo numbers whole all (length all) thinning
  begun_at earlier groups none = record {
    earlier = λ class h. earlier class h ∙ (sym (lead numbers some all class h).1 ∙ ap (λ (ps : List Answered). class_at (class_table numbers (answered_rows ps)) (representative whole class)) (sym (take_all (length all) all (omega arith))));
    groups = λ a b ha hb. (
      (λ same. subst (λ (ps : List Answered). HaveSameAnswers (answered_rows ps) (representative whole a) (representative whole b)) (sym nothing_left) (All-nil (λ (row : List (List Bool)). slice_index_or row (representative whole a) [] ≡ slice_index_or row (representative whole b) []))),
      (λ alike. groups a ha ∙ sym (groups b hb)),
    );
    places = subst (All (λ p. p < length all)) (sym none) (All-nil (λ p. p < length all));
    needed = ap (λ (ps : List ℕ). patterns_at all (reverse ps)) none ∙ sym nothing_left;
  }

pub thinned_begun : (numbers : ℕ) (t : ClassTable) (all : List Answered) (thinning : Thinning) → IsTableOfAll numbers t all
    → ((class : ℕ) → class < class_count t → get_or thinning.earlier.items class 0 ≡ class) → ((class : ℕ) → class < class_count t → class_at thinning.groups class ≡ 0) → thinning.needed.items ≡ [] → IsThinnedTo numbers t all (length all) thinning
thinned_begun numbers t all thinning table =
    subst (λ (u : ClassTable). ((class : ℕ) → class < class_count u → get_or thinning.earlier.items class 0 ≡ class) → ((class : ℕ) → class < class_count u → class_at thinning.groups class ≡ 0) → thinning.needed.items ≡ [] → IsThinnedTo numbers u all (length all) thinning)
    (sym table.is) (begun_at numbers table.some all thinning)
