-- The pieces that leave a class, one member after another.
use Rattle.std.proofs.Common.{◌≡◌, ◌≢◌, ◌∙◌, ℕ, ◌+◌, ◌<◌, ◌≤◌, Bool, true, false, cond, eqb, ◌&&◌, List, [], ◌∷◌, ◌++◌, length, get_or, map, set, take, unwrap_or, refl, sym, ap, subst, arith, inl, inr, Option, None, Some, MatchOption, filter, All, Contains}
use Rattle.std.specs.Bool.{Decides}
use Rattle.std.specs.Borrow.{Bor}
use Rattle.std.specs.Cmp.Lexicographic.{slice_cmp}
use Rattle.std.specs.Option.{is_none}
use Rattle.std.specs.Ordering.{is_eq, nat_cmp}
use Rattle.std.specs.declared.cmp.Ordering.{Ordering}
use Rattle.std.specs.Str.{bytes_eq}
use Rattle.std.proofs.lemmas.Bool.{cases_lt, cases_eq, cases_Bool, eq-eqb, ne_eqb, false_from_ne_true}
use Rattle.std.proofs.lemmas.Bool.Decides.{Decides-at, nat_tests}
use Rattle.std.proofs.lemmas.List.{append-nil, ext_get_or, map-append, length-map, length-set, length_push, get_or-map, get_or-set_same, get_or-set_other, get_or_append_left, get_or_push, map_push, take_more, take_all, length-take, get_or-take}
use Rattle.std.proofs.lemmas.List.Elements.{All-contains, All-filter, All-push, All-take, filter-append, filter_more, Contains-get_or}
use Rattle.std.proofs.lemmas.List.Kept.{AllPairs-filter}
use Rattle.std.proofs.lemmas.Map.Text.{is_eq-slice_cmp}
use Rattle.std.proofs.lemmas.Slice.Eq.{bytes_eq-Decides}
use Rattle.net_model.specs.ClassTable.{ClassTable, class_at, members, representative, answer_at, piece_lowest, begins_class}
use Rattle.net_model.specs.Rows.{IsPacked}
use Rattle.net_model.proofs.Elements.{true_false, Contains-filter, Contains-from_filter}
use Rattle.net_model.proofs.RowLemmas.{packed_once, unpacked_once}
use Rattle.class_refine.specs.Steps.{piece_of, put_in, ArePieces}
use Rattle.class_refine.proofs.Ranges.{AreDistinct, Ascends, distinct_from_ascending, same_place, in_front_less, less_in_front, filter_none, map_where}
use Rattle.class_refine.proofs.Pieces.{Begins, begins-true, begins_from, members-All, members_ascend, members-contains, piece_is, lead_is, same_piece}

-- ---- numbers by their keys, with one more number

module _ (key : ℕ → ℕ) where
  -- for each of these keys, the numbers that have it
  abbrev pub keyed : List ℕ → List ℕ → List (List ℕ)
  keyed xs lows = map (λ low. filter (λ n. eqb (key n) low) xs) lows

  keyed_more : (xs lows : List ℕ) (n j : ℕ) → j < length lows → get_or (keyed (xs ++ n ∷ []) lows) j [] ≡ get_or (keyed xs lows) j [] ++ cond (eqb (key n) (get_or lows j 0)) (n ∷ []) []
  keyed_more xs lows n j l =
      let p : ℕ → Bool = λ m. eqb (key m) (get_or lows j 0) in
      get_or-map (λ low. filter (λ m. eqb (key m) low) (xs ++ n ∷ [])) lows j 0 [] l
      ∙ (filter-append p xs (n ∷ []) ∙ ap (λ g. g ++ cond (p n) (n ∷ []) []) (sym (get_or-map (λ low. filter (λ m. eqb (key m) low) xs) lows j 0 [] l)))

  long : (xs lows : List ℕ) → length (keyed xs lows) ≡ length lows
  long xs lows = length-map lows (λ low. filter (λ m. eqb (key m) low) xs)

  pub keyed_other : (xs lows : List ℕ) (n : ℕ) → All (λ low. low ≢ key n) lows → keyed (xs ++ n ∷ []) lows ≡ keyed xs lows
  keyed_other xs lows n none =
      ext_get_or [] (keyed (xs ++ n ∷ []) lows) (keyed xs lows) (long (xs ++ n ∷ []) lows ∙ sym (long xs lows))
      (λ j l. let inside : j < length lows = omega (arith, l, long (xs ++ n ∷ []) lows) in grind (arith, nat_tests, keyed_more xs lows n j inside, none j 0 inside, append-nil (get_or (keyed xs lows) j [])))

  pub keyed_known : (xs lows : List ℕ) (n k : ℕ) → AreDistinct lows → k < length lows → get_or lows k 0 ≡ key n → keyed (xs ++ n ∷ []) lows ≡ put_in (keyed xs lows) k n
  keyed_known xs lows n k apart h is =
      let all = keyed xs lows in
      let group : List ℕ = get_or all k [] ++ n ∷ [] in
      rw (ne_eqb k (length all) (λ e. omega (arith, e, long xs lows, h)))
      (ext_get_or [] (keyed (xs ++ n ∷ []) lows) (set all k group) (long (xs ++ n ∷ []) lows ∙ sym (length-set all k group ∙ long xs lows))
      (λ j l.
      let inside : j < length lows = omega (arith, l, long (xs ++ n ∷ []) lows) in
      let more = keyed_more xs lows n j inside in
      elim (cases_eq j k) [
        | inl same ↦ grind (arith, nat_tests, more, is, get_or-set_same all k group [] (omega (arith, h, long xs lows)))
        | inr ne ↦ grind (arith, nat_tests, more, is, same_place lows j k apart inside h, get_or-set_other all k j group [] ne, append-nil (get_or all j []))
      ]))

  pub keyed_new : (xs lows : List ℕ) (n : ℕ) → key n ≡ n → All (λ low. low ≢ n) lows → All (λ x. key x ≢ n) xs → keyed (xs ++ n ∷ []) (lows ++ n ∷ []) ≡ put_in (keyed xs lows) (length lows) n
  keyed_new xs lows n own others none =
      let all = keyed xs lows in
      let p : ℕ → Bool = λ m. eqb (key m) n in
      let alone : filter p (xs ++ n ∷ []) ≡ n ∷ [] =
      filter-append p xs (n ∷ []) ∙ (λ i. filter_none p xs (λ k d h. ne_eqb (key (get_or xs k d)) n (none k d h)) i ++ cond (eq-eqb (key n) n own i) (n ∷ []) []) in
      map_push (λ low. filter (λ m. eqb (key m) low) (xs ++ n ∷ [])) lows n
      ∙ ((λ i. keyed_other xs lows n (λ k d h e. others k d h (e ∙ own)) i ++ alone i ∷ [])
      ∙ sym (ap (λ b. cond b (all ++ (n ∷ []) ∷ []) (set all (length lows) (get_or all (length lows) [] ++ n ∷ []))) (eq-eqb (length lows) (length all) (sym (length-map lows (λ low. filter (λ m. eqb (key m) low) xs))))))

-- ---- words

-- the order of the words of rows
abbrev pub words_order : Bor (List ℕ) → Bor (List ℕ) → Ordering
words_order a b = slice_cmp nat_cmp a.now b.now

pub same_words : (a b : Bor (List ℕ)) → Decides (is_eq (words_order a b)) (a.now ≡ b.now)
same_words a b = Decides-at (is_eq (words_order a b)) (bytes_eq a.now b.now) (is_eq-slice_cmp a.now b.now) (bytes_eq-Decides a.now b.now)

pub in_either : {P R : Type 0} {Q S : ℕ → Type 0} (o : Option ℕ) → (P → R) → ((k : ℕ) → Q k → S k) → MatchOption o P Q → MatchOption o R S
in_either None f g m = f m
in_either (Some k) f g m = g k m

-- A place that is noted for words is that of a number whose row has them, and if none is noted no row has them.
abbrev pub IsNoted : List (List Bool) → List ℕ → Bor (List ℕ) → Option ℕ → Type 0
IsNoted row lows words place =
    MatchOption place (All (λ low. IsPacked (get_or row low []) words.now → ⊥) lows) (λ k. (k < length lows) × IsPacked (get_or row (get_or lows k 0) []) words.now)

pub record AreNoted (row : List (List Bool)) (lows : List ℕ) (noted : Bor (List ℕ) → Option ℕ) : Type 0 where
  pub at : (words : Bor (List ℕ)) → IsNoted row lows words (noted words)

-- ---- the first members of a class

module _ (t : ClassTable) (row : List (List Bool)) (class : ℕ) where
  -- the lowest numbers of the pieces that the first members begin, and what the pieces have so far
  abbrev pub begun : ℕ → List ℕ
  begun i = filter (begins_class t row) (take i (members t class))

  abbrev pub so_far : ℕ → List (List ℕ)
  so_far i = keyed (piece_lowest t row) (take i (members t class)) (begun i)

  begun_is : (i low : ℕ) → Contains (begun i) low → Begins t row low × (class_at t low ≡ class) × Contains (take i (members t class)) low
  begun_is i low m =
      let parts = Contains-from_filter (begins_class t row) (take i (members t class)) low m in
      let P : ℕ → Type 0 = λ n. (n < length t.class_of) × (class_at t n ≡ class) in
      let is = All-contains P (take i (members t class)) low (All-take P i (members t class) (members-All t class)) parts.0 in
      (begins_from t row low is.0 parts.1, is.1, parts.0)

  front_ascends : (i : ℕ) → Ascends (take i (members t class))
  front_ascends i j k d l h =
      let long = length-take i (members t class) in
      let less = members_ascend t class j k d l (omega (arith, h, long)) in
      omega (arith, less, get_or-take i (members t class) j d (omega (arith, l, h, long)), get_or-take i (members t class) k d (omega (arith, h, long)))

  module _ (i : ℕ) (h : i < length (members t class)) where
    abbrev pub here : ℕ
    here = get_or (members t class) i 0

    pub here_is : (here < length t.class_of) × (class_at t here ≡ class)
    here_is = members-All t class i 0 h

    more : take (i + 1) (members t class) ≡ take i (members t class) ++ here ∷ []
    more = take_more (members t class) i 0 h

    begun_more : (b : Bool) → begins_class t row here ≡ b → begun (i + 1) ≡ begun i ++ cond b (here ∷ []) []
    begun_more b e = filter_more (begins_class t row) (members t class) i 0 h ∙ ap (λ c. begun i ++ cond c (here ∷ []) []) e

    not_begun : (Begins t row here → ⊥) → begun (i + 1) ≡ begun i
    not_begun none = begun_more false (false_from_ne_true (begins_class t row here) (λ e. none (begins_from t row here here_is.0 e))) ∙ append-nil (begun i)

    -- a member that answers as the representative does stays
    pub record Same : Type 0 where
      pub lows : begun (i + 1) ≡ begun i
      pub pieces : so_far (i + 1) ≡ so_far i

    pub stays_here : answer_at t row here ≡ answer_at t row (representative t class) → Same
    stays_here answer =
        let rep = ap (representative t) here_is.1 in
        let lead = lead_is t row here here_is.0 in
        let low : piece_lowest t row here ≡ representative t (class_at t here) =
        same_piece t row here (representative t (class_at t here)) here_is.0 lead.0 (sym lead.1) (answer ∙ ap (answer_at t row) (sym rep)) ∙ lead.2 in
        let lows = not_begun (λ b. b.leaves (sym low ∙ b.own)) in
        record {
          lows = lows;
          pieces = (λ j. keyed (piece_lowest t row) (more j) (lows j))
              ∙ keyed_other (piece_lowest t row) (take i (members t class)) (begun i) here
              (λ k d l e.
              let is = begun_is i (get_or (begun i) k d) (Contains-get_or (begun i) k d l) in
              is.0.leaves (ap (representative t) is.1 ∙ (sym rep ∙ (sym low ∙ sym e))));
        }

    -- any other member comes to the place that is noted for its words, or after all
    pub record Turn (place : ℕ) (noted : Bor (List ℕ) → Option ℕ) : Type 0 where
      pub within : place ≤ length (begun i)
      pub parents : map (class_at t) (begun (i + 1)) ≡ cond (eqb place (length (begun i))) (map (class_at t) (begun i) ++ class ∷ []) (map (class_at t) (begun i))
      pub pieces : so_far (i + 1) ≡ put_in (so_far i) place here
      pub noted_are : AreNoted row (begun (i + 1)) noted

    module _ (differs : answer_at t row here ≢ answer_at t row (representative t class)) (old new : Bor (List ℕ) → Option ℕ) (key : Bor (List ℕ)) (packed : IsPacked (answer_at t row here) key.now)
        (wide : (m : ℕ) → m < length t.class_of → length (answer_at t row m) ≡ length (answer_at t row here)) (are : AreNoted row (begun i) old) where
      -- if no piece with these words was begun, the member begins one
      new_turn : All (λ low. IsPacked (answer_at t row low) key.now → ⊥) (begun i) → ((q : Bor (List ℕ)) → new q ≡ cond (is_eq (words_order key q)) (Some (length (begun i))) (old q)) → Turn (length (begun i)) new
      new_turn none news =
          let xs = take i (members t class) in
          let low = piece_lowest t row here in
          let piece = piece_is t row here here_is.0 in
          let leaves : (m : ℕ) → class_at t m ≡ class → answer_at t row m ≡ answer_at t row here → representative t (class_at t m) ≢ m =
          λ m is answer e. differs (sym answer ∙ ap (answer_at t row) (sym e ∙ ap (representative t) is)) in
          let own : low ≡ here = elim (cases_lt low here) [
            | inr le ↦ omega (arith, le, piece.within)
            | inl less ↦
                let is : class_at t low ≡ class = piece.class ∙ here_is.1 in
                let has = less_in_front (members t class) i low (members_ascend t class) h (subst (λ c. Contains (members t c) low) is (members-contains t low piece.inside)) less in
                let begins : Begins t row low = record { inside = piece.inside; own = piece.own; leaves = leaves low is piece.answer } in
                let in_begun = Contains-filter (begins_class t row) xs low has (begins-true t row low begins) in
                absurd (All-contains (λ low. IsPacked (answer_at t row low) key.now → ⊥) (begun i) low none in_begun (subst (λ a. IsPacked a key.now) (sym piece.answer) packed))
          ] in
          let begins : Begins t row here = record { inside = here_is.0; own = own; leaves = leaves here here_is.1 refl } in
          let lows = begun_more true (begins-true t row here begins) in
          record {
            within = omega arith;
            parents = ap (map (class_at t)) lows
                ∙ (map_push (class_at t) (begun i) here
                ∙ (λ j. cond (sym (eq-eqb (length (begun i)) (length (begun i)) refl) j) (map (class_at t) (begun i) ++ here_is.1 j ∷ []) (map (class_at t) (begun i))));
            pieces = (λ j. keyed (piece_lowest t row) (more j) (lows j))
                ∙ (keyed_new (piece_lowest t row) xs (begun i) here own
                (λ k d l e. omega (arith, e, in_front_less (members t class) i (get_or (begun i) k d) (members_ascend t class) h (begun_is i (get_or (begun i) k d) (Contains-get_or (begun i) k d l)).2))
                (λ k d l e.
                let x = get_or xs k d in
                let inside = All-take (λ n. (n < length t.class_of) × (class_at t n ≡ class)) i (members t class) (members-All t class) k d l in
                omega (arith, e, (piece_is t row x inside.0).within, in_front_less (members t class) i x (members_ascend t class) h (Contains-get_or xs k d l))));
            noted_are = record {
              at = λ q. subst (λ ls. IsNoted row ls q (new q)) (sym lows) (elim (cases_Bool (is_eq (words_order key q))) [
                | inl same ↦
                    let words = (same_words key q).0 same in
                    let at = get_or_push (begun i) here 0 (length (begun i)) refl in
                    rw (news q ∙ ap (λ b. cond b (Some (length (begun i))) (old q)) same) (omega (arith, length_push (begun i) here), subst (IsPacked (answer_at t row (get_or (begun i ++ here ∷ []) (length (begun i)) 0))) words (subst (λ m. IsPacked (answer_at t row m) key.now) (sym at) packed))
                | inr other ↦
                    rw (news q ∙ ap (λ b. cond b (Some (length (begun i))) (old q)) other)
                    (in_either (old q)
                    (λ all. All-push (λ low. IsPacked (answer_at t row low) q.now → ⊥) (begun i) here all (λ is. true_false (is_eq (words_order key q)) ((same_words key q).1 (packed_once (answer_at t row here) key.now q.now packed is)) other))
                    (λ k (l, is). (omega (arith, l, length_push (begun i) here), subst (λ m. IsPacked (answer_at t row m) q.now) (sym (get_or_append_left (begun i) (here ∷ []) 0 k l)) is))
                    (are.at q))
              ]);
            };
          }

      -- if a piece with these words was begun, the member comes into it
      known_turn : (k : ℕ) → k < length (begun i) → IsPacked (answer_at t row (get_or (begun i) k 0)) key.now → ((q : Bor (List ℕ)) → new q ≡ old q) → Turn k new
      known_turn k l is news =
          let low = get_or (begun i) k 0 in
          let begins = begun_is i low (Contains-get_or (begun i) k 0 l) in
          let answer = unpacked_once (answer_at t row low) (answer_at t row here) key.now is packed (wide low begins.0.inside) in
          let own : low ≡ piece_lowest t row here = sym begins.0.own ∙ same_piece t row low here begins.0.inside here_is.0 (begins.1 ∙ sym here_is.1) answer in
          let less = in_front_less (members t class) i low (members_ascend t class) h begins.2 in
          let lows = not_begun (λ b. omega (arith, less, own, b.own)) in
          record {
            within = omega (arith, l);
            parents = ap (map (class_at t)) lows ∙ sym (ap (λ b. cond b (map (class_at t) (begun i) ++ class ∷ []) (map (class_at t) (begun i))) (ne_eqb k (length (begun i)) (λ e. omega (arith, e, l))));
            pieces = (λ j. keyed (piece_lowest t row) (more j) (lows j))
                ∙ keyed_known (piece_lowest t row) (take i (members t class)) (begun i) here k
                (distinct_from_ascending (begun i) (AllPairs-filter (λ x y. x < y) (begins_class t row) (take i (members t class)) (front_ascends i))) l own;
            noted_are = record { at = λ q. rw (news q) (subst (λ ls. IsNoted row ls q (old q)) (sym lows) (are.at q)) };
          }

      pub turn : (o : Option ℕ) (next place : ℕ) → old key ≡ o → next ≡ length (begun i) → place ≡ unwrap_or o next
          → ((q : Bor (List ℕ)) → new q ≡ cond (is_none o && is_eq (words_order key q)) (Some next) (old q)) → Turn place new
      turn None next place e count at news =
          subst (λ p. Turn p new) (sym (at ∙ count)) (new_turn (rw e at (are.at key)) (λ q. news q ∙ ap (λ n. cond (is_eq (words_order key q)) (Some n) (old q)) count))
      turn (Some k) next place e count at news =
          let is = rw e at (are.at key) in
          subst (λ p. Turn p new) (sym at) (known_turn k is.0 is.1 news)

  -- after all members
  pub all_pieces : (i : ℕ) → length (members t class) ≤ i → so_far i ≡ map (piece_of t row) (filter (begins_class t row) (members t class))
  all_pieces i over =
      rw (take_all i (members t class) over)
      (map_where (λ low. filter (λ n. eqb (piece_lowest t row n) low) (members t class)) (piece_of t row) (filter (begins_class t row) (members t class))
      (λ k d l.
      let low = get_or (filter (begins_class t row) (members t class)) k d in
      let is = All-filter (begins_class t row) (λ n. (n < length t.class_of) × (class_at t n ≡ class)) (members t class) (members-All t class) k d l in
      ap (λ c. filter (λ n. eqb (piece_lowest t row n) low) (members t c)) (sym is.1)))

-- ---- the pieces that leave some classes, and those of one more after them

pub pieces_more : {t : ClassTable} {row : List (List Bool)} {before here more : List ℕ} {groups cut_groups all_groups : List (List ℕ)} {parents cut_parents all_parents : List ℕ} → ArePieces t row before groups parents → ArePieces t row here cut_groups cut_parents
    → all_groups ≡ groups ++ cut_groups → all_parents ≡ parents ++ cut_parents → more ≡ before ++ here → ArePieces t row more all_groups all_parents
pieces_more {t} {row} {before} {here} so_far cut groups_are parents_are more = record {
  groups_are = groups_are ∙ ((λ i. so_far.groups_are i ++ cut.groups_are i) ∙ (sym (map-append (piece_of t row) before here) ∙ ap (map (piece_of t row)) (sym more)));
  parents_are = parents_are ∙ ((λ i. so_far.parents_are i ++ cut.parents_are i) ∙ (sym (map-append (class_at t) before here) ∙ ap (map (class_at t)) (sym more)));
}
