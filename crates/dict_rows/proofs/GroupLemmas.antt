-- Rows in groups, one row after another.
use Rattle.std.proofs.Common.{◌≡◌, ◌≢◌, ◌∙◌, ℕ, zero, suc, ◌+◌, ◌<◌, ◌≤◌, Bool, cond, eqb, ◌&&◌, List, [], ◌∷◌, ◌++◌, length, get_or, map, take, unwrap_or, refl, sym, ap, subst, arith, inl, inr, ◌⊎◌, Option, None, Some, All, Contains}
use Rattle.std.specs.Borrow.{Bor}
use Rattle.std.specs.Option.{is_none}
use Rattle.std.specs.Ordering.{is_eq}
use Rattle.std.proofs.lemmas.Bool.{cases_lt, cases_Bool, eq-eqb, ne_eqb}
use Rattle.std.proofs.Math.Seq.{take-suc}
use Rattle.std.proofs.lemmas.List.{length_push, get_or_append_left, get_or_push, take-append-le, take_all, get_or-take, get_or-map, length-map, length-take-le}
use Rattle.std.proofs.lemmas.List.Elements.{All-push, Contains-get_or, Contains-push, Contains-push_cases, Contains-append_left}
use Rattle.net_model.specs.Rows.{IsPacked}
use Rattle.net_model.proofs.Elements.{true_false, none_in}
use Rattle.net_model.proofs.RowLemmas.{packed_once, unpacked_once}
use Rattle.class_refine.proofs.Leaving.{AreNoted, same_words, in_either}
use Rattle.dict_rows.specs.Grouped.{words_order, IsLeastUnused, AreGroupNumbers, AreDifferent, IsGrouped, AreFirstsOf, AreGroupsOf, IsFirstRepeat}

-- ---- group numbers, one more

abbrev pub IsNext : List ℕ → ℕ → Type 0
IsNext used group = Contains used group ⊎ IsLeastUnused used group

pub numbered_more : {groups : List ℕ} (group : ℕ) → AreGroupNumbers groups → IsNext groups group → AreGroupNumbers (groups ++ group ∷ [])
numbered_more {groups} group are next = record {
  each = λ n h. elim (cases_lt n (length groups)) [
    | inl less ↦ rw (take-append-le n groups (group ∷ []) (omega (arith, less)), get_or_append_left groups (group ∷ []) 0 n less) (are.each n less)
    | inr over ↦
        let e : n ≡ length groups = omega (arith, h, over, length_push groups group) in
        rw (e, get_or_push groups group 0 (length groups) refl, take-append-le (length groups) groups (group ∷ []) (omega arith), take_all (length groups) groups (omega arith)) next
  ];
}

-- A group among those of the first `n` numbers is below `n`.
pub used_below : {groups : List ℕ} → AreGroupNumbers groups → (n : ℕ) → n ≤ length groups → (group : ℕ) → Contains (take n groups) group → group < n
used_below {groups} are zero h group has = absurd (none_in group has)
used_below {groups} are (suc n) h group has =
    let inside : n < length groups = omega (arith, h) in
    let before : (g : ℕ) → Contains (take n groups) g → g < n = used_below are n (omega (arith, h)) in
    elim (Contains-push_cases (take n groups) (get_or groups n 0) group (subst (λ (xs : List ℕ). Contains xs group) (take-suc groups n 0 inside) has)) [
      | inl old ↦ omega (arith, before group old)
      | inr new ↦ elim (cases_lt n group) [
        | inr low ↦ omega (arith, low)
        | inl high ↦ elim (are.each n inside) [
          | inl old ↦ omega (arith, before (get_or groups n 0) old, new)
          | inr least ↦ absurd (omega (arith, before n (least.lower n (omega (arith, high, new)))))
        ]
      ]
    ]

-- There are at most as many groups as numbers.
few : (groups : List ℕ) (count : ℕ) → AreGroupNumbers groups → ((group : ℕ) → group < count → Contains groups group) → count ≤ length groups
few groups count are used = elim (cases_lt (length groups) count) [
  | inr low ↦ low
  | inl more ↦
      let all : take (length groups) groups ≡ groups = take_all (length groups) groups (omega arith) in
      absurd (omega (arith, used_below are (length groups) (omega arith) (length groups) (subst (λ (xs : List ℕ). Contains xs (length groups)) (sym all) (used (length groups) more))))
]

pub few_groups : {numbers : ℕ} {groups : List ℕ} {entries : List (List Bool)} → IsGrouped numbers groups entries → length entries ≤ numbers
few_groups {numbers} {groups} {entries} is = omega (arith, few groups (length entries) is.numbered (λ group h. (is.used group).1 h), is.one_each)

pub few_firsts : {rows : List (List Bool)} {count : ℕ} {groups firsts : List ℕ} → AreFirstsOf rows count groups firsts → length firsts ≤ count
few_firsts {rows} {count} {groups} {firsts} are = omega (arith, few groups (length firsts) are.numbered (λ group h. (are.used group).1 h), are.one_each)

-- ---- one row more

-- The first rows after a row was put into a group.
abbrev pub firsts_with : List ℕ → ℕ → ℕ → List ℕ
firsts_with firsts group i = cond (eqb group (length firsts)) (firsts ++ i ∷ []) firsts

module _ (rows : List (List Bool)) (i : ℕ) (h : i < length rows) (groups firsts : List ℕ) (are : AreFirstsOf rows i groups firsts) where
  abbrev row : ℕ → List Bool
  row n = get_or rows n []

  -- An earlier number keeps its group and its first row.
  group_was : (group n : ℕ) → n < i → get_or (groups ++ group ∷ []) n 0 ≡ get_or groups n 0
  group_was group n low = get_or_append_left groups (group ∷ []) 0 n (omega (arith, low, are.one_each))

  group_known : (n : ℕ) → n < i → get_or groups n 0 < length firsts
  group_known n low = (are.used (get_or groups n 0)).0 (Contains-get_or groups n 0 (omega (arith, low, are.one_each)))

  last_group : (group : ℕ) → get_or (groups ++ group ∷ []) i 0 ≡ group
  last_group group = get_or_push groups group 0 i are.one_each

  first_was : (g : ℕ) → g < length firsts → get_or (firsts ++ i ∷ []) g 0 ≡ get_or firsts g 0
  first_was g low = get_or_append_left firsts (i ∷ []) 0 g low

  last_first : get_or (firsts ++ i ∷ []) (length firsts) 0 ≡ i
  last_first = get_or_push firsts i 0 (length firsts) refl

  -- The row begins a group.
  pub begins : ((k : ℕ) → k < length firsts → row (get_or firsts k 0) ≢ row i) → AreFirstsOf rows (i + 1) (groups ++ length firsts ∷ []) (firsts ++ i ∷ [])
  begins none =
      let count = length firsts in
      record {
        one_each = omega (arith, length_push groups count, are.one_each);
        numbered = numbered_more count are.numbered (inr (record { unused = λ has. let low = (are.used count).0 has in omega (arith, low); lower = λ g less. (are.used g).1 less }));
        used = λ group. (
          λ has. elim (Contains-push_cases groups count group has) [ inl old ↦ omega (arith, (are.used group).0 old, length_push firsts i) | inr new ↦ omega (arith, new, length_push firsts i) ],
          λ less. elim (cases_lt group count) [
            | inl low ↦ Contains-append_left groups (count ∷ []) group ((are.used group).1 low)
            | inr over ↦ let e : count ≡ group = omega (arith, less, over, length_push firsts i) in subst (Contains (groups ++ count ∷ [])) e (Contains-push groups count)
          ],
        );
        inside = All-push (λ first. first < length rows) firsts i are.inside h;
        own = λ n less. elim (cases_lt n i) [
          | inl low ↦ rw (group_was count n low, first_was (get_or groups n 0) (group_known n low)) (are.own n low)
          | inr over ↦ let e : n ≡ i = omega (arith, less, over) in rw (e, last_group count, last_first) refl
        ];
        different = λ a b ha hb same. elim (cases_lt a count) [
          | inl la ↦ elim (cases_lt b count) [
            | inl lb ↦ are.different a b la lb (ap row (sym (first_was a la)) ∙ (same ∙ ap row (first_was b lb)))
            | inr ob ↦ let e : b ≡ count = omega (arith, hb, ob, length_push firsts i) in
                absurd (none a la (ap row (sym (first_was a la)) ∙ (same ∙ ap row (ap (λ k. get_or (firsts ++ i ∷ []) k 0) e ∙ last_first))))
          ]
          | inr oa ↦
              let e : a ≡ count = omega (arith, ha, oa, length_push firsts i) in
              elim (cases_lt b count) [
                | inl lb ↦ absurd (none b lb (ap row (sym (first_was b lb)) ∙ (sym same ∙ ap row (ap (λ k. get_or (firsts ++ i ∷ []) k 0) e ∙ last_first))))
                | inr ob ↦ omega (arith, e, hb, ob, length_push firsts i)
              ]
        ];
      }

  -- The row is put into a group that was begun.
  pub joins : (group : ℕ) → group < length firsts → row (get_or firsts group 0) ≡ row i → AreFirstsOf rows (i + 1) (groups ++ group ∷ []) firsts
  joins group known same = record {
    one_each = omega (arith, length_push groups group, are.one_each);
    numbered = numbered_more group are.numbered (inl ((are.used group).1 known));
    used = λ g. (
      λ has. elim (Contains-push_cases groups group g has) [ inl old ↦ (are.used g).0 old | inr new ↦ omega (arith, new, known) ],
      λ less. Contains-append_left groups (group ∷ []) g ((are.used g).1 less),
    );
    inside = are.inside;
    own = λ n less. elim (cases_lt n i) [
      | inl low ↦ rw (group_was group n low) (are.own n low)
      | inr over ↦ let e : n ≡ i = omega (arith, less, over) in rw (e, last_group group) same
    ];
    different = are.different;
  }

  -- The group of a row is the one that is noted for its words, or the next one.
  pub record Turn (group : ℕ) (noted : Bor (List ℕ) → Option ℕ) : Type 0 where
    pub within : group ≤ length firsts
    pub firsts_are : AreFirstsOf rows (i + 1) (groups ++ group ∷ []) (firsts_with firsts group i)
    pub noted_are : AreNoted rows (firsts_with firsts group i) noted

  -- The first row is in group 0.
  first_group : 0 < i → get_or groups 0 0 ≡ 0
  first_group later = elim (are.numbered.each 0 (omega (arith, later, are.one_each))) [
    | inl has ↦ absurd (none_in (get_or groups 0 0) has)
    | inr least ↦ elim (cases_lt 0 (get_or groups 0 0)) [
      | inl some ↦ absurd (none_in 0 (least.lower 0 some))
      | inr none ↦ omega (arith, none)
    ]
  ]

  -- A row that is equal to the first one is in group 0.
  pub first_turn : {old new : Bor (List ℕ) → Option ℕ} → AreNoted rows firsts old → 0 < i → row 0 ≡ row i → ((q : Bor (List ℕ)) → new q ≡ old q) → Turn 0 new
  first_turn {old} {new} noted later same news =
      let first = first_group later in
      let known : 0 < length firsts = omega (arith, group_known 0 later, first) in
      let own : row (get_or firsts 0 0) ≡ row i = ap (λ g. row (get_or firsts g 0)) (sym first) ∙ (are.own 0 later ∙ same) in
      let as_was : firsts_with firsts 0 i ≡ firsts = ap (λ b. cond b (firsts ++ i ∷ []) firsts) (ne_eqb 0 (length firsts) (λ e. omega (arith, e, known))) in
      record {
        within = omega (arith, known);
        firsts_are = subst (AreFirstsOf rows (i + 1) (groups ++ 0 ∷ [])) (sym as_was) (joins 0 known own);
        noted_are = subst (λ (fs : List ℕ). AreNoted rows fs new) (sym as_was) (record { at = λ q. rw (news q) (noted.at q) });
      }

  module _ (old new : Bor (List ℕ) → Option ℕ) (key : Bor (List ℕ)) (packed : IsPacked (row i) key.now) (wide : (n : ℕ) → n < length rows → length (row n) ≡ length (row i)) (noted : AreNoted rows firsts old) where
    first_row : (k : ℕ) → k < length firsts → get_or firsts k 0 < length rows
    first_row k low = are.inside k 0 low

    new_turn : All (λ first. IsPacked (row first) key.now → ⊥) firsts → ((q : Bor (List ℕ)) → new q ≡ cond (is_eq (words_order key q)) (Some (length firsts)) (old q)) → Turn (length firsts) new
    new_turn none news =
        let count = length firsts in
        let with_i : firsts_with firsts count i ≡ firsts ++ i ∷ [] = ap (λ b. cond b (firsts ++ i ∷ []) firsts) (eq-eqb count count refl) in
        record {
          within = omega arith;
          firsts_are = subst (AreFirstsOf rows (i + 1) (groups ++ count ∷ [])) (sym with_i) (begins (λ k low e. none k 0 low (subst (λ (r : List Bool). IsPacked r key.now) (sym e) packed)));
          noted_are = subst (λ (fs : List ℕ). AreNoted rows fs new) (sym with_i) (record {
            at = λ q. elim (cases_Bool (is_eq (words_order key q))) [
              | inl same ↦
                  let words = (same_words key q).0 same in
                  rw (news q ∙ ap (λ b. cond b (Some count) (old q)) same)
                  (omega (arith, length_push firsts i), subst (IsPacked (row (get_or (firsts ++ i ∷ []) count 0))) words (subst (λ n. IsPacked (row n) key.now) (sym last_first) packed))
              | inr other ↦
                  rw (news q ∙ ap (λ b. cond b (Some count) (old q)) other)
                  (in_either (old q)
                  (λ all. All-push (λ first. IsPacked (row first) q.now → ⊥) firsts i all (λ is. true_false (is_eq (words_order key q)) ((same_words key q).1 (packed_once (row i) key.now q.now packed is)) other))
                  (λ k (l, is). (omega (arith, l, length_push firsts i), subst (λ n. IsPacked (row n) q.now) (sym (first_was k l)) is))
                  (noted.at q))
            ];
          });
        }

    known_turn : (group : ℕ) → group < length firsts → IsPacked (row (get_or firsts group 0)) key.now → ((q : Bor (List ℕ)) → new q ≡ old q) → Turn group new
    known_turn group known is news =
        let same = unpacked_once (row (get_or firsts group 0)) (row i) key.now is packed (wide (get_or firsts group 0) (first_row group known)) in
        let as_was : firsts_with firsts group i ≡ firsts = ap (λ b. cond b (firsts ++ i ∷ []) firsts) (ne_eqb group (length firsts) (λ e. omega (arith, e, known))) in
        record {
          within = omega (arith, known);
          firsts_are = subst (AreFirstsOf rows (i + 1) (groups ++ group ∷ [])) (sym as_was) (joins group known same);
          noted_are = subst (λ (fs : List ℕ). AreNoted rows fs new) (sym as_was) (record { at = λ q. rw (news q) (noted.at q) });
        }

    pub turn : (o : Option ℕ) (next group : ℕ) → old key ≡ o → next ≡ length firsts → group ≡ unwrap_or o next
        → ((q : Bor (List ℕ)) → new q ≡ cond (is_none o && is_eq (words_order key q)) (Some next) (old q)) → Turn group new
    turn None next group e count at news =
        subst (λ g. Turn g new) (sym (at ∙ count)) (new_turn (rw e at (noted.at key)) (λ q. news q ∙ ap (λ n. cond (is_eq (words_order key q)) (Some n) (old q)) count))
    turn (Some k) next group e count at news = subst (λ g. Turn g new) (sym at) (let is = rw e at (noted.at key) in known_turn k is.0 is.1 news)

-- ---- all rows

-- At first there is no group.
pub firsts_none : (rows : List (List Bool)) → AreFirstsOf rows 0 [] []
firsts_none rows = record {
  one_each = refl;
  numbered = record { each = λ n h. absurd (omega (arith, h)) };
  used = λ group. (λ has. absurd (none_in group has), λ less. absurd (omega (arith, less)));
  inside = λ k d h. absurd (omega (arith, h));
  own = λ n h. absurd (omega (arith, h));
  different = λ a b ha hb e. absurd (omega (arith, ha));
}

module _ (rows : List (List Bool)) (groups firsts : List ℕ) (are : AreFirstsOf rows (length rows) groups firsts) where
  -- If the first rows are the entries, the rows are grouped.
  pub grouped_by : (entries : List (List Bool)) → entries ≡ map (λ n. get_or rows n []) firsts → AreGroupsOf rows groups entries
  grouped_by entries is =
      let long : length entries ≡ length firsts = ap length is ∙ length-map firsts (λ n. get_or rows n []) in
      let at : (g : ℕ) → g < length firsts → get_or entries g [] ≡ get_or rows (get_or firsts g 0) [] = λ g h. ap (λ (es : List (List Bool)). get_or es g []) is ∙ get_or-map (λ n. get_or rows n []) firsts g 0 [] h in
      record {
        grouped = record {
          one_each = are.one_each;
          numbered = are.numbered;
          used = λ group. (λ has. omega (arith, (are.used group).0 has, long), λ less. (are.used group).1 (omega (arith, less, long)));
          different = record { apart = λ a b ha hb e. let la : a < length firsts = omega (arith, ha, long) in let lb : b < length firsts = omega (arith, hb, long) in are.different a b la lb (sym (at a la) ∙ (e ∙ at b lb)) };
        };
        own = λ n h. at (get_or groups n 0) ((are.used (get_or groups n 0)).0 (Contains-get_or groups n 0 (omega (arith, h, are.one_each)))) ∙ are.own n h;
      }

  -- No group number is above its number.
  pub group_within : (n : ℕ) → n < length rows → get_or groups n 0 ≤ n
  group_within n h =
      let inside : n < length groups = omega (arith, h, are.one_each) in
      let e = take-suc groups n 0 inside in
      let has = subst (λ (xs : List ℕ). Contains xs (get_or groups n 0)) (sym e) (Contains-push (take n groups) (get_or groups n 0)) in
      omega (arith, used_below are.numbered (suc n) (omega (arith, inside)) (get_or groups n 0) has)

  module _ (n : ℕ) (h : n ≤ length rows) (alone : (k : ℕ) → k < n → k ≤ get_or groups k 0) where
    own_group : (k : ℕ) → k < n → get_or groups k 0 ≡ k
    own_group k low = omega (arith, alone k low, group_within k (omega (arith, low, h)))

    own_first : (k : ℕ) → k < n → (k < length firsts) × (get_or rows (get_or firsts k 0) [] ≡ get_or rows k [])
    own_first k low =
        let e = own_group k low in
        let known = (are.used (get_or groups k 0)).0 (Contains-get_or groups k 0 (omega (arith, low, h, are.one_each))) in
        (omega (arith, known, e), ap (λ g. get_or rows (get_or firsts g 0) []) (sym e) ∙ are.own k (omega (arith, low, h)))

    -- If each of the first rows begins a group, they are different.
    pub different_to : AreDifferent (take n rows)
    different_to =
        let long : length (take n rows) ≡ n = length-take-le n rows h in
        record {
          apart = λ a b ha hb e.
              let la : a < n = omega (arith, ha, long) in
              let lb : b < n = omega (arith, hb, long) in
              let one = own_first a la in
              let two = own_first b lb in
              are.different a b one.0 two.0 (one.1 ∙ (sym (get_or-take n rows a [] la) ∙ (e ∙ (get_or-take n rows b [] lb ∙ sym two.1))));
        }

    -- A next row that begins no group is equal to one of them.
    pub repeats_first : n < length rows → get_or groups n 0 < n → IsFirstRepeat rows n
    repeats_first inside less =
        let group = get_or groups n 0 in
        let one = own_first group less in
        record { inside = inside; earlier = (group, less, sym one.1 ∙ are.own n inside); first = different_to }
