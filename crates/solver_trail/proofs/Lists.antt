-- Lists of watches.
use Rattle.std.proofs.Common.{◌≡◌, ◌≢◌, ◌∙◌, ◌⊎◌, inl, inr, ℕ, ◌+◌, ◌^◌, ◌<◌, ◌≤◌, List, [], ◌∷◌, ◌++◌, length, get_or, eqb, eqb-true, refl, sym, ap, subst, arith, append_assoc}
use Rattle.std.specs.Prelude.{Bool, true, false, set, Option, None, Some}
use Rattle.std.specs.List.{AllByRecursion, IsDistinct, list_any}
use Rattle.std.proofs.lemmas.Bool.{cases_eq, cases_lt, ne_eqb, or_cases}
use Rattle.std.proofs.lemmas.Map.Steps.{length-le_from_distinct_below}
use Rattle.std.proofs.lemmas.List.{length-set, length_push, get_or-set_same, get_or-set_other, get_or_append_left}
use Rattle.clause_pool.specs.Literal.{Literal, pos_literal}
use Rattle.clause_pool.specs.LiteralCode.{code_of}
use Rattle.solver_trail.specs.Watches.{watched, IsChain, IsWatchAmong, AreListedOnce, IsListOf, AreWatchesListed, HasLastWatch, firsts_with, nexts_with, head_of}
use Rattle.solver_trail.proofs.Pairs.{watched_there, watched_elsewhere}

-- ---- chains

-- a write at a watch that isn't in the chain
pub chain_set : (nexts : List (Option ℕ)) (first : Option ℕ) (xs : List ℕ) (p : ℕ) (v : Option ℕ) → IsChain nexts first xs → ¬ IsWatchAmong xs p
    → IsChain (set nexts p v) first xs
chain_set nexts first [] p v h away = h
chain_set nexts first (x ∷ xs) p v h away =
    (h.0, subst (λ o. IsChain (set nexts p v) o xs) (sym (get_or-set_other nexts p x v None (λ e. away (inl e)))) (chain_set nexts (get_or nexts x None) xs p v h.1 (λ later. away (inr later))))

chain_push : (nexts : List (Option ℕ)) (first : Option ℕ) (xs : List ℕ) (v : Option ℕ) → IsChain nexts first xs
    → ((watch : ℕ) → IsWatchAmong xs watch → watch < length nexts) → IsChain (nexts ++ v ∷ []) first xs
chain_push nexts first [] v h below = h
chain_push nexts first (x ∷ xs) v h below =
    (h.0, subst (λ o. IsChain (nexts ++ v ∷ []) o xs) (sym (get_or_append_left nexts (v ∷ []) None x (below x (inl refl)))) (chain_push nexts (get_or nexts x None) xs v h.1 (λ watch later. below watch (inr later))))

-- ---- a watch is taken out of a list

pub among_left : (xs ys : List ℕ) (m : ℕ) → IsWatchAmong xs m → IsWatchAmong (xs ++ ys) m
among_left [] ys m there = absurd there
among_left (x ∷ xs) ys m there = elim there [ inl e ↦ inl e | inr later ↦ inr (among_left xs ys m later) ]

pub among_right : (xs ys : List ℕ) (m : ℕ) → IsWatchAmong ys m → IsWatchAmong (xs ++ ys) m
among_right [] ys m there = there
among_right (x ∷ xs) ys m there = inr (among_right xs ys m there)

among_cases : (xs ys : List ℕ) (m : ℕ) → IsWatchAmong (xs ++ ys) m → IsWatchAmong xs m ⊎ IsWatchAmong ys m
among_cases [] ys m there = inr there
among_cases (x ∷ xs) ys m there = elim there [
  | inl e ↦ inl (inl e)
  | inr later ↦ elim (among_cases xs ys m later) [ inl left ↦ inl (inr left) | inr right ↦ inr right ]
]

-- all except the one in the middle
among_but : (xs : List ℕ) (i : ℕ) (ys : List ℕ) (m : ℕ) → IsWatchAmong (xs ++ ys) m → IsWatchAmong (xs ++ i ∷ ys) m
among_but xs i ys m there = elim (among_cases xs ys m there) [ inl left ↦ among_left xs (i ∷ ys) m left | inr right ↦ among_right xs (i ∷ ys) m (inr right) ]

among_or : (xs : List ℕ) (i : ℕ) (ys : List ℕ) (m : ℕ) → IsWatchAmong (xs ++ i ∷ ys) m → (i ≡ m) ⊎ IsWatchAmong (xs ++ ys) m
among_or xs i ys m there = elim (among_cases xs (i ∷ ys) m there) [
  | inl left ↦ inr (among_left xs ys m left)
  | inr at ↦ elim at [ inl e ↦ inl e | inr right ↦ inr (among_right xs ys m right) ]
]

pub apart_but : (xs : List ℕ) (i : ℕ) (ys : List ℕ) → AreListedOnce (xs ++ i ∷ ys) → AreListedOnce (xs ++ ys) × ¬ IsWatchAmong (xs ++ ys) i
apart_but [] i ys h = (h.1, h.0)
apart_but (x ∷ xs) i ys h =
    let rest = apart_but xs i ys h.1 in
    ((λ there. h.0 (among_but xs i ys x there), rest.0), λ there. elim there [ inl e ↦ h.0 (among_right xs (i ∷ ys) x (inl (sym e))) | inr later ↦ rest.1 later ])

-- the watches after one in the middle
pub chain_after : (nexts : List (Option ℕ)) (first : Option ℕ) (before : List ℕ) (j : ℕ) (rest : List ℕ) → IsChain nexts first (before ++ j ∷ rest)
    → IsChain nexts (get_or nexts j None) rest
chain_after nexts first [] j rest h = h.1
chain_after nexts first (x ∷ xs) j rest h = chain_after nexts (get_or nexts x None) xs j rest h.1

-- a link leads past one
chain_past : (nexts : List (Option ℕ)) (first : Option ℕ) (before : List ℕ) (j i : ℕ) (later : List ℕ) → IsChain nexts first (before ++ j ∷ i ∷ later)
    → AreListedOnce (before ++ j ∷ i ∷ later) → j < length nexts → IsChain (set nexts j (get_or nexts i None)) first (before ++ j ∷ later)
chain_past nexts first [] j i later h apart within =
    let link = get_or nexts i None in
    (h.0, subst (λ o. IsChain (set nexts j link) o later) (sym (get_or-set_same nexts j link None within)) (chain_set nexts link later j link h.1.1 (λ there. apart.0 (inr there))))
chain_past nexts first (x ∷ xs) j i later h apart within =
    let link = get_or nexts i None in
    let ne : x ≢ j = λ e. apart.0 (among_right xs (j ∷ i ∷ later) x (inl (sym e))) in
    (h.0, subst (λ o. IsChain (set nexts j link) o (xs ++ j ∷ later)) (sym (get_or-set_other nexts j x link None ne)) (chain_past nexts (get_or nexts x None) xs j i later h.1 apart.1 within))

module _ {firsts nexts : List (Option ℕ)} {literals : List Literal} (h : AreWatchesListed firsts nexts literals []) (l : Literal) (below : code_of l < length firsts)
    (list : IsListOf firsts nexts literals [] (code_of l)) (stay : List ℕ) (i : ℕ) (later : List ℕ) (parts : list.members ≡ stay ++ i ∷ later) where
  chain : IsChain nexts (head_of firsts l) (stay ++ i ∷ later)
  chain = subst (IsChain nexts (head_of firsts l)) parts list.chain

  apart : AreListedOnce (stay ++ i ∷ later)
  apart = subst AreListedOnce parts list.apart

  owned : (m : ℕ) → IsWatchAmong (stay ++ i ∷ later) m → (m < length literals) × (code_of (watched literals m) ≡ code_of l)
  owned m there = let o = list.owned m (subst (λ ms. IsWatchAmong ms m) (sym parts) there) in (o.0, o.1)

  abbrev pub link : Option ℕ
  link = get_or nexts i None

  here : (last : Option ℕ) → HasLastWatch stay last → IsChain (nexts_with nexts last link) (head_of (firsts_with firsts l last link) l) (stay ++ later)
  here None none =
      let only = subst (λ xs. IsChain nexts (head_of firsts l) (xs ++ i ∷ later)) none chain in
      subst (λ xs. IsChain nexts (head_of (set firsts (code_of l) link) l) (xs ++ later)) (sym none)
      (subst (λ o. IsChain nexts o later) (sym (get_or-set_same firsts (code_of l) link None below)) only.1)
  here (Some j) ends =
      let before = ends.0 in
      let left : (ys : List ℕ) → stay ++ ys ≡ before ++ j ∷ ys = λ ys. ap (λ xs. xs ++ ys) ends.1 ∙ append_assoc before (j ∷ []) ys in
      let within : j < length nexts = (let o = owned j (subst (λ ms. IsWatchAmong ms j) (sym (left (i ∷ later))) (among_right before (j ∷ i ∷ later) j (inl refl))) in omega (arith, o.0, h.size)) in
      subst (IsChain (set nexts j link) (head_of firsts l)) (sym (left later))
      (chain_past nexts (head_of firsts l) before j i later (subst (IsChain nexts (head_of firsts l)) (left (i ∷ later)) chain) (subst AreListedOnce (left (i ∷ later)) apart) within)

  elsewhere : (last : Option ℕ) → HasLastWatch stay last → (c : ℕ) → c ≢ code_of l → (other : IsListOf firsts nexts literals [] c)
      → IsChain (nexts_with nexts last link) (get_or (firsts_with firsts l last link) c None) other.members
  elsewhere None none c ne other = subst (λ o. IsChain nexts o other.members) (sym (get_or-set_other firsts (code_of l) c link None ne)) other.chain
  elsewhere (Some j) ends c ne other =
      let is_in : IsWatchAmong (stay ++ i ∷ later) j = among_left stay (i ∷ later) j (subst (λ xs. IsWatchAmong xs j) (sym ends.1) (among_right ends.0 (j ∷ []) j (inl refl))) in
      chain_set nexts (get_or firsts c None) other.members j link other.chain (λ there. ne (sym (other.owned j there).1 ∙ (owned j is_in).1))

  pub same_count : (last : Option ℕ) → length (firsts_with firsts l last link) ≡ length firsts
  same_count None = length-set firsts (code_of l) link
  same_count (Some j) = refl

  same_size : (last : Option ℕ) → length (nexts_with nexts last link) ≡ length nexts
  same_size None = refl
  same_size (Some j) = length-set nexts j link

  pub unlinked_list : (last : Option ℕ) → HasLastWatch stay last
      → (new : IsListOf (firsts_with firsts l last link) (nexts_with nexts last link) literals (i ∷ []) (code_of l)) × (new.members ≡ stay ++ later)
  unlinked_list last ends =
      let without = apart_but stay i later apart in (
        record {
          members = stay ++ later;
          chain = here last ends;
          apart = without.0;
          owned = λ m there. let o = owned m (among_but stay i later m there) in
              (o.0, o.1, λ out. elim out [ inl e ↦ without.1 (subst (IsWatchAmong (stay ++ later)) (sym e) there) | inr none ↦ none ]);
          whole = λ m less is. elim (list.whole m less is) [
            | inl there ↦ elim (among_or stay i later m (subst (λ ms. IsWatchAmong ms m) parts there)) [ inl e ↦ inr (inl e) | inr kept ↦ inl kept ]
            | inr none ↦ absurd none
          ];
        },
        refl,
      )

  pub unlinked_listed : (last : Option ℕ) → HasLastWatch stay last
      → AreWatchesListed (firsts_with firsts l last link) (nexts_with nexts last link) literals (i ∷ [])
  unlinked_listed last ends = record { size = same_size last ∙ h.size; few = h.few; lists = lists }
    where
      lists : (c : ℕ) → c < length (firsts_with firsts l last link)
          → IsListOf (firsts_with firsts l last link) (nexts_with nexts last link) literals (i ∷ []) c
      lists c less =
          let other = h.lists c (omega (arith, less, same_count last)) in
          elim (cases_eq c (code_of l)) [
            | inl e ↦ subst (IsListOf (firsts_with firsts l last link) (nexts_with nexts last link) literals (i ∷ [])) (sym e) (unlinked_list last ends).0
            | inr ne ↦ record {
              members = other.members;
              chain = elsewhere last ends c ne other;
              apart = other.apart;
              owned = λ m there. let o = other.owned m there in
                  (o.0, o.1, λ out. elim out [ inl e ↦ ne (sym o.1 ∙ (ap (λ n. code_of (watched literals n)) (sym e) ∙ (owned i (among_right stay (i ∷ later) i (inl refl))).1)) | inr none ↦ none ]);
              whole = λ m less is. elim (other.whole m less is) [ inl there ↦ inl there | inr none ↦ absurd none ];
            }
          ]

-- ---- a watch is put to the front of a list

module _ (literals : List Literal) (i : ℕ) (within : i < length literals) (l : Literal) where
  size : length (set literals i l) ≡ length literals
  size = length-set literals i l

  module _ {firsts nexts : List (Option ℕ)} {rest : List ℕ} where
    new : {c : ℕ} (list : IsListOf firsts nexts literals (i ∷ rest) c) → ¬ IsWatchAmong list.members i
    new list there = (list.owned i there).2 (inl refl)

    owned_still : {c : ℕ} (list : IsListOf firsts nexts literals (i ∷ rest) c) (m : ℕ) → IsWatchAmong list.members m
        → (m < length (set literals i l)) × (code_of (watched (set literals i l) m) ≡ c) × ¬ IsWatchAmong rest m
    owned_still list m there =
        let o = list.owned m there in
        (omega (arith, o.0, size), ap code_of (watched_elsewhere literals i l m (λ e. new list (subst (IsWatchAmong list.members) e there))) ∙ o.1, λ later. o.2 (inr later))

    whole_still : {c : ℕ} (list : IsListOf firsts nexts literals (i ∷ rest) c) (m : ℕ) → m ≢ i → m < length (set literals i l)
        → code_of (watched (set literals i l) m) ≡ c → IsWatchAmong list.members m ⊎ IsWatchAmong rest m
    whole_still list m ne less is = elim (list.whole m (omega (arith, less, size)) (ap code_of (sym (watched_elsewhere literals i l m ne)) ∙ is)) [
      | inl there ↦ inl there
      | inr out ↦ elim out [ inl e ↦ absurd (ne (sym e)) | inr later ↦ inr later ]
    ]

    -- the list of another literal
    pub linked_elsewhere : {c : ℕ} (list : IsListOf firsts nexts literals (i ∷ rest) c) → c ≢ code_of l
        → (now : IsListOf (set firsts (code_of l) (Some i)) (set nexts i (head_of firsts l)) (set literals i l) rest c) × (now.members ≡ list.members)
    linked_elsewhere {c = c} list other = (
      record {
        members = list.members;
        chain = subst (λ o. IsChain (set nexts i (head_of firsts l)) o list.members) (sym (get_or-set_other firsts (code_of l) c (Some i) None other))
            (chain_set nexts (get_or firsts c None) list.members i (head_of firsts l) list.chain (new list));
        apart = list.apart;
        owned = owned_still list;
        whole = λ m less is. whole_still list m (λ e. other (sym is ∙ (ap (λ n. code_of (watched (set literals i l) n)) e ∙ ap code_of (watched_there literals i l within)))) less is;
      },
      refl,
    )

    pub linked_listed : AreWatchesListed firsts nexts literals (i ∷ rest) → ¬ IsWatchAmong rest i → code_of l < length firsts
        → AreWatchesListed (set firsts (code_of l) (Some i)) (set nexts i (head_of firsts l)) (set literals i l) rest
    linked_listed h not_again below = record {
      size = length-set nexts i (head_of firsts l) ∙ (h.size ∙ sym size);
      few = subst (λ n. n < 2 ^ 32) (sym size) h.few;
      lists = lists;
    }
      where
        lists : (c : ℕ) → c < length (set firsts (code_of l) (Some i))
            → IsListOf (set firsts (code_of l) (Some i)) (set nexts i (head_of firsts l)) (set literals i l) rest c
        lists c less =
            let list = h.lists c (omega (arith, less, length-set firsts (code_of l) (Some i))) in
            elim (cases_eq c (code_of l)) [
              | inl e ↦ record {
                members = i ∷ list.members;
                chain = (
                  ap (λ n. get_or (set firsts (code_of l) (Some i)) n None) e ∙ get_or-set_same firsts (code_of l) (Some i) None below,
                  subst (λ o. IsChain (set nexts i (head_of firsts l)) o list.members) (ap (λ n. get_or firsts n None) e ∙ sym (get_or-set_same nexts i (head_of firsts l) None (omega (arith, within, h.size))))
                      (chain_set nexts (get_or firsts c None) list.members i (head_of firsts l) list.chain (new list)),
                );
                apart = (new list, list.apart);
                owned = λ m there. elim there [
                  | inl is ↦ subst (λ n. (n < length (set literals i l)) × (code_of (watched (set literals i l) n) ≡ c) × ¬ IsWatchAmong rest n) is (omega (arith, within, size), ap code_of (watched_there literals i l within) ∙ sym e, not_again)
                  | inr later ↦ owned_still list m later
                ];
                whole = λ m less is. elim (cases_eq m i) [
                  | inl e ↦ inl (inl (sym e))
                  | inr ne ↦ elim (whole_still list m ne less is) [ inl there ↦ inl (inr there) | inr out ↦ inr out ]
                ];
              }
              | inr other ↦ (linked_elsewhere list other).0
            ]

-- ---- a watch is added

pub pushed_listed : {firsts nexts : List (Option ℕ)} {literals : List Literal} (h : AreWatchesListed firsts nexts literals []) (l : Literal)
    → length literals + 1 < 2 ^ 32
    → AreWatchesListed firsts (nexts ++ None ∷ []) (literals ++ l ∷ []) (length literals ∷ [])
pushed_listed {firsts = firsts} {nexts = nexts} {literals = literals} h l room = record {
  few = subst (λ n. n < 2 ^ 32) (sym (length_push literals l)) room;
  size = length_push nexts None ∙ (ap (λ n. n + 1) h.size ∙ sym (length_push literals l));
  lists = λ c less.
      let list = h.lists c less in
      record {
        members = list.members;
        chain = chain_push nexts (get_or firsts c None) list.members None list.chain (λ m there. let o = list.owned m there in omega (arith, o.0, h.size));
        apart = list.apart;
        owned = λ m there. let o = list.owned m there in (omega (arith, o.0, length_push literals l), ap code_of (same m o.0) ∙ o.1, λ out. elim out [ inl e ↦ omega (arith, e, o.0) | inr none ↦ none ]);
        whole = λ m less is. elim (cases_lt m (length literals)) [
          | inl before ↦ elim (list.whole m before (ap code_of (sym (same m before)) ∙ is)) [ inl there ↦ inl there | inr none ↦ absurd none ]
          | inr le ↦ inr (inl (omega (arith, le, less, length_push literals l)))
        ];
      };
}
  where
    same : (m : ℕ) → m < length literals → watched (literals ++ l ∷ []) m ≡ watched literals m
    same m less = get_or_append_left literals (l ∷ []) (pos_literal 0) m less

-- ---- a list is no longer than there are watches

apart_distinct : (xs : List ℕ) → AreListedOnce xs → IsDistinct eqb xs
unfolding IsDistinct
apart_distinct [] h = tt
apart_distinct (x ∷ xs) h = (others xs h.0, apart_distinct xs h.1)
  where
    others : (ys : List ℕ) → ¬ IsWatchAmong ys x → AllByRecursion (λ y. eqb x y ≡ false) ys
    others [] h = tt
    others (y ∷ ys) h = (ne_eqb x y (λ e. h (inl (sym e))), others ys (λ later. h (inr later)))

among_any : (q : ℕ) (xs : List ℕ) → list_any (eqb q) xs ≡ true → IsWatchAmong xs q
among_any q [] e = let wrong : ◌≡◌ {A = Bool} false true = e in cc
among_any q (x ∷ xs) e = elim (or_cases (eqb q x) (list_any (eqb q) xs) e) [
  | inl is ↦ inl (sym (eqb-true q x is))
  | inr later ↦ inr (among_any q xs later)
]

pub apart_length : (n : ℕ) (xs : List ℕ) → AreListedOnce xs → ((watch : ℕ) → IsWatchAmong xs watch → watch < n) → length xs ≤ n
apart_length n xs apart below = length-le_from_distinct_below xs n (apart_distinct xs apart) (λ q e. below q (among_any q xs e))
