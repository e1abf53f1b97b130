-- The users of lines, number by number, and users with new numbers.
use Rattle.std.proofs.Common.{◌≡◌, ◌≢◌, ℕ, ◌+◌, ◌<◌, ◌≤◌, ◌⊎◌, List, [], ◌∷◌, ◌++◌, length, map, get_or, set, refl, sym, ◌∙◌, ap, subst, arith, inl, inr}
use Rattle.std.specs.Prelude.{All, Contains, replicate, sum_by}
use Rattle.std.proofs.lemmas.Bool.{cases_eq, cases_lt}
use Rattle.std.proofs.lemmas.List.{get_or-set_same, get_or-set_other, get_or-map, get_or_past, length-map, length-set, get_or_default, ext_get_or}
use Rattle.std.proofs.lemmas.List.Elements.{Contains-append_left, Contains-push, Contains-push_cases}
use Rattle.std.proofs.lemmas.List.Sums.{sum_by-cons}
use Rattle.net_model.specs.Circuit.{Circuit, FitsTogether, line_count, pins_of}
use Rattle.net_model.specs.Order.{IsOrder}
use Rattle.net_model.specs.Topological.{pins_reading, users_at, AreReaders}
use Rattle.net_model.specs.Wiring.{AreUsers, reads_at}
use Rattle.net_model.proofs.Copies.{pins_within}
use Rattle.net_model.proofs.Elements.{Contains-from_map, Contains-map, none_in, first_or_later, get_or-replicate_anywhere}
use Rattle.net_model.proofs.OpenPins.{count_has, has_count}
use Rattle.net_model.proofs.Orders.{reader_is_gate, order_has}

-- ---- all users, number by number

pub users_none : (uses : ℕ → List ℕ) (lines : ℕ) (users : List (List ℕ)) → users ≡ replicate lines [] → AreUsers 0 uses users
users_none uses lines users e =
    let none : (line : ℕ) → get_or users line [] ≡ [] =
    λ line. ap (λ us. get_or us line []) e ∙ get_or-replicate_anywhere lines line [] in
    record {
      all = λ line number h has. absurd (omega (arith, h));
      below = λ line number has. absurd (none_in number (subst (λ us. Contains us number) (none line) has));
      only = λ line number has. absurd (none_in number (subst (λ us. Contains us number) (none line) has));
    }

-- one number more, which uses one line
pub users_more : (uses : ℕ → List ℕ) (users : List (List ℕ)) (line count : ℕ) → uses count ≡ line ∷ [] → line < length users → AreUsers count uses users
    → AreUsers (count + 1) uses (set users line (users_at users line ++ count ∷ []))
users_more uses users line count used inside are =
    let more = users_at users line ++ count ∷ [] in
    let new = set users line more in
    let there : get_or new line [] ≡ more = get_or-set_same users line more [] inside in
    let grows : (l other : ℕ) → Contains (get_or users l []) other → Contains (get_or new l []) other =
    λ l other has. elim (cases_eq l line) [
      | inl same ↦
          let P : ℕ → Type 0 = λ k. Contains (get_or new k []) other in
          let Q : ℕ → Type 0 = λ k. Contains (get_or users k []) other in
          subst P (sym same) (subst (λ us. Contains us other) (sym there) (Contains-append_left (users_at users line) (count ∷ []) other (subst Q same has)))
      | inr ne ↦ subst (λ us. Contains us other) (sym (get_or-set_other users line l more [] ne)) has
    ] in
    let only : (l other : ℕ) → Contains (get_or new l []) other → Contains (get_or users l []) other ⊎ ((other ≡ count) × (l ≡ line)) =
    λ l other has. elim (cases_eq l line) [
      | inl same ↦
          let P : ℕ → Type 0 = λ k. Contains (get_or new k []) other in
          let Q : ℕ → Type 0 = λ k. Contains (get_or users k []) other in
          elim (Contains-push_cases (users_at users line) count other (subst (λ us. Contains us other) there (subst P same has))) [
            | inl was ↦ inl (subst Q (sym same) was)
            | inr new_one ↦ inr (sym new_one, same)
          ]
      | inr ne ↦ inl (subst (λ us. Contains us other) (get_or-set_other users line l more [] ne) has)
    ] in
    record {
      all = λ l number h has. elim (cases_lt number count) [
        | inl under ↦ grows l number (are.all l number under has)
        | inr over ↦
            let same : number ≡ count = omega arith in
            let P : ℕ → Type 0 = λ n. Contains (get_or new l []) n in
            let Q : ℕ → Type 0 = λ n. Contains (uses n) l in
            elim (first_or_later line [] l (subst (λ ls. Contains ls l) used (subst Q same has))) [
              | inl here ↦
                  let R : ℕ → Type 0 = λ k. Contains (get_or new k []) count in
                  subst P (sym same) (subst R here (subst (λ us. Contains us count) (sym there) (Contains-push (users_at users line) count)))
              | inr none ↦ absurd (none_in l none)
            ]
      ];
      below = λ l number has. elim (only l number has) [
        | inl was ↦ omega (arith, are.below l number was)
        | inr (same, at) ↦ omega (arith, same)
      ];
      only = λ l number has. elim (only l number has) [
        | inl was ↦ are.only l number was
        | inr (same, at) ↦
            let Q : ℕ → Type 0 = λ n. Contains (uses n) l in
            subst Q (sym same) (subst (λ ls. Contains ls l) (sym used) (0, omega arith, sym at))
      ];
    }

-- ---- new numbers

pub renumbered_total : (f : ℕ → ℕ) (lists : List (List ℕ)) → sum_by length (map (map f) lists) ≡ sum_by length lists
renumbered_total f [] = refl
renumbered_total f (list ∷ lists) =
    sum_by-cons length (map f list) (map (map f) lists)
    ∙ ap (λ n. n + sum_by length (map (map f) lists)) (length-map list f)
    ∙ ap (λ n. length list + n) (renumbered_total f lists)
    ∙ sym (sum_by-cons length list lists)

-- The first lists have their new numbers.
pub record AreRenumbered (f : ℕ → ℕ) (n : ℕ) (old new : List (List ℕ)) : Type 0 where
  pub whole : length new ≡ length old
  pub done : (k : ℕ) → k < n → k < length old → get_or new k [] ≡ map f (get_or old k [])
  pub rest : (k : ℕ) → n ≤ k → get_or new k [] ≡ get_or old k []

pub renumbered_none : (f : ℕ → ℕ) (lists : List (List ℕ)) → AreRenumbered f 0 lists lists
renumbered_none f lists = record { whole = refl; done = λ k h _. absurd (omega (arith, h)); rest = λ k h. refl }

pub renumbered_more : (f : ℕ → ℕ) (n : ℕ) (old new : List (List ℕ)) → n < length old → AreRenumbered f n old new → AreRenumbered f (n + 1) old (set new n (map f (get_or old n [])))
renumbered_more f n old new h are = record {
  whole = length-set new n (map f (get_or old n [])) ∙ are.whole;
  done = λ k under inside. elim (cases_eq k n) [
    | inl same ↦
        let P : ℕ → Type 0 = λ j. get_or (set new n (map f (get_or old n []))) j [] ≡ map f (get_or old j []) in
        subst P (sym same) (get_or-set_same new n (map f (get_or old n [])) [] (omega (arith, h, are.whole)))
    | inr other ↦ get_or-set_other new n k (map f (get_or old n [])) [] other ∙ are.done k (omega (arith, other)) inside
  ];
  rest = λ k over. let other : k ≢ n = omega arith in get_or-set_other new n k (map f (get_or old n [])) [] other ∙ are.rest k (omega arith);
}

pub renumbered_all : (f : ℕ → ℕ) (n : ℕ) (old new : List (List ℕ)) → length old ≤ n → AreRenumbered f n old new → new ≡ map (map f) old
renumbered_all f n old new h are =
    let long = length-map old (map f) in
    ext_get_or [] new (map (map f) old) (omega (arith, are.whole, long))
    (λ k under. let inside : k < length old = omega (arith, under, are.whole) in are.done k (omega arith) inside ∙ sym (get_or-map (map f) old k [] [] inside))

module _ (c : Circuit) (fits : FitsTogether c) (order : List ℕ) (is : IsOrder c order) (readers : List (List ℕ)) (are : AreReaders c readers) where
  reads : (line reader : ℕ) → Contains (users_at readers line) reader → (line < length readers) × Contains (pins_of c reader) line
  reads line reader has = elim (cases_lt line (length readers)) [
    | inl inside ↦ (inside, count_has line (pins_of c reader) (omega (arith, has_count reader (users_at readers line) has, are.each line reader (omega (arith, inside, are.whole)))))
    | inr past ↦ absurd (none_in reader (subst (λ us. Contains us reader) (get_or_past readers line [] past) has))
  ]

  read_by : (line reader : ℕ) → Contains (pins_of c reader) line → (line < length readers) × Contains (users_at readers line) reader
  read_by line reader has =
      let below = pins_within c fits.pins reader line has in
      (omega (arith, below, are.whole), count_has reader (users_at readers line) (omega (arith, has_count line (pins_of c reader) has, are.each line reader below)))

  -- each reader is a gate, which has a place
  pub reader_below : (line reader : ℕ) → Contains (users_at readers line) reader → reader < line_count c
  reader_below line reader has = (reader_is_gate c line reader (reads line reader has).1).1

  pub readers_below : All (All (λ reader. reader < line_count c)) readers
  readers_below line d h at e k =
      let lists : get_or readers line d ≡ users_at readers line = get_or_default readers line d [] h in
      let P : List ℕ → Type 0 = λ xs. (j : ℕ) (i : ℕ) → j < length xs → get_or xs j i < line_count c in
      subst P (sym lists) (λ j i l. reader_below line (get_or (users_at readers line) j i) (j, l, get_or_default (users_at readers line) j (get_or (users_at readers line) j i) i l)) at e k

  -- a line has as many readers as before
  pub renumbered_long : (f : ℕ → ℕ) (line : ℕ) → line < line_count c → length (get_or (map (map f) readers) line []) ≡ pins_reading c line
  renumbered_long f line h = ap length (get_or-map (map f) readers line [] [] (omega (arith, h, are.whole))) ∙ length-map (users_at readers line) f ∙ are.long line h

  pub readers_by_place : (f : ℕ → ℕ) → ((place : ℕ) → place < length order → f (get_or order place 0) ≡ place) → AreUsers (length order) (reads_at c order) (map (map f) readers)
  readers_by_place f back =
      let at : (line : ℕ) → line < length readers → get_or (map (map f) readers) line [] ≡ map f (users_at readers line) =
      λ line inside. get_or-map (map f) readers line [] [] inside in
      let from : (line number : ℕ) → Contains (get_or (map (map f) readers) line []) number → (number < length order) × Contains (reads_at c order number) line =
      λ line number has. elim (cases_lt line (length readers)) [
        | inl inside ↦
            let r = Contains-from_map f (users_at readers line) number (subst (λ us. Contains us number) (at line inside) has) in
            let feeds = (reads line r.0 r.1).1 in
            let gate = reader_is_gate c line r.0 feeds in
            let found = order_has c fits order is r.0 gate.0 gate.1 in
            let there : get_or order found.0 0 ≡ r.0 = get_or_default order found.0 0 r.0 found.1 ∙ found.2 in
            let same : found.0 ≡ number = sym (back found.0 found.1) ∙ ap f there ∙ r.2 in
            let P : ℕ → Type 0 = λ k. (k < length order) × Contains (reads_at c order k) line in
            subst P same (found.1, subst (λ reader. Contains (pins_of c reader) line) (sym there) feeds)
        | inr past ↦ absurd (none_in number (subst (λ us. Contains us number) (get_or_past (map (map f) readers) line [] (omega (arith, past, length-map readers (map f)))) has))
      ] in
      record {
        all = λ line number h has.
            let there = read_by line (get_or order number 0) has in
            let P : ℕ → Type 0 = λ k. Contains (get_or (map (map f) readers) line []) k in
            subst P (back number h) (subst (λ us. Contains us (f (get_or order number 0))) (sym (at line there.0)) (Contains-map f (users_at readers line) (get_or order number 0) there.1));
        below = λ line number has. (from line number has).0;
        only = λ line number has. (from line number has).1;
      }
