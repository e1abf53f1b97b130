-- Groups of groups: the group of a number is the group of its group's first number.
use Rattle.std.proofs.Common.{◌≡◌, ◌∙◌, ℕ, zero, suc, ◌<◌, ◌≤◌, Bool, List, [], ◌∷◌, length, get_or, map, take, sym, ap, subst, arith, inl, inr, Contains}
use Rattle.std.proofs.Math.Seq.{take-suc}
use Rattle.std.proofs.lemmas.Bool.{cases_lt, cases_eq}
use Rattle.std.proofs.lemmas.List.{take-map, get_or_default, get_or-take, get_or-map, length-map, length-take-le}
use Rattle.std.proofs.lemmas.List.Elements.{Contains-get_or, Contains-push_cases, Contains-append_left}
use Rattle.net_model.proofs.Elements.{Contains-map, none_in}
use Rattle.dict_rows.specs.Grouped.{IsLeastUnused, AreGroupNumbers, AreFirstsOf, AreGroupsOf}
use Rattle.dict_rows.proofs.GroupLemmas.{IsNext}

-- If a group is among those of the first `n` numbers, each lower one is too.
lower_used : {groups : List ℕ} → AreGroupNumbers groups → (n : ℕ) → n ≤ length groups → (group lower : ℕ) → lower < group → Contains (take n groups) group → Contains (take n groups) lower
lower_used {groups} are zero h group lower less has = absurd (none_in group has)
lower_used {groups} are (suc n) h group lower less has =
    let inside : n < length groups = omega (arith, h) in
    let more = take-suc groups n 0 inside in
    let before : (g : ℕ) → lower < g → Contains (take n groups) g → Contains (take n groups) lower = λ g. lower_used are n (omega (arith, h)) g lower in
    let lowest : (g : ℕ) → lower < g → IsNext (take n groups) g → Contains (take n groups) lower = λ g low next. elim next [ inl old ↦ before g low old | inr least ↦ least.lower lower low ] in
    subst (λ (xs : List ℕ). Contains xs lower) (sym more)
    (Contains-append_left (take n groups) (get_or groups n 0 ∷ []) lower
    (elim (Contains-push_cases (take n groups) (get_or groups n 0) group (subst (λ (xs : List ℕ). Contains xs group) more has)) [
      | inl old ↦ before group less old
      | inr new ↦ lowest (get_or groups n 0) (omega (arith, less, new)) (are.each n inside)
    ]))

-- A group among those of the first `n` numbers is below the least one that isn't among them.
below_unused : {groups : List ℕ} → AreGroupNumbers groups → (n : ℕ) → n ≤ length groups → (least : ℕ) → IsLeastUnused (take n groups) least → (group : ℕ) → Contains (take n groups) group → group < least
below_unused {groups} are n h least is group has = elim (cases_lt group least) [
  | inl low ↦ low
  | inr over ↦ elim (cases_eq group least) [
    | inl same ↦ absurd (is.unused (subst (Contains (take n groups)) same has))
    | inr ne ↦ absurd (is.unused (lower_used are n h group least (omega (arith, over, ne)) has))
  ]
]

-- What is among the first elements of a list is at one of their places.
pub place_in : (xs : List ℕ) (n x : ℕ) → n ≤ length xs → Contains (take n xs) x → (k : ℕ) × (k < n) × (get_or xs k 0 ≡ x)
place_in xs n x h (k, below, is) =
    let low : k < n = omega (arith, below, length-take-le n xs h) in
    (k, low, sym (get_or-take n xs k 0 low) ∙ (sym (get_or_default (take n xs) k x 0 below) ∙ is))

at_place : (xs : List ℕ) (n k : ℕ) → n ≤ length xs → k < n → Contains (take n xs) (get_or xs k 0)
at_place xs n k h low = subst (Contains (take n xs)) (get_or-take n xs k 0 low) (Contains-get_or (take n xs) k 0 (omega (arith, low, length-take-le n xs h)))

module _ (inner outer : List ℕ) (numbered : AreGroupNumbers inner) (again : AreGroupNumbers outer) (known : (n : ℕ) → n < length inner → get_or inner n 0 < length outer) where
  abbrev over : ℕ → ℕ
  over group = get_or outer group 0

  -- If a group is among the first inner ones, its group is among the first of the numbers.
  came : (n group : ℕ) → Contains (take n inner) group → Contains (take n (map over inner)) (over group)
  came n group has = subst (λ (xs : List ℕ). Contains xs (over group)) (sym (take-map over n inner)) (Contains-map over (take n inner) group has)

  came_from : (n x : ℕ) → n ≤ length inner → Contains (take n (map over inner)) x → (group : ℕ) × Contains (take n inner) group × (over group ≡ x)
  came_from n x h has =
      let at = place_in (map over inner) n x (omega (arith, h, length-map inner over)) has in
      (get_or inner at.0 0, at_place inner n at.0 h at.1, sym (get_or-map over inner at.0 0 0 (omega (arith, at.1, h))) ∙ at.2)

  -- The outer group of a group that begins at a number begins there too, or was used before.
  next_over : (n : ℕ) → n < length inner → IsLeastUnused (take n inner) (get_or inner n 0) → IsNext (take n (map over inner)) (over (get_or inner n 0))
  next_over n h least =
      let k = get_or inner n 0 in
      let inside = known n h in
      let from : (x : ℕ) → Contains (take k outer) x → Contains (take n (map over inner)) x = λ x has.
      let at = place_in outer k x (omega (arith, inside)) has in
      subst (Contains (take n (map over inner))) at.2 (came n at.0 (least.lower at.0 at.1)) in
      elim (again.each k inside) [
        | inl old ↦ inl (from (over k) old)
        | inr unused ↦ inr (record {
          unused = λ has.
              let at = came_from n (over k) (omega (arith, h)) has in
              let low = below_unused numbered n (omega (arith, h)) k least at.0 at.1 in
              unused.unused (subst (Contains (take k outer)) at.2 (at_place outer k at.0 (omega (arith, inside)) low));
          lower = λ g less. from g (unused.lower g less);
        })
      ]

  pub numbered_over : AreGroupNumbers (map over inner)
  numbered_over = record {
    each = λ n h.
        let inside : n < length inner = omega (arith, h, length-map inner over) in
        subst (IsNext (take n (map over inner))) (sym (get_or-map over inner n 0 0 inside)) (elim (numbered.each n inside) [ inl old ↦ inl (came n (get_or inner n 0) old) | inr least ↦ next_over n inside least ]);
  }

-- The rows of groups in groups: each row is that of its group's group.
pub groups_over : {full rows cells entries : List (List Bool)} {inner firsts outer : List ℕ} → AreFirstsOf full (length full) inner firsts → AreGroupsOf cells outer entries → length cells ≡ length firsts → length rows ≡ length full
    → ((n : ℕ) → n < length full → get_or cells (get_or inner n 0) [] ≡ get_or rows n []) → AreGroupsOf rows (map (λ group. get_or outer group 0) inner) entries
groups_over {full} {rows} {cells} {entries} {inner} {firsts} {outer} are groups some long same =
    let over : ℕ → ℕ = λ group. get_or outer group 0 in
    let many : length outer ≡ length firsts = groups.grouped.one_each ∙ some in
    let known : (n : ℕ) → n < length inner → get_or inner n 0 < length cells = λ n h. omega (arith, (are.used (get_or inner n 0)).0 (Contains-get_or inner n 0 h), some) in
    record {
      grouped = record {
        one_each = length-map inner over ∙ (are.one_each ∙ sym long);
        numbered = numbered_over inner outer are.numbered groups.grouped.numbered (λ n h. omega (arith, known n h, some, many));
        used = λ group. (
          λ (n, h, is).
              let inside : n < length inner = omega (arith, h, length-map inner over) in
              let at : over (get_or inner n 0) ≡ group = sym (get_or-map over inner n 0 group inside) ∙ is in
              (groups.grouped.used group).0 (subst (Contains outer) at (Contains-get_or outer (get_or inner n 0) 0 (omega (arith, known n inside, some, many)))),
          λ less.
              let has = (groups.grouped.used group).1 less in
              let at : over has.0 ≡ group = sym (get_or_default outer has.0 group 0 has.1) ∙ has.2 in
              subst (Contains (map over inner)) at (Contains-map over inner has.0 ((are.used has.0).1 (omega (arith, has.1, many)))),
        );
        different = groups.grouped.different;
      };
      own = λ n h.
          let inside : n < length inner = omega (arith, h, long, are.one_each) in
          ap (λ g. get_or entries g []) (get_or-map over inner n 0 0 inside) ∙ (groups.own (get_or inner n 0) (known n inside) ∙ same n (omega (arith, h, long)));
    }
