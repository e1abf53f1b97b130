-- The cells that a position's list has.
use Rattle.std.proofs.Common.{◌≡◌, ◌≢◌, ◌∙◌, ℕ, ◌+◌, ◌-◌, ◌*◌, ◌/◌, ◌%◌, ◌<◌, ◌≤◌, Bool, true, false, ltb, leb, ◌||◌, ◌&&◌, List, [], length, get_or, Option, Some, None, refl, sym, ap, arith, inl, inr}
use Rattle.std.specs.Prelude.{is_none, is_some, unwrap_or}
use Rattle.std.proofs.lemmas.Bool.{cases_lt, cases_eq, false≢true, lt-ltb, le-ltb, le-leb, lt-leb, and_left, and_right, and_from}
use Rattle.std.proofs.lemmas.Nat.{div-mul-add, div-add-mod', mod_below}
use Rattle.net_model.specs.Answer.{bit_at}
use Rattle.word_sim.specs.declared.lanes.TheConstants.{LANES}
use Rattle.answer_numbers.specs.declared.differences.Item.{Item}
use Rattle.answer_numbers.specs.declared.differences.PositionLists.{PositionLists}
use Rattle.answer_numbers.specs.Differences.{item_of, found_from, found_at, differs_at, end_count, IsItem}
use Rattle.answer_numbers.specs.Growing.{in_lanes, differs_in_cell, AreLaneLists}
use Rattle.answer_numbers.proofs.ItemLemmas.{found_end, found_here, found_behind}

-- what the list that begins with a number has of a place
abbrev pub found_in : PositionLists → ℕ → ℕ → Option (List Bool)
found_in lists place number = found_from (end_count lists) lists.items.items place number

-- whether a cell is done: it is that of a place that isn't in the list that begins with the number
abbrev pub list_done : PositionLists → ℕ → ℕ → ℕ → ℕ → Bool
list_done lists lanes position number cell = is_none (found_in lists (cell / lanes) number) && differs_in_cell lists lanes position cell

-- The list that begins with the number is the rest of the list of the position.
pub record IsRest (lists : PositionLists) (position number : ℕ) : Type 0 where
  pub within : number < end_count lists + length lists.items.items
  pub own : (place : ℕ) (row : List Bool) → found_in lists place number ≡ Some row → found_at lists position place ≡ Some row

none_bit : (lane : ℕ) → bit_at [] lane ≡ false
none_bit lane = refl

pub none_done : (lists : PositionLists) (lanes position cell : ℕ) → list_done lists lanes position (get_or lists.firsts.items position 0) cell ≡ false
none_done lists lanes position cell = nothing (found_at lists position (cell / lanes)) (cell % lanes)
  where
    nothing : (o : Option (List Bool)) (lane : ℕ) → (is_none o && bit_at (unwrap_or o []) lane) ≡ false
    nothing None lane = none_bit lane
    nothing (Some row) lane = refl

pub all_done : (lists : PositionLists) (lanes position number cell : ℕ) → number < end_count lists → differs_in_cell lists lanes position cell ≡ list_done lists lanes position number cell
all_done lists lanes position number cell h =
    sym (ap (λ (o : Option (List Bool)). is_none o && differs_in_cell lists lanes position cell) (found_end (end_count lists) lists.items.items (cell / lanes) number h))

module _ (lists : PositionLists) (lanes cells position number : ℕ) (item : Item) (are : AreLaneLists lanes cells lists) (known : position < end_count lists) (few : lanes ≤ LANES)
    (rest : IsRest lists position number) (is : IsItem lists number item) where
  abbrev of : ℕ → Item
  of n = item_of (end_count lists) lists.items.items n

  next_is : item.next ≡ (of number).next
  next_is = ap (λ (x : Item). x.next) is.own

  place_is : item.place ≡ (of number).place
  place_is = ap (λ (x : Item). x.place) is.own

  pub next_lower : item.next < number
  next_lower = omega (arith, next_is, are.linked.lower number is.past rest.within)

  here : found_in lists item.place number ≡ Some item.lanes
  here = found_here (end_count lists) lists.items.items item.place are.linked.lower number is.past rest.within (sym place_is) ∙ ap (λ (x : Item). Some x.lanes) (sym is.own)

  behind : (place : ℕ) → place ≢ item.place → found_in lists place number ≡ found_in lists place item.next
  behind place ne =
      let other : (of number).place ≢ place = λ e. ne (sym e ∙ sym place_is) in
      found_behind (end_count lists) lists.items.items place are.linked.lower number is.past rest.within other ∙ ap (found_in lists place) (sym next_is)

  gone : found_in lists item.place item.next ≡ None
  gone = (λ i. found_in lists (place_is i) (next_is i)) ∙ are.linked.once number is.past rest.within

  own : found_at lists position item.place ≡ Some item.lanes
  own = rest.own item.place item.lanes here

  pub place_known : item.place * lanes + lanes ≤ cells
  place_known = elim (cases_lt cells (item.place * lanes + lanes)) [
    | inr h ↦ h
    | inl past ↦ absurd (not_both (found_at lists position item.place) item.lanes (are.few position item.place known past) own)
  ]
    where
      not_both : (o : Option (List Bool)) (row : List Bool) → o ≡ None → o ≡ Some row → ⊥
      not_both o row none some = false≢true (ap is_some (sym none) ∙ ap is_some some)

  pub lanes_past : (lane : ℕ) → lanes ≤ lane → lane < LANES → bit_at item.lanes lane ≡ false
  lanes_past lane h l = ap (λ (o : Option (List Bool)). bit_at (unwrap_or o []) lane) (sym own) ∙ are.past position item.place lane known h l

  pub rest_more : IsRest lists position item.next
  rest_more = record {
    within = omega (arith, next_lower, rest.within);
    own = λ place row found. elim (cases_eq place item.place) [
      | inl e ↦ absurd (false≢true (ap is_some (sym gone) ∙ (ap (λ p. is_some (found_in lists p item.next)) (sym e) ∙ ap is_some found)))
      | inr ne ↦ rest.own place row (behind place ne ∙ found)
    ];
  }

  -- ---- the cells of the item

  abbrev begin : ℕ
  begin = item.place * lanes

  module _ (cell : ℕ) (some_lane : 0 < lanes) where
    split : cell / lanes * lanes + cell % lanes ≡ cell
    split = div-add-mod' cell lanes

    low : cell % lanes < lanes
    low = mod_below cell lanes some_lane

    -- a cell of the item's place
    in_own : cell / lanes ≡ item.place → in_lanes begin item.lanes cell ≡ bit_at item.lanes (cell % lanes)
    in_own e =
        let at : begin + cell % lanes ≡ cell = ap (λ p. p * lanes + cell % lanes) (sym e) ∙ split in
        let past : begin ≤ cell = omega (arith, at) in
        let lane : cell - begin ≡ cell % lanes = omega (arith, at) in
        true_and (leb begin cell && ltb (cell - begin) LANES) (bit_at item.lanes (cell - begin)) (and_from (leb begin cell) (ltb (cell - begin) LANES) (le-leb begin cell past) (lt-ltb (cell - begin) LANES (omega (arith, lane, low, few)))) ∙ ap (bit_at item.lanes) lane
      where
        true_and : (x y : Bool) → x ≡ true → (x && y) ≡ y
        true_and true y e = refl
        true_and false y e = absurd (false≢true e)

    -- a cell of another place
    in_other : cell / lanes ≢ item.place → in_lanes begin item.lanes cell ≡ false
    in_other ne = elim (cases_lt cell begin) [
      | inl before ↦ and_left (leb begin cell && ltb (cell - begin) LANES) (bit_at item.lanes (cell - begin)) (and_left (leb begin cell) (ltb (cell - begin) LANES) (lt-leb begin cell before))
      | inr from ↦ elim (cases_lt (cell - begin) LANES) [
        | inr far ↦ and_left (leb begin cell && ltb (cell - begin) LANES) (bit_at item.lanes (cell - begin)) (and_right (leb begin cell) (ltb (cell - begin) LANES) (le-ltb (cell - begin) LANES far))
        | inl near ↦ and_right (leb begin cell && ltb (cell - begin) LANES) (bit_at item.lanes (cell - begin)) (lanes_past (cell - begin) (past from) near)
      ]
    ]
      where
        -- the cell is that of a later place
        past : begin ≤ cell → lanes ≤ cell - begin
        past from = elim (cases_lt (cell - begin) lanes) [
          | inr over ↦ over
          | inl under ↦
              let place : cell / lanes ≡ item.place = ap (λ k. k / lanes) (sym (rejoin from)) ∙ div-mul-add item.place lanes (cell - begin) under in
              absurd (ne place)
        ]
          where
            rejoin : begin ≤ cell → item.place * lanes + (cell - begin) ≡ cell
            rejoin from = omega (arith, from)

    pub item_apart : in_lanes begin item.lanes cell ≡ true → list_done lists lanes position number cell ≡ false
    item_apart t = elim (cases_eq (cell / lanes) item.place) [
      | inl e ↦ ap (λ p. is_none (found_in lists p number) && differs_in_cell lists lanes position cell) e ∙ ap (λ (o : Option (List Bool)). is_none o && differs_in_cell lists lanes position cell) here
      | inr ne ↦ absurd (false≢true (sym (in_other ne) ∙ t))
    ]

    pub item_more : list_done lists lanes position item.next cell ≡ (list_done lists lanes position number cell || in_lanes begin item.lanes cell)
    item_more = elim (cases_eq (cell / lanes) item.place) [
      | inl e ↦
          let done : list_done lists lanes position item.next cell ≡ bit_at item.lanes (cell % lanes) =
          ap (λ p. is_none (found_in lists p item.next) && differs_in_cell lists lanes position cell) e ∙ (ap (λ (o : Option (List Bool)). is_none o && differs_in_cell lists lanes position cell) gone
          ∙ (ap (λ p. differs_at lists p position (cell % lanes)) e ∙ ap (λ (o : Option (List Bool)). bit_at (unwrap_or o []) (cell % lanes)) own)) in
          let not_yet : list_done lists lanes position number cell ≡ false =
          ap (λ p. is_none (found_in lists p number) && differs_in_cell lists lanes position cell) e ∙ ap (λ (o : Option (List Bool)). is_none o && differs_in_cell lists lanes position cell) here in
          done ∙ (sym (in_own e) ∙ ap (λ b. b || in_lanes begin item.lanes cell) (sym not_yet))
      | inr ne ↦
          ap (λ (o : Option (List Bool)). is_none o && differs_in_cell lists lanes position cell) (sym (behind (cell / lanes) ne))
          ∙ (or_none (list_done lists lanes position number cell) ∙ ap (λ b. list_done lists lanes position number cell || b) (sym (in_other ne)))
    ]
      where
        or_none : (x : Bool) → x ≡ (x || false)
        or_none true = refl
        or_none false = refl
