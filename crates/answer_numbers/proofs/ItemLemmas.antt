-- What is found in lists of items.
use Rattle.std.proofs.Common.{◌≡◌, ◌≢◌, ◌∙◌, ℕ, ◌+◌, ◌-◌, ◌<◌, ◌≤◌, ◌^◌, ◌⊎◌, Bool, cond, eqb, List, [], ◌∷◌, ◌++◌, length, get_or, set, Option, Some, None, refl, sym, ap, subst, arith, inl, inr}
use Rattle.std.specs.List.{range_with_len}
use Rattle.std.proofs.lemmas.Bool.{cases_lt, cases_eq, eq-eqb, ne_eqb}
use Rattle.std.proofs.lemmas.List.{length_push, length-set, get_or_append_left, get_or_push, get_or-set_same, get_or-set_other}
use Rattle.std.proofs.lemmas.List.FromFn.{length-range_with_len, get_or-range_with_len}
use Rattle.answer_numbers.specs.declared.differences.Item.{Item}
use Rattle.answer_numbers.specs.Differences.{no_item, item_of, found_from, AreListsOf, IsPushed}
use Rattle.answer_numbers.proofs.DescentLemmas.{LeadsLower, descended_end, descended_on, descended_same}

abbrev next_of : ℕ → List Item → ℕ → ℕ
next_of ends items n = (item_of ends items n).next

abbrev found_through : ℕ → List Item → ℕ → ℕ → Option (List Bool) → Option (List Bool)
found_through ends items place n rest = cond (eqb (item_of ends items n).place place) (Some (item_of ends items n).lanes) rest

abbrev found_none : ℕ → Option (List Bool)
found_none n = None

module _ (ends : ℕ) (items : List Item) (place : ℕ) where
  pub found_end : (n : ℕ) → n < ends → found_from ends items place n ≡ None
  found_end n h = descended_end ends (next_of ends items) found_none (found_through ends items place) n h

  module _ (lower : LeadsLower ends (ends + length items) (λ n. (item_of ends items n).next)) (n : ℕ) (on : ends ≤ n) (inside : n < ends + length items) where
    on_is : found_from ends items place n ≡ found_through ends items place n (found_from ends items place (next_of ends items n))
    on_is = descended_on ends (next_of ends items) found_none (found_through ends items place) (ends + length items) lower n on inside

    -- an item of the place is found
    pub found_here : (item_of ends items n).place ≡ place → found_from ends items place n ≡ Some (item_of ends items n).lanes
    found_here e = on_is ∙ ap (λ b. cond b (Some (item_of ends items n).lanes) (found_from ends items place (next_of ends items n))) (eq-eqb (item_of ends items n).place place e)

    -- an item of another place is passed over
    pub found_behind : (item_of ends items n).place ≢ place → found_from ends items place n ≡ found_from ends items place (item_of ends items n).next
    found_behind ne = on_is ∙ ap (λ b. cond b (Some (item_of ends items n).lanes) (found_from ends items place (next_of ends items n))) (ne_eqb (item_of ends items n).place place ne)

-- ---- one item more

module _ (ends : ℕ) (items : List Item) (item : Item) (lower : LeadsLower ends (ends + length items) (λ n. (item_of ends items n).next)) (next : item.next < ends + length items) where
  abbrev pub more_items : List Item
  more_items = items ++ item ∷ []

  abbrev newest : ℕ
  newest = ends + length items

  old_item : (n : ℕ) → ends ≤ n → n < newest → item_of ends more_items n ≡ item_of ends items n
  old_item n on h = get_or_append_left items (item ∷ []) no_item (n - ends) (omega (arith, on, h))

  new_item : (n : ℕ) → n ≡ newest → item_of ends more_items n ≡ item
  new_item n e = get_or_push items item no_item (n - ends) (omega (arith, e))

  -- a number is an old one or the newest
  which : (n : ℕ) → n < ends + length more_items → (n < newest) ⊎ (n ≡ newest)
  which n h = elim (cases_lt n newest) [
    | inl old ↦ inl old
    | inr past ↦ inr (omega (arith, h, past, length_push items item))
  ]

  more_lower : LeadsLower ends (ends + length more_items) (λ n. (item_of ends more_items n).next)
  more_lower n on h = elim (which n h) [
    | inl old ↦ omega (arith, ap (λ (x : Item). x.next) (old_item n on old), lower n on old)
    | inr new ↦ omega (arith, ap (λ (x : Item). x.next) (new_item n new), next, new)
  ]

  -- what was found is found still
  found_kept : (place n : ℕ) → n < newest → found_from ends more_items place n ≡ found_from ends items place n
  found_kept place n h =
      descended_same ends newest (next_of ends items) (next_of ends more_items) found_none (found_through ends items place) (found_through ends more_items place) lower
      (λ k on b. ap (λ (x : Item). x.next) (old_item k on b)) (λ k on b rest. ap (λ (x : Item). cond (eqb x.place place) (Some x.lanes) rest) (old_item k on b)) n h

  newest_is : item_of ends more_items newest ≡ item
  newest_is = new_item newest refl

  inside : newest < ends + length more_items
  inside = omega (arith, length_push items item)

  found_newest : found_from ends more_items item.place newest ≡ Some item.lanes
  found_newest = found_here ends more_items item.place more_lower newest (omega arith) inside (ap (λ (x : Item). x.place) newest_is) ∙ ap (λ (x : Item). Some x.lanes) newest_is

  found_past : (place : ℕ) → item.place ≢ place → found_from ends more_items place newest ≡ found_from ends items place item.next
  found_past place ne =
      let other : (item_of ends more_items newest).place ≢ place = λ e. ne (sym (ap (λ (x : Item). x.place) newest_is) ∙ e) in
      found_behind ends more_items place more_lower newest (omega arith) inside other
      ∙ (ap (λ (x : Item). found_from ends more_items place x.next) newest_is ∙ found_kept place item.next next)

-- ---- a place more at a position

module _ (position place : ℕ) (lanes : List Bool) (firsts : List ℕ) (items : List Item) (are : AreListsOf firsts items) (known : position < length firsts)
    (absent : found_from (length firsts) items place (get_or firsts position 0) ≡ None) (room : length firsts + length items + 1 < 2 ^ 32) where
  abbrev pub pushed_item : Item
  pushed_item = record { place = place; lanes = lanes; next = get_or firsts position 0 }

  abbrev ends : ℕ
  ends = length firsts

  abbrev number : ℕ
  number = length firsts + length items

  abbrev more : List Item
  more = items ++ pushed_item ∷ []

  abbrev later : List ℕ
  later = set firsts position number

  first_in : get_or firsts position 0 < number
  first_in = are.inside position known

  long : length later ≡ length firsts
  long = length-set firsts position number

  first_here : get_or later position 0 ≡ number
  first_here = get_or-set_same firsts position number 0 known

  first_other : (q : ℕ) → q ≢ position → get_or later q 0 ≡ get_or firsts q 0
  first_other q ne = get_or-set_other firsts position q number 0 ne

  kept : (p n : ℕ) → n < number → found_from ends more p n ≡ found_from ends items p n
  kept p n h = found_kept ends items pushed_item are.lower first_in p n h

  firsts_inside : (q : ℕ) → q < length later → get_or later q 0 < length later + length more
  firsts_inside q h = elim (cases_eq q position) [
    | inl e ↦ omega (arith, ap (λ k. get_or later k 0) e, first_here, long, length_push items pushed_item)
    | inr ne ↦ omega (arith, first_other q ne, are.inside q (omega (arith, h, long)), long, length_push items pushed_item)
  ]

  -- no place comes again after its item
  still_once : (n : ℕ) → ends ≤ n → n < ends + length more → found_from ends more (item_of ends more n).place (item_of ends more n).next ≡ None
  still_once n on h = elim (which ends items pushed_item are.lower first_in n h) [
    | inl old ↦
        let same = old_item ends items pushed_item are.lower first_in n on old in
        let low : (item_of ends items n).next < n = are.lower n on old in
        ap (λ (x : Item). found_from ends more x.place x.next) same ∙ (kept (item_of ends items n).place (item_of ends items n).next (omega (arith, low, old)) ∙ are.once n on old)
    | inr new ↦
        ap (λ (x : Item). found_from ends more x.place x.next) (new_item ends items pushed_item are.lower first_in n new) ∙ (kept place (get_or firsts position 0) first_in ∙ absent)
  ]

  at_ends : (P : ℕ → Type 0) → P ends → P (length later)
  at_ends P x = subst P (sym long) x

  pub pushed : IsPushed position place lanes firsts items later more
  pushed = record {
    count = long;
    lists = record {
      few = omega (arith, room, long, length_push items pushed_item);
      inside = firsts_inside;
      lower = at_ends (λ e. (n : ℕ) → e ≤ n → n < e + length more → (item_of e more n).next < n) (more_lower ends items pushed_item are.lower first_in);
      once = at_ends (λ e. (n : ℕ) → e ≤ n → n < e + length more → found_from e more (item_of e more n).place (item_of e more n).next ≡ None) still_once;
    };
    here = at_ends (λ e. found_from e more place (get_or later position 0) ≡ Some lanes) (ap (found_from ends more place) first_here ∙ found_newest ends items pushed_item are.lower first_in);
    others = λ q p h other. at_ends (λ e. found_from e more p (get_or later q 0) ≡ found_from ends items p (get_or firsts q 0)) (elim (cases_eq q position) [
      | inr ne ↦ ap (found_from ends more p) (first_other q ne) ∙ kept p (get_or firsts q 0) (are.inside q h)
      | inl e ↦
          let apart : place ≢ p = elim other [ inl ne ↦ absurd (ne e) | inr ne ↦ λ same. ne (sym same) ] in
          ap (λ k. found_from ends more p (get_or later k 0)) e ∙ (ap (found_from ends more p) first_here ∙ (found_past ends items pushed_item are.lower first_in p apart ∙ ap (λ k. found_from ends items p (get_or firsts k 0)) (sym e)))
    ]);
  }

-- ---- empty lists

module _ (n : ℕ) (firsts : List ℕ) (items : List Item) (begin : firsts ≡ range_with_len 0 n) (none : items ≡ []) where
  pub ends_long : length firsts ≡ n
  ends_long = ap length begin ∙ length-range_with_len 0 n

  first_own : (q : ℕ) → q < length firsts → get_or firsts q 0 ≡ q
  first_own q h = ap (λ (xs : List ℕ). get_or xs q 0) begin ∙ (get_or-range_with_len 0 n q 0 (omega (arith, h, ends_long)) ∙ omega arith)

  pub lists_none : n < 2 ^ 32 → AreListsOf firsts items
  lists_none h = record {
    few = omega (arith, h, ends_long, ap length none);
    inside = λ q l. omega (arith, first_own q l, l);
    lower = λ k past below. absurd (omega (arith, past, below, ap length none));
    once = λ k past below. absurd (omega (arith, past, below, ap length none));
  }

  pub found_nothing : (q place : ℕ) → q < length firsts → found_from (length firsts) items place (get_or firsts q 0) ≡ None
  found_nothing q place h = found_end (length firsts) items place (get_or firsts q 0) (omega (arith, first_own q h, h))
