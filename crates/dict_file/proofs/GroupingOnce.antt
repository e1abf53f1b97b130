-- The groups of a dictionary are determined by the entries of its numbers.
use Rattle.std.proofs.Common.{◌≡◌, ◌∙◌, ℕ, zero, suc, ◌<◌, ◌≤◌, Bool, List, [], length, get_or, take, sym, ap, subst, arith, inl, inr, Contains, ◌↔◌}
use Rattle.std.proofs.lemmas.Bool.{cases_lt}
use Rattle.std.proofs.lemmas.List.{ext_get_or, get_or-take, length-take-le, get_or_default}
use Rattle.std.proofs.lemmas.List.Elements.{Contains-get_or}
use Rattle.dict_rows.specs.Grouped.{IsGrouped, IsLeastUnused, group_row}
use Rattle.dict_rows.proofs.RegroupLemmas.{place_in}

place_out : (xs : List ℕ) (n x k : ℕ) → n ≤ length xs → k < n → get_or xs k 0 ≡ x → Contains (take n xs) x
place_out xs n x k h low e =
    let long : length (take n xs) ≡ n = length-take-le n xs h in
    subst (Contains (take n xs)) (get_or-take n xs k 0 low ∙ e) (Contains-get_or (take n xs) k 0 (omega (arith, low, long)))

module _ (numbers : ℕ) (gs hs : List ℕ) (es fs : List (List Bool)) (one : IsGrouped numbers gs es) (two : IsGrouped numbers hs fs)
    (same : (n : ℕ) → n < numbers → group_row gs es n ≡ group_row hs fs n) where
  -- Numbers of one group are of one group in the other grouping.
  known : (n : ℕ) → n < numbers → get_or hs n 0 < length fs
  known n h = (two.used (get_or hs n 0)).0 (Contains-get_or hs n 0 (omega (arith, h, two.one_each)))

  joined : (m n : ℕ) → m < numbers → n < numbers → get_or gs m 0 ≡ get_or gs n 0 → get_or hs m 0 ≡ get_or hs n 0
  joined m n hm hn e =
      two.different.apart (get_or hs m 0) (get_or hs n 0) (known m hm) (known n hn) (sym (same m hm) ∙ (ap (λ g. get_or es g []) e ∙ same n hn))

  -- A group that came before is the same in both if those before it are.
  old_same : (n : ℕ) → n < numbers → ((m : ℕ) → m < n → get_or gs m 0 ≡ get_or hs m 0) → Contains (take n gs) (get_or gs n 0) → get_or gs n 0 ≡ get_or hs n 0
  old_same n h before has =
      let at = place_in gs n (get_or gs n 0) (omega (arith, h, one.one_each)) has in
      sym at.2 ∙ (before at.0 at.1 ∙ joined at.0 n (omega (arith, at.1, h)) h at.2)

-- The least unused number of the same numbers is the same.
moved : (gs hs : List ℕ) (n x : ℕ) → n ≤ length gs → n ≤ length hs → ((m : ℕ) → m < n → get_or gs m 0 ≡ get_or hs m 0) → Contains (take n gs) x → Contains (take n hs) x
moved gs hs n x hg hh before has =
    let at = place_in gs n x hg has in
    place_out hs n x at.0 hh at.1 (sym (before at.0 at.1) ∙ at.2)

least_once : (gs hs : List ℕ) (n : ℕ) → n ≤ length gs → n ≤ length hs → ((m : ℕ) → m < n → get_or gs m 0 ≡ get_or hs m 0) → (x y : ℕ) → IsLeastUnused (take n gs) x → IsLeastUnused (take n hs) y → x ≡ y
least_once gs hs n hg hh before x y one two =
    elim (cases_lt x y) [
      | inl low ↦ absurd (one.unused (moved hs gs n x hh hg (λ m l. sym (before m l)) (two.lower x low)))
      | inr over ↦ elim (cases_lt y x) [
        | inl low ↦ absurd (two.unused (moved gs hs n y hg hh before (one.lower y low)))
        | inr past ↦ omega (arith, over, past)
      ]
    ]

-- The first lists have the same groups up to a number.
same_groups : (numbers : ℕ) (gs hs : List ℕ) (es fs : List (List Bool)) → IsGrouped numbers gs es → IsGrouped numbers hs fs → ((n : ℕ) → n < numbers → group_row gs es n ≡ group_row hs fs n)
    → (n : ℕ) → n ≤ numbers → (m : ℕ) → m < n → get_or gs m 0 ≡ get_or hs m 0
same_groups numbers gs hs es fs one two same zero h m l = absurd (omega (arith, l))
same_groups numbers gs hs es fs one two same (suc n) h m l =
    let before = same_groups numbers gs hs es fs one two same n (omega (arith, h)) in
    elim (cases_lt m n) [
      | inl low ↦ before m low
      | inr over ↦
          let e : m ≡ n = omega (arith, l, over) in
          let P : ℕ → Type 0 = λ k. get_or gs k 0 ≡ get_or hs k 0 in
          subst P (sym e)
          (elim (one.numbered.each n (omega (arith, h, one.one_each))) [
            | inl old ↦ old_same numbers gs hs es fs one two same n (omega (arith, h)) before old
            | inr least ↦ elim (two.numbered.each n (omega (arith, h, two.one_each))) [
              | inl old ↦ sym (old_same numbers hs gs fs es two one (λ k lk. sym (same k lk)) n (omega (arith, h)) (λ k lk. sym (before k lk)) old)
              | inr other ↦ least_once gs hs n (omega (arith, h, one.one_each)) (omega (arith, h, two.one_each)) before (get_or gs n 0) (get_or hs n 0) least other
            ]
          ])
    ]

-- Used groups are counted once.
same_counts : (gs : List ℕ) (es fs : List (List Bool)) → ((g : ℕ) → Contains gs g ↔ (g < length es)) → ((g : ℕ) → Contains gs g ↔ (g < length fs)) → length es ≡ length fs
same_counts gs es fs one two =
    elim (cases_lt (length es) (length fs)) [
      | inl low ↦ absurd (omega (arith, (one (length es)).0 ((two (length es)).1 low)))
      | inr over ↦ elim (cases_lt (length fs) (length es)) [
        | inl low ↦ absurd (omega (arith, (two (length fs)).0 ((one (length fs)).1 low)))
        | inr past ↦ omega (arith, over, past)
      ]
    ]

pub grouping_once : (numbers : ℕ) (gs hs : List ℕ) (es fs : List (List Bool)) → IsGrouped numbers gs es → IsGrouped numbers hs fs → ((n : ℕ) → n < numbers → group_row gs es n ≡ group_row hs fs n) → (gs ≡ hs) × (es ≡ fs)
grouping_once numbers gs hs es fs one two same =
    let each : (m : ℕ) → m < numbers → get_or gs m 0 ≡ get_or hs m 0 = same_groups numbers gs hs es fs one two same numbers (omega arith) in
    let groups : gs ≡ hs = ext_get_or 0 gs hs (one.one_each ∙ sym two.one_each) (λ m h. each m (omega (arith, h, one.one_each))) in
    let many : length es ≡ length fs = same_counts gs es fs (one.used) (subst (λ (xs : List ℕ). (g : ℕ) → Contains xs g ↔ (g < length fs)) (sym groups) two.used) in (
      groups,
      ext_get_or [] es fs many (λ g h.
          let at = (one.used g).1 h in
          let n = at.0 in
          let inside : n < numbers = omega (arith, at.1, one.one_each) in
          let is : get_or gs n 0 ≡ g = get_or_default gs n 0 g at.1 ∙ at.2 in
          ap (λ k. get_or es k []) (sym is) ∙ (same n inside ∙ ap (λ k. get_or fs k []) (sym (each n inside) ∙ is))),
    )
