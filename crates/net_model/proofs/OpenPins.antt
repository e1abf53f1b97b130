-- How often a number occurs in a list, and the pins of a gate that are still open.
use Rattle.std.proofs.Common.{◌≡◌, ◌≢◌, ◌∙◌, ℕ, ◌+◌, ◌<◌, ◌⊎◌, inl, inr, true, false, not, ◌||◌, cond, List, [], ◌∷◌, ◌++◌, get_or, eqb, refl, sym, ap, arith}
use Rattle.std.specs.Prelude.{Bool, Contains, nat_lt}
use Rattle.std.specs.List.{list_any}
use Rattle.std.proofs.Math.Bool.{or-false}
use Rattle.std.proofs.lemmas.Bool.{cases_eq, cases_Bool, lt-ltb, ltb-true, eqb-true, ne_eqb, eq-eqb, or_cases, or_left, or_right}
use Rattle.std.proofs.lemmas.List.{get_or_default}
use Rattle.std.proofs.lemmas.List.Elements.{Contains-push}
use Rattle.std.proofs.lemmas.List.Folds.{list_any-append}
use Rattle.std.proofs.lemmas.List.Sums.{sum_by-cons, sum_by_push, get_or-le-sum_by}
use Rattle.std.proofs.lemmas.Map.Views.{Contains-from_any}
use Rattle.net_model.specs.Topological.{count_of, is_told, open_pins}
use Rattle.net_model.proofs.Copies.{later}
use Rattle.net_model.proofs.Elements.{any_from}

-- ---- counts

-- `n` if the test holds, else 0
abbrev pub count_if : Bool → ℕ → ℕ
count_if b n = cond b n 0

pub count_same : (x : ℕ) (xs : List ℕ) → count_of x (xs ++ x ∷ []) ≡ count_of x xs + 1
count_same x xs = sum_by_push (λ y. count_if (eqb y x) 1) xs x ∙ ap (λ b. count_of x xs + count_if b 1) (eq-eqb x x refl)

pub count_other : (x : ℕ) (xs : List ℕ) (y : ℕ) → y ≢ x → count_of x (xs ++ y ∷ []) ≡ count_of x xs
count_other x xs y ne = sum_by_push (λ y. count_if (eqb y x) 1) xs y ∙ (ap (λ b. count_of x xs + count_if b 1) (ne_eqb y x ne) ∙ omega arith)

pub count_has : (x : ℕ) (xs : List ℕ) → 0 < count_of x xs → Contains xs x
count_has x [] h = absurd (omega arith)
count_has x (y ∷ ys) h =
    elim (cases_eq y x) [
      | inl same ↦ (0, omega arith, same)
      | inr ne ↦
          let none : count_if (eqb y x) 1 ≡ 0 = ap (λ b. count_if b 1) (ne_eqb y x ne) in
          later y ys x (count_has x ys (omega (arith, none, sum_by-cons (λ z. count_if (eqb z x) 1) y ys)))
    ]

pub has_count : (x : ℕ) (xs : List ℕ) → Contains xs x → 0 < count_of x xs
has_count x xs (k, h, e) =
    let one : count_if (eqb (get_or xs k 0) x) 1 ≡ 1 = ap (λ b. count_if b 1) (eq-eqb (get_or xs k 0) x (get_or_default xs k 0 x h ∙ e)) in
    omega (arith, one, get_or-le-sum_by (λ z. count_if (eqb z x) 1) xs k 0 h)

-- ---- told lines and open pins

has_any : (told : List ℕ) (line : ℕ) → Contains told line → list_any (λ gate. eqb gate line) told ≡ true
has_any told line m = any_from (λ gate. eqb gate line) told line m (eq-eqb line line refl)

module _ (sources : ℕ) (told : List ℕ) where
  pub told_from : (line : ℕ) → (line < sources) ⊎ Contains told line → is_told sources told line ≡ true
  told_from line (inl source) = or_left (nat_lt line sources) (list_any (λ gate. eqb gate line) told) (lt-ltb line sources source)
  told_from line (inr gate) = or_right (nat_lt line sources) (list_any (λ gate. eqb gate line) told) (has_any told line gate)

  pub told_is : (line : ℕ) → is_told sources told line ≡ true → (line < sources) ⊎ Contains told line
  told_is line t =
      elim (or_cases (nat_lt line sources) (list_any (λ gate. eqb gate line) told) t) [
        | inl source ↦ inl (ltb-true line sources source)
        | inr gate ↦ inr (Contains-from_any {eq = λ q x. eqb x q} (λ x y e. sym (eqb-true y x e)) line told gate)
      ]

  -- if no pin is open, all pins are told
  pub none_open : (pins : List ℕ) → open_pins sources told pins ≡ 0 → (pin : ℕ) → Contains pins pin → is_told sources told pin ≡ true
  none_open pins none pin (k, h, e) =
      elim (cases_Bool (is_told sources told pin)) [
        | inl on ↦ on
        | inr off ↦
            let here : get_or pins k 0 ≡ pin = get_or_default pins k 0 pin h ∙ e in
            let one : count_if (not (is_told sources told (get_or pins k 0))) 1 ≡ 1 = ap (λ l. count_if (not (is_told sources told l)) 1) here ∙ ap (λ b. count_if (not b) 1) off in
            absurd (omega (arith, none, one, get_or-le-sum_by (λ l. count_if (not (is_told sources told l)) 1) pins k 0 h))
      ]

  pub all_told : (pins : List ℕ) → ((pin : ℕ) → Contains pins pin → is_told sources told pin ≡ true) → open_pins sources told pins ≡ 0
  all_told [] h = refl
  all_told (pin ∷ pins) h =
      let zero_is : count_if (not (is_told sources told pin)) 1 ≡ 0 = ap (λ b. count_if (not b) 1) (h pin (0, omega arith, refl)) in
      let rest = all_told pins (λ p m. h p (later pin pins p m)) in
      omega (arith, zero_is, rest, sum_by-cons (λ l. count_if (not (is_told sources told l)) 1) pin pins)

  module _ (x : ℕ) where
    told_new : is_told sources (told ++ x ∷ []) x ≡ true
    told_new = told_more (Contains-push told x)
      where
        told_more : Contains (told ++ x ∷ []) x → is_told sources (told ++ x ∷ []) x ≡ true
        told_more m = or_right (nat_lt x sources) (list_any (λ gate. eqb gate x) (told ++ x ∷ [])) (has_any (told ++ x ∷ []) x m)

    told_other : (y : ℕ) → y ≢ x → is_told sources (told ++ x ∷ []) y ≡ is_told sources told y
    told_other y ne =
        let more = list_any-append (λ gate. eqb gate y) told (x ∷ []) in
        let none : (list_any (λ gate. eqb gate y) told || (eqb x y || false)) ≡ list_any (λ gate. eqb gate y) told =
        ap (λ b. list_any (λ gate. eqb gate y) told || (b || false)) (ne_eqb x y (λ e. ne (sym e))) ∙ or-false (list_any (λ gate. eqb gate y) told) in
        ap (λ b. nat_lt y sources || b) (more ∙ none)

    -- one more told line closes the pins that read it
    pub open_split : is_told sources told x ≡ false → (pins : List ℕ) → open_pins sources told pins ≡ open_pins sources (told ++ x ∷ []) pins + count_of x pins
    open_split off [] = refl
    open_split off (pin ∷ pins) =
        let rest = open_split off pins in
        let old = sum_by-cons (λ l. count_if (not (is_told sources told l)) 1) pin pins in
        let new = sum_by-cons (λ l. count_if (not (is_told sources (told ++ x ∷ []) l)) 1) pin pins in
        let count = sum_by-cons (λ l. count_if (eqb l x) 1) pin pins in
        elim (cases_eq pin x) [
          | inl same ↦
              let was : count_if (not (is_told sources told pin)) 1 ≡ 1 = ap (λ l. count_if (not (is_told sources told l)) 1) same ∙ ap (λ b. count_if (not b) 1) off in
              let is : count_if (not (is_told sources (told ++ x ∷ []) pin)) 1 ≡ 0 = ap (λ l. count_if (not (is_told sources (told ++ x ∷ []) l)) 1) same ∙ ap (λ b. count_if (not b) 1) told_new in
              let one : count_if (eqb pin x) 1 ≡ 1 = ap (λ b. count_if b 1) (eq-eqb pin x same) in
              omega (arith, rest, old, new, count, was, is, one)
          | inr ne ↦
              let same : count_if (not (is_told sources (told ++ x ∷ []) pin)) 1 ≡ count_if (not (is_told sources told pin)) 1 = ap (λ b. count_if (not b) 1) (told_other pin ne) in
              let none : count_if (eqb pin x) 1 ≡ 0 = ap (λ b. count_if b 1) (ne_eqb pin x ne) in
              omega (arith, rest, old, new, count, same, none)
        ]
