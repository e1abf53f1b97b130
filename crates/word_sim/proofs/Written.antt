-- Rows that are written one after another: one lane of each, or the whole row.
use Rattle.std.proofs.Common.{◌≡◌, ◌≢◌, ℕ, ◌+◌, ◌<◌, List, [], length, get_or, set, refl, sym, ◌∙◌, ap, subst, arith, inl, inr}
use Rattle.std.specs.Prelude.{Bool}
use Rattle.std.proofs.lemmas.Bool.{cases_eq}
use Rattle.std.proofs.lemmas.List.{get_or-set_same, get_or-set_other, get_or_read}
use Rattle.net_model.specs.Answer.{bit_at}
use Rattle.word_sim.specs.declared.lanes.TheConstants.{LANES}

-- In each lane with another key than `own` all rows are as in `first`.
abbrev pub AreBeside : (ℕ → ℕ) → ℕ → List (List Bool) → List (List Bool) → Type 0
AreBeside key own first rows = (k lane : ℕ) → lane < LANES → key lane ≢ own → bit_at (get_or rows k []) lane ≡ bit_at (get_or first k []) lane

pub beside_more : (key : ℕ → ℕ) (own : ℕ) (first rows : List (List Bool)) (n : ℕ) (old new : List Bool) → AreBeside key own first rows → n < length rows → old ≡ get_or rows n old
    → ((lane : ℕ) → lane < LANES → key lane ≢ own → bit_at new lane ≡ bit_at old lane) → AreBeside key own first (set rows n new)
beside_more key own first rows n old new before h read there k lane within apart =
    let was : get_or rows n [] ≡ old = sym (get_or_read rows n old h read []) in
    elim (cases_eq k n) [
      | inl same ↦ let P : ℕ → Type 0 = λ j. bit_at (get_or (set rows n new) j []) lane ≡ bit_at (get_or first j []) lane in
          subst P (sym same) (ap (λ row. bit_at row lane) (get_or-set_same rows n new [] h) ∙ there lane within apart ∙ ap (λ row. bit_at row lane) (sym was) ∙ before n lane within apart)
      | inr ne ↦ ap (λ row. bit_at row lane) (get_or-set_other rows n k new [] ne) ∙ before k lane within apart
    ]

-- The first `n` rows have these bits in the lanes with the key `own`.
abbrev pub ArePut : (ℕ → ℕ) → ℕ → (ℕ → ℕ → Bool) → List (List Bool) → ℕ → Type 0
ArePut key own bit rows n = (k lane : ℕ) → k < n → lane < LANES → key lane ≡ own → bit_at (get_or rows k []) lane ≡ bit k lane

pub put_more : (key : ℕ → ℕ) (own : ℕ) (bit : ℕ → ℕ → Bool) (rows : List (List Bool)) (n : ℕ) (new : List Bool) → ArePut key own bit rows n → n < length rows
    → ((lane : ℕ) → lane < LANES → key lane ≡ own → bit_at new lane ≡ bit n lane) → ArePut key own bit (set rows n new) (n + 1)
put_more key own bit rows n new before h here k lane l within e =
    elim (cases_eq k n) [
      | inl same ↦ let P : ℕ → Type 0 = λ j. bit_at (get_or (set rows n new) j []) lane ≡ bit j lane in
          subst P (sym same) (ap (λ row. bit_at row lane) (get_or-set_same rows n new [] h) ∙ here lane within e)
      | inr ne ↦ ap (λ row. bit_at row lane) (get_or-set_other rows n k new [] ne) ∙ before k lane (omega arith) within e
    ]

-- The first `n` rows have the vector's bits in lane `own`, and in the other lanes all rows are as in `first`.
pub record IsWritten (first rows : List (List Bool)) (own : ℕ) (v : List Bool) (n : ℕ) : Type 0 where
  pub written : ArePut (λ lane. lane) own (λ k lane. bit_at v k) rows n
  pub others : AreBeside (λ lane. lane) own first rows

pub written_none : (rows : List (List Bool)) (own : ℕ) (v : List Bool) → IsWritten rows rows own v 0
written_none rows own v = record { written = λ k lane h. absurd (omega arith); others = λ k lane h ne. refl }

pub written_more : (first rows : List (List Bool)) (own : ℕ) (v : List Bool) (n : ℕ) (old new : List Bool)
    → IsWritten first rows own v n → n < length rows → old ≡ get_or rows n old → bit_at new own ≡ bit_at v n
    → ((other : ℕ) → other < LANES → other ≢ own → bit_at new other ≡ bit_at old other) → IsWritten first (set rows n new) own v (n + 1)
written_more first rows own v n old new w h read here there = record {
  written = put_more (λ lane. lane) own (λ k lane. bit_at v k) rows n new w.written h (λ lane l e. ap (bit_at new) e ∙ here);
  others = beside_more (λ lane. lane) own first rows n old new w.others h read there;
}

-- The first `n` rows have these bits in the first `lanes` lanes.
abbrev pub AreSet : (ℕ → ℕ → Bool) → ℕ → List (List Bool) → ℕ → Type 0
AreSet bit lanes rows n = (k lane : ℕ) → k < n → lane < lanes → bit_at (get_or rows k []) lane ≡ bit k lane

pub set_more : (bit : ℕ → ℕ → Bool) (lanes : ℕ) (rows : List (List Bool)) (n : ℕ) (row : List Bool) → AreSet bit lanes rows n → n < length rows
    → ((lane : ℕ) → lane < lanes → bit_at row lane ≡ bit n lane) → AreSet bit lanes (set rows n row) (n + 1)
set_more bit lanes rows n row before h here k lane l within =
    elim (cases_eq k n) [
      | inl same ↦
          let P : ℕ → Type 0 = λ j. bit_at (get_or (set rows n row) j []) lane ≡ bit j lane in
          subst P (sym same) (ap (λ r. bit_at r lane) (get_or-set_same rows n row [] h) ∙ here lane within)
      | inr ne ↦ ap (λ r. bit_at r lane) (get_or-set_other rows n k row [] ne) ∙ before k lane (omega arith) within
    ]
