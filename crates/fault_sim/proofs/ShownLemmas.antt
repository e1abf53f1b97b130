-- What the observed positions show, position by position.
use Rattle.std.proofs.Common.{◌≡◌, ◌≢◌, ℕ, ◌<◌, ◌+◌, ◌≤◌, List, [], ◌∷◌, ◌++◌, length, get_or, set, refl, sym, ◌∙◌, ap, subst, arith, inl, inr}
use Rattle.std.specs.Prelude.{Bool, false, Contains, All, AllPairs}
use Rattle.std.proofs.lemmas.Bool.{cases_eq}
use Rattle.std.proofs.lemmas.List.{get_or-set_same, get_or-set_other}
use Rattle.std.proofs.lemmas.List.Elements.{All-push}
use Rattle.std.proofs.lemmas.List.Quantifiers.{all_pairs_push}
use Rattle.net_model.specs.Circuit.{Circuit, line_count}
use Rattle.net_model.specs.Answer.{bit_at}
use Rattle.net_model.specs.Wiring.{Wiring, IsWiring}
use Rattle.event_queue.specs.Pending.{is_pending, IsLowest}
use Rattle.fault_sim.specs.Rows.{IsFalse, IsTrueSomewhere, AreFalseBut}
use Rattle.fault_sim.specs.Events.{IsSameRow, row_shown}

module _ (shown : List ℕ) (lines : List (List Bool)) where
  abbrev IsShown : List (List Bool) → ℕ → Type 0
  IsShown rows position = IsSameRow (get_or rows position []) (row_shown shown lines position)

  module _ (rows : List (List Bool)) (queue less : List Bool) (at : ℕ) (lowest : IsLowest queue less at) (count : ℕ)
      (known : (position : ℕ) → position < count → is_pending queue position ≡ false → IsSameRow (get_or rows position []) (row_shown shown lines position)) where
    pub shown_more : at < length rows → (position : ℕ) → position < count → is_pending less position ≡ false
        → IsSameRow (get_or (set rows at (row_shown shown lines at)) position []) (row_shown shown lines position)
    shown_more inside position h idle =
        let row = row_shown shown lines at in
        elim (cases_eq position at) [
          | inl same ↦
              subst (IsShown (set rows at row)) (sym same) (λ lane within. ap (λ r. bit_at r lane) (get_or-set_same rows at row [] inside))
          | inr ne ↦ subst (λ r. IsSameRow r (row_shown shown lines position)) (sym (get_or-set_other rows at position row [] ne)) (known position h (sym (lowest.others position ne) ∙ idle))
        ]

    pub shown_kept : IsSameRow (get_or rows at []) (row_shown shown lines at) → (position : ℕ) → position < count → is_pending less position ≡ false → IsSameRow (get_or rows position []) (row_shown shown lines position)
    shown_kept here position h idle =
        elim (cases_eq position at) [
          | inl same ↦ subst (IsShown rows) (sym same) here
          | inr ne ↦ known position h (sym (lowest.others position ne) ∙ idle)
        ]

-- each position that shows a listed line is marked, so the other positions show lines that aren't turned
pub unmarked_false : (c : Circuit) (w : Wiring) → IsWiring c w → (lines : List (List Bool)) (listed : List ℕ) → length lines ≡ line_count c → AreFalseBut listed lines
    → (position : ℕ) → position < length c.positions → ((line : ℕ) → Contains listed line → Contains (get_or w.showing line []) position → ⊥) → IsFalse (row_shown c.positions lines position)
unmarked_false c w wired lines listed width others position h unmarked =
    let line = get_or c.positions position 0 in
    let inside : line < length lines = omega (arith, width, wired.circuit.positions position 0 h) in
    others line inside (λ has. unmarked line has (wired.showing.all line position h (0, omega arith, refl)))

-- ---- rows that are set in ascending order

pub below_more : (from at : ℕ) (listed : List ℕ) → from ≤ at → All (λ k. k < from) listed → All (λ k. k < at + 1) (listed ++ at ∷ [])
below_more from at listed h below = All-push (λ k. k < at + 1) listed at (λ k d inside. omega (arith, below k d inside)) (omega arith)

pub below_later : (from at : ℕ) (listed : List ℕ) → from ≤ at → All (λ k. k < from) listed → All (λ k. k < at + 1) listed
below_later from at listed h below = λ k d inside. omega (arith, below k d inside)

pub some_more : (rows : List (List Bool)) (from at : ℕ) (row : List Bool) (listed : List ℕ) → from ≤ at → at < length rows → All (λ k. k < from) listed
    → All (λ k. IsTrueSomewhere (get_or rows k [])) listed → IsTrueSomewhere row → All (λ k. IsTrueSomewhere (get_or (set rows at row) k [])) (listed ++ at ∷ [])
some_more rows from at row listed low inside below some here =
    All-push (λ k. IsTrueSomewhere (get_or (set rows at row) k [])) listed at
    (λ k d h.
    let ne : get_or listed k d ≢ at = omega (arith, below k d h) in
    subst IsTrueSomewhere (sym (get_or-set_other rows at (get_or listed k d) row [] ne)) (some k d h))
    (subst IsTrueSomewhere (sym (get_or-set_same rows at row [] inside)) here)

pub ascending_more : (from at : ℕ) (listed : List ℕ) → from ≤ at → All (λ k. k < from) listed → AllPairs ◌<◌ listed → AllPairs ◌<◌ (listed ++ at ∷ [])
ascending_more from at listed low below ascending = all_pairs_push ◌<◌ listed at ascending (λ k d h. omega (arith, below k d h))
