-- What numbers turn, and the lanes in which heads are needed, one number more.
use Rattle.std.proofs.Common.{◌≡◌, ℕ, ◌<◌, Bool, true, ◌||◌, List, [], length, set, get_or, Option, None, sym, subst, ◌∙◌, arith, inl, inr}
use Rattle.std.specs.Prelude.{Some}
use Rattle.std.proofs.lemmas.Bool.{cases_eq, or_left, or_right}
use Rattle.std.proofs.lemmas.List.{length-set, get_or-set_same, get_or-set_other}
use Rattle.net_model.specs.Answer.{bit_at}
use Rattle.word_sim.specs.declared.lanes.TheConstants.{LANES}
use Rattle.word_sim.specs.GoodSim.{GoodSim}
use Rattle.fault_heads.specs.declared.head.Turn.{Turn}
use Rattle.net_model.specs.Circuit.{line_count}
use Rattle.kept_vectors.specs.Notes.{place_of, IsTurnNeeded, IsNumberAsked}

-- Each head is needed in all lanes in which it was needed.
abbrev pub AreGrown : List (List Bool) → List (List Bool) → Type 0
AreGrown needs new = (place lane : ℕ) → lane < LANES → bit_at (get_or needs place []) lane ≡ true → bit_at (get_or new place []) lane ≡ true

pub grown_none : (needs : List (List Bool)) → AreGrown needs needs
grown_none needs place lane h on = on

module _ (needs : List (List Bool)) (place : ℕ) (row more : List Bool) (inside : place < length needs) (is : (lane : ℕ) → lane < LANES → bit_at more lane ≡ (bit_at (get_or needs place []) lane || bit_at row lane)) where
  at_place : get_or (set needs place more) place [] ≡ more
  at_place = get_or-set_same needs place more [] inside

  pub grown : AreGrown needs (set needs place more)
  grown other lane h on = elim (cases_eq other place) [
    | inr ne ↦ rw (get_or-set_other needs place other more [] ne) on
    | inl same ↦
        let old : bit_at (get_or needs place []) lane ≡ true = subst (λ (p : ℕ). bit_at (get_or needs p []) lane ≡ true) same on in
        rw (same, at_place) (is lane h ∙ or_left (bit_at (get_or needs place []) lane) (bit_at row lane) old)
  ]

  pub needed_here : (lane : ℕ) → lane < LANES → bit_at row lane ≡ true → bit_at (get_or (set needs place more) place []) lane ≡ true
  needed_here lane h on = rw at_place (is lane h ∙ or_right (bit_at (get_or needs place []) lane) (bit_at row lane) on)

module _ (good : GoodSim) (needs new : List (List Bool)) (grows : AreGrown needs new) where
  needed_later : (n : ℕ) (turn : Option Turn) → IsTurnNeeded good needs n turn → IsTurnNeeded good new n turn
  needed_later n None free = free
  needed_later n (Some turn) (inside, turns, needed) = (inside, turns, λ lane h on. grows (place_of (line_count good.circuit) turn.head) lane h (needed lane h on))

  module _ (turns : List (Option Turn)) (number : ℕ) (turn : Option Turn) (below : number < length turns) (here : IsTurnNeeded good new number turn) where
    pub asked_here : IsNumberAsked good new (set turns number turn) number
    asked_here = record { below = omega (arith, below, length-set turns number turn); turn = rw (get_or-set_same turns number turn None below) here }

    pub asked_later : (n : ℕ) → IsNumberAsked good needs turns n → IsNumberAsked good new (set turns number turn) n
    asked_later n asked = elim (cases_eq n number) [
      | inl same ↦ subst (IsNumberAsked good new (set turns number turn)) (sym same) asked_here
      | inr other ↦ record {
        below = omega (arith, asked.below, length-set turns number turn);
        turn = rw (get_or-set_other turns number n turn None other) (needed_later n (get_or turns n None) asked.turn);
      }
    ]
