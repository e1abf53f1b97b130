-- Rows that are set and cleared.
use Rattle.std.proofs.Common.{◌≡◌, ◌≢◌, ℕ, ◌<◌, List, [], ◌∷◌, ◌++◌, length, get_or, replicate, set, sym, ap, ◌∙◌, subst, arith, inl, inr}
use Rattle.std.specs.Prelude.{Bool, Contains, All}
use Rattle.std.proofs.lemmas.Bool.{cases_eq}
use Rattle.std.proofs.lemmas.List.{get_or-set_same, get_or-set_other, get_or-replicate, length-replicate, length-set}
use Rattle.std.proofs.lemmas.List.Elements.{Contains-append_left, Contains-push, Contains-push_cases}
use Rattle.fault_sim.specs.Rows.{IsFalse, AreFalseBut}

pub false_rows : (rows : List (List Bool)) (count : ℕ) (row : List Bool) → rows ≡ replicate count row → IsFalse row → AreFalseBut [] rows
false_rows rows count row e none k inside apart =
    let within : k < count = omega (arith, ap length e, length-replicate count row) in
    subst IsFalse (sym (ap (λ l. get_or l k []) e ∙ get_or-replicate count k row [] within)) none

pub within_set : (rows : List (List Bool)) (at : ℕ) (row : List Bool) (listed : List ℕ) → All (λ k. k < length rows) listed → All (λ k. k < length (set rows at row)) listed
within_set rows at row listed h = subst (λ n. All (λ k. k < n) listed) (sym (length-set rows at row)) h

pub false_but_more : (rows : List (List Bool)) (at : ℕ) (row : List Bool) (listed : List ℕ) → AreFalseBut listed rows → AreFalseBut (listed ++ at ∷ []) (set rows at row)
false_but_more rows at row listed h k inside apart =
    let ne : k ≢ at = λ e. apart (subst (Contains (listed ++ at ∷ [])) (sym e) (Contains-push listed at)) in
    let was : k < length rows = omega (arith, length-set rows at row) in
    subst IsFalse (sym (get_or-set_other rows at k row [] ne)) (h k was (λ has. apart (Contains-append_left listed (at ∷ []) k has)))

pub false_but_less : (rows : List (List Bool)) (at : ℕ) (row : List Bool) (listed : List ℕ) → AreFalseBut (listed ++ at ∷ []) rows → IsFalse row → AreFalseBut listed (set rows at row)
false_but_less rows at row listed h none k inside apart =
    let was : k < length rows = omega (arith, length-set rows at row) in
    elim (cases_eq k at) [
      | inl same ↦
          let P : ℕ → Type 0 = λ j. IsFalse (get_or (set rows at row) j []) in
          subst P (sym same) (subst IsFalse (sym (get_or-set_same rows at row [] (subst (λ j. j < length rows) same was))) none)
      | inr ne ↦
          subst IsFalse (sym (get_or-set_other rows at k row [] ne))
          (h k was (λ has. elim (Contains-push_cases listed at k has) [
            | inl there ↦ apart there
            | inr here ↦ ne (sym here)
          ]))
    ]
