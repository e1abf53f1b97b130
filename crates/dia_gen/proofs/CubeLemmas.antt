-- The cube of the bits that a vector has at the sources among some lines.
use Rattle.std.proofs.Common.{◌≡◌, ◌≤◌, ℕ, ◌+◌, ◌<◌, inl, inr, Bool, List, [], ◌∷◌, ◌++◌, length, take, set, get_or, sym, subst, ◌∙◌, arith}
use Rattle.std.specs.Prelude.{Contains, Option, None, Some}
use Rattle.std.proofs.lemmas.Bool.{cases_eq}
use Rattle.std.proofs.lemmas.List.{get_or-set_same, get_or-set_other, take_more}
use Rattle.std.proofs.lemmas.List.Elements.{Contains-push_cases}
use Rattle.net_model.specs.declared.fault.Fault.{Fault}
use Rattle.net_model.specs.Circuit.{Circuit, line_count, all_lines}
use Rattle.net_model.specs.Answer.{bit_at}
use Rattle.net_model.specs.Scope.{is_relevant, relevant_lines}
use Rattle.net_model.proofs.Elements.{Contains-filter}
use Rattle.net_model.proofs.Orders.{Contains-range}
use Rattle.dia_gen.specs.Settled.{HasRelevant}

-- The cube has the vector's bit at each of these lines that is a source.
abbrev pub HasLineBits : List Bool → List ℕ → List (Option Bool) → Type 0
HasLineBits v lines cube = (k : ℕ) → k < length v → Contains lines k → get_or cube k None ≡ Some (bit_at v k)

module _ (v : List Bool) (lines : List ℕ) (at : ℕ) (cube : List (Option Bool)) (inside : at < length lines) (so_far : HasLineBits v (take at lines) cube) where
  abbrev pub line : ℕ
  line = get_or lines at 0

  more : take (at + 1) lines ≡ take at lines ++ line ∷ []
  more = take_more lines at 0 inside

  -- The next line is a source.
  pub bits_more : length cube ≡ length v → line < length v → HasLineBits v (take (at + 1) lines) (set cube line (Some (bit_at v line)))
  bits_more width within k below m =
      elim (cases_eq k line) [
        | inl same ↦ subst (λ n. get_or (set cube line (Some (bit_at v line))) n None ≡ Some (bit_at v n)) (sym same) (get_or-set_same cube line (Some (bit_at v line)) None (omega (arith, within, width)))
        | inr other ↦
            elim (Contains-push_cases (take at lines) line k (subst (λ (xs : List ℕ). Contains xs k) more m)) [
              | inl before ↦ get_or-set_other cube line k (Some (bit_at v line)) None other ∙ so_far k below before
              | inr here ↦ absurd (other (sym here))
            ]
      ]

  -- The next line is no source.
  pub bits_same : length v ≤ line → HasLineBits v (take (at + 1) lines) cube
  bits_same beyond k below m =
      elim (Contains-push_cases (take at lines) line k (subst (λ (xs : List ℕ). Contains xs k) more m)) [
        | inl before ↦ so_far k below before
        | inr here ↦ absurd (omega (arith, here, below, beyond))
      ]

-- The cube has the vector's bits at each relevant source if the lines are the relevant ones.
pub relevant_bits : (c : Circuit) (f g : Fault) (v : List Bool) (lines : List ℕ) (cube : List (Option Bool)) → lines ≡ relevant_lines c f g → length v ≤ line_count c → HasLineBits v lines cube → HasRelevant c f g v cube
unfolding relevant_lines
relevant_bits c f g v lines cube are few has source below relevant =
    has source below (subst (λ (xs : List ℕ). Contains xs source) (sym are) (Contains-filter (is_relevant c f g) (all_lines c) source (Contains-range 0 (line_count c) source (omega arith) (omega (arith, below, few))) relevant))
