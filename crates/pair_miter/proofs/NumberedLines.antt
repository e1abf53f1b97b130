-- The first variables of the relevant lines, one more line at a time.
use Rattle.std.proofs.Common.{◌≡◌, ◌∙◌, inl, inr, ℕ, ◌+◌, ◌<◌, ◌≤◌, List, length, get_or, set, take, sym, ap, subst, arith}
use Rattle.std.specs.Prelude.{sum_by}
use Rattle.std.proofs.lemmas.Bool.{cases_eq, cases_lt}
use Rattle.std.proofs.lemmas.List.{length-set, get_or-set_other, take_all}
use Rattle.std.proofs.lemmas.Grind.{get_or-set_at}
use Rattle.net_model.specs.declared.fault.Fault.{Fault}
use Rattle.net_model.specs.Circuit.{Circuit, line_count}
use Rattle.net_model.specs.Scope.{relevant_lines}
use Rattle.pair_miter.specs.declared.side.Side.TheVariants.{First}
use Rattle.pair_miter.specs.Numbering.{AreFirstVariables}
use Rattle.pair_miter.specs.Variables.{line_variables, line_variable, variables_below}
use Rattle.pair_miter.proofs.ClauseParts.{sum_taken}
use Rattle.pair_miter.proofs.Numbers.{line_listed, place_of_line, variable_at, variables_of_lines}

-- The first `i` of the lines have their first variables, and `next` is the next variable.
pub record AreNumbered (c : Circuit) (f g : Fault) (lines : List ℕ) (i next : ℕ) (firsts : List ℕ) : Type 0 where
  pub whole : length firsts ≡ line_count c
  pub end : next ≡ 1 + sum_by (line_variables c f g) (take i lines)
  pub each : (k : ℕ) → k < i → get_or firsts (get_or lines k 0) 0 ≡ line_variable c f g First (get_or lines k 0)

module _ (c : Circuit) (f g : Fault) (lines : List ℕ) (are : lines ≡ relevant_lines c f g) where
  pub numbered_more : (i next n : ℕ) (firsts : List ℕ) → i < length lines → n ≡ line_variables c f g (get_or lines i 0) → AreNumbered c f g lines i next firsts
      → AreNumbered c f g lines (i + 1) (next + n) (set firsts (get_or lines i 0) next)
  numbered_more i next n firsts inside is so_far = record {
    whole = omega (arith, length-set firsts line next, so_far.whole);
    end = omega (arith, is, so_far.end, sum_taken lines i inside (line_variables c f g));
    each = λ k h.
        elim (cases_lt k i) [
          | inl below ↦
              elim (cases_eq (get_or lines k 0) line) [
                | inl same ↦ here (get_or lines k 0) same
                | inr other ↦ get_or-set_other firsts line (get_or lines k 0) next 0 other ∙ so_far.each k below
              ]
          | inr above ↦
              let same : k ≡ i = omega arith in
              here (get_or lines k 0) (ap (λ j. get_or lines j 0) same)
        ];
  }
    where
      line : ℕ
      line = get_or lines i 0

      here : (at : ℕ) → at ≡ line → get_or (set firsts line next) at 0 ≡ line_variable c f g First at
      here at same =
          get_or-set_at firsts line at next 0 same (omega (arith, so_far.whole, (line_listed c f g lines are i inside).0))
          ∙ (so_far.end ∙ (sym (variable_at c f g lines are i inside) ∙ ap (line_variable c f g First) (sym same)))

  pub all_numbered : (i next : ℕ) (firsts : List ℕ) → length lines ≤ i → AreNumbered c f g lines i next firsts → AreFirstVariables c f g firsts
  all_numbered i next firsts done so_far = record {
    whole = so_far.whole;
    each = λ line h e.
        let place = place_of_line c f g lines are line h e in
        subst (λ l. get_or firsts l 0 ≡ line_variable c f g First l) place.2 (so_far.each place.0 (omega (arith, place.1)));
  }

  pub numbered_end : (i next : ℕ) (firsts : List ℕ) → length lines ≤ i → AreNumbered c f g lines i next firsts → next ≡ 1 + variables_below c f g (line_count c)
  numbered_end i next firsts done so_far =
      so_far.end ∙ ap (λ n. 1 + n) (ap (sum_by (line_variables c f g)) (take_all i lines done) ∙ sym (variables_of_lines c f g lines are))
