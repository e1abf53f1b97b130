-- What a reader of lines needs: one more right line, and right lines that are all of a plan.
use Rattle.std.proofs.Common.{◌≡◌, ℕ, zero, suc, ◌+◌, ◌<◌, refl, ap, sym, subst, arith, length-append, inl, inr}
use Rattle.std.specs.Prelude.{List, [], ◌∷◌, ◌++◌, length, take, ◌⊎◌}
use Rattle.std.proofs.lemmas.List.Elements.{All-append, All-cons, All-nil}
use Rattle.adaptive_tree.specs.declared.steps.Plan.{Plan}
use Rattle.adaptive_tree.specs.PlanText.{PlanLine, plan_lines, HasPlanSpelling}
use Rattle.adaptive_tree.specs.WellFormed.{BeginPlan, AreRightPlanLines, IsRightPlanLine, IsWellFormed, line_at}
use Rattle.adaptive_tree.specs.Refusal.{AreWhole}

last_or_before : (at n : ℕ) → at < n + 1 → (at ≡ n) ⊎ (at < n)
last_or_before at n low = grind (arith, low)

take_front : (before : List PlanLine) (line : PlanLine) (at : ℕ) → at < length before → take at (before ++ line ∷ []) ≡ take at before
take_front [] line at low = absurd (omega (arith, low))
take_front (x ∷ before) line zero low = refl
take_front (x ∷ before) line (suc at) low = ap (λ rest. x ∷ rest) (take_front before line at (omega (arith, low)))

at_front : (before : List PlanLine) (line : PlanLine) (at : ℕ) → at < length before → line_at (before ++ line ∷ []) at ≡ line_at before at
at_front [] line at low = absurd (omega (arith, low))
at_front (x ∷ before) line zero low = refl
at_front (x ∷ before) line (suc at) low = at_front before line at (omega (arith, low))

take_last : (before : List PlanLine) (line : PlanLine) → take (length before) (before ++ line ∷ []) ≡ before
take_last [] line = refl
take_last (x ∷ before) line = ap (λ rest. x ∷ rest) (take_last before line)

at_last : (before : List PlanLine) (line : PlanLine) → line_at (before ++ line ∷ []) (length before) ≡ line
at_last [] line = refl
at_last (x ∷ before) line = at_last before line

right_at : (before : List PlanLine) (line : PlanLine) → AreRightPlanLines before → IsRightPlanLine before line → (at : ℕ) → (at ≡ length before) ⊎ (at < length before) → IsRightPlanLine (take at (before ++ line ∷ [])) (line_at (before ++ line ∷ []) at)
right_at before line right is at (inl here) =
    subst (λ k. IsRightPlanLine (take k (before ++ line ∷ [])) (line_at (before ++ line ∷ []) k)) (sym here)
    (subst (λ front. IsRightPlanLine front (line_at (before ++ line ∷ []) (length before))) (sym (take_last before line)) (subst (IsRightPlanLine before) (sym (at_last before line)) is))
right_at before line right is at (inr low) =
    subst (λ front. IsRightPlanLine front (line_at (before ++ line ∷ []) at)) (sym (take_front before line at low)) (subst (IsRightPlanLine (take at before)) (sym (at_front before line at low)) (right.right at low))

-- a line that can be written, in its place and right
pub one_more_line : (before : List PlanLine) (line : PlanLine) → AreRightPlanLines before → HasPlanSpelling line → BeginPlan (before ++ line ∷ []) → IsRightPlanLine before line → AreRightPlanLines (before ++ line ∷ [])
one_more_line before line right spelled place is = record {
  spelled = All-append HasPlanSpelling before (line ∷ []) right.spelled (All-cons HasPlanSpelling line [] spelled (All-nil HasPlanSpelling));
  places = place;
  right = λ at low. right_at before line right is at (last_or_before at (length before) (omega (arith, low, length-append before (line ∷ []))));
}

-- right lines that are all of a plan are those of a well-formed one
pub whole_lines : (lines : List PlanLine) → AreRightPlanLines lines → AreWhole lines → (plan : Plan) × IsWellFormed plan × (plan_lines plan ≡ lines)
whole_lines lines right whole = (whole.plan, record { node = whole.node; lines = subst AreRightPlanLines (sym whole.lines_are) right }, whole.lines_are)
