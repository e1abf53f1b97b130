-- Set literals are unset from the end.
use Rattle.std.proofs.Common.{◌≡◌, ◌∙◌, ℕ, zero, suc, ◌+◌, ◌-◌, ◌<◌, ◌≤◌, List, [], ◌∷◌, ◌++◌, length, take, drop, get_or, Option, None, refl, sym, ap, subst, arith}
use Rattle.std.specs.Prelude.{All, set}
use Rattle.std.specs.List.{HoldsAt}
use Rattle.std.proofs.lemmas.List.{length-take-le, take_more, take_all, take-take, drop_more, get_or-take, drop_all, nil_from_length}
use Rattle.std.proofs.lemmas.List.Elements.{All-cons, All-nil}
use Rattle.clause_pool.specs.Literal.{Literal}
use Rattle.solver_trail.specs.declared.set_literals.SetLiteral.{SetLiteral}
use Rattle.solver_trail.specs.declared.set_literals.Slot.{Slot}
use Rattle.solver_trail.specs.Assignment.{literals_of, AreInLevels, no_literal}
use Rattle.solver_trail.specs.StackFields.{ArePlaced}
use Rattle.solver_trail.proofs.Levels.{AreLevels-pop, follows_bounds, level_between}
use Rattle.solver_trail.proofs.Placed.{placed_pop}

-- a list with at least one element is all but the last, and the last one
all_but_last : (entries : List SetLiteral) → 0 < length entries
    → entries ≡ take (length entries - 1) entries ++ get_or entries (length entries - 1) no_literal ∷ []
all_but_last entries some =
    let n = length entries - 1 in
    let size : n + 1 ≡ length entries = omega arith in
    sym (take_all (length entries) entries (omega arith)) ∙ (ap (λ m. take m entries) (sym size) ∙ take_more entries n no_literal (omega arith))

pub unset_last_placed : {variables : ℕ} {literals : List Literal} {entries : List SetLiteral} (ys : List SetLiteral) (e : SetLiteral) {slots : List (Option Slot)}
    → ArePlaced variables literals entries slots → entries ≡ ys ++ e ∷ []
    → ArePlaced variables (literals_of ys) ys (set slots e.literal.variable None)
unset_last_placed {variables = variables} {literals = literals} ys e {slots = slots} p is = placed_pop ys e (subst (λ es. ArePlaced variables literals es slots) is p)

-- What holds while literals of levels above `level` are unset.
pub record IsBackTo (old : List SetLiteral) (level : ℕ) (entries : List SetLiteral) : Type 0 where
  pub prefix : entries ≡ take (length entries) old
  pub within : length entries ≤ length old
  pub cut : All (λ (s : SetLiteral). level < s.level) (drop (length entries) old)
  pub present : ℕ
  pub levels : AreInLevels 0 entries present
  pub above : level ≤ present

pub back_to_start : (old : List SetLiteral) (level present : ℕ) → AreInLevels 0 old present → level ≤ present → IsBackTo old level old
back_to_start old level present levels above = record {
  prefix = sym (take_all (length old) old (omega arith));
  within = omega arith;
  cut = subst (λ rest. All (λ (s : SetLiteral). level < s.level) rest) (sym (drop_all (length old) old (omega arith))) (All-nil (λ (s : SetLiteral). level < s.level));
  present = present;
  levels = levels;
  above = above;
}

pub back_to_step : {old : List SetLiteral} {level : ℕ} {entries : List SetLiteral} → IsBackTo old level entries → 0 < length entries
    → HoldsAt (λ (s : SetLiteral). level < s.level) entries (length entries - 1)
    → IsBackTo old level (take (length entries - 1) entries)
back_to_step {old = old} {level = level} {entries = entries} h some last =
    let n = length entries - 1 in
    let e = get_or entries n no_literal in
    let less : length (take n entries) ≡ n = length-take-le n entries (omega arith) in
    let popped = AreLevels-pop 0 (take n entries) h.present e (subst (λ es. AreInLevels 0 es h.present) (all_but_last entries some) h.levels) in
    let same : get_or old n no_literal ≡ e = sym (ap (λ es. get_or es n no_literal) h.prefix ∙ get_or-take (length entries) old n no_literal (omega arith)) in
    let size : n + 1 ≡ length entries = omega arith in
    let rest : All (λ (s : SetLiteral). level < s.level) (drop n old) =
    subst (λ r. All (λ (s : SetLiteral). level < s.level) r) (sym (drop_more old n no_literal (omega (arith, h.within))))
    (All-cons (λ (s : SetLiteral). level < s.level) (get_or old n no_literal) (drop (n + 1) old) (subst (λ (s : SetLiteral). level < s.level) (sym same) (last no_literal)) (subst (λ m. All (λ (s : SetLiteral). level < s.level) (drop m old)) (sym size) h.cut)) in
    record {
      prefix = subst (λ m. take n entries ≡ take m old) (sym less) (ap (take n) h.prefix ∙ take-take n (length entries) old (omega arith));
      within = omega (arith, less, h.within);
      cut = subst (λ m. All (λ (s : SetLiteral). level < s.level) (drop m old)) (sym less) rest;
      present = popped.0;
      levels = popped.1;
      above = omega (arith, follows_bounds popped.0 e popped.2, last no_literal);
    }

pub back_to_end : {old : List SetLiteral} {level : ℕ} {entries : List SetLiteral} → (h : IsBackTo old level entries)
    → (0 < length entries → HoldsAt (λ (s : SetLiteral). s.level ≤ level) entries (length entries - 1))
    → AreInLevels 0 entries level
back_to_end {level = level} {entries = entries} h last = subst (λ m. AreInLevels 0 entries m) (by (length entries) refl) h.levels
  where
    by : (n : ℕ) → length entries ≡ n → h.present ≡ level
    by zero e =
        let none : AreInLevels 0 [] h.present = subst (λ es. AreInLevels 0 es h.present) (nil_from_length entries e) h.levels in
        omega (arith, none, h.above)
    by (suc n) e =
        let some : 0 < length entries = omega arith in
        let popped = AreLevels-pop 0 (take (length entries - 1) entries) h.present (get_or entries (length entries - 1) no_literal) (subst (λ es. AreInLevels 0 es h.present) (all_but_last entries some) h.levels) in
        omega (arith, popped.3, h.above, last some no_literal)

pub levels_below : (entries : List SetLiteral) (level : ℕ) → AreInLevels 0 entries level → All (λ (s : SetLiteral). s.level ≤ level) entries
levels_below entries level levels = λ k d h. (level_between 0 entries level k d levels h).1
