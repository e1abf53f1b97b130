-- Levels along the list of set literals.
use Rattle.std.proofs.Common.{◌≡◌, ℕ, zero, suc, ◌+◌, ◌<◌, ◌≤◌, List, [], ◌∷◌, ◌++◌, length, get_or, Option, None, Some, refl, sym, ap, subst, arith}
use Rattle.std.specs.Prelude.{MatchOption}
use Rattle.std.proofs.lemmas.List.{get_or_default}
use Rattle.solver_trail.specs.declared.set_literals.SetLiteral.{SetLiteral}
use Rattle.solver_trail.specs.Assignment.{FollowsLevel, AreInLevels}

pub AreLevels-push : (before : ℕ) (entries : List SetLiteral) (last : ℕ) (s : SetLiteral) → AreInLevels before entries last → FollowsLevel last s
    → AreInLevels before (entries ++ s ∷ []) s.level
AreLevels-push before [] last s h f = (subst (λ n. FollowsLevel n s) (sym h) f, refl)
AreLevels-push before (e ∷ entries) last s h f = (h.0, AreLevels-push e.level entries last s h.1 f)

-- the levels without the last literal
pub AreLevels-pop : (before : ℕ) (entries : List SetLiteral) (last : ℕ) (s : SetLiteral) → AreInLevels before (entries ++ s ∷ []) last
    → (m : ℕ) × AreInLevels before entries m × FollowsLevel m s × (s.level ≡ last)
AreLevels-pop before [] last s h = (before, refl, h.0, h.1)
AreLevels-pop before (e ∷ entries) last s h = let more = AreLevels-pop e.level entries last s h.1 in (more.0, (h.0, more.1), more.2, more.3)

step_bounds : (before level : ℕ) (reason : Option ℕ) → MatchOption reason (level ≡ before + 1) (λ _. level ≡ before)
    → (before ≤ level) × (level ≤ before + 1)
step_bounds before level None h = (omega arith, omega arith)
step_bounds before level (Some r) h = (omega arith, omega arith)

pub follows_bounds : (before : ℕ) (s : SetLiteral) → FollowsLevel before s → (before ≤ s.level) × (s.level ≤ before + 1)
follows_bounds before s h = step_bounds before s.level s.reason h

-- no more levels than literals
pub AreLevels-le : (before : ℕ) (entries : List SetLiteral) (last : ℕ) → AreInLevels before entries last → last ≤ before + length entries
AreLevels-le before [] last h = omega arith
AreLevels-le before (e ∷ entries) last h = omega (arith, follows_bounds before e h.0, AreLevels-le e.level entries last h.1)

-- ---- for users

-- each level is between the one before the list and the last one
pub level_between : (before : ℕ) (entries : List SetLiteral) (last k : ℕ) (d : SetLiteral) → AreInLevels before entries last → k < length entries
    → (before ≤ (get_or entries k d).level) × ((get_or entries k d).level ≤ last)
level_between before [] last k d h within = absurd (omega arith)
level_between before (e ∷ entries) last zero d h within = let b = follows_bounds before e h.0 in (b.0, level_le_last e.level entries last h.1)
  where
    level_le_last : (before : ℕ) (entries : List SetLiteral) (last : ℕ) → AreInLevels before entries last → before ≤ last
    level_le_last before [] last h = omega arith
    level_le_last before (e ∷ entries) last h = omega (arith, follows_bounds before e h.0, level_le_last e.level entries last h.1)
level_between before (e ∷ entries) last (suc k) d h within =
    let more = level_between e.level entries last k d h.1 (omega arith) in
    (omega (arith, follows_bounds before e h.0, more.0), more.1)

-- levels don't fall
pub levels_rise : (before : ℕ) (entries : List SetLiteral) (last j k : ℕ) (d : SetLiteral) → AreInLevels before entries last → j ≤ k
    → k < length entries → (get_or entries j d).level ≤ (get_or entries k d).level
levels_rise before [] last j k d h le within = absurd (omega arith)
levels_rise before (e ∷ entries) last zero zero d h le within = omega arith
levels_rise before (e ∷ entries) last zero (suc k) d h le within = (level_between e.level entries last k d h.1 (omega arith)).0
levels_rise before (e ∷ entries) last (suc j) zero d h le within = absurd (omega arith)
levels_rise before (e ∷ entries) last (suc j) (suc k) d h le within = levels_rise e.level entries last j k d h.1 (omega arith) (omega arith)

-- after a literal of the last level all have that level
pub level_last : (entries : List SetLiteral) (last place j : ℕ) (d e : SetLiteral) → AreInLevels 0 entries last → place ≤ j → j < length entries
    → (get_or entries place e).level ≡ last → (get_or entries j d).level ≡ last
level_last entries last place j d e h le within is =
    let same = ap (λ (s : SetLiteral). s.level) (get_or_default entries place e d (omega arith)) in
    omega (arith, is, same, levels_rise 0 entries last place j d h le within, (level_between 0 entries last j d h within).1)
