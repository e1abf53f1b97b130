-- Decisions.
use Rattle.std.specs.Prelude.{◌≡◌, ℕ, ◌+◌, ◌<◌, ◌≤◌, ◌^◌, ⊤, Bool, List, length}
use Rattle.clause_pool.specs.Literal.{Literal}
use Rattle.solver_trail.specs.Assignment.{Assignment, IsUnset}
use Rattle.learn_solver.specs.declared.aim.Aim.{Aim}
use Rattle.learn_solver.specs.declared.aim.Aim.TheVariants as aim
use Rattle.learn_solver.specs.declared.aim.Both.{Both}
use Rattle.learn_solver.specs.Ready.{IsSet}

-- All variables are set.
abbrev pub AreAllSet : Assignment → Type 0
AreAllSet a = (x : ℕ) → 0 < x → x ≤ a.variables → IsSet a x

-- The number is that of a variable that isn't set.
pub record IsFree (a : Assignment) (x : ℕ) : Type 0 where
  pub from : 0 < x
  pub inside : x ≤ a.variables
  pub unset : IsUnset a x

-- The literal's variable is one of the trail's and isn't set.
abbrev pub IsDecidable : Assignment → Literal → Type 0
IsDecidable a l = IsFree a l.variable

-- The variables of the two literals, and the highest variable, are up to `variables`.
pub record AreBoth (variables : ℕ) (both : Both) : Type 0 where
  pub first : both.first.variable ≤ variables
  pub second : both.second.variable ≤ variables
  pub highest : both.highest ≤ variables

-- The variables of the aim are up to this number.
abbrev pub IsAim : ℕ → Aim → Type 0
IsAim variables aim.Model = ⊤
IsAim variables (aim.Both both) = AreBoth variables both

-- There is a sign for each variable and for number 0, both places are variables or 0, and there are fewer than 2 ^ 31
-- variables.
pub record HasSigns (variables : ℕ) (phases : List Bool) (place low : ℕ) : Type 0 where
  pub few : variables < 2 ^ 31
  pub long : length phases ≡ variables + 1
  pub place_inside : place ≤ variables
  pub low_inside : low ≤ variables
