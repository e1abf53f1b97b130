-- Marks of variables.
use Rattle.std.specs.Prelude.{◌≡◌, ◌⊎◌, ℕ, ◌+◌, ◌<◌, ◌≤◌, Bool, true, List, length, All, Contains}
use Rattle.std.specs.List.{count_by}
use Rattle.clause_pool.specs.Literal.{Literal}
use Rattle.clause_pool.specs.Clauses.{Clause}
use Rattle.net_model.specs.Answer.{bit_at}
use Rattle.solver_trail.specs.Assignment.{Assignment}
use Rattle.learn_solver.specs.Walk.{marked_count, IsSetBefore, HasVariable}

-- How many marks are set.
abbrev pub mark_count : List Bool → ℕ
mark_count marks = count_by (λ b. b) marks

-- `left` marks are set, and the variables that were marked have places.
pub record AreMetCounted (marks : List Bool) (met : List ℕ) (left : ℕ) : Type 0 where
  pub count : left ≡ mark_count marks
  pub inside : All (λ x. x < length marks) met

-- The variables of the clause are marked in addition, and no others. For each place before which all variables of the
-- clause are set, the literals before it that are marked and of the present level become `opened` more.
pub record MarksClause (a : Assignment) (old new : List Bool) (clause : Clause) (opened : ℕ) : Type 0 where
  pub places : length new ≡ length old
  pub kept : (x : ℕ) → bit_at old x ≡ true → bit_at new x ≡ true
  pub all : (l : Literal) → Contains clause l → bit_at new l.variable ≡ true
  pub only : (x : ℕ) → bit_at new x ≡ true → (bit_at old x ≡ true) ⊎ HasVariable clause x
  pub count : (place : ℕ) → place ≤ length a.literals → All (λ (l : Literal). IsSetBefore a place l.variable) clause
      → marked_count a new place ≡ marked_count a old place + opened
