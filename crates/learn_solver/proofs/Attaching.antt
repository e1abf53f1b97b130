-- Clauses are attached to a new trail, and clauses are satisfied.
use Rattle.std.proofs.Common.{◌≡◌, ◌∙◌, ℕ, ◌+◌, ◌<◌, ◌≤◌, List, length, get_or, ap, subst, arith, inl, inr}
use Rattle.std.specs.Prelude.{Bool, true, false, All, Contains, replicate}
use Rattle.std.proofs.lemmas.Bool.{cases_lt}
use Rattle.std.proofs.lemmas.List.{length-append, get_or_append_left, length-replicate}
use Rattle.learn_solver.specs.Walk.{AreUnmarked}
use Rattle.std.proofs.lemmas.List.Elements.{All-contains}
use Rattle.net_model.proofs.Elements.{any_from, all_from, get_or-replicate_anywhere}
use Rattle.clause_pool.specs.Literal.{Literal, opposite}
use Rattle.clause_pool.specs.Clauses.{Clause, BeginsWith}
use Rattle.clause_pool.specs.Partial.{IsQuiet, IsSatisfied}
use Rattle.clause_pool.specs.Proper.{IsProper}
use Rattle.clause_pool.proofs.Literals.{same_or_opposite}
use Rattle.pair_miter.specs.Miter.{literal_bit, is_satisfied_by, is_model}
use Rattle.solver_trail.specs.Assignment.{Assignment, IsTrail, assigned_literals, no_literal}
use Rattle.solver_trail.specs.Trail.{TrailState, Fits, Attaches, empty_trail, attached_numbers}
use Rattle.solver_trail.proofs.Held.{held_at}
use Rattle.learn_solver.specs.Decisions.{AreAllSet}
use Rattle.learn_solver.specs.Ready.{IsSolverReady}
use Rattle.learn_solver.proofs.Levels.{member_at}

-- the first clauses are attached, and no literal is set
pub record IsAttaching (trail : TrailState) (clauses : List Clause) (variables at : ℕ) : Type 0 where
  pub fits : Fits trail clauses
  pub is_trail : IsTrail trail.assignment
  pub same : trail.assignment ≡ (empty_trail variables).assignment
  pub attached : (number : ℕ) → 0 < number → number ≤ at → Contains (attached_numbers trail) number

pub attaching_more : (old new : TrailState) (clauses : List Clause) (variables at : ℕ) → IsAttaching old clauses variables at → Attaches (attached_numbers old) (attached_numbers new) (at + 1) → new.assignment ≡ old.assignment → Fits new clauses → IsTrail new.assignment
    → IsAttaching new clauses variables (at + 1)
attaching_more old new clauses variables at h attached same fits trail = record {
  fits = fits;
  is_trail = trail;
  same = same ∙ h.same;
  attached = λ number from below. elim (cases_lt at number) [
    | inl over ↦ let is : at + 1 ≡ number = omega arith in subst (Contains (attached_numbers new)) is attached.added
    | inr within ↦ attached.kept number (h.attached number from within)
  ];
}

pub ready_attached : (trail : TrailState) (clauses : List Clause) (variables : ℕ) → IsAttaching trail clauses variables (length clauses) → IsSolverReady trail clauses
ready_attached trail clauses variables h = record {
  fits = h.fits;
  is_trail = h.is_trail;
  attached = h.attached;
  quiet = λ level less. absurd (let none : trail.assignment.level ≡ 0 = ap (λ (a : Assignment). a.level) h.same in omega (arith, less, none));
}

-- ---- satisfied clauses

-- if all variables are set, a quiet clause is satisfied
quiet_satisfied : (a : Assignment) → IsTrail a → AreAllSet a → (clause : Clause) → IsProper a.variables clause → IsQuiet (assigned_literals a) clause → IsSatisfied (assigned_literals a) clause
quiet_satisfied a trail all clause inside (inl s) = s
quiet_satisfied a trail all clause inside (inr t) =
    let b = All-contains (λ (l : Literal). (0 < l.variable) × (l.variable ≤ a.variables)) clause t.first inside.inside t.first_inside in
    let set = all t.first.variable b.0 b.1 in
    let p = member_at a trail set.0 set.1 in
    elim (same_or_opposite set.0.literal t.first set.2) [
      | inl same ↦ absurd (t.first_undetermined.not_held (held_at a.literals p.0 no_literal t.first p.1 (ap (λ s. s.literal) p.2 ∙ same)))
      | inr other ↦ absurd (t.first_undetermined.opposite_not_held (held_at a.literals p.0 no_literal (opposite t.first) p.1 (ap (λ s. s.literal) p.2 ∙ other.0)))
    ]

pub all_satisfied : (a : Assignment) → IsTrail a → AreAllSet a → (clauses : List Clause) → All (IsProper a.variables) clauses → All (IsQuiet (assigned_literals a)) clauses → All (IsSatisfied (assigned_literals a)) clauses
all_satisfied a trail all clauses inside quiet = λ k d h. quiet_satisfied a trail all (get_or clauses k d) (inside k d h) (quiet k d h)

-- what holds of all clauses holds of the first ones
pub quiet_first : (assigned_literals : List Literal) (clauses first : List Clause) → BeginsWith clauses first → All (IsQuiet assigned_literals) clauses → All (IsQuiet assigned_literals) first
quiet_first assigned_literals clauses first begins quiet = λ k d h.
    let at : get_or clauses k d ≡ get_or first k d = ap (λ cs. get_or cs k d) begins.are ∙ get_or_append_left first begins.more d k h in
    subst (IsQuiet assigned_literals) at (quiet k d (omega (arith, h, ap length begins.are, length-append first begins.more)))

pub model_of : (assigned_literals : List Literal) (bits : List Bool) (clauses : List Clause) → ((l : Literal) → Contains assigned_literals l → literal_bit bits l ≡ true) → All (IsSatisfied assigned_literals) clauses → is_model bits clauses ≡ true
model_of assigned_literals bits clauses true_bits all = all_from (is_satisfied_by bits) clauses (λ clause m. let s = All-contains (IsSatisfied assigned_literals) clauses clause all m in any_from (literal_bit bits) clause s.literal s.inside (true_bits s.literal s.is_held))

-- ---- marks

pub clear_zeros : (variables : ℕ) → AreUnmarked variables (replicate (variables + 1) false)
clear_zeros variables = record {
  places = length-replicate (variables + 1) false;
  none = λ v. get_or-replicate_anywhere (variables + 1) v false;
}
