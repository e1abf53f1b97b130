use Rattle.std.proofs.Common.{◌≡◌, ◌+◌, ℕ, List, sym, subst, arith, rules}
use Rattle.std.specs.Prelude.{Bool, Option, None, replicate}
use Rattle.net_model.proofs.Elements.{get_or-replicate_anywhere}
use Rattle.clause_pool.specs.Literal.{Literal}
use Rattle.refute_check.specs.Held.{IsLiteralOpen}
use Rattle.refute_check.proofs.HeldLemmas.{is_open}
use Rattle.refute_check.proofs.AssignmentLemmas.{empty_assignment}
use Rattle.refute_check.proofs.assignment.Assignment.new.Goals as goal

all_open : (values : List (Option Bool)) (n : ℕ) → values ≡ replicate n None → (l : Literal) → IsLiteralOpen values l
all_open values n made l = subst (λ values. IsLiteralOpen values l) (sym made) (is_open (replicate n None) l (get_or-replicate_anywhere n l.variable None))

pub returns-clause-empty : goal.returns-clause-empty
returns-clause-empty c = all_open c.in_ok-vec.field-0.items (c.args.variables + 1) (c.in_ok-vec.ensures.items_if_clones_equal (search rules))

pub returns-clause-assignment : goal.returns-clause-assignment
returns-clause-assignment c =
    empty_assignment (record { values = c.in_ok-vec.field-0; trail = c.in_ok-with_capacity.field-0 }) (returns-clause-empty c) c.in_ok-with_capacity.ensures.items
    (omega (arith, c.in_ok-vec.ensures.len, c.in_ok-with_capacity.ensures.capacity))
