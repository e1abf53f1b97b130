use Rattle.std.proofs.Common.{◌≡◌, ℕ, zero, suc, ◌+◌, ◌<◌, List, [], refl, get_or, arith}
use Rattle.std.specs.Prelude.{Option, None, is_none, cond, replicate}
use Rattle.std.specs.List.{count_by}
use Rattle.std.proofs.lemmas.List.{length-replicate}
use Rattle.std.proofs.lemmas.List.Folds.{sum_by-replicate}
use borrow.Author.Rules.{rules}
use Rattle.clause_pool.specs.Literal.{Literal}
use Rattle.solver_trail.specs.declared.set_literals.SetLiteral.{SetLiteral}
use Rattle.solver_trail.specs.declared.set_literals.Slot.{Slot}
use Rattle.solver_trail.specs.StackFields.{IsStack}
use Rattle.solver_trail.proofs.set_literals.SetLiterals.new.Goals as goal

no_slot : (n v : ℕ) → get_or (replicate {A = Option Slot} n None) v None ≡ None
no_slot zero v = refl
no_slot (suc n) zero = refl
no_slot (suc n) (suc v) = no_slot n v

all_none : (n : ℕ) → count_by is_none (replicate {A = Option Slot} n None) ≡ n
all_none n = omega (arith, sum_by-replicate (λ (s : Option Slot). cond (is_none s) 1 0) n None)

unset : (variables a b : ℕ) (literals : List Literal) (entries : List SetLiteral) (slots : List (Option Slot)) → literals ≡ [] → entries ≡ []
    → slots ≡ replicate (variables + 1) None → variables < a → variables < b → IsStack variables 0 literals entries slots a b
unset variables a b literals entries slots no_literals no_entries no_slots in_a in_b = rw (no_literals, no_entries, no_slots) (record {
  placed = record {
    same = refl;
    table = length-replicate (variables + 1) None;
    inside = λ k d below. absurd (omega arith);
    slot = λ k d below. absurd (omega arith);
    entry = λ v s is. absurd (cc (no_slot (variables + 1) v));
    count = omega (arith, all_none (variables + 1), length-replicate {A = Option Slot} (variables + 1) None);
  };
  levels = refl;
  literal_room = in_a;
  entry_room = in_b;
})

pub invariant_of-result : goal.invariant_of-result
invariant_of-result c =
    unset c.args.variables _ _ _ _ _ c.in_ok-with_capacity.ensures.items c.in_ok-with_capacity-2.ensures.items (c.in_ok-vec.ensures.items_if_clones_equal (search rules))
    (omega (arith, c.in_ok-with_capacity.ensures.capacity)) (omega (arith, c.in_ok-with_capacity-2.ensures.capacity))
