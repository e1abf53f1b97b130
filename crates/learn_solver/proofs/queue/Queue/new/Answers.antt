use Rattle.std.proofs.Common.{◌≡◌, ◌∙◌, ◌+◌, ◌≤◌, ℕ, List, length, sym, ap, subst, arith}
use Rattle.std.specs.Prelude.{All, replicate}
use Rattle.std.proofs.lemmas.List.{length-replicate}
use Rattle.std.proofs.lemmas.List.Elements.{All-replicate}
use Rattle.learn_solver.specs.QueueFields.{IsRing}
use Rattle.learn_solver.proofs.queue.Queue.new.Goals as goal

zero_ring : (n : ℕ) (older newer stamps : List ℕ) → older ≡ replicate (n + 1) 0 → newer ≡ replicate (n + 1) 0 → stamps ≡ replicate (n + 1) 0 → IsRing n older newer stamps
zero_ring n older newer stamps o w s =
    let inside : All (λ x. x ≤ n) (replicate (n + 1) 0) = All-replicate (λ x. x ≤ n) (n + 1) 0 (omega arith) in
    record {
      older_places = ap length o ∙ length-replicate (n + 1) 0;
      newer_places = ap length w ∙ length-replicate (n + 1) 0;
      stamp_places = ap length s ∙ length-replicate (n + 1) 0;
      older_inside = subst (All (λ x. x ≤ n)) (sym o) inside;
      newer_inside = subst (All (λ x. x ≤ n)) (sym w) inside;
    }

pub invariant_of-queue : goal.invariant_of-queue
invariant_of-queue c =
    zero_ring c.args.variables c.in_ok-vec.field-0.items c.in_ok-vec-2.field-0.items c.in_ok-vec-3.field-0.items
    (c.in_ok-vec.ensures.items_if_clones_equal (λ y e. e)) (c.in_ok-vec-2.ensures.items_if_clones_equal (λ y e. e)) (c.in_ok-vec-3.ensures.items_if_clones_equal (λ y e. e))
