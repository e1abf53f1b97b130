use Rattle.std.proofs.Common.{◌≡◌, ◌++◌, ◌∷◌, [], flat_map, take}
use Rattle.std.specs.String.{string_bytes}
use Rattle.adaptive_tree.specs.PlanText.{step, plan_line}
use Rattle.adaptive_tree.proofs.writing.push_steps.Given as goal

abbrev pub invariant-loop-s : goal.invariant-loop-s
invariant-loop-s l = string_bytes l.text ≡ string_bytes l.initial.text ++ flat_map (λ s. plan_line (step s) ++ 10 ∷ []) (take l.s-index l.steps)
