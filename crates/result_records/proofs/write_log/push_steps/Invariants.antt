use Rattle.std.proofs.Common.{◌≡◌, ◌++◌, ◌∷◌, flat_map, take}
use Rattle.std.specs.Prelude.{decimal}
use Rattle.std.specs.String.{string_bytes}
use Rattle.result_records.specs.Spelling.{literal_field}
use Rattle.result_records.proofs.write_log.push_steps.Given as goal

abbrev pub invariant-loop-step : goal.invariant-loop-step
invariant-loop-step l = string_bytes l.text ≡ string_bytes l.initial.text ++ flat_map (λ step. (32 ∷ literal_field step.0) ++ 32 ∷ decimal step.1) (take l.step-index l.steps)
