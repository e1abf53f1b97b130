use Rattle.std.proofs.Common.{◌∙◌, ◌++◌, ◌∷◌, [], List, flat_map, ap}
use Rattle.std.specs.String.{string_bytes}
use Rattle.adaptive_tree.specs.declared.steps.Step.{Step}
use Rattle.adaptive_tree.specs.PlanText.{step, plan_line}
use Rattle.adaptive_tree.proofs.ReadingLemmas.{written}
use Rattle.adaptive_tree.proofs.writing.write_plan.Goals as goal

pub returns : goal.returns
returns c =
    ap (λ v. v.items) c.into_bytes.ensures.value
    ∙ written c.args.plan.now (string_bytes c.new-text.result) (string_bytes c.push_head.new.text) (string_bytes c.push_steps.new.text) (string_bytes c.push_end.new.text) c.new-text.ensures.bytes c.in_ok-push_head.ensures
    (c.in_ok-push_steps.ensures ∙ ap (λ (steps : List Step). string_bytes c.push_head.new.text ++ flat_map (λ s. plan_line (step s) ++ 10 ∷ []) steps) c.as_slice.ensures) c.in_ok-push_end.ensures
