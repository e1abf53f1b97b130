use Rattle.std.proofs.Common.{◌≡◌, ◌∙◌, ℕ, List, length, ap, sym, subst}
use Rattle.std.specs.List.{range_with_len}
use Rattle.adaptive_planner.specs.Planning.{IsToldSet, AreNodeSteps, AddsNode}
use Rattle.adaptive_planner.proofs.ToldLemmas.{all_told}
use Rattle.adaptive_planner.proofs.PlannerLemmas.{begun_first}
use Rattle.adaptive_planner.proofs.planner.steps_of.Goals as goal

pub add_node-requires-clause-set : goal.add_node-requires-clause-set
add_node-requires-clause-set c =
    let numbers = c.args.numbers.now in
    let set : c.as_slice.result.now ≡ range_with_len 0 (length numbers.own.items) = c.as_slice.ensures.value ∙ (c.in_ok-classes.ensures ∙ ap (range_with_len 0) c.classes.ensures) in
    subst (IsToldSet numbers) (sym set) (all_told numbers c.requires.told c.requires.numbers.few_classes)

pub returns : goal.returns
returns c t table are =
    let numbers = c.args.numbers.now in
    let all = range_with_len 0 (length numbers.own.items) in
    let set : c.as_slice.result.now ≡ all = c.as_slice.ensures.value ∙ (c.in_ok-classes.ensures ∙ ap (range_with_len 0) c.classes.ensures) in
    let adds : AddsNode numbers all c.in_ok-planner.planner c.add_node.new.self = subst (λ (xs : List ℕ). AddsNode numbers xs c.in_ok-planner.planner c.add_node.new.self) set c.in_ok-add_node.ensures in
    let steps : AreNodeSteps t table numbers all c.finish.new.self.steps =
    c.in_ok-finish.ensures t table all are (begun_first numbers all c.in_ok-planner.planner c.add_node.new.self c.in_ok-planner.ensures.waiting c.in_ok-planner.ensures.steps adds t table are) in
    (steps.0, steps.1, c.into_steps.ensures ∙ steps.2)
