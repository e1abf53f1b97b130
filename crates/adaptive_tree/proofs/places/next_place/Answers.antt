use Rattle.std.proofs.Common.{◌<◌, length, Option, sym, subst, rules}
use Rattle.std.specs.Prelude.{option_and_then}
use Rattle.text_fields.specs.Fields.{digit_bits}
use Rattle.adaptive_tree.specs.PlanNode.{PlanNode, Branches}
use Rattle.adaptive_tree.specs.Walk.{next_node, branch_for}
use Rattle.adaptive_tree.specs.Places.{IsWalkAt}
use Rattle.adaptive_tree.proofs.PlaceLemmas.{place_low, branches_at}
use Rattle.adaptive_tree.proofs.places.next_place.Goals as goal

pub offset_bounds-steps-at : goal.offset_bounds-steps-at
offset_bounds-steps-at c = let low : c.in_ok-at.at < length c.args.steps.now = place_low c.args.steps.now c.args.place c.in_ok-at.at c.requires c.in_ok-at.was in search rules

pub bounds-steps-at : goal.bounds-steps-at
bounds-steps-at c = place_low c.args.steps.now c.args.place c.in_ok-at.at c.requires c.in_ok-at.was

pub overflow_add-at : goal.overflow_add-at
overflow_add-at c = let low : c.in_ok-at.at < length c.args.steps.now = place_low c.args.steps.now c.args.place c.in_ok-at.at c.requires c.in_ok-at.was in search rules

pub branch_place-requires : goal.branch_place-requires
branch_place-requires c =
    (branches_at c.args.steps.now c.args.place c.in_ok-at.at c.index-steps-at.result c.in-Ask.field-0 c.in-Ask.branches c.in_ok-at.was c.index-steps-at.is c.in-Ask.is c.requires.node c.requires.at).2.0

pub returns-in-Ask : goal.returns-in-Ask
returns-in-Ask c = λ node walk.
    let found = branches_at c.args.steps.now c.args.place c.in_ok-at.at c.index-steps-at.result c.in-Ask.field-0 c.in-Ask.branches c.in_ok-at.was c.index-steps-at.is c.in-Ask.is node walk in
    subst (λ (n : Option PlanNode). IsWalkAt c.args.steps.now c.branch_place.result (option_and_then (next_node (digit_bits c.args.digits.now)) n)) (sym found.1)
    (subst (λ (b : Branches). IsWalkAt c.args.steps.now c.branch_place.result (branch_for (digit_bits c.args.digits.now) b)) found.2.1 (c.branch_place.ensures found.2.0))
