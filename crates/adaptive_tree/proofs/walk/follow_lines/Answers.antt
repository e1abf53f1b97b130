use Rattle.std.proofs.Common.{List, Option, length, sym, subst, arith}
use Rattle.std.proofs.lemmas.Bool.{eqb-true}
use Rattle.std.specs.Prelude.{option_and_then}
use Rattle.text_fields.specs.Fields.{digit_bits}
use Rattle.adaptive_tree.specs.declared.steps.Step.{Step}
use Rattle.adaptive_tree.specs.PlanNode.{PlanNode}
use Rattle.adaptive_tree.specs.Walk.{next_node, node_after}
use Rattle.adaptive_tree.specs.Places.{IsWalkAt}
use Rattle.adaptive_tree.proofs.WalkLemmas.{bits_in, walk_more, walk_ends, walk_refused}
use Rattle.adaptive_tree.proofs.walk.follow_lines.Goals as goal

pub outcome_at-end-requires : goal.outcome_at-end-requires
outcome_at-end-requires c =
    let root = c.requires.formed.node in
    let s = c.loop-rest.invariant root in
    record { node = node_after root.node (bits_in s.answers); at = subst (λ (steps : List Step). IsWalkAt steps c.loop-rest.place (node_after root.node (bits_in s.answers))) (sym c.as_slice-steps.ensures) s.at }

pub returns-in-Err-clause-refused : goal.returns-in-Err-clause-refused
returns-in-Err-clause-refused c =
    let root = c.requires.formed.node in
    let s = c.loop-rest.invariant root in
    let node : Option PlanNode = node_after root.node (bits_in s.answers) in
    walk_refused c.args.plan.now root c.args.log.now c.loop-rest.place c.loop-rest.number c.loop-rest.rest.now c.outcome_at-end.result c.in-Err.kind s c.requires.short
    (c.outcome_at-end.ensures node (subst (λ (steps : List Step). IsWalkAt steps c.loop-rest.place node) (sym c.as_slice-steps.ensures) s.at)) c.in-Err.ensures

pub next_place-place-requires : goal.next_place-place-requires
next_place-place-requires c =
    let root = c.requires.formed.node in
    let s = c.loop-rest.invariant root in
    record { node = node_after root.node (bits_in s.answers); at = subst (λ (steps : List Step). IsWalkAt steps c.loop-rest.place (node_after root.node (bits_in s.answers))) (sym c.as_slice-steps.ensures) s.at }

pub overflow_add-number : goal.overflow_add-number
overflow_add-number c = let s = c.loop-rest.invariant c.requires.formed.node in omega (arith, s.room, c.requires.short)

pub loop-rest-preserved : goal.loop-rest-preserved
loop-rest-preserved c = λ root.
    let s = c.loop-rest.invariant root in
    let line = c.in-Ok.line in
    let node : Option PlanNode = node_after root.node (bits_in s.answers) in
    walk_more c.args.plan.now root.node c.args.log.now c.loop-rest.place c.next_place-place.result c.loop-rest.number c.loop-rest.rest.now line.rest.now line.pattern line.digits.now c.outcome_at-end.result s
    (c.outcome_at-end.ensures node (subst (λ (steps : List Step). IsWalkAt steps c.loop-rest.place node) (sym c.as_slice-steps.ensures) s.at)) c.in-Ok.ensures
    (λ n at.
    subst (λ (steps : List Step). IsWalkAt steps c.next_place-place.result (option_and_then (next_node (digit_bits line.digits.now)) n)) c.as_slice-steps.ensures
    (c.next_place-place.ensures n (subst (λ (steps : List Step). IsWalkAt steps c.loop-rest.place n) (sym c.as_slice-steps.ensures) at)))

pub outcome_at-requires : goal.outcome_at-requires
outcome_at-requires c =
    let root = c.requires.formed.node in
    let s = c.loop-rest.invariant root in
    record { node = node_after root.node (bits_in s.answers); at = subst (λ (steps : List Step). IsWalkAt steps c.loop-rest.place (node_after root.node (bits_in s.answers))) (sym c.as_slice-steps.ensures) s.at }

pub returns-clause-led : goal.returns-clause-led
returns-clause-led c =
    let root = c.requires.formed.node in
    let s = c.loop-rest.invariant root in
    let node : Option PlanNode = node_after root.node (bits_in s.answers) in
    walk_ends c.args.plan.now root c.args.log.now c.loop-rest.place c.loop-rest.number c.loop-rest.rest.now c.outcome_at.result s c.requires.short (eqb-true (length c.loop-rest.rest.now) 0 (sym c.loop-rest-test.ensures))
    (c.outcome_at.ensures node (subst (λ (steps : List Step). IsWalkAt steps c.loop-rest.place node) (sym c.as_slice-steps.ensures) s.at))
