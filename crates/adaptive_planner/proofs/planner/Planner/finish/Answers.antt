use Rattle.std.proofs.Common.{◌≡◌, ◌∙◌, ℕ, Bool, List, [], ◌∷◌, ◌++◌, length, refl, ap, subst, arith}
use Rattle.adaptive_tree.specs.declared.steps.Step.TheVariants.{On}
use Rattle.adaptive_planner.specs.declared.parting.Branch.{Branch}
use Rattle.adaptive_planner.specs.declared.planner.Planner.{Planner}
use Rattle.adaptive_planner.specs.Parting.{classes_of}
use Rattle.adaptive_planner.specs.Planning.{AddsNode}
use Rattle.adaptive_planner.proofs.PlannerLemmas.{begun_on, begun_all}
use Rattle.adaptive_planner.proofs.planner.Planner.finish.Goals as goal

no_items : (bs : List Branch) → length bs ≡ 0 → bs ≡ []
no_items [] none = refl
no_items (b ∷ bs) none = absurd (omega (arith, none))

pub loop-branch-preserved : goal.loop-branch-preserved
loop-branch-preserved c =
    let numbers = c.args.numbers.now in
    let old = c.loop-branch.self in
    let new = c.add_node.new.self in
    let b = c.in-Some.branch in
    let mid : Planner = record { counts = old.counts; slots = old.slots; waiting = c.pop.new.self; steps = c.push.new.self } in
    let adds : AddsNode numbers (classes_of b) mid new = subst (λ (set : List ℕ). AddsNode numbers set mid new) c.as_slice.ensures.value c.in_ok-add_node.ensures in
    let steps = c.in_ok-push.ensures.ok ∙ ap (λ (bits : List Bool). old.steps ++ On bits ∷ []) c.in_ok-bits.ensures in
    record {
      planner = adds.planner;
      begun = λ t table set are begun. begun_on numbers old mid new b c.in-Some.ensures.items steps adds t table set are (c.loop-branch.invariant.begun t table set are begun);
    }

pub returns : goal.returns
returns c = λ t table set are begun.
    let none : c.loop-branch.self.waiting.items ≡ [] = no_items c.loop-branch.self.waiting.items (omega (arith, c.loop-branch.self.waiting.ok.0, c.in_default.ensures.cases.0)) in
    begun_all c.args.numbers.now set c.loop-branch.self none t table (c.loop-branch.invariant.begun t table set are begun)
