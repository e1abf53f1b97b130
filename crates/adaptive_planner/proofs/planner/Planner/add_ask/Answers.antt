use Rattle.std.proofs.Common.{◌≡◌, ◌∙◌, ℕ, List, length, reverse, [], ◌∷◌, ◌++◌, ap, sym}
use Rattle.std.proofs.lemmas.List.{with_items_is}
use Rattle.adaptive_tree.specs.declared.steps.Step.TheVariants.{Ask}
use Rattle.adaptive_planner.specs.declared.parting.Branch.{Branch}
use Rattle.adaptive_planner.proofs.ToldLemmas.{some_pattern}
use Rattle.adaptive_planner.proofs.PlannerLemmas.{adds_ask}
use Rattle.adaptive_planner.proofs.planner.Planner.add_ask.Goals as goal

pub most_parting-pattern-requires-clause-some : goal.most_parting-pattern-requires-clause-some
most_parting-pattern-requires-clause-some c = some_pattern c.args.numbers.now c.args.set.now c.requires.set c.requires.several

pub returns : goal.returns
returns c =
    let bs : List Branch = c.in_ok-branches.branches.items in
    let many : c.len.result ≡ length bs = c.len.ensures ∙ (sym c.as_mut_slice.ensures.len ∙ ap length c.as_mut_slice.ensures.value) in
    let turned : c.reverse.new.self ≡ reverse bs = c.reverse.ensures.after ∙ ap reverse c.as_mut_slice.ensures.value in
    let reversed = with_items_is c.in_ok-branches.branches c.reverse.new.self (c.reverse.ensures.len ∙ c.as_mut_slice.ensures.len) in
    let room = with_items_is c.args.self.now.slots c.part.new.slots (c.part.auto.slots ∙ c.as_mut_slice-slots.ensures.len) in
    let slots : length c.part.new.slots ≡ length c.args.numbers.now.patterns.items = c.part.auto.slots ∙ (ap length c.as_mut_slice-slots.ensures.value ∙ c.requires.planner.slots) in
    adds_ask c.args.numbers.now c.args.set.now c.args.self.now _ c.requires.set c.requires.planner c.most_parting-pattern.ensures.none
    (ap length room ∙ slots)
    c.requires.several c.most_parting-pattern.result c.most_parting-pattern.ensures.most bs c.in_ok-branches.ensures.parts c.in_ok-branches.ensures.known
    (c.in_ok-append.ensures.items ∙ ap (λ (more : List Branch). c.args.self.now.waiting.items ++ more) (reversed ∙ turned))
    (c.in_ok-push.ensures.ok ∙ ap (λ (k : ℕ). c.args.self.now.steps ++ Ask c.most_parting-pattern.result k ∷ []) many)
