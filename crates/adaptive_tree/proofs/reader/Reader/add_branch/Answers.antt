use Rattle.std.proofs.Common.{◌∙◌, ◌++◌, ◌∷◌, [], List, Bool, ap}
use Rattle.text_fields.specs.Fields.{digit_bits}
use Rattle.adaptive_tree.specs.declared.steps.Step.{Step}
use Rattle.adaptive_tree.specs.declared.steps.Step.TheVariants.{On}
use Rattle.adaptive_tree.proofs.ReaderLemmas.{branch_left, branch_come}
use Rattle.adaptive_tree.proofs.reader.Reader.add_branch.Goals as goal

pub begin_branch-requires : goal.begin_branch-requires
begin_branch-requires c = branch_left c.args.self.now (digit_bits c.args.digits.now) c.requires.reading c.requires.right

pub returns : goal.returns
returns c =
    let old = c.args.self.now in
    let steps = c.in_ok-push.ensures.ok ∙ ap (λ (answer : List Bool). old.plan.steps ++ On answer ∷ []) c.in_ok-answer.ensures in
    record {
      reading = branch_come old c.push.new.self c.begin_branch.new.asks.items c.args.digits (digit_bits c.args.digits.now) c.requires.reading c.requires.right c.requires.digits steps c.in_ok-begin_branch.ensures;
      plan_is = ap (λ (steps : List Step). record old.plan { steps = steps }) steps;
    }
