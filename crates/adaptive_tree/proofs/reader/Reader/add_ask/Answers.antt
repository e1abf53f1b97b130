use Rattle.std.proofs.Common.{List, ap}
use Rattle.adaptive_tree.specs.declared.steps.Step.{Step}
use Rattle.adaptive_tree.proofs.ReaderLemmas.{ask_come}
use Rattle.adaptive_tree.proofs.reader.Reader.add_ask.Goals as goal

pub returns : goal.returns
returns c = record {
  reading = ask_come c.args.self.now c.push.new.self c.push-2.new.self.items c.insert.new.self c.new.result c.args.pattern c.args.branches c.requires.reading c.requires.right c.in_ok-push.ensures.ok c.in_ok-push-2.ensures.items c.new.ensures.empty c.in_ok-insert.ensures.updates.0;
  plan_is = ap (λ (steps : List Step). record c.args.self.now.plan { steps = steps }) c.in_ok-push.ensures.ok;
}
