use Rattle.std.proofs.Common.{List, ap}
use Rattle.adaptive_tree.specs.declared.steps.Step.{Step}
use Rattle.adaptive_tree.proofs.ReaderLemmas.{class_come}
use Rattle.adaptive_tree.proofs.reader.Reader.add_class.Goals as goal

pub returns : goal.returns
returns c =
    let old = c.args.self.now in
    record {
      reading = c.end_node-self.ensures c.push.new.self (class_come old c.push.new.self c.args.class c.requires.reading c.requires.right c.in_ok-push.ensures.ok);
      plan_is = ap (λ (steps : List Step). record old.plan { steps = steps }) c.in_ok-push.ensures.ok;
    }
