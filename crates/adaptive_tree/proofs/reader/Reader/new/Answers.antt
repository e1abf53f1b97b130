use Rattle.adaptive_tree.proofs.ReaderLemmas.{starts}
use Rattle.adaptive_tree.proofs.reader.Reader.new.Goals as goal

pub returns-clause-reading : goal.returns-clause-reading
returns-clause-reading c = starts c.args.plan.steps c.new.result.items c.new-2.result c.requires c.new.ensures.items c.new-2.ensures.empty
