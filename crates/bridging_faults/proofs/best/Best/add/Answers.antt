use Rattle.std.proofs.Common.{◌∙◌, List, take, ap}
use Rattle.bridging_faults.specs.declared.scored.ScoredBridge.{ScoredBridge}
use Rattle.bridging_faults.proofs.SearchLemmas.{insert-put}
use Rattle.bridging_faults.proofs.best.Best.add.Goals as goal

pub returns-clause-listed : goal.returns-clause-listed
returns-clause-listed c =
    c.truncate.ensures.items
    ∙ ap (λ (xs : List ScoredBridge). take c.args.self.now.most xs) (c.in_ok-insert.ensures.items ∙ insert-put c.args.bridge c.args.self.now.listed.items c.place_of-place.result c.place_of-place.ensures c.requires.new)
