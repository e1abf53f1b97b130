use Rattle.std.proofs.Common.{◌∙◌, sym, ap}
use Rattle.std.specs.Prelude.{None}
use Rattle.pair_sets.specs.PairSet.{forced_pairs}
use Rattle.pair_sets.proofs.GateLemmas.{free_is}
use Rattle.pair_sets.proofs.pair_set.PairSet.first_forced.Goals as goal

pub returns-in-Some : goal.returns-in-Some
returns-in-Some c = c.with_first.ensures ∙ ap (λ o. forced_pairs o None c.args.self) (sym c.in-Some.is)

pub returns-in-None : goal.returns-in-None
returns-in-None c = free_is c.args.self ∙ ap (λ o. forced_pairs o None c.args.self) (sym c.in-None.is)
