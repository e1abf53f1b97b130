use Rattle.std.proofs.Common.{◌∙◌, sym, ap}
use Rattle.std.specs.Prelude.{None, Some}
use Rattle.pair_sets.specs.PairSet.{forced_pairs}
use Rattle.pair_sets.proofs.GateLemmas.{one_by_one}
use Rattle.pair_sets.proofs.pair_set.PairSet.forced.Goals as goal

pub returns-in-Some : goal.returns-in-Some
returns-in-Some c =
    c.with_second.ensures ∙ ap (forced_pairs None (Some c.in-Some.bit)) c.first_forced-pairs.ensures ∙ one_by_one c.args.first (Some c.in-Some.bit) c.args.self
    ∙ ap (λ o. forced_pairs c.args.first o c.args.self) (sym c.in-Some.is)

pub returns-in-None : goal.returns-in-None
returns-in-None c = c.first_forced-pairs.ensures ∙ ap (λ o. forced_pairs c.args.first o c.args.self) (sym c.in-None.is)
