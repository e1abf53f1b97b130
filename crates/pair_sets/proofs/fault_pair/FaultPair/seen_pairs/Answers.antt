use Rattle.std.proofs.Common.{◌≡◌, ◌∙◌, sym}
use Rattle.std.specs.Prelude.{false}
use Rattle.std.proofs.lemmas.List.{get_or_default}
use Rattle.fault_list.specs.Scope.{begins_at}
use Rattle.pair_sets.specs.PairSet.{free_pairs}
use Rattle.pair_sets.specs.CubeState.{set_at}
use Rattle.pair_sets.proofs.Elsewhere.{pin_unchanged}
use Rattle.pair_sets.proofs.fault_pair.FaultPair.seen_pairs.Goals as goal

pub returns-else-begins : goal.returns-else-begins
returns-else-begins c =
    let f = c.args.self.now.f in
    let g = c.args.self.now.g in
    let sets = c.args.sets.now in
    let other : begins_at f g c.args.line ≡ false = sym c.requires.begins ∙ c.if-begins.false in
    (c.index-sets-read.is ∙ get_or_default sets c.args.read c.index-sets-read.result free_pairs c.requires.read) ∙ pin_unchanged f g c.args.line other (set_at sets c.args.read) c.args.pin
