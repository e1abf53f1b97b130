use Rattle.std.proofs.Common.{◌∙◌, [], ◌∷◌, sym}
use Rattle.net_model.specs.declared.operation.Operation.TheVariants.{Chosen}
use Rattle.pair_sets.specs.PairSet.{operation_pairs}
use Rattle.pair_sets.proofs.SeenLemmas.{seen_three}
use Rattle.pair_sets.proofs.fault_pair.FaultPair.chosen.Goals as goal

pub returns : goal.returns
returns c =
    c.chosen.ensures ∙ (λ i. operation_pairs Chosen (c.seen_pairs-select.ensures i ∷ c.seen_pairs-low.ensures i ∷ c.seen_pairs-high.ensures i ∷ []))
    ∙ (λ i. operation_pairs Chosen (sym (seen_three c.args.self.now.f c.args.self.now.g c.args.sets.now c.args.line c.args.pins.now c.requires.three) i))
