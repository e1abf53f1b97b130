use Rattle.std.proofs.Common.{◌≡◌, ◌∙◌, [], ◌∷◌, sym, ap}
use Rattle.std.specs.Prelude.{slice_index}
use Rattle.net_model.specs.declared.gate.Kind.TheVariants.{Not}
use Rattle.pair_sets.specs.declared.images.TheConstants.{NOT}
use Rattle.pair_sets.specs.PairSet.{gate_pairs}
use Rattle.pair_sets.specs.PairSetFields.{set_with_number, number_of, number_again}
use Rattle.pair_sets.proofs.ImageLemmas.{set_again, not_image}
use Rattle.pair_sets.proofs.pair_set.PairSet.not.Goals as goal

pub returns : goal.returns
returns c =
    let own : c.from.result ≡ number_of c.args.self = c.from.ensures ∙ (sym (number_again c.self.inside.digits c.self.invariant) ∙ ap number_of c.self.view_is) in
    ap (λ n. set_with_number (slice_index NOT n)) own ∙ ap set_with_number (not_image c.args.self) ∙ set_again (gate_pairs Not (c.args.self ∷ []))
