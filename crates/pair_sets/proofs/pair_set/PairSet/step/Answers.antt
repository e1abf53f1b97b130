use Rattle.std.proofs.Common.{◌≡◌, ◌+◌, ◌*◌, ◌<◌, ◌∙◌, [], ◌∷◌, sym, ap, subst}
use Rattle.std.specs.Prelude.{slice_index}
use Rattle.net_model.specs.declared.operation.Operation.TheVariants.{Folded}
use Rattle.pair_sets.specs.PairSet.{operation_pairs}
use Rattle.pair_sets.specs.PairSetFields.{set_with_number, number_of, number_again}
use Rattle.pair_sets.proofs.ImageLemmas.{set_again, number_small}
use Rattle.pair_sets.proofs.pair_set.PairSet.step.Goals as goal
use Rattle.pair_sets.proofs.pair_set.PairSet.step.Goals.{After-image_table}

-- the entry is the number of the image
image_at : (c : After-image_table) → slice_index c.image_table.result.now (16 * c.from.result + c.from-2.result) ≡ number_of (operation_pairs (Folded c.args.fold) (c.args.self ∷ c.args.other ∷ []))
image_at c =
    let first : c.from.result ≡ number_of c.args.self = c.from.ensures ∙ (sym (number_again c.self.inside.digits c.self.invariant) ∙ ap number_of c.self.view_is) in
    let second : c.from-2.result ≡ number_of c.args.other = c.from-2.ensures ∙ (sym (number_again c.other.inside.digits c.other.invariant) ∙ ap number_of c.other.view_is) in
    (λ i. slice_index c.image_table.result.now (16 * first i + second i)) ∙ c.image_table.ensures.each c.args.self c.args.other

pub returns : goal.returns
returns c =
    let image = operation_pairs (Folded c.args.fold) (c.args.self ∷ c.args.other ∷ []) in
    ap set_with_number (image_at (goal.at.returns c).After-image_table) ∙ set_again image

pub invariant_of-result : goal.invariant_of-result
invariant_of-result c =
    let image = operation_pairs (Folded c.args.fold) (c.args.self ∷ c.args.other ∷ []) in
    subst (λ n. n < 16) (sym (image_at (goal.at.invariant_of-result c).After-image_table)) (number_small image)
