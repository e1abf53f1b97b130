use Rattle.std.proofs.Common.{◌∙◌, [], sym, ap, inl, inr}
use Rattle.net_model.specs.declared.operation.Fold.TheVariants.{AllOf, AnyOf, OddOf}
use Rattle.net_model.specs.declared.operation.Operation.TheVariants.{Folded}
use Rattle.pair_sets.specs.PairSet.{operation_pairs}
use Rattle.pair_sets.proofs.GateLemmas.{unit_is}
use Rattle.pair_sets.proofs.pair_set.PairSet.unit.Goals as goal

pub returns-in-AllOf : goal.returns-in-AllOf
returns-in-AllOf c = c.fixed.ensures ∙ sym (unit_is AllOf) ∙ ap (λ fold. operation_pairs (Folded fold) []) (sym c.in-AllOf.is)

pub returns-in-AnyOf : goal.returns-in-AnyOf
returns-in-AnyOf c = elim c.in-AnyOf.is [
  | inl is ↦ c.fixed-in-AnyOf.ensures ∙ sym (unit_is AnyOf) ∙ ap (λ fold. operation_pairs (Folded fold) []) (sym is)
  | inr is ↦ c.fixed-in-AnyOf.ensures ∙ sym (unit_is OddOf) ∙ ap (λ fold. operation_pairs (Folded fold) []) (sym is)
]
