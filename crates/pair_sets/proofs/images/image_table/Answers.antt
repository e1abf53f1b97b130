use Rattle.std.proofs.Common.{sym, subst}
use Rattle.pair_sets.specs.declared.images.TheConstants.{AND, OR, XOR}
use Rattle.pair_sets.specs.Images.{AreImages}
use Rattle.pair_sets.proofs.ImageLemmas.{and_table, or_table, xor_table}
use Rattle.pair_sets.proofs.images.image_table.Goals as goal

pub returns-in-AllOf : goal.returns-in-AllOf
returns-in-AllOf c = subst (λ fold. AreImages fold AND) (sym c.in-AllOf.is) and_table

pub returns-in-AnyOf : goal.returns-in-AnyOf
returns-in-AnyOf c = subst (λ fold. AreImages fold OR) (sym c.in-AnyOf.is) or_table

pub returns-in-OddOf : goal.returns-in-OddOf
returns-in-OddOf c = subst (λ fold. AreImages fold XOR) (sym c.in-OddOf.is) xor_table
