-- Sets of pairs as numbers, and the tables of images.
use Rattle.std.proofs.Common.{ltb-true, ◌≡◌, ℕ, ◌+◌, ◌*◌, ◌<◌, refl, ◌∙◌, ap}
use Rattle.std.specs.Prelude.{Bool, true, List, [], ◌∷◌, ◌==◌, nat_lt, length, slice_index}
use Rattle.std.proofs.lemmas.Bool.{eqb-true}
use Rattle.net_model.specs.declared.gate.Kind.TheVariants.{Not}
use Rattle.net_model.specs.declared.operation.Fold.{Fold}
use Rattle.net_model.specs.declared.operation.Fold.TheVariants.{AllOf, AnyOf, OddOf}
use Rattle.net_model.specs.declared.operation.Operation.TheVariants.{Folded}
use Rattle.pair_sets.specs.declared.images.TheConstants.{AND, OR, XOR, NOT}
use Rattle.pair_sets.specs.PairSet.{PairSet, gate_pairs, operation_pairs}
use Rattle.pair_sets.specs.PairSetFields.{set_with_number, number_of}
use Rattle.pair_sets.specs.Images.{AreImages}
use Rattle.pair_sets.proofs.GateLemmas.{every_set, at_set, same_sets, same_sets_are, and_set, and_is, or_set, or_is, xor_set, xor_is, not_set, not_is}

all_again : every_set (λ s. same_sets (set_with_number (number_of s)) s) ≡ true
all_again = refl

pub set_again : (s : PairSet) → set_with_number (number_of s) ≡ s
set_again s = same_sets_are (set_with_number (number_of s)) s (at_set (λ x. same_sets (set_with_number (number_of x)) x) all_again s)

all_small : every_set (λ s. nat_lt (number_of s) 16) ≡ true
all_small = refl

pub number_small : (s : PairSet) → number_of s < 16
number_small s = ltb-true (number_of s) 16 (at_set (λ x. nat_lt (number_of x) 16) all_small s)

-- ---- the tables

abbrev has_image : List ℕ → (PairSet → PairSet → PairSet) → PairSet → PairSet → Bool
has_image images op s t = slice_index images (16 * number_of s + number_of t) == number_of (op s t)

and_images : every_set (λ s. every_set (has_image AND and_set s)) ≡ true
and_images = refl

or_images : every_set (λ s. every_set (has_image OR or_set s)) ≡ true
or_images = refl

xor_images : every_set (λ s. every_set (has_image XOR xor_set s)) ≡ true
xor_images = refl

not_images : every_set (λ s. slice_index NOT (number_of s) == number_of (not_set s)) ≡ true
not_images = refl

from_images : (fold : Fold) (op : PairSet → PairSet → PairSet) (images : List ℕ) → length images ≡ 256 → every_set (λ s. every_set (has_image images op s)) ≡ true → ((s t : PairSet) → op s t ≡ operation_pairs (Folded fold) (s ∷ t ∷ [])) → AreImages fold images
from_images fold op images whole e is = record {
  whole = whole;
  each = λ s t.
      eqb-true (slice_index images (16 * number_of s + number_of t)) (number_of (op s t))
      (at_set (has_image images op s) (at_set (λ x. every_set (has_image images op x)) e s) t)
      ∙ ap number_of (is s t);
}

pub and_table : AreImages AllOf AND
and_table = from_images AllOf and_set AND refl and_images and_is

pub or_table : AreImages AnyOf OR
or_table = from_images AnyOf or_set OR refl or_images or_is

pub xor_table : AreImages OddOf XOR
xor_table = from_images OddOf xor_set XOR refl xor_images xor_is

pub not_image : (s : PairSet) → slice_index NOT (number_of s) ≡ number_of (gate_pairs Not (s ∷ []))
not_image s = eqb-true (slice_index NOT (number_of s)) (number_of (not_set s)) (at_set (λ x. slice_index NOT (number_of x) == number_of (not_set x)) not_images s) ∙ ap number_of (not_is s)
