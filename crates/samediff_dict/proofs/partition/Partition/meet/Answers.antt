use Rattle.std.proofs.Common.{◌≡◌, ◌∙◌, ℕ, List, length, get_or, refl, ap, arith}
use Rattle.std.proofs.lemmas.Result.{IfOk-weaker}
use Rattle.samediff_dict.specs.PlaceGroups.{shared_places}
use Rattle.samediff_dict.specs.Partition.{AreKeysOf, AreShared, IsListed, IsPartition, TogetherBy}
use Rattle.samediff_dict.proofs.CutLemmas.{cut_by_keys, parted}
use Rattle.samediff_dict.proofs.partition.Partition.meet.Goals as goal

pub of_shared-requires-clause-few : goal.of_shared-requires-clause-few
of_shared-requires-clause-few c = omega (arith, ap length c.as_slice.ensures.value, c.requires.few, c.requires.one_each)

pub of_shared-requires-clause-one_each : goal.of_shared-requires-clause-one_each
of_shared-requires-clause-one_each c = omega (arith, ap length c.as_slice.ensures.value, c.in_ok-parts.ensures.one_each, c.requires.one_each)

pub returns : goal.returns
returns c =
    let p = c.args.self.now in
    let keys = c.args.keys.now in
    let parts = c.in_ok-parts.parts in
    let places = shared_places parts.group_of.items in
    IfOk-weaker c.of_shared.result (AreShared c.as_slice.result.now parts) (λ part. (classes : ℕ) (key : ℕ → ℕ) → IsListed classes p → AreKeysOf key p.classes.items keys → IsPartition classes (TogetherBy p key) part)
    (λ part are classes key listed of.
    parted listed (λ low high. key low ≡ key high) (λ class. refl) parts.group_of.items parts.count (cut_by_keys key p keys of parts.group_of.items parts.count c.in_ok-parts.ensures) places refl are.long are.groups_long
    (λ k h. are.classes_are k h ∙ ap (λ (xs : List ℕ). get_or xs (get_or places k 0) 0) c.as_slice.ensures.value) are.groups_are are.count_is) c.of_shared.ensures
