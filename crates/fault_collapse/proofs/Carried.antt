-- The value that a stuck pin carries to its gate.
use Rattle.std.proofs.Common.{◌≡◌, ◌∙◌, ℕ, zero, suc, Bool, true, false, List, [], ◌∷◌, length, refl, ap, arith}
use Rattle.std.specs.Prelude.{Option, None, Some, option_map, slice_get, ◌==◌, if◌then◌else◌}
use Rattle.std.proofs.lemmas.Bool.{eqb-true}
use Rattle.std.proofs.lemmas.List.Folds.{list_any_at, list_all_at}
use Rattle.std.proofs.lemmas.Option.{slice_get_within, get_or_from_slice_get}
use Rattle.net_model.specs.declared.gate.Kind.{Kind}
use Rattle.net_model.specs.declared.operation.Fold.{Fold}
use Rattle.net_model.specs.declared.operation.Fold.TheVariants.{AllOf, AnyOf, OddOf}
use Rattle.net_model.specs.declared.operation.Operation.{Operation}
use Rattle.net_model.specs.declared.operation.Operation.TheVariants.{Folded, Chosen}
use Rattle.net_model.specs.Gate.{gate_value, operation_value, operation_of, folded_bit, inverts, inverted, all_ones, some_one}
use Rattle.net_model.specs.Collapse.{carried_value, controlled_value, controlled_fold}

not_all : (bits : List Bool) (k : ℕ) → slice_get bits k ≡ Some false → all_ones bits ≡ false
not_all bits k there = list_all_at (λ b. b) bits k false (slice_get_within bits k false there) (get_or_from_slice_get bits k false false there)

some : (bits : List Bool) (k : ℕ) → slice_get bits k ≡ Some true → some_one bits ≡ true
some bits k there = list_any_at (λ b. b) bits k false (slice_get_within bits k true there) (get_or_from_slice_get bits k true false there)

-- a controlling value at one pin decides the fold
controlled_fold_is : (fold : Fold) (bits : List Bool) (k : ℕ) (bit value : Bool) → slice_get bits k ≡ Some bit → controlled_fold fold bit ≡ Some value → folded_bit fold bits ≡ value
controlled_fold_is AllOf bits k true value there e = cc
controlled_fold_is AllOf bits k false value there e = let v : false ≡ value = cc in not_all bits k there ∙ v
controlled_fold_is AnyOf bits k true value there e = let v : true ≡ value = cc in some bits k there ∙ v
controlled_fold_is AnyOf bits k false value there e = cc
controlled_fold_is OddOf bits k bit value there e = cc

controlled : (kind : Kind) (operation : Operation) (bits : List Bool) (k : ℕ) (bit value : Bool)
    → operation_of kind ≡ operation → slice_get bits k ≡ Some bit → controlled_value kind operation bit ≡ Some value → gate_value kind bits ≡ value
controlled kind Chosen bits k bit value is there e = cc
controlled kind (Folded fold) bits k bit value is there e = by (controlled_fold fold bit) refl e
  where
    by : (found : Option Bool) → controlled_fold fold bit ≡ found → option_map (inverted (inverts kind)) found ≡ Some value → gate_value kind bits ≡ value
    by None f e = cc
    by (Some one) f e =
        let v : inverted (inverts kind) one ≡ value = cc in
        ap (λ o. inverted (inverts kind) (operation_value o bits)) is ∙ ap (inverted (inverts kind)) (controlled_fold_is fold bits k bit one there f) ∙ v

-- the only bit
only_bit : (bits : List Bool) (k : ℕ) (bit : Bool) → length bits ≡ 1 → slice_get bits k ≡ Some bit → bits ≡ bit ∷ []
only_bit [] k bit one there = cc
only_bit (b ∷ []) zero bit one there = let same : b ≡ bit = cc in ap (λ x. x ∷ []) same
only_bit (b ∷ []) (suc k) bit one there = cc
only_bit (b ∷ d ∷ bits) k bit one there = absurd (omega arith)

carried_by : (kind : Kind) (bits : List Bool) (k : ℕ) (bit value one : Bool) → (length bits == 1) ≡ one → slice_get bits k ≡ Some bit → (if one then Some (gate_value kind (bit ∷ [])) else controlled_value kind (operation_of kind) bit) ≡ Some value → gate_value kind bits ≡ value
carried_by kind bits k bit value true t there e =
    let v : gate_value kind (bit ∷ []) ≡ value = cc in
    ap (gate_value kind) (only_bit bits k bit (eqb-true (length bits) 1 t) there) ∙ v
carried_by kind bits k bit value false t there e = controlled kind (operation_of kind) bits k bit value refl there e

-- The value that one pin carries is the gate's, whatever the other pins see.
pub carried : (kind : Kind) (bits : List Bool) (k : ℕ) (bit value : Bool) → slice_get bits k ≡ Some bit → carried_value kind (length bits) bit ≡ Some value → gate_value kind bits ≡ value
carried kind bits k bit value there e = carried_by kind bits k bit value (length bits == 1) refl there e
