-- What holds of each element of each part.
use Rattle.std.proofs.Common.{List, [], ◌∷◌, get_or}
use Rattle.std.specs.Prelude.{flat_map, All, Contains}
use Rattle.std.proofs.lemmas.List.Elements.{All-nil, All-cons, Contains-get_or}
use Rattle.net_model.proofs.Elements.{All-left, All-right}

-- what holds of all parts holds of each part
pub All-parts : {X Y : Type 0} (P : Y → Type 0) (f : X → List Y) (xs : List X) → All P (flat_map f xs) → All (λ x. All P (f x)) xs
All-parts P f [] a = All-nil (λ x. All P (f x))
All-parts P f (x ∷ xs) a = All-cons (λ y. All P (f y)) x xs (All-left P (f x) (flat_map f xs) a) (All-parts P f xs (All-right P (f x) (flat_map f xs) a))

pub All-from_contained : {X : Type 0} (P : X → Type 0) (xs : List X) → ((x : X) → Contains xs x → P x) → All P xs
All-from_contained P xs each k d h = each (get_or xs k d) (Contains-get_or xs k d h)
