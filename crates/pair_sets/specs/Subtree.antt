-- Trees of one cube, such as the two trees of a split.
use Rattle.std.specs.Prelude.{◌≡◌, List, [], ◌∷◌, fold, ⊤}
use Rattle.net_model.specs.declared.fault.Fault.{Fault}
use Rattle.net_model.specs.Circuit.{Circuit}
use Rattle.pair_sets.specs.declared.tree.Token.{Token}
use Rattle.pair_sets.specs.Cube.{Cube}
use Rattle.pair_sets.specs.Tree.{after_token, IsRightAt}

-- Each token has the property at its cube, which is the first of those that wait for a tree before it.
abbrev pub EachAt : (Token → Cube → Type 0) → List Cube → List Token → Type 0
EachAt P waiting [] = ⊤
EachAt P [] (token ∷ tokens) = ⊥
EachAt P (cube ∷ waiting) (token ∷ tokens) = P token cube × EachAt P (after_token (cube ∷ waiting) token) tokens

-- The tokens are one whole tree of the cube, whichever cubes wait after it, and each token is right at its own cube.
pub record IsSubtree (c : Circuit) (f g : Fault) (cube : Cube) (tokens : List Token) : Type 0 where
  pub whole : (waiting : List Cube) → fold after_token (cube ∷ waiting) tokens ≡ waiting
  pub right : (waiting : List Cube) → EachAt (IsRightAt c f g) (cube ∷ waiting) tokens
