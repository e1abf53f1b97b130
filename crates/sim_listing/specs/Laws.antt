-- Laws of the texts of simulations.
use Rattle.std.specs.Prelude.{◌≡◌, ℕ, ◌+◌, Bool, List, ◌++◌, length}
use Rattle.net_model.specs.Circuit.{Circuit, IsCircuit}
use Rattle.text_fields.specs.Fields.{Text}
use Rattle.sim_listing.specs.SimText.{IsSimTextFrom}

-- There is exactly one text.
pub record HasOneText (c : Circuit) (first : ℕ) (vectors : List (List Bool)) : Type 0 where
  pub text : Text
  pub is : IsSimTextFrom c first vectors text
  pub only : (other : Text) → IsSimTextFrom c first vectors other → other ≡ text

-- each list of vectors has exactly one text for a circuit and the number of its first vector
abbrev pub OneTextEach : Type 0
OneTextEach = (c : Circuit) (first : ℕ) (vectors : List (List Bool)) → IsCircuit c → HasOneText c first vectors

-- the texts of two blocks, the second numbered on from the first, are one after the other the text of both
abbrev pub BlocksMakeTheList : Type 0
BlocksMakeTheList = (c : Circuit) (first : ℕ) (front back : List (List Bool)) (text more : Text) → IsSimTextFrom c first front text → IsSimTextFrom c (first + length front) back more → IsSimTextFrom c first (front ++ back) (text ++ more)
