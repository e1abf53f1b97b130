-- A set of classes, split by what they answer to a pattern.
use Rattle.std.specs.Prelude.{◌≡◌, ◌≢◌, ℕ, ◌<◌, ◌≤◌, ◌==◌, not, List, [], ◌∷◌, map, filter, length, slice_index, ⊤}
use Rattle.adaptive_planner.specs.declared.class_numbers.ClassNumbers.{ClassNumbers}
use Rattle.adaptive_planner.specs.declared.parting.Branch.{Branch}
use Rattle.adaptive_planner.specs.Numbering.{class_number}

-- the classes of a branch
abbrev pub classes_of : Branch → List ℕ
classes_of b = b.classes.items

-- The branches split the set by number: the first one has all classes with the number of the lowest class, and the
-- others split the rest.
abbrev pub AreSetParts : (ℕ → ℕ) → ℕ → List ℕ → List Branch → Type 0
AreSetParts number pattern [] [] = ⊤
AreSetParts number pattern [] (b ∷ bs) = ⊥
AreSetParts number pattern (lowest ∷ set) [] = ⊥
AreSetParts number pattern (lowest ∷ set) (b ∷ bs) =
    (b.pattern ≡ pattern) × (b.number ≡ number lowest) × (classes_of b ≡ lowest ∷ filter (λ other. number lowest == number other) set) × AreSetParts number pattern (filter (λ other. not (number lowest == number other)) set) bs

abbrev pub AreBranchesOf : ClassNumbers → ℕ → List ℕ → List Branch → Type 0
AreBranchesOf c pattern set branches = AreSetParts (class_number c pattern) pattern set branches

abbrev pub branch_numbers : List Branch → List ℕ
branch_numbers branches = map (λ b. b.number) branches

-- For the number of each branch the place of the branch is noted in `slots`.
pub record ArePlacesNoted (slots : List ℕ) (branches : List Branch) : Type 0 where
  pub within : (place : ℕ) → place < length branches → slice_index (branch_numbers branches) place < length slots
  pub noted : (place : ℕ) → place < length branches → slice_index slots (slice_index (branch_numbers branches) place) ≡ place

-- The branches split the set so far, and their places are noted in `slots`, which has a place for each number.
pub record ArePartsTo (c : ClassNumbers) (pattern : ℕ) (set : List ℕ) (branches : List Branch) (slots : List ℕ) : Type 0 where
  pub parts : AreBranchesOf c pattern set branches
  pub noted : ArePlacesNoted slots branches
  pub room : length slots ≡ length c.patterns.items
  pub few : length branches ≤ length set

-- No branch has the number.
abbrev pub HaveNotNumber : List Branch → ℕ → Type 0
HaveNotNumber branches number = (place : ℕ) → place < length branches → slice_index (branch_numbers branches) place ≢ number

-- The branch at the place has the number.
pub record HasNumber (branches : List Branch) (number place : ℕ) : Type 0 where
  pub within : place < length branches
  pub is : slice_index (branch_numbers branches) place ≡ number
