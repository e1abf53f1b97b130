-- A standing block: what is known of its lanes, whatever vectors of it are kept.
use Rattle.std.specs.Prelude.{◌≡◌, ◌<◌, ◌↔◌, ◌⊎◌, ℕ, Bool, List, [], false, length, slice_index_or, Contains}
use Rattle.net_model.specs.Answer.{bit_at}
use Rattle.net_model.specs.ClassTable.{ClassTable}
use Rattle.word_sim.specs.GoodSim.{GoodSim, vectors_of}
use Rattle.kept_vectors.specs.declared.scan.Scan.{Scan}
use Rattle.kept_vectors.specs.Notes.{noted_by, AreTold, AreAsked}
use Rattle.kept_vectors.specs.Units.{IsUnit}
use Rattle.kept_vectors.specs.Waits.{IsLed}

module _ (good : GoodSim) (t : ClassTable) where
  -- In a lane with a vector the row has 1 exactly if the number answers otherwise than the representative of its class.
  abbrev pub IsRowOf : ℕ → List Bool → Type 0
  IsRowOf n row = (lane : ℕ) → lane < length (vectors_of good) → (bit_at row lane ≡ false) ↔ IsLed good t lane n

module _ (good : GoodSim) (roots : List ℕ) (t : ClassTable) (asked : List ℕ) where
  -- There is a row for each number. Each unit, and each number that was asked, has its own, except those that are left.
  pub record AreRowsBut (IsLeft : ℕ → Type 0) (rows : List (List Bool)) : Type 0 where
    pub count : length rows ≡ length t.class_of
    pub right : (n : ℕ) → n < length t.class_of → IsUnit roots n ⊎ Contains asked n → IsRowOf good t n (slice_index_or rows n []) ⊎ IsLeft n

  -- There is a row for each number. Each unit, and each number that was asked, has its own.
  pub record AreRows (rows : List (List Bool)) : Type 0 where
    pub count : length rows ≡ length t.class_of
    pub right : (n : ℕ) → n < length t.class_of → IsUnit roots n ⊎ Contains asked n → IsRowOf good t n (slice_index_or rows n [])

-- The block was simulated, its answers are noted for the classes of the table, and the units have their rows.
pub record IsStanding (s : Scan) (t : ClassTable) : Type 0 where
  pub told : AreTold s.good s.block.vectors (noted_by s.differences) t
  pub asked : AreAsked s.good (noted_by s.differences) t s.differences.numbers.items
  pub rows : AreRows s.good s.differences.units.roots.now t s.differences.numbers.items s.rows.items
