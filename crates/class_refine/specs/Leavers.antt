-- Numbers that leave their classes, and the lists of positions that tell their answers.
use Rattle.std.specs.Prelude.{◌≡◌, ◌≢◌, ◌<◌, ◌≤◌, ◌↔◌, ℕ, Bool, List, length, map, slice_range, All, Contains}
use Rattle.std.specs.List.{AllPairs}
use Rattle.net_model.specs.ClassTable.{ClassTable, class_at, representative, answer_at}
use Rattle.class_refine.specs.declared.leaver.Leaver.{Leaver}
use Rattle.class_refine.specs.Laws.{ComesBefore}

-- the part of the positions that tells a leaver's answer
abbrev pub told : List ℕ → Leaver → List ℕ
told positions leaver = slice_range positions leaver.start leaver.end

-- The number answers otherwise than the representative of its class.
pub record LeavesClass (t : ClassTable) (row : List (List Bool)) (n : ℕ) : Type 0 where
  pub below : n < length t.class_of
  pub differs : answer_at t row n ≢ answer_at t row (representative t (class_at t n))

-- The leavers are all numbers that leave their classes by the row, and no others, by class and then by number. A part
-- of the positions tells the answer of each: two of one class have the same part exactly if they answer alike.
pub record AreLeavers (t : ClassTable) (row : List (List Bool)) (leavers : List Leaver) (positions : List ℕ) : Type 0 where
  pub parts : All (λ leaver. (leaver.start ≤ leaver.end) × (leaver.end ≤ length positions)) leavers
  pub ordered : AllPairs (λ a b. ComesBefore t a.number b.number) leavers
  pub only : All (λ leaver. LeavesClass t row leaver.number) leavers
  pub all : (n : ℕ) → LeavesClass t row n → Contains (map (λ leaver. leaver.number) leavers) n
  pub alike : AllPairs (λ a b. class_at t a.number ≡ class_at t b.number → (told positions a ≡ told positions b) ↔ (answer_at t row a.number ≡ answer_at t row b.number)) leavers
