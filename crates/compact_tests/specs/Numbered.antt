-- Numbers of answers as rows of bits, and groups that are cut by the answers.
use Rattle.std.specs.Prelude.{◌≡◌, ◌≢◌, ◌↔◌, ℕ, ◌<◌, ◌^◌, Bool, List, length, slice_index, IsTrue}
use Rattle.net_model.specs.Rows.{bit_of, row_at, row_bit, HaveSameShape}
use Rattle.net_model.specs.ClassTable.{ClassTable, class_at}
use Rattle.compact_tests.specs.Sharing.{has_two}
use Rattle.answer_numbers.specs.AnswerNumbers.{AnswerNumbers, vector_in, AreLeadAnswers, IsAnswerNumber}

-- A row has the bits of the number of the answer at a place, which is below 2^32.
pub record IsNumberRow (n : AnswerNumbers) (lane : ℕ) (rows : List (List Bool)) (row place : ℕ) : Type 0 where
  pub number : ℕ
  pub small : number < 2 ^ 32
  pub is : IsAnswerNumber n lane place number
  pub bits : (at : ℕ) → at < 32 → row_bit rows row at ≡ bit_of number at

-- There are `count` rows of 32 bits. Each of the first `done` listed numbers that isn't alone in its group has the
-- number of the answer at its place in its row.
pub record AreNumberRows (n : AnswerNumbers) (lane : ℕ) (groups : ClassTable) (listed : List ℕ) (count done : ℕ) (rows : List (List Bool)) : Type 0 where
  pub count_is : length rows ≡ count
  pub widths : (row : ℕ) → row < count → length (row_at rows row) ≡ 32
  pub each : (place : ℕ) → place < done → IsTrue (has_two groups (class_at groups (slice_index listed place))) → IsNumberRow n lane rows (slice_index listed place) place

-- Numbers that are together in the new groups were together in the old ones. Two listed numbers are together in the new
-- groups exactly if they were in the old ones and the leads at their places answer alike to the vector of a lane.
pub record HasParted (n : AnswerNumbers) (lane : ℕ) (listed : List ℕ) (old new : ClassTable) : Type 0 where
  pub before : (a b : ℕ) → a < length old.class_of → b < length old.class_of → class_at new a ≡ class_at new b → class_at old a ≡ class_at old b
  pub together : (answers : List (List Bool)) → AreLeadAnswers n.circuit n.leads (vector_in n lane) answers → (p q : ℕ) → p < length listed → q < length listed
      → class_at new (slice_index listed p) ≡ class_at new (slice_index listed q) ↔ ((class_at old (slice_index listed p) ≡ class_at old (slice_index listed q)) × (row_at answers p ≡ row_at answers q))

-- There is a row of 32 bits for each number, and numbers of one class have the same row.
pub record AreClassRows (t : ClassTable) (rows : List (List Bool)) : Type 0 where
  pub count_is : length rows ≡ length t.class_of
  pub widths : (row : ℕ) → row < length rows → length (row_at rows row) ≡ 32
  pub alike : (m n : ℕ) → m < length t.class_of → n < length t.class_of → class_at t m ≡ class_at t n → row_at rows m ≡ row_at rows n

-- There is a row for each number as in `AreClassRows`, and each number of the first `done` listed classes has the
-- number of the answer at the place of its class in its row.
pub record AreMemberRows (n : AnswerNumbers) (lane : ℕ) (t : ClassTable) (listed : List ℕ) (done : ℕ) (rows : List (List Bool)) : Type 0 where
  pub rows_are : AreClassRows t rows
  pub each : (place m : ℕ) → place < done → m < length t.class_of → class_at t m ≡ slice_index listed place → IsNumberRow n lane rows m place

-- The rows of the first `done` members have the bits of a number, and all other rows are as before.
pub record AreWritten (old new : List (List Bool)) (members : List ℕ) (done number : ℕ) : Type 0 where
  pub shape : HaveSameShape old new
  pub here : (place at : ℕ) → place < done → at < 32 → row_bit new (slice_index members place) at ≡ bit_of number at
  pub others : (m : ℕ) → ((place : ℕ) → place < done → m ≢ slice_index members place) → row_at new m ≡ row_at old m
