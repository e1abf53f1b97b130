-- Numbers that are chosen one after another, each for what it explains of the lines that are left.
use Rattle.std.specs.Prelude.{◌≡◌, ℕ, ◌<◌, ◌≤◌, ◌&&◌, Bool, true, not, List, [], ◌∷◌, length, map, slice_index}
use Rattle.net_model.specs.Answer.{bit_at}
use Rattle.net_model.specs.Rows.{row_at}
use Rattle.dict_rows.specs.AnswerTable.{Answers}
use Rattle.ranked_diag.specs.PartialLog.{Line}
use Rattle.suspect_scores.specs.declared.choices.Choice.{Choice}
use Rattle.suspect_scores.specs.declared.choosing.Best.{Best}
use Rattle.suspect_scores.specs.Scores.{is_failing, explains}
use Rattle.suspect_scores.specs.Scored.{count_to}

-- ---- rows of lines

-- for each line whether it is failing and the number explains it
abbrev pub explained_by : Answers → List Line → ℕ → List Bool
explained_by table lines number = map (λ line. is_failing table line && explains table number line) lines

-- ---- lines that are left

-- how many of the lines that are left a row has
unfoldable pub left_count : List Bool → List Bool → ℕ
left_count row left = count_to (λ k. bit_at left k && bit_at row k) (length left)

-- All of `lines` lines are left.
pub record AreAllLeft (lines : ℕ) (left : List Bool) : Type 0 where
  pub many : length left ≡ lines
  pub each : (k : ℕ) → k < lines → bit_at left k ≡ true

-- The new lines are the old ones without those that a row has.
pub record IsWithout (row old new : List Bool) : Type 0 where
  pub many : length new ≡ length old
  pub each : (k : ℕ) → k < length old → bit_at new k ≡ (bit_at old k && not (bit_at row k))

module _ (rows : List (List Bool)) (numbers : List ℕ) where
  -- how many of the lines that are left the row at a place has
  abbrev pub count_at : List Bool → ℕ → ℕ
  count_at left place = left_count (row_at rows place) left

  -- `best` is one of the first `end` rows, with how many of the lines that are left it has. Of the rows with this count
  -- it is the one with the lowest number.
  pub record IsHighest (left : List Bool) (end : ℕ) (best : Best) : Type 0 where
    pub within : best.place < end
    pub own : count_at left best.place ≡ best.count
    pub lowest : (p : ℕ) → p < end → count_at left p ≡ best.count → slice_index numbers best.place ≤ slice_index numbers p

  -- No row of the first `end` has more lines that are left than the count of `best`. If this count isn't 0, `best` is
  -- as `IsHighest` says.
  pub record IsBestOf (left : List Bool) (end : ℕ) (best : Best) : Type 0 where
    pub most : (p : ℕ) → p < end → count_at left p ≤ best.count
    pub some : 0 < best.count → IsHighest left end best

  -- Each choice is the best row for the lines that are left, by its number and count, until no row has any of them.
  abbrev pub AreChosenFrom : List Bool → List Choice → Type 0
  AreChosenFrom left [] = (p : ℕ) → p < length numbers → count_at left p ≡ 0
  AreChosenFrom left (choice ∷ choices) =
      (best : Best) × (next : List Bool) × IsBestOf left (length numbers) best × (0 < best.count) × (choice ≡ record { number = slice_index numbers best.place; explained = best.count }) × IsWithout (row_at rows best.place) left next × AreChosenFrom next choices
