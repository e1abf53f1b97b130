-- How far the lines of a circuit are from its sources.
use Rattle.std.specs.Prelude.{◌≡◌, ℕ, ◌+◌, ◌<◌, ◌≤◌, List, fold, length, max, slice_index_or}
use Rattle.net_model.specs.Circuit.{Circuit, line_count, pins_of}

-- the level of a line, or 0 for what is no line
abbrev pub level_at : List ℕ → ℕ → ℕ
level_at levels line = slice_index_or levels line 0

-- the highest level of these lines, or 0 if there are none
abbrev pub highest_level : List ℕ → List ℕ → ℕ
highest_level levels lines = fold (λ highest line. max highest (level_at levels line)) 0 lines

-- Each line has its level: 0 for a source, and for a gate one more than the highest level of its pins.
pub record AreLevels (c : Circuit) (levels : List ℕ) : Type 0 where
  pub whole : length levels ≡ line_count c
  pub sources : (line : ℕ) → line < c.sources → level_at levels line ≡ 0
  pub gates : (line : ℕ) → c.sources ≤ line → line < line_count c → level_at levels line ≡ highest_level levels (pins_of c line) + 1
