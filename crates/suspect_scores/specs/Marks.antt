-- What a log says of its patterns, in rows of bits, and what numbers answer to them.
use Rattle.std.specs.Prelude.{◌≡◌, ℕ, ◌<◌, ◌&&◌, Bool, not, List, [], length, map, zip, All, slice_index, slice_index_or}
use Rattle.table_dicts.specs.declared.setting.Setting.{Setting}
use Rattle.dict_rows.specs.AnswerTable.{Answers, HasSizes, AreAnswerable, answer_to}
use Rattle.dict_rows.specs.Rows.{AreRowsBegun}
use Rattle.table_dicts.specs.Setting.{AreAnswersAt}
use Rattle.ranked_diag.specs.declared.partial.Seen.{Seen}
use Rattle.ranked_diag.specs.Seen.{is_seen, differs}
use Rattle.ranked_diag.specs.PartialLog.{Line}
use Rattle.suspect_scores.specs.declared.marks.LogMarks.{LogMarks}
use Rattle.suspect_scores.specs.declared.logged.Logged.{Logged}
use Rattle.suspect_scores.specs.Scored.{AreMarkRows}
use Rattle.suspect_scores.specs.Columns.{AreColumns}

-- the line at a place
abbrev pub logged_line : List Line → ℕ → Line
logged_line lines k = slice_index_or lines k (0, [])

-- the pattern of each line
abbrev pub logged_vectors : List (List Bool) → List Line → List (List Bool)
logged_vectors patterns lines = map (λ line. slice_index_or patterns line.0 []) lines

-- where observed bits differ from those of `free`
abbrev pub wrong_row : List Bool → List Seen → List Bool
wrong_row free seen = map (λ x. differs x.0 x.1) (zip seen free)

-- where observed bits don't differ from those of `free`
abbrev pub right_row : List Bool → List Seen → List Bool
right_row free seen = map (λ x. is_seen x.0 && not (differs x.0 x.1)) (zip seen free)

-- There is a row for each line, and the first `done` lines are marked.
pub record AreMarksBegun (free : ℕ → List Bool) (positions : ℕ) (lines : List Line) (done : ℕ) (m : LogMarks) : Type 0 where
  pub frees : AreRowsBegun (length lines) positions done free m.free
  pub wrongs : AreRowsBegun (length lines) positions done (λ k. wrong_row (free k) (logged_line lines k).1) m.wrong
  pub rights : AreRowsBegun (length lines) positions done (λ k. right_row (free k) (logged_line lines k).1) m.right

-- All lines are marked, against what `free` has for each.
abbrev pub AreMarksOf : (ℕ → List Bool) → ℕ → List Line → LogMarks → Type 0
AreMarksOf free positions lines m = AreMarksBegun free positions lines (length lines) m

-- All lines are marked, against what number 0 answers in the table to the pattern of each line.
abbrev pub AreMarks : Answers → List Line → LogMarks → Type 0
AreMarks table lines m = AreMarksOf (λ k. answer_to table (logged_line lines k).0 0) table.positions lines m

-- The answers are those of these numbers to the patterns of the lines.
pub record AreLogged (table : Answers) (lines : List Line) (numbers : List ℕ) (answers : Answers) : Type 0 where
  pub sizes : HasSizes answers (length lines) (length numbers) table.positions
  pub each : (k place : ℕ) → k < length lines → place < length numbers → answer_to answers k place ≡ answer_to table (logged_line lines k).0 (slice_index numbers place)

-- The patterns of the log can be answered, and there are marks for each, by line and by position.
pub record IsMarked (s : Setting) (logged : Logged) : Type 0 where
  pub answerable : AreAnswerable s.subject.now logged.patterns.items
  pub marks : AreMarkRows (length logged.patterns.items) (length s.subject.now.positions) logged.marks
  pub columns : AreColumns (length logged.patterns.items) (length s.subject.now.positions) logged.marks logged.columns

-- The patterns and marks are those of the lines. Each line has a pattern of the setting, and as many positions as the
-- circuit.
pub record IsLogged (s : Setting) (lines : List Line) (logged : Logged) : Type 0 where
  pub answered : IsMarked s logged
  pub inside : All (λ line. line.0 < length s.patterns.now) lines
  pub wide : All (λ line. length line.1 ≡ length s.subject.now.positions) lines
  pub patterns_are : logged.patterns.items ≡ logged_vectors s.patterns.now lines
  pub marks_are : (table : Answers) → AreAnswersAt s table → AreMarks table lines logged.marks
