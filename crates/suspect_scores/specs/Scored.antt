-- The score of a number by the marks of a log.
use Rattle.std.specs.Prelude.{ℕ, ◌==◌, ◌&&◌, Bool, not, List, length, count_by, nat_lt}
use Rattle.std.specs.List.{range_with_len}
use Rattle.net_model.specs.Answer.{bit_at}
use Rattle.dict_rows.specs.Rows.{AreRows}
use Rattle.suspect_scores.specs.declared.marks.LogMarks.{LogMarks}
use Rattle.suspect_scores.specs.declared.scoring.LineScore.{LineScore}
use Rattle.suspect_scores.specs.declared.suspect.Suspect.{Suspect}

-- There are `lines` rows of marks of each kind, each with a bit for each position.
pub record AreMarkRows (lines positions : ℕ) (m : LogMarks) : Type 0 where
  pub frees : AreRows lines positions m.free
  pub wrongs : AreRows lines positions m.wrong
  pub rights : AreRows lines positions m.right

-- ---- tests of a position

-- at how many of the first `n` places a test holds
abbrev pub count_to : (ℕ → Bool) → ℕ → ℕ
count_to test n = count_by test (range_with_len 0 n)

-- the score of the first `n` positions, by where bits are changed, wrong and right
unfoldable pub score_to : (ℕ → Bool) → (ℕ → Bool) → (ℕ → Bool) → ℕ → LineScore
score_to changed wrong right n = record {
  hit_bits = count_to (λ k. wrong k && changed k) n;
  missed_bits = count_to (λ k. wrong k && not (changed k)) n;
  false_bits = count_to (λ k. right k && changed k) n;
}

-- how many bits of a row are set
unfoldable pub row_bits : List Bool → ℕ
row_bits row = count_to (bit_at row) (length row)

-- whether each observed bit of the line is met
abbrev pub meets_all : LineScore → Bool
meets_all s = s.missed_bits == 0 && s.false_bits == 0

-- whether the line is failing, and each of its observed bits is met
abbrev pub does_explain : LineScore → Bool
does_explain s = nat_lt 0 s.hit_bits && (s.missed_bits == 0 && s.false_bits == 0)

-- ---- suspects

-- a number with the score of no line
abbrev pub suspect_begun : ℕ → Suspect
suspect_begun number = record { number = number; explained = 0; hit_bits = 0; missed_bits = 0; false_bits = 0 }

abbrev pub has_hit : Suspect → Bool
has_hit suspect = nat_lt 0 suspect.hit_bits
