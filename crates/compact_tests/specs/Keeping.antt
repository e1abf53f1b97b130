-- The vectors that are kept, and their classes.
use Rattle.std.specs.Prelude.{◌≡◌, ◌<◌, ℕ, Bool, List, [], length, map, take, slice_index_or}
use Rattle.net_model.specs.ClassTable.{ClassTable, class_table, class_at, SplitBy}
use Rattle.kept_vectors.specs.Kept.{IsFiner}
use Rattle.compact_tests.specs.declared.keeping.Keeping.{Keeping}
use Rattle.compact_tests.specs.Remaining.{Answered, answered_rows}
use Rattle.compact_tests.specs.Numbered.{AreClassRows}
use Rattle.compact_tests.specs.Thinning.{HaveSameAnswers}

-- The vectors at these places.
abbrev pub vectors_at : List (List Bool) → List ℕ → List (List Bool)
vectors_at patterns places = map (λ place. slice_index_or patterns place []) places

-- Numbers of one class answer alike to each of the patterns, and each of these splits a class of those before it.
pub record AreNeededOf (t : ClassTable) (kept : List Answered) : Type 0 where
  pub alike : (m n : ℕ) → m < length t.class_of → n < length t.class_of → class_at t m ≡ class_at t n → HaveSameAnswers (answered_rows kept) m n
  pub splits : (pattern : ℕ) → pattern < length kept → SplitBy (class_table (length t.class_of) (take pattern (answered_rows kept))) (slice_index_or kept pattern ([], [])).1

-- The classes are those of the table. Numbers in one of these classes are in one of the kept classes, and have the same
-- row of bits.
pub record IsKeeping (t : ClassTable) (keeping : Keeping) : Type 0 where
  pub classes : keeping.classes.now ≡ t
  pub finer : IsFiner keeping.kept t
  pub rows : AreClassRows t keeping.rows

-- The kept classes are those of the first `count` patterns.
abbrev pub IsKeptTo : ClassTable → List Answered → ℕ → Keeping → Type 0
IsKeptTo t kept count keeping = keeping.kept ≡ class_table (length t.class_of) (take count (answered_rows kept))
