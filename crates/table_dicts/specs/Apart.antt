-- How many pairs of classes have representatives with different entries.
use Rattle.std.specs.Prelude.{ℕ, Bool, not, List, sum_by, count_by}
use Rattle.std.specs.List.{range_with_len}
use Rattle.net_model.specs.ClassTable.{ClassTable, class_count, representative, same_bits}

-- Whether the representatives of two classes have different entries.
abbrev pub has_apart : ClassTable → (ℕ → List Bool) → ℕ → ℕ → Bool
has_apart t entry low high = not (same_bits (entry (representative t low)) (entry (representative t high)))

-- The number of pairs of classes, the lower first, whose representatives have different entries.
unfoldable pub apart_count : ClassTable → (ℕ → List Bool) → ℕ
apart_count t entry = sum_by (λ high. count_by (λ low. has_apart t entry low high) (range_with_len 0 high)) (range_with_len 0 (class_count t))
