-- How far the entry of a fault number is from what a partial log says.
use Rattle.std.specs.Prelude.{ℕ, ◌*◌, Bool, List, [], ◌∷◌, take, drop, sum_by, map, nat_lt, if◌then◌else◌}
use Rattle.std.specs.List.{list_all, range_with_len}
use Rattle.net_model.specs.Rows.{row_at}
use Rattle.dict_rows.specs.declared.dict.Dict.{Dict}
use Rattle.dict_rows.specs.declared.dict.DictKind.{DictKind}
use Rattle.dict_rows.specs.declared.dict.DictKind.TheVariants.{PassFail, Full, SameDiff}
use Rattle.dict_rows.specs.Dictionary.{entry_of}
use Rattle.ranked_diag.specs.declared.partial.Seen.{Seen}
use Rattle.ranked_diag.specs.declared.partial.Seen.TheVariants.{Zero, One, Unseen}
use Rattle.ranked_diag.specs.Seen.{is_seen, differing_bits}
use Rattle.ranked_diag.specs.PartialLog.{Line}

-- what observed answers say of an entry bit against a baseline: 1 if some observed bit differs from it, 0 if all bits
-- are observed and equal it, and else nothing
abbrev pub seen_difference : List Bool → List Seen → Seen
seen_difference baseline seen = if nat_lt 0 (differing_bits seen baseline) then One else if list_all is_seen seen then Zero else Unseen

-- what was seen of the bits that an entry has for a pattern: in a full one a bit for each position, in another one bit
abbrev pub seen_part : DictKind → List (List Bool) → Line → List Seen
seen_part PassFail baselines line = seen_difference (row_at baselines line.0) line.1 ∷ []
seen_part Full baselines line = line.1
seen_part SameDiff baselines line = seen_difference (row_at baselines line.0) line.1 ∷ []

-- how many bits an entry has for a pattern
abbrev pub part_width : DictKind → ℕ → ℕ
part_width PassFail positions = 1
part_width Full positions = positions
part_width SameDiff positions = 1

-- the bits that an entry has for a pattern
abbrev pub entry_part : ℕ → List Bool → ℕ → List Bool
entry_part width entry pattern = take width (drop (pattern * width) entry)

-- how many bits of an entry differ from what a line says of them
abbrev pub line_mismatches : Dict → List Bool → Line → ℕ
line_mismatches d entry line = differing_bits (seen_part d.kind d.baselines line) (entry_part (part_width d.kind d.positions) entry line.0)

-- how many bits of an entry differ from what the lines say of them
abbrev pub entry_mismatches : Dict → List Line → List Bool → ℕ
entry_mismatches d lines entry = sum_by (line_mismatches d entry) lines

-- how many bits of a number's entry differ from what the lines say of them
unfoldable pub mismatch_count : Dict → List Line → ℕ → ℕ
mismatch_count d lines number = entry_mismatches d lines (entry_of d number)

-- the mismatch count of each number
abbrev pub mismatch_counts : Dict → List Line → List ℕ
mismatch_counts d lines = map (mismatch_count d lines) (range_with_len 0 d.numbers)
