-- Fault dictionaries as a whole, the entry of observed answers, and the numbers that a dictionary lists for them.
use Rattle.std.specs.Prelude.{◌≡◌, ℕ, ◌<◌, ◌*◌, Bool, List, [], length, flat_map, filter, All}
use Rattle.std.specs.List.{range_with_len}
use Rattle.net_model.specs.ClassTable.{same_bits}
use Rattle.dict_rows.specs.declared.dict.Dict.{Dict}
use Rattle.dict_rows.specs.declared.dict.DictKind.{DictKind}
use Rattle.dict_rows.specs.declared.dict.DictKind.TheVariants.{PassFail, Full, SameDiff}
use Rattle.dict_rows.specs.AnswerTable.{Answers}
use Rattle.dict_rows.specs.Entries.{differences, full_entry, same_diff_entry, pass_fail_entry, free_baselines}
use Rattle.dict_rows.specs.Rows.{AreRows}
use Rattle.dict_rows.specs.Grouped.{IsGrouped, group_row}

-- The entry of a number: the row of its group.
abbrev pub entry_of : Dict → ℕ → List Bool
entry_of d number = group_row d.groups d.entries number

-- There is a group number for each number and one entry row for each group, and no row is equal to another.
abbrev pub IsGroupedDict : Dict → Type 0
IsGroupedDict d = IsGrouped d.numbers d.groups d.entries

-- The number of baselines that a dictionary has.
abbrev pub baseline_count : DictKind → ℕ → ℕ
baseline_count PassFail patterns = patterns
baseline_count Full patterns = 0
baseline_count SameDiff patterns = patterns

-- The number of bits of an entry.
abbrev pub entry_width : DictKind → ℕ → ℕ → ℕ
entry_width PassFail patterns positions = patterns
entry_width Full patterns positions = patterns * positions
entry_width SameDiff patterns positions = patterns

-- There are as many baselines as the fields say, and each row has the width that they say.
pub record IsShaped (d : Dict) : Type 0 where
  pub baselines : AreRows (baseline_count d.kind d.patterns) d.positions d.baselines
  pub entries : All (λ row. length row ≡ entry_width d.kind d.patterns d.positions) d.entries

-- The dictionary is of this kind, grouped and shaped, and has the sizes of the answers, these baselines and this entry
-- for each number.
pub record IsDictionary (d : Dict) (kind : DictKind) (t : Answers) (baselines : List (List Bool)) (entry : ℕ → List Bool) : Type 0 where
  pub kind_is : d.kind ≡ kind
  pub positions_are : d.positions ≡ t.positions
  pub patterns_are : d.patterns ≡ length t.rows
  pub numbers_are : d.numbers ≡ t.numbers
  pub baselines_are : d.baselines ≡ baselines
  pub entries_are : (number : ℕ) → number < t.numbers → entry_of d number ≡ entry number
  pub grouped : IsGroupedDict d
  pub shaped : IsShaped d

-- The full-response dictionary of these answers.
abbrev pub IsFull : Answers → Dict → Type 0
IsFull t d = IsDictionary d Full t [] (full_entry t.rows)

-- The pass/fail dictionary of these answers.
abbrev pub IsPassFail : Answers → Dict → Type 0
IsPassFail t d = IsDictionary d PassFail t (free_baselines t.rows) (pass_fail_entry t.rows)

-- The same/different dictionary of these answers with these baselines.
abbrev pub IsSameDiff : Answers → List (List Bool) → Dict → Type 0
IsSameDiff t baselines d = IsDictionary d SameDiff t baselines (same_diff_entry t.rows baselines)

-- ---- diagnosis

-- The entry that observed answers, one for each pattern, would have.
abbrev pub observed_entry : DictKind → List (List Bool) → List (List Bool) → List Bool
observed_entry PassFail baselines observed = differences observed baselines
observed_entry Full baselines observed = flat_map (λ row. row) observed
observed_entry SameDiff baselines observed = differences observed baselines

-- The numbers, ascending, whose entry is that of the observed answers.
unfoldable pub listed_numbers : Dict → List (List Bool) → List ℕ
listed_numbers d observed = filter (λ number. same_bits (entry_of d number) (observed_entry d.kind d.baselines observed)) (range_with_len 0 d.numbers)
