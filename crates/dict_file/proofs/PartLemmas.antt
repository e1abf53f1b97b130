-- Parts of a file are right, or refused for one fault, and never both.
use Rattle.std.proofs.Common.{◌≡◌, ◌∙◌, ℕ, ◌+◌, ◌-◌, ◌*◌, ◌<◌, ◌≤◌, ◌⊎◌, List, length, take, sym, subst, arith, inl, inr}
use Rattle.std.specs.Prelude.{codes}
use Rattle.std.proofs.lemmas.Bool.{cases_lt}
use Rattle.dict_file.specs.declared.reading.TheConstants.{DICTIONARY_LIMIT}
use Rattle.dict_file.specs.Packing.{byte_count, HasZeroPadding}
use Rattle.dict_file.specs.declared.fault.DictFault.{DictFault}
use Rattle.dict_file.specs.declared.fault.DictFault.TheVariants.{Magic, Version, Kind, Short, Value, Trailing, TooLong}
use Rattle.dict_file.specs.Spelling.{limit}
use Rattle.dict_file.specs.Parts.{Part, wants, reaches, ◌⊳◌, each, when}
use Rattle.dict_file.specs.declared.row_bytes.RowsAt.{RowsAt}
use Rattle.dict_file.specs.Reading.{row_start, rows_end, row_part, new_row_part, IsNewRow, number_at, version, kind, magic_part, version_part, kind_part, count_part, head_part, read_baseline_count, baseline_rows_at, entries_one, end_part, part_one, group_count_part, groups_from, group_part, groups_part, IsGroupCount, IsGroupNumber, AreUsed, numbers, groups, entries_two, part_two, file_part}

pub record IsExclusive (part : Part) : Type 0 where
  pub apart : (fault : DictFault) → part.Right → part.Refused fault → ⊥
  pub one : (fault other : DictFault) → part.Refused fault → part.Refused other → fault ≡ other

pub wants_is : (Fact : Type 0) (fault : DictFault) → IsExclusive (wants Fact fault)
wants_is Fact fault = record { apart = λ f right refused. refused.0 right; one = λ f g a b. a.1 ∙ sym b.1 }

pub then_is : (first second : Part) → IsExclusive first → IsExclusive second → IsExclusive (first ⊳ second)
then_is first second a b = record {
  apart = λ f right refused. elim refused [ inl x ↦ a.apart f right.0 x | inr y ↦ b.apart f right.1 y.1 ];
  one = λ f g x y. elim x [
    | inl x1 ↦ elim y [ inl y1 ↦ a.one f g x1 y1 | inr y2 ↦ absurd (a.apart f y2.0 x1) ]
    | inr x2 ↦ elim y [ inl y1 ↦ absurd (a.apart g x2.0 y1) | inr y2 ↦ b.one f g x2.1 y2.1 ]
  ];
}

pub each_is : (count : ℕ) (part : ℕ → Part) → ((k : ℕ) → IsExclusive (part k)) → IsExclusive (each count part)
each_is count part are = record {
  apart = λ f right (k, below, before, refused). (are k).apart f (right k below) refused;
  one = λ f g (j, bj, rj, xj) (k, bk, rk, xk). elim (cases_lt j k) [
    | inl low ↦ absurd ((are j).apart f (rk j low) xj)
    | inr over ↦ elim (cases_lt k j) [
      | inl low ↦ absurd ((are k).apart g (rj k low) xk)
      | inr past ↦ let e : j ≡ k = omega (arith, over, past) in (are k).one f g (subst (λ i. (part i).Refused f) e xj) xk
    ]
  ];
}

pub when_is : (Fact : Type 0) (part : Part) → IsExclusive part → IsExclusive (when Fact part)
when_is Fact part is = record { apart = λ f right refused. is.apart f (right refused.0) refused.1; one = λ f g x y. is.one f g x.1 y.1 }

-- ---- the parts of a file

reach_is : (bytes : List ℕ) (end : ℕ) → IsExclusive (reaches bytes end)
reach_is bytes end = wants_is (end ≤ length bytes) (Short (length bytes))

reach_then : (bytes : List ℕ) (end : ℕ) (Fact : Type 0) (fault : DictFault) → IsExclusive (reaches bytes end ⊳ wants Fact fault)
reach_then bytes end Fact fault = then_is (reaches bytes end) (wants Fact fault) (reach_is bytes end) (wants_is Fact fault)

row_is : (bytes : List ℕ) (rows : RowsAt) (k : ℕ) → IsExclusive (row_part bytes rows k)
row_is bytes rows k =
    reach_then bytes (row_start rows k + byte_count rows.width) (HasZeroPadding bytes (row_start rows k) rows.width) (Value (row_start rows k + byte_count rows.width - 1))

new_row_is : (bytes : List ℕ) (rows : RowsAt) (k : ℕ) → IsExclusive (new_row_part bytes rows k)
new_row_is bytes rows k =
    let fault = Value (row_start rows k + byte_count rows.width - 1) in
    then_is (row_part bytes rows k) (wants (IsNewRow bytes rows k) fault) (row_is bytes rows k) (wants_is (IsNewRow bytes rows k) fault)

rows_are : (bytes : List ℕ) (rows : RowsAt) (count : ℕ) → IsExclusive (each count (row_part bytes rows))
rows_are bytes rows count = each_is count (row_part bytes rows) (row_is bytes rows)

module _ (bytes : List ℕ) where
  count_is : (from : ℕ) → IsExclusive (count_part bytes from)
  count_is from = reach_then bytes (from + 4) (number_at bytes from ≤ limit) (Value from)

  end_is : (end : ℕ) → IsExclusive (end_part bytes end)
  end_is end = wants_is (length bytes ≤ end) (Trailing end)

  -- What is left of the parts, starting at one.
  abbrev from_some : Part
  from_some = wants (0 < numbers bytes) (Value 15)

  abbrev from_numbers : Part
  from_numbers = count_part bytes 15 ⊳ from_some

  abbrev from_patterns : Part
  from_patterns = count_part bytes 11 ⊳ from_numbers

  abbrev from_positions : Part
  from_positions = count_part bytes 7 ⊳ from_patterns

  abbrev from_kind : Part
  from_kind = kind_part bytes ⊳ from_positions

  abbrev from_version : Part
  from_version = version_part bytes ⊳ from_kind

  head_is : IsExclusive (head_part bytes)
  head_is =
      then_is (magic_part bytes) from_version (reach_then bytes 4 (take 4 bytes ≡ codes "DIAT") Magic)
      (then_is (version_part bytes) from_kind (reach_then bytes 6 ((version bytes ≡ 1) ⊎ (version bytes ≡ 2)) Version)
      (then_is (kind_part bytes) from_positions (reach_then bytes 7 ((kind bytes ≡ 1) ⊎ ((kind bytes ≡ 2) ⊎ (kind bytes ≡ 3))) Kind)
      (then_is (count_part bytes 7) from_patterns (count_is 7)
      (then_is (count_part bytes 11) from_numbers (count_is 11)
      (then_is (count_part bytes 15) from_some (count_is 15) (wants_is (0 < numbers bytes) (Value 15)))))))

  abbrev end_one : Part
  end_one = end_part bytes (rows_end (entries_one bytes))

  abbrev rows_one : Part
  rows_one = each (numbers bytes) (row_part bytes (entries_one bytes)) ⊳ end_one

  one_is : IsExclusive (part_one bytes)
  one_is =
      then_is (each (read_baseline_count bytes) (row_part bytes (baseline_rows_at bytes 19))) rows_one (rows_are bytes (baseline_rows_at bytes 19) (read_baseline_count bytes))
      (then_is (each (numbers bytes) (row_part bytes (entries_one bytes))) end_one (rows_are bytes (entries_one bytes) (numbers bytes)) (end_is (rows_end (entries_one bytes))))

  group_is : (k : ℕ) → IsExclusive (group_part bytes k)
  group_is k = reach_then bytes (groups_from bytes + 4 * k + 4) (IsGroupNumber bytes k) (Value (groups_from bytes + 4 * k))

  groups_are : IsExclusive (groups_part bytes)
  groups_are =
      let fault = Value (groups_from bytes + 4 * (numbers bytes - 1)) in
      then_is (each (numbers bytes) (group_part bytes)) (wants (AreUsed bytes) fault) (each_is (numbers bytes) (group_part bytes) group_is) (wants_is (AreUsed bytes) fault)

  abbrev end_two : Part
  end_two = end_part bytes (rows_end (entries_two bytes))

  abbrev rows_two : Part
  rows_two = each (groups bytes) (new_row_part bytes (entries_two bytes)) ⊳ end_two

  abbrev groups_two : Part
  groups_two = groups_part bytes ⊳ rows_two

  abbrev baselines_two : Part
  baselines_two = each (read_baseline_count bytes) (row_part bytes (baseline_rows_at bytes 23)) ⊳ groups_two

  two_is : IsExclusive (part_two bytes)
  two_is =
      then_is (group_count_part bytes) baselines_two (reach_then bytes 23 (IsGroupCount bytes) (Value 19))
      (then_is (each (read_baseline_count bytes) (row_part bytes (baseline_rows_at bytes 23))) groups_two (rows_are bytes (baseline_rows_at bytes 23) (read_baseline_count bytes))
      (then_is (groups_part bytes) rows_two groups_are
      (then_is (each (groups bytes) (new_row_part bytes (entries_two bytes))) end_two (each_is (groups bytes) (new_row_part bytes (entries_two bytes)) (new_row_is bytes (entries_two bytes)))
      (end_is (rows_end (entries_two bytes))))))

  abbrev both_bodies : Part
  both_bodies = when (version bytes ≡ 1) (part_one bytes) ⊳ when (version bytes ≡ 2) (part_two bytes)

  pub file_is : IsExclusive (file_part bytes)
  file_is =
      then_is (wants (length bytes ≤ DICTIONARY_LIMIT) (TooLong DICTIONARY_LIMIT)) (head_part bytes ⊳ both_bodies) (wants_is (length bytes ≤ DICTIONARY_LIMIT) (TooLong DICTIONARY_LIMIT))
      (then_is (head_part bytes) both_bodies head_is
      (then_is (when (version bytes ≡ 1) (part_one bytes)) (when (version bytes ≡ 2) (part_two bytes)) (when_is (version bytes ≡ 1) (part_one bytes) one_is) (when_is (version bytes ≡ 2) (part_two bytes) two_is)))
