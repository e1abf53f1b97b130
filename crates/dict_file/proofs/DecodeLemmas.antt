-- What is read of right bytes is spelled by them.
use Rattle.std.proofs.Common.{◌≡◌, ◌∙◌, ℕ, ◌<◌, ◌≤◌, Bool, List, [], length, get_or, refl, sym, ap, subst, arith}
use Rattle.std.proofs.lemmas.List.{get_or_default}
use Rattle.std.proofs.lemmas.List.FromFn.{fill_by_all}
use Rattle.net_model.specs.Rows.{AreWide}
use Rattle.dict_rows.specs.Grouped.{IsGrouped, AreGroupsOf}
use Rattle.dict_rows.specs.Dictionary.{entry_of}
use Rattle.dict_file.specs.declared.fault.DictVersion.{DictVersion}
use Rattle.dict_file.specs.declared.fault.DictVersion.TheVariants.{One, Two}
use Rattle.dict_file.specs.declared.head.FileHead.{FileHead}
use Rattle.dict_file.specs.declared.row_bytes.ReadRows.{ReadRows}
use Rattle.dict_file.specs.Heads.{IsDictHead, Begins, dict_with}
use Rattle.dict_file.specs.Spelling.{version_number, entry_rows, SpellsDict}
use Rattle.dict_file.specs.Reading as reading
use Rattle.dict_file.specs.Reading.{row_part, new_row_part, baseline_rows_at, entries_one, entries_two, groups_before, group_count_part, groups_part}
use Rattle.dict_file.specs.Places.{AreRead, first_rows}
use Rattle.dict_file.proofs.FieldLemmas.{AreBytes, AreFields, length-rows_of, wide_rows_of}
use Rattle.dict_file.proofs.VersionOne.{spells_one}
use Rattle.dict_file.proofs.VersionTwo.{spells_two}
use Rattle.dict_file.proofs.GroupReading.{grouped_read}
use Rattle.dict_file.proofs.PlaceLemmas.{different_from_new, length-read}

fields_with : (bytes : List ℕ) (v : DictVersion) (head : FileHead) (baselines : List (List Bool)) (groups : List ℕ) (entries : List (List Bool)) → IsDictHead bytes head → head.version ≡ v → AreFields bytes v (dict_with head baselines groups entries)
fields_with bytes v head baselines groups entries is same = record {
  version_is = sym is.version_is ∙ ap version_number same;
  kind_is = sym is.kind_is;
  positions_are = sym is.positions_are;
  patterns_are = sym is.patterns_are;
  numbers_are = sym is.numbers_are;
}

-- Entries are as wide as the rows from which the groups were made.
wide_entries : (rows : List (List Bool)) (groups : List ℕ) (entries : List (List Bool)) (width : ℕ) → AreGroupsOf rows groups entries → AreWide width rows → AreWide width entries
wide_entries rows groups entries width are wide = λ g d h.
    let at = (are.grouped.used g).1 h in
    let n = at.0 in
    let low : n < length rows = omega (arith, at.1, are.grouped.one_each) in
    let group : get_or groups n 0 ≡ g = get_or_default groups n 0 g at.1 ∙ at.2 in
    ap length (get_or_default entries g d [] h ∙ (ap (λ k. get_or entries k []) (sym group) ∙ are.own n low)) ∙ wide n [] low

pub read_one : {bytes : List ℕ} {head : FileHead} {above below : ReadRows} {groups : List ℕ} {entries : List (List Bool)} → AreBytes bytes → Begins bytes One head → AreRead bytes (row_part bytes) (baseline_rows_at bytes 19) above → AreRead bytes (row_part bytes) (entries_one bytes) below
    → AreGroupsOf below.rows groups entries → length bytes ≤ below.end → SpellsDict One (dict_with head above.rows groups entries) bytes
read_one {bytes} {head} {above} {below} {groups} {entries} fits begins base read are ends =
    let is = begins.is in
    let rows = below.rows in
    let d = dict_with head above.rows groups entries in
    let long : length rows ≡ head.numbers = length-read read ∙ sym is.numbers_are in
    let wide : AreWide (reading.read_entry_width bytes) rows = subst (AreWide (reading.read_entry_width bytes)) (sym read.rows_are) (wide_rows_of bytes (entries_one bytes) (reading.numbers bytes)) in
    let spelled : entry_rows d ≡ rows = sym (fill_by_all (entry_of d) rows head.numbers [] long (λ n h. sym (are.own n (omega (arith, h, long))))) in
    spells_one {bytes = bytes} {d = d} fits begins.short
    (record {
      head = is.right;
      fields = fields_with bytes One head above.rows groups entries is begins.version_is;
      baselines_are = base.rows_are;
      entries_wide = wide_entries rows groups entries (reading.read_entry_width bytes) are wide;
      grouped = subst (λ n. IsGrouped n groups entries) long are.grouped;
    })
    (base.right, (read.right, subst (λ n. length bytes ≤ n) read.end_is ends)) (spelled ∙ read.rows_are)

pub read_two : {bytes : List ℕ} {head : FileHead} {above below : ReadRows} {groups : List ℕ} → AreBytes bytes → Begins bytes Two head → (group_count_part bytes).Right → AreRead bytes (row_part bytes) (baseline_rows_at bytes 23) above → groups ≡ groups_before bytes (reading.numbers bytes) → (groups_part bytes).Right
    → AreRead bytes (new_row_part bytes) (entries_two bytes) below → length bytes ≤ below.end → SpellsDict Two (dict_with head above.rows groups below.rows) bytes
read_two {bytes} {head} {above} {below} {groups} fits begins counted base groups_are used read ends =
    let is = begins.is in
    let rows = first_rows bytes (entries_two bytes) (reading.groups bytes) in
    let different = different_from_new bytes (entries_two bytes) (reading.groups bytes) (λ k h. (read.right k h).1) in
    let long : length rows ≡ reading.groups bytes = length-rows_of bytes (entries_two bytes) (reading.groups bytes) in
    let grouped : IsGrouped head.numbers (groups_before bytes (reading.numbers bytes)) rows = grouped_read bytes head.numbers (reading.groups bytes) rows is.numbers_are refl long different used.0 used.1 in
    spells_two {bytes = bytes} {d = dict_with head above.rows groups below.rows} fits begins.short
    (record {
      head = is.right;
      fields = fields_with bytes Two head above.rows groups below.rows is begins.version_is;
      baselines_are = base.rows_are;
      entries_wide = subst (AreWide (reading.read_entry_width bytes)) (sym read.rows_are) (wide_rows_of bytes (entries_two bytes) (reading.groups bytes));
      grouped = subst (λ gs. IsGrouped head.numbers gs below.rows) (sym groups_are) (subst (λ es. IsGrouped head.numbers (groups_before bytes (reading.numbers bytes)) es) (sym read.rows_are) grouped);
    })
    (counted, (base.right, (used, (read.right, subst (λ n. length bytes ≤ n) read.end_is ends)))) groups_are read.rows_are
