-- Files of version 1: a spelled dictionary is read as it is, and what is read is spelled in the same way.
use Rattle.std.proofs.Common.{◌≡◌, ◌∙◌, ℕ, ◌+◌, ◌<◌, ◌≤◌, Bool, List, [], ◌++◌, length, get_or, sym, ap, subst, arith}
use Rattle.std.proofs.lemmas.List.{length-append}
use Rattle.std.proofs.lemmas.List.Elements.{Contains-get_or}
use Rattle.std.proofs.lemmas.List.FromFn.{length-map-range_with_len, get_or-map-range_with_len}
use Rattle.net_model.specs.Rows.{AreWide}
use Rattle.dict_rows.specs.declared.dict.Dict.{Dict}
use Rattle.dict_rows.specs.Dictionary as dictionary
use Rattle.dict_rows.specs.Dictionary.{IsShaped, IsGroupedDict, entry_of}
use Rattle.dict_file.specs.declared.reading.TheConstants.{DICTIONARY_LIMIT}
use Rattle.dict_file.specs.declared.fault.DictVersion.{DictVersion}
use Rattle.dict_file.specs.declared.fault.DictVersion.TheVariants.{One}
use Rattle.dict_file.specs.Spelling.{limit, HasDictSpelling, dict_spelling, SpellsDict, packed_rows, entry_rows, head_bytes}
use Rattle.dict_file.specs.Reading as reading
use Rattle.dict_file.specs.Reading.{rows_end, row_part, head_part, part_one, baseline_rows_at, entries_one}
use Rattle.dict_file.specs.Places.{first_rows}
use Rattle.dict_file.proofs.Standing.{IsAt, at_itself, at_first, at_second, at_both, at_whole}
use Rattle.dict_file.proofs.FieldLemmas.{AreBytes, AreRowsOf, rows_read, rows_written, length-rows_of, wide_rows_of, AreFields, HasHead, head_stands, fields_stand, baselines_counted, entries_measured}

-- ---- the entries of a grouped dictionary

-- The group of a number has an entry row.
pub group_known : (d : Dict) → IsGroupedDict d → (n : ℕ) → n < d.numbers → get_or d.groups n 0 < length d.entries
group_known d is n h = (is.used (get_or d.groups n 0)).0 (Contains-get_or d.groups n 0 (omega (arith, h, is.one_each)))

pub length-entry_rows : (d : Dict) → length (entry_rows d) ≡ d.numbers
length-entry_rows d = length-map-range_with_len (entry_of d) 0 d.numbers

pub get_or-entry_rows : (d : Dict) (n : ℕ) (e : List Bool) → n < d.numbers → get_or (entry_rows d) n e ≡ entry_of d n
get_or-entry_rows d n e h = get_or-map-range_with_len (entry_of d) 0 d.numbers n n e h (omega arith)

pub entries_wide : (d : Dict) → IsGroupedDict d → IsShaped d → AreWide (dictionary.entry_width d.kind d.patterns d.positions) (entry_rows d)
entries_wide d is shaped = λ n e h.
    let low : n < d.numbers = omega (arith, h, length-entry_rows d) in
    ap length (get_or-entry_rows d n e low) ∙ shaped.entries (get_or d.groups n 0) [] (group_known d is n low)

-- ---- a spelled dictionary is read

-- The bytes have the fields, the baselines and the entries of a dictionary, and no more.
pub record ReadsOne (bytes : List ℕ) (d : Dict) : Type 0 where
  pub head : HasHead bytes One d
  pub baselines : AreRowsOf bytes (baseline_rows_at bytes 19) d.baselines
  pub entries : AreRowsOf bytes (entries_one bytes) (entry_rows d)
  pub ends : length bytes ≤ rows_end (entries_one bytes)

-- Baselines of a shaped dictionary.
pub baselines_read : {bytes : List ℕ} {v : DictVersion} {d : Dict} (from : ℕ) → AreFields bytes v d → IsShaped d → IsAt bytes from (packed_rows d.baselines) → AreRowsOf bytes (baseline_rows_at bytes from) d.baselines
baselines_read {bytes} {v} {d} from fields shaped is =
    rows_read bytes (baseline_rows_at bytes from) d.baselines
    (subst (λ w. AreWide w d.baselines) (sym fields.positions_are) shaped.baselines.width_is)
    (shaped.baselines.count_is ∙ sym (baselines_counted fields)) is

pub reads_one : {bytes : List ℕ} {d : Dict} → SpellsDict One d bytes → ReadsOne bytes d
unfolding dict_spelling
reads_one {bytes} {d} spells =
    let grouped = spells.has.grouped in
    let shaped = spells.has.shaped in
    let rows = packed_rows d.baselines in
    let whole : IsAt bytes 0 (dict_spelling One d) = subst (IsAt bytes 0) spells.bytes_are (at_itself bytes) in
    let head : HasHead bytes One d = head_stands bytes One d spells.has (at_first (head_bytes One d) (rows ++ packed_rows (entry_rows d)) whole) in
    let body : IsAt bytes 19 (rows ++ packed_rows (entry_rows d)) = at_second (head_bytes One d) (rows ++ packed_rows (entry_rows d)) whole in
    let baselines = baselines_read 19 head.fields shaped (at_first rows (packed_rows (entry_rows d)) body) in
    let rest : IsAt bytes (rows_end (baseline_rows_at bytes 19)) (packed_rows (entry_rows d)) = subst (λ n. IsAt bytes n (packed_rows (entry_rows d))) (sym baselines.ends) (at_second rows (packed_rows (entry_rows d)) body) in
    let entries : AreRowsOf bytes (entries_one bytes) (entry_rows d) =
    rows_read bytes (entries_one bytes) (entry_rows d)
    (subst (λ w. AreWide w (entry_rows d)) (sym (entries_measured head.fields)) (entries_wide d grouped shaped))
    (length-entry_rows d ∙ sym head.fields.numbers_are) rest in
    let long : length bytes ≡ 19 + (length rows + length (packed_rows (entry_rows d))) =
    ap length spells.bytes_are ∙ (length-append (head_bytes One d) (rows ++ packed_rows (entry_rows d)) ∙ ap (λ n. 19 + n) (length-append rows (packed_rows (entry_rows d)))) in
    record { head = head; baselines = baselines; entries = entries; ends = omega (arith, long, entries.ends, baselines.ends) }

pub right_one : {bytes : List ℕ} {d : Dict} → ReadsOne bytes d → (part_one bytes).Right
right_one {bytes} {d} reads = (reads.baselines.right, (reads.entries.right, reads.ends))

-- ---- what is read is spelled

-- A dictionary of the fields, the baselines and the entries of the bytes.
pub record IsReadAs (bytes : List ℕ) (v : DictVersion) (from : ℕ) (d : Dict) : Type 0 where
  pub head : (head_part bytes).Right
  pub fields : AreFields bytes v d
  pub baselines_are : d.baselines ≡ first_rows bytes (baseline_rows_at bytes from) (reading.read_baseline_count bytes)
  pub entries_wide : AreWide (reading.read_entry_width bytes) d.entries
  pub grouped : IsGroupedDict d

pub spelling_of : {bytes : List ℕ} {v : DictVersion} {from : ℕ} {d : Dict} → IsReadAs bytes v from d → HasDictSpelling d
spelling_of {bytes} {v} {from} {d} is = record {
  grouped = is.grouped;
  shaped = record {
    baselines = record {
      count_is = ap length is.baselines_are ∙ (length-rows_of bytes (baseline_rows_at bytes from) (reading.read_baseline_count bytes) ∙ baselines_counted is.fields);
      width_is = subst (λ w. AreWide w d.baselines) is.fields.positions_are
          (subst (AreWide (reading.positions bytes)) (sym is.baselines_are) (wide_rows_of bytes (baseline_rows_at bytes from) (reading.read_baseline_count bytes)));
    };
    entries = subst (λ w. AreWide w d.entries) (entries_measured is.fields) is.entries_wide;
  };
  positions = subst (λ n. n ≤ limit) is.fields.positions_are is.head.1.1.1.0.1;
  patterns = subst (λ n. n ≤ limit) is.fields.patterns_are is.head.1.1.1.1.0.1;
  numbers = subst (λ n. n ≤ limit) is.fields.numbers_are is.head.1.1.1.1.1.0.1;
  some_number = subst (λ n. 0 < n) is.fields.numbers_are is.head.1.1.1.1.1.1;
}

-- The bytes have the baselines where they are read.
pub baselines_stand : {bytes : List ℕ} {v : DictVersion} {d : Dict} (from : ℕ) → AreBytes bytes → IsReadAs bytes v from d → from ≤ length bytes
    → ((k : ℕ) → k < reading.read_baseline_count bytes → (row_part bytes (baseline_rows_at bytes from) k).Right) → IsAt bytes from (packed_rows d.baselines)
baselines_stand {bytes} {v} {d} from fits is within right =
    subst (λ rows. IsAt bytes from (packed_rows rows)) (sym is.baselines_are) (rows_written bytes (baseline_rows_at bytes from) fits within right)

pub spells_one : {bytes : List ℕ} {d : Dict} → AreBytes bytes → length bytes ≤ DICTIONARY_LIMIT → IsReadAs bytes One 19 d → (part_one bytes).Right → entry_rows d ≡ first_rows bytes (entries_one bytes) (reading.numbers bytes) → SpellsDict One d bytes
unfolding dict_spelling
spells_one {bytes} {d} fits short is right entries_are =
    let head : IsAt bytes 0 (head_bytes One d) = fields_stand bytes One d fits is.head is.fields in
    let base : IsAt bytes 19 (packed_rows d.baselines) = baselines_stand 19 fits is head.inside right.0 in
    let has = spelling_of is in
    let read = baselines_read 19 is.fields has.shaped base in
    let within : rows_end (baseline_rows_at bytes 19) ≤ length bytes = omega (arith, read.ends, base.inside) in
    let rest : IsAt bytes (rows_end (baseline_rows_at bytes 19)) (packed_rows (entry_rows d)) =
    subst (λ rows. IsAt bytes (rows_end (baseline_rows_at bytes 19)) (packed_rows rows)) (sym entries_are) (rows_written bytes (entries_one bytes) fits within right.1.0) in
    let entries : AreRowsOf bytes (entries_one bytes) (entry_rows d) =
    rows_read bytes (entries_one bytes) (entry_rows d)
    (subst (λ w. AreWide w (entry_rows d)) (sym (entries_measured is.fields)) (entries_wide d has.grouped has.shaped))
    (length-entry_rows d ∙ sym is.fields.numbers_are) rest in
    let rows = packed_rows d.baselines in
    let all : IsAt bytes 0 (dict_spelling One d) =
    at_both (head_bytes One d) (rows ++ packed_rows (entry_rows d)) head
    (at_both rows (packed_rows (entry_rows d)) base (subst (λ n. IsAt bytes n (packed_rows (entry_rows d))) read.ends rest)) in
    let long : length (dict_spelling One d) ≡ 19 + (length rows + length (packed_rows (entry_rows d))) =
    length-append (head_bytes One d) (rows ++ packed_rows (entry_rows d)) ∙ ap (λ n. 19 + n) (length-append rows (packed_rows (entry_rows d))) in
    record { has = has; bytes_are = at_whole bytes (dict_spelling One d) all (omega (arith, long, right.1.1, entries.ends, read.ends)); short = short }
