-- Files of version 2: a spelled dictionary is read as it is, and what is read is spelled in the same way.
use Rattle.std.proofs.Common.{◌≡◌, ◌∙◌, ℕ, ◌+◌, ◌*◌, ◌<◌, ◌≤◌, ◌⊎◌, Bool, List, [], ◌++◌, length, get_or, take, sym, ap, subst, arith, inl, inr, Contains}
use Rattle.std.specs.Prelude.{flat_map}
use Rattle.std.proofs.lemmas.Bool.{cases_lt}
use Rattle.std.proofs.lemmas.List.{length-append, length-take-le, get_or-take, take_all, nil_from_length}
use Rattle.std.proofs.lemmas.List.FromFn.{length-map-range_with_len, get_or-map-range_with_len, fill_by_all}
use Rattle.net_model.specs.Rows.{AreWide}
use Rattle.byteorder.specs.Endian.{big_bytes}
use Rattle.dict_rows.specs.declared.dict.Dict.{Dict}
use Rattle.dict_rows.specs.Grouped.{IsLeastUnused}
use Rattle.dict_rows.specs.Dictionary as dictionary
use Rattle.dict_rows.proofs.GroupLemmas.{few_groups}
use Rattle.dict_file.specs.declared.reading.TheConstants.{DICTIONARY_LIMIT}
use Rattle.dict_file.specs.declared.fault.DictVersion.TheVariants.{Two}
use Rattle.dict_file.specs.Spelling.{limit, HasDictSpelling, dict_spelling, SpellsDict, packed_rows, head_bytes}
use Rattle.dict_file.specs.Reading as reading
use Rattle.dict_file.specs.Reading.{rows_end, row_of, IsNewRow, part_two, baseline_rows_at, groups_from, group_at, groups_before, IsGroupCount, IsGroupNumber, AreUsed, entries_two}
use Rattle.dict_file.specs.Places.{first_rows}
use Rattle.dict_file.proofs.Standing.{IsAt, at_itself, at_first, at_second, at_both, at_whole}
use Rattle.dict_file.proofs.ManyRows.{length-numbers, numbers_stand, stand_numbers, number_stands, four_stand}
use Rattle.dict_file.proofs.FieldLemmas.{AreBytes, AreRowsOf, rows_read, rows_written, length-rows_of, get_or-rows_of, HasHead, head_stands, fields_stand, entries_measured, count_small}
use Rattle.dict_file.proofs.VersionOne.{group_known, baselines_read, IsReadAs, spelling_of, baselines_stand}

-- ---- lists of group numbers

pub length-groups_before : (bytes : List ℕ) (n : ℕ) → length (groups_before bytes n) ≡ n
length-groups_before bytes n = length-map-range_with_len (group_at bytes) 0 n

pub get_or-groups_before : (bytes : List ℕ) (n k : ℕ) → k < n → get_or (groups_before bytes n) k 0 ≡ group_at bytes k
get_or-groups_before bytes n k h = get_or-map-range_with_len (group_at bytes) 0 n k k 0 h (omega arith)

pub groups_taken : (bytes gs : List ℕ) → ((k : ℕ) → k < length gs → group_at bytes k ≡ get_or gs k 0) → (n : ℕ) → n ≤ length gs → take n gs ≡ groups_before bytes n
groups_taken bytes gs same n h =
    let long : length (take n gs) ≡ n = length-take-le n gs h in
    fill_by_all (group_at bytes) (take n gs) n 0 long (λ k low. get_or-take n gs k 0 low ∙ sym (same k (omega (arith, low, h))))

-- ---- a spelled dictionary is read

-- The bytes have the fields, the baselines, the groups and the entries of a dictionary, and no more.
pub record ReadsTwo (bytes : List ℕ) (d : Dict) : Type 0 where
  pub head : HasHead bytes Two d
  pub reaches : 23 ≤ length bytes
  pub count : reading.groups bytes ≡ length d.entries
  pub baselines : AreRowsOf bytes (baseline_rows_at bytes 23) d.baselines
  pub groups_stand : IsAt bytes (groups_from bytes) (flat_map (big_bytes 4) d.groups)
  pub groups_are : (k : ℕ) → k < d.numbers → group_at bytes k ≡ get_or d.groups k 0
  pub entries : AreRowsOf bytes (entries_two bytes) d.entries
  pub ends : length bytes ≤ rows_end (entries_two bytes)

-- What comes after each part of the body.
abbrev pub behind_groups : Dict → List ℕ
behind_groups d = packed_rows d.entries

abbrev pub behind_baselines : Dict → List ℕ
behind_baselines d = flat_map (big_bytes 4) d.groups ++ behind_groups d

abbrev pub behind_count : Dict → List ℕ
behind_count d = packed_rows d.baselines ++ behind_baselines d

abbrev pub behind_head : Dict → List ℕ
behind_head d = big_bytes 4 (length d.entries) ++ behind_count d

few_entries : {d : Dict} → HasDictSpelling d → length d.entries ≤ limit
few_entries {d} has = omega (arith, few_groups has.grouped, has.numbers)

length-spelling_two : (d : Dict) → length (dict_spelling Two d) ≡ 23 + (length (packed_rows d.baselines) + (4 * length d.groups + length (packed_rows d.entries)))
unfolding dict_spelling
length-spelling_two d =
    omega (
      arith,
      length-append (head_bytes Two d) (behind_head d),
      length-append (big_bytes 4 (length d.entries)) (behind_count d),
      length-append (packed_rows d.baselines) (behind_baselines d),
      length-append (flat_map (big_bytes 4) d.groups) (behind_groups d),
      length-numbers d.groups,
    )

pub reads_two : {bytes : List ℕ} {d : Dict} → SpellsDict Two d bytes → ReadsTwo bytes d
unfolding dict_spelling
reads_two {bytes} {d} spells =
    let has = spells.has in
    let whole : IsAt bytes 0 (dict_spelling Two d) = subst (IsAt bytes 0) spells.bytes_are (at_itself bytes) in
    let head : HasHead bytes Two d = head_stands bytes Two d has (at_first (head_bytes Two d) (behind_head d) whole) in
    let a : IsAt bytes 19 (behind_head d) = at_second (head_bytes Two d) (behind_head d) whole in
    let number : IsAt bytes 19 (big_bytes 4 (length d.entries)) = at_first (big_bytes 4 (length d.entries)) (behind_count d) a in
    let count : reading.groups bytes ≡ length d.entries = number_stands bytes 19 4 (length d.entries) (count_small (length d.entries) (few_entries has)) number in
    let b : IsAt bytes 23 (behind_count d) = at_second (big_bytes 4 (length d.entries)) (behind_count d) a in
    let baselines = baselines_read 23 head.fields has.shaped (at_first (packed_rows d.baselines) (behind_baselines d) b) in
    let c : IsAt bytes (groups_from bytes) (behind_baselines d) = subst (λ n. IsAt bytes n (behind_baselines d)) (sym baselines.ends) (at_second (packed_rows d.baselines) (behind_baselines d) b) in
    let groups : IsAt bytes (groups_from bytes) (flat_map (big_bytes 4) d.groups) = at_first (flat_map (big_bytes 4) d.groups) (behind_groups d) c in
    let one_each : length d.groups ≡ d.numbers = has.grouped.one_each in
    let after : groups_from bytes + length (flat_map (big_bytes 4) d.groups) ≡ groups_from bytes + 4 * reading.numbers bytes = omega (arith, length-numbers d.groups, one_each, head.fields.numbers_are) in
    let e : IsAt bytes (groups_from bytes + 4 * reading.numbers bytes) (behind_groups d) = subst (λ n. IsAt bytes n (behind_groups d)) after (at_second (flat_map (big_bytes 4) d.groups) (behind_groups d) c) in
    let entries : AreRowsOf bytes (entries_two bytes) d.entries =
    rows_read bytes (entries_two bytes) d.entries (subst (λ w. AreWide w d.entries) (sym (entries_measured head.fields)) has.shaped.entries) (sym count) e in
    record {
      head = head;
      reaches = number.inside;
      count = count;
      baselines = baselines;
      groups_stand = groups;
      groups_are = λ k h.
          let inside : k < length d.groups = omega (arith, h, one_each) in
          number_stands bytes (groups_from bytes + 4 * k) 4 (get_or d.groups k 0)
          (count_small (get_or d.groups k 0) (omega (arith, group_known d has.grouped k h, few_entries has))) (stand_numbers bytes d.groups (groups_from bytes) groups k inside);
      entries = entries;
      ends = omega (arith, ap length spells.bytes_are, length-spelling_two d, entries.ends, baselines.ends, one_each, head.fields.numbers_are);
    }

module _ {bytes : List ℕ} {d : Dict} (has : HasDictSpelling d) (reads : ReadsTwo bytes d) where
  pub before_are : (n : ℕ) → n ≤ d.numbers → take n d.groups ≡ groups_before bytes n
  before_are n h = groups_taken bytes d.groups (λ k l. reads.groups_are k (omega (arith, l, has.grouped.one_each))) n (omega (arith, h, has.grouped.one_each))

  pub all_groups : d.groups ≡ groups_before bytes (reading.numbers bytes)
  all_groups =
      let numbers = reads.head.fields.numbers_are in
      sym (take_all (reading.numbers bytes) d.groups (omega (arith, numbers, has.grouped.one_each))) ∙ before_are (reading.numbers bytes) (omega (arith, numbers))

  -- Rows without bits are equal.
  one_without_bits : reading.read_entry_width bytes ≡ 0 → length d.entries ≤ 1
  one_without_bits none = elim (cases_lt 1 (length d.entries)) [
    | inr few ↦ few
    | inl more ↦
        let width : dictionary.entry_width d.kind d.patterns d.positions ≡ 0 = sym (entries_measured reads.head.fields) ∙ none in
        let empty : (k : ℕ) → k < length d.entries → get_or d.entries k [] ≡ [] = λ k h. nil_from_length (get_or d.entries k []) (has.shaped.entries k [] h ∙ width) in
        let same = has.grouped.different.apart 0 1 (omega (arith, more)) more (empty 0 (omega (arith, more)) ∙ sym (empty 1 more)) in
        absurd (omega (arith, same))
  ]

  count_is : IsGroupCount bytes
  count_is = record {
    some = let first = group_known d has.grouped 0 has.some_number in omega (arith, first, reads.count);
    few = omega (arith, few_groups has.grouped, reads.count, reads.head.fields.numbers_are);
    one = λ none. omega (arith, one_without_bits none, reads.count);
  }

  number_is : (k : ℕ) → k < reading.numbers bytes → IsGroupNumber bytes k
  number_is k h =
      let low : k < d.numbers = omega (arith, h, reads.head.fields.numbers_are) in
      let at = reads.groups_are k low in
      record {
        next = subst (λ g. Contains (groups_before bytes k) g ⊎ IsLeastUnused (groups_before bytes k) g) (sym at)
            (subst (λ (gs : List ℕ). Contains gs (get_or d.groups k 0) ⊎ IsLeastUnused gs (get_or d.groups k 0)) (before_are k (omega (arith, low)))
            (has.grouped.numbered.each k (omega (arith, low, has.grouped.one_each))));
        known = omega (arith, at, group_known d has.grouped k low, reads.count);
      }

  used_are : AreUsed bytes
  used_are g h = subst (λ (gs : List ℕ). Contains gs g) all_groups ((has.grouped.used g).1 (omega (arith, h, reads.count)))

  new_is : (k : ℕ) → k < reading.groups bytes → IsNewRow bytes (entries_two bytes) k
  new_is k h j low same =
      let at : (i : ℕ) → i < length d.entries → get_or d.entries i [] ≡ row_of bytes (entries_two bytes) i =
      λ i l. ap (λ (rows : List (List Bool)). get_or rows i []) (sym reads.entries.are) ∙ get_or-rows_of bytes (entries_two bytes) (reading.groups bytes) i (omega (arith, l, reads.count)) in
      let hk : k < length d.entries = omega (arith, h, reads.count) in
      let hj : j < length d.entries = omega (arith, low, hk) in
      let equal = has.grouped.different.apart j k hj hk (at j hj ∙ (same ∙ sym (at k hk))) in
      omega (arith, equal, low)

  pub right_two : (part_two bytes).Right
  right_two = (
    (reads.reaches, count_is),
    (
      reads.baselines.right,
      (
        (λ k h. (omega (arith, reads.groups_stand.inside, length-numbers d.groups, has.grouped.one_each, reads.head.fields.numbers_are, h), number_is k h), used_are),
        (λ k h. (reads.entries.right k h, new_is k h), reads.ends),
      ),
    ),
  )

-- ---- what is read is spelled

pub spells_two : {bytes : List ℕ} {d : Dict} → AreBytes bytes → length bytes ≤ DICTIONARY_LIMIT → IsReadAs bytes Two 23 d → (part_two bytes).Right → d.groups ≡ groups_before bytes (reading.numbers bytes)
    → d.entries ≡ first_rows bytes (entries_two bytes) (reading.groups bytes) → SpellsDict Two d bytes
unfolding dict_spelling
spells_two {bytes} {d} fits short is right groups_are entries_are =
    let has = spelling_of is in
    let count : reading.groups bytes ≡ length d.entries = sym (ap length entries_are ∙ length-rows_of bytes (entries_two bytes) (reading.groups bytes)) in
    let head : IsAt bytes 0 (head_bytes Two d) = fields_stand bytes Two d fits is.head is.fields in
    let number : IsAt bytes 19 (big_bytes 4 (length d.entries)) = subst (λ n. IsAt bytes 19 (big_bytes 4 n)) count (four_stand bytes 19 fits right.0.0) in
    let base : IsAt bytes 23 (packed_rows d.baselines) = baselines_stand 23 fits is right.0.0 right.1.0 in
    let read = baselines_read 23 is.fields has.shaped base in
    let from = groups_from bytes in
    let within : from ≤ length bytes = omega (arith, read.ends, base.inside) in
    let one_each : length d.groups ≡ d.numbers = has.grouped.one_each in
    let numbers_are = is.fields.numbers_are in
    let groups : IsAt bytes from (flat_map (big_bytes 4) d.groups) =
    numbers_stand bytes d.groups from within
    (λ k h.
    let low : k < reading.numbers bytes = omega (arith, h, one_each, numbers_are) in
    let at : group_at bytes k ≡ get_or d.groups k 0 = sym (ap (λ (gs : List ℕ). get_or gs k 0) groups_are ∙ get_or-groups_before bytes (reading.numbers bytes) k low) in
    subst (λ n. IsAt bytes (from + 4 * k) (big_bytes 4 n)) at (four_stand bytes (from + 4 * k) fits (right.1.1.0.0 k low).0)) in
    let place : from + length (flat_map (big_bytes 4) d.groups) ≡ from + 4 * reading.numbers bytes = omega (arith, length-numbers d.groups, one_each, numbers_are) in
    let rest : IsAt bytes (from + 4 * reading.numbers bytes) (packed_rows d.entries) =
    subst (λ rows. IsAt bytes (from + 4 * reading.numbers bytes) (packed_rows rows)) (sym entries_are)
    (rows_written bytes (entries_two bytes) fits (omega (arith, groups.inside, place)) (λ k h. (right.1.1.1.0 k h).0)) in
    let entries : AreRowsOf bytes (entries_two bytes) d.entries =
    rows_read bytes (entries_two bytes) d.entries (subst (λ w. AreWide w d.entries) (sym (entries_measured is.fields)) has.shaped.entries) (sym count) rest in
    let all : IsAt bytes 0 (dict_spelling Two d) =
    at_both (head_bytes Two d) (behind_head d) head
    (at_both (big_bytes 4 (length d.entries)) (behind_count d) number
    (at_both (packed_rows d.baselines) (behind_baselines d) base
    (subst (λ n. IsAt bytes n (behind_baselines d)) read.ends
    (at_both (flat_map (big_bytes 4) d.groups) (behind_groups d) groups (subst (λ n. IsAt bytes n (packed_rows d.entries)) (sym place) rest))))) in
    record {
      has = has;
      bytes_are = at_whole bytes (dict_spelling Two d) all (omega (arith, length-spelling_two d, right.1.1.1.1, entries.ends, read.ends, one_each, numbers_are));
      short = short;
    }
