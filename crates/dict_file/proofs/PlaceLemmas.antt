-- Where rows of a file are, and which of them are complete, right and new.
use Rattle.std.proofs.Common.{◌≡◌, ◌∙◌, ℕ, ◌+◌, ◌-◌, ◌*◌, ◌/◌, ◌^◌, ◌<◌, ◌≤◌, cond, eqb, List, [], length, get_or, take, min, replicate, refl, sym, ap, subst, arith, inl, inr, false}
use Rattle.std.proofs.lemmas.Bool.{cases_lt, cases_Bool}
use Rattle.std.proofs.lemmas.List.{get_or-take, length-take-le, take_all, length-replicate, get_or-replicate}
use Rattle.std.proofs.lemmas.List.FromFn.{fill_by_all}
use Rattle.std.proofs.lemmas.Nat.{mul-le}
use Rattle.std.proofs.Math.Nat.{div-mul-le_self, lt-div-mul-add, mul-le-mul_right}
use Rattle.dict_rows.specs.Grouped.{AreDifferent, IsFirstRepeat}
use Rattle.dict_file.specs.declared.reading.TheConstants.{DICTIONARY_LIMIT}
use Rattle.dict_file.specs.declared.fault.DictFault.{DictFault}
use Rattle.dict_file.specs.declared.fault.DictFault.TheVariants.{Short, Value}
use Rattle.dict_file.specs.declared.row_bytes.RowsAt.{RowsAt}
use Rattle.dict_file.specs.Packing.{byte_count, row_in, HasZeroPadding}
use Rattle.dict_file.specs.Spelling.{limit}
use Rattle.std.specs.Prelude.{Result, IfOk, IfErr}
use Rattle.dict_file.specs.declared.row_bytes.ReadRows.{ReadRows}
use Rattle.dict_file.specs.Parts.{Part, each}
use Rattle.dict_file.specs.Reading as reading
use Rattle.dict_file.specs.Reading.{row_start, row_of, row_part, new_row_part, IsNewRow, head_part, groups_part, baseline_rows_at, entries_at, TellsDictFault}
use Rattle.dict_file.specs.Places.{IsPlaced, AreWholeTo, AreRightRows, AreRead, first_rows}
use Rattle.dict_file.proofs.FieldLemmas.{length-rows_of, get_or-rows_of}

-- ---- whole rows

row_below : (from j k size : ℕ) → j < k → from + j * size + size ≤ from + k * size
row_below from j k size h =
    let e : (j + 1) * size ≤ k * size = mul-le-mul_right size (omega (arith, h)) in
    let m : (j + 1) * size ≡ j * size + size = omega arith in
    omega (arith, e, m)

pub start_below : (rows : RowsAt) (j k : ℕ) → j < k → row_start rows j + byte_count rows.width ≤ row_start rows k
start_below rows j k h = row_below rows.from j k (byte_count rows.width) h

none_within : (from count size len : ℕ) → size ≡ 0 → from ≤ len → from + count * size ≤ len
none_within from count size len none within =
    let e : count * size ≡ count * 0 = ap (λ n. count * n) none in
    let z : count * 0 ≡ 0 = omega arith in
    omega (arith, e, z, within)

some_within : (from count size len : ℕ) → 0 < size → from ≤ len → from + min count ((len - from) / size) * size ≤ len
some_within from count size len some within =
    let fit = (len - from) / size in
    let low : fit * size ≤ len - from = div-mul-le_self (len - from) size in
    let less : min count fit * size ≤ fit * size = mul-le-mul_right size (omega arith) in
    omega (arith, less, low, within)

some_next : (from count size len : ℕ) → 0 < size → from ≤ len → min count ((len - from) / size) < count → len < from + min count ((len - from) / size) * size + size
some_next from count size len some within h =
    let fit = (len - from) / size in
    let high : len - from < fit * size + size = lt-div-mul-add some in
    let e : min count fit ≡ fit = omega (arith, h) in
    let f : min count fit * size ≡ fit * size = ap (λ k. k * size) e in
    omega (arith, high, f, within)

pub all_whole : (len : ℕ) (rows : RowsAt) → rows.from ≤ len → byte_count rows.width ≡ 0 → AreWholeTo len rows rows.count
all_whole len rows from none = record {
  within = omega arith;
  inside = none_within rows.from rows.count (byte_count rows.width) len none from;
  next = λ h. absurd (omega (arith, h));
}

pub some_whole : (len : ℕ) (rows : RowsAt) → rows.from ≤ len → 0 < byte_count rows.width → AreWholeTo len rows (min rows.count ((len - rows.from) / byte_count rows.width))
some_whole len rows from some = record {
  within = omega arith;
  inside = some_within rows.from rows.count (byte_count rows.width) len some from;
  next = λ h. some_next rows.from rows.count (byte_count rows.width) len some from h;
}

-- ---- right rows

module _ (bytes : List ℕ) {rows : RowsAt} {whole : ℕ} (are : AreWholeTo (length bytes) rows whole) where
  pub row_whole : (k : ℕ) → k < whole → row_start rows k + byte_count rows.width ≤ length bytes
  row_whole k h = let s = start_below rows k whole h in omega (arith, s, are.inside)

  pub all_right : ((k : ℕ) → k < whole → HasZeroPadding bytes (row_start rows k) rows.width) → AreRightRows bytes rows whole
  all_right zeros = record {
    within = are.within;
    inside = are.inside;
    each_is = λ k h. (row_whole k h, zeros k h);
    next = λ h right. let short = are.next h in omega (arith, short, right.0);
  }

  pub right_to : (row : ℕ) → row < whole → ((k : ℕ) → k < row → HasZeroPadding bytes (row_start rows k) rows.width) → (HasZeroPadding bytes (row_start rows row) rows.width → ⊥) → AreRightRows bytes rows row
  right_to row low zeros wrong = record {
    within = omega (arith, low, are.within);
    inside = let w = row_whole row low in omega (arith, w);
    each_is = λ k h. (row_whole k (omega (arith, h, low)), zeros k h);
    next = λ h right. wrong right.1;
  }

pub no_padding : (bytes : List ℕ) (start width : ℕ) → 8 * byte_count width - width ≡ 0 → HasZeroPadding bytes start width
no_padding bytes start width none at over h = absurd (omega (arith, none, over, h))

-- ---- new rows

pub new_from_different : (bytes : List ℕ) (rows : RowsAt) (count n j : ℕ) → n ≤ count → AreDifferent (take n (first_rows bytes rows count)) → j < n → IsNewRow bytes rows j
new_from_different bytes rows count n j h different low i below same =
    let all = first_rows bytes rows count in
    let long : length (take n all) ≡ n = length-take-le n all (omega (arith, h, length-rows_of bytes rows count)) in
    let at : (k : ℕ) → k < n → get_or (take n all) k [] ≡ row_of bytes rows k = λ k l. get_or-take n all k [] l ∙ get_or-rows_of bytes rows count k (omega (arith, l, h)) in
    let e = different.apart i j (omega (arith, below, low, long)) (omega (arith, low, long)) (at i (omega (arith, below, low)) ∙ (same ∙ sym (at j low))) in
    omega (arith, e, below)

pub all_new : (bytes : List ℕ) (rows : RowsAt) (count : ℕ) → AreDifferent (first_rows bytes rows count) → (j : ℕ) → j < count → IsNewRow bytes rows j
all_new bytes rows count different j low =
    new_from_different bytes rows count count j (omega arith) (subst AreDifferent (sym (take_all count (first_rows bytes rows count) (omega (arith, length-rows_of bytes rows count)))) different) low

pub not_new : (bytes : List ℕ) (rows : RowsAt) (count row : ℕ) → IsFirstRepeat (first_rows bytes rows count) row → IsNewRow bytes rows row → ⊥
not_new bytes rows count row is new =
    let inside : row < count = omega (arith, is.inside, length-rows_of bytes rows count) in
    let r = is.earlier in
    new r.0 r.1 (sym (get_or-rows_of bytes rows count r.0 (omega (arith, r.1, inside))) ∙ (r.2 ∙ get_or-rows_of bytes rows count row inside))

pub different_from_new : (bytes : List ℕ) (rows : RowsAt) (count : ℕ) → ((j : ℕ) → j < count → IsNewRow bytes rows j) → AreDifferent (first_rows bytes rows count)
different_from_new bytes rows count new =
    let all = first_rows bytes rows count in
    let low : (k : ℕ) → k < length all → k < count = λ k h. omega (arith, h, length-rows_of bytes rows count) in
    record {
      apart = λ a b ha hb e.
          let same : row_of bytes rows a ≡ row_of bytes rows b = sym (get_or-rows_of bytes rows count a (low a ha)) ∙ (e ∙ get_or-rows_of bytes rows count b (low b hb)) in
          elim (cases_lt a b) [
            | inl less ↦ absurd (new b (low b hb) a less same)
            | inr over ↦ elim (cases_lt b a) [
              | inl less ↦ absurd (new a (low a ha) b less (sym same))
              | inr past ↦ omega (arith, over, past)
            ]
          ];
    }

-- ---- the sizes of a head that is right

pub baselines_few : (bytes : List ℕ) → reading.patterns bytes ≤ limit → reading.read_baseline_count bytes ≤ limit
baselines_few bytes h = elim (cases_Bool (eqb (reading.kind bytes) 2)) [
  | inl full ↦ let e : reading.read_baseline_count bytes ≡ 0 = ap (λ b. cond b 0 (reading.patterns bytes)) full in omega (arith, e)
  | inr other ↦ let e : reading.read_baseline_count bytes ≡ reading.patterns bytes = ap (λ b. cond b 0 (reading.patterns bytes)) other in omega (arith, e, h)
]

pub entries_narrow : (bytes : List ℕ) → reading.patterns bytes ≤ limit → reading.positions bytes ≤ limit → reading.read_entry_width bytes < 2 ^ 60
entries_narrow bytes h k = elim (cases_Bool (eqb (reading.kind bytes) 2)) [
  | inl full ↦
      let e : reading.read_entry_width bytes ≡ reading.patterns bytes * reading.positions bytes = ap (λ b. cond b (reading.patterns bytes * reading.positions bytes) (reading.patterns bytes)) full in
      let m : reading.patterns bytes * reading.positions bytes ≤ limit * limit = mul-le (reading.patterns bytes) (reading.positions bytes) limit limit h k in
      omega (arith, e, m)
  | inr other ↦
      let e : reading.read_entry_width bytes ≡ reading.patterns bytes = ap (λ b. cond b (reading.patterns bytes * reading.positions bytes) (reading.patterns bytes)) other in
      omega (arith, e, h)
]

pub baselines_placed : (bytes : List ℕ) (from : ℕ) → (head_part bytes).Right → length bytes ≤ DICTIONARY_LIMIT → from ≤ length bytes → IsPlaced bytes (baseline_rows_at bytes from)
baselines_placed bytes from right short within =
    let few = baselines_few bytes right.1.1.1.1.0.1 in
    let narrow = right.1.1.1.0.1 in
    record { begins = within; short = short; narrow = omega (arith, narrow); few = omega (arith, few) }

pub entries_placed : (bytes : List ℕ) (from count : ℕ) → (head_part bytes).Right → length bytes ≤ DICTIONARY_LIMIT → from ≤ length bytes → count < 2 ^ 32 → IsPlaced bytes (entries_at bytes from count)
entries_placed bytes from count right short within few = record { begins = within; short = short; narrow = entries_narrow bytes right.1.1.1.1.0.1 right.1.1.1.0.1; few = few }

-- ---- rows without bits

pub no_bits : (bytes : List ℕ) (rows : RowsAt) (count : ℕ) → rows.width ≡ 0 → replicate count (replicate rows.width false) ≡ first_rows bytes rows count
no_bits bytes rows count none =
    fill_by_all (row_of bytes rows) (replicate count (replicate rows.width false)) count [] (length-replicate count (replicate rows.width false))
    (λ k h. get_or-replicate count k (replicate rows.width false) [] h ∙ subst (λ w. replicate w false ≡ row_in bytes (row_start rows k) w) (sym none) refl)

-- ---- what a loop over rows has, as it is found

pub rows_found : {bytes : List ℕ} {rows : RowsAt} {right : ℕ} → AreRightRows bytes rows right → rows.count ≤ right → (each rows.count (row_part bytes rows)).Right
rows_found are all k h = are.each_is k (omega (arith, h, all))

pub rows_refused : {bytes : List ℕ} {rows : RowsAt} {right : ℕ} (fault : DictFault) → AreRightRows bytes rows right → right < rows.count → (row_part bytes rows right).Refused fault → (each rows.count (row_part bytes rows)).Refused fault
rows_refused {bytes} {rows} {right} fault are low refused = (right, low, are.each_is, refused)

pub new_rows_found : {bytes : List ℕ} {rows : RowsAt} {right : ℕ} → AreRightRows bytes rows right → rows.count ≤ right → AreDifferent (first_rows bytes rows right) → (each rows.count (new_row_part bytes rows)).Right
new_rows_found {bytes} {rows} {right} are all different k h = (are.each_is k (omega (arith, h, all)), all_new bytes rows right different k (omega (arith, h, all)))

pub new_rows_refused : {bytes : List ℕ} {rows : RowsAt} {right : ℕ} (fault : DictFault) → AreRightRows bytes rows right → right < rows.count → AreDifferent (first_rows bytes rows right) → (row_part bytes rows right).Refused fault
    → (each rows.count (new_row_part bytes rows)).Refused fault
new_rows_refused {bytes} {rows} {right} fault are low different refused =
    (right, low, (λ j h. (are.each_is j h, all_new bytes rows right different j h)), inl refused)

pub repeat_refused : {bytes : List ℕ} {rows : RowsAt} {right : ℕ} (row place : ℕ) → AreRightRows bytes rows right → IsFirstRepeat (first_rows bytes rows right) row → place ≡ row_start rows row + byte_count rows.width - 1
    → (each rows.count (new_row_part bytes rows)).Refused (Value place)
repeat_refused {bytes} {rows} {right} row place are is at =
    let inside : row < right = omega (arith, is.inside, length-rows_of bytes rows right) in (
      row,
      omega (arith, inside, are.within),
      (λ j h. (are.each_is j (omega (arith, h, inside)), new_from_different bytes rows right row j (omega (arith, inside)) is.first h)),
      inr (are.each_is row inside, (not_new bytes rows right row is, ap Value at)),
    )

-- Why a row is refused.
pub cut_row : (bytes : List ℕ) (rows : RowsAt) (k : ℕ) → length bytes < row_start rows k + byte_count rows.width → (row_part bytes rows k).Refused (Short (length bytes))
cut_row bytes rows k short = inl ((λ h. omega (arith, h, short)), refl)

pub padded_row : (bytes : List ℕ) (rows : RowsAt) (k place : ℕ) → row_start rows k + byte_count rows.width ≤ length bytes → ((row_part bytes rows k).Right → ⊥) → place ≡ row_start rows k + byte_count rows.width - 1
    → (row_part bytes rows k).Refused (Value place)
padded_row bytes rows k place whole wrong at = inr (whole, ((λ zeros. wrong (whole, zeros)), ap Value at))

-- ---- rows that were read

-- All rows were found right, and were read.
pub all_read : {bytes : List ℕ} {part : RowsAt → ℕ → Part} {rows : RowsAt} {right : ℕ} (read : ReadRows) → AreRightRows bytes rows right → rows.count ≤ right → (each rows.count (part rows)).Right → read.rows ≡ first_rows bytes rows right → read.end ≡ row_start rows right
    → AreRead bytes part rows read
all_read {bytes} {part} {rows} {right} read are all found rows_are end_is =
    let same : right ≡ rows.count = omega (arith, all, are.within) in
    record {
      right = found;
      rows_are = rows_are ∙ ap (first_rows bytes rows) same;
      end_is = end_is ∙ ap (row_start rows) same;
      within = omega (arith, end_is, are.inside);
    }

pub length-read : {bytes : List ℕ} {part : RowsAt → ℕ → Part} {rows : RowsAt} {read : ReadRows} → AreRead bytes part rows read → length read.rows ≡ rows.count
length-read {bytes} {part} {rows} {read} are = ap length are.rows_are ∙ length-rows_of bytes rows rows.count

-- Equal places.
pub entries_moved : (bytes : List ℕ) {rows : RowsAt} {from count at number : ℕ} → rows ≡ entries_at bytes from count → from ≡ at → count ≡ number → rows ≡ entries_at bytes at number
entries_moved bytes {rows} {from} {count} {at} {number} same from_is count_is = same ∙ (ap (λ n. entries_at bytes n count) from_is ∙ ap (entries_at bytes at) count_is)

pub read_moved : (bytes : List ℕ) {rows others : RowsAt} (part : RowsAt → ℕ → Part) (result : Result ReadRows DictFault) → rows ≡ others → IfOk result (AreRead bytes part rows) → IfOk result (AreRead bytes part others)
read_moved bytes {rows} {others} part result same read = subst (λ (r : RowsAt). IfOk result (AreRead bytes part r)) same read

pub refused_moved : {rows others : RowsAt} (part : RowsAt → ℕ → Part) (result : Result ReadRows DictFault) → rows ≡ others → IfErr result (TellsDictFault (each rows.count (part rows)).Refused) → IfErr result (TellsDictFault (each others.count (part others)).Refused)
refused_moved {rows} {others} part result same refused = subst (λ (r : RowsAt). IfErr result (TellsDictFault (each r.count (part r)).Refused)) same refused

pub group_numbers_inside : (bytes : List ℕ) → 0 < reading.numbers bytes → (groups_part bytes).Right → reading.groups_from bytes + 4 * reading.numbers bytes ≤ length bytes
group_numbers_inside bytes some right = let last = (right.0 (reading.numbers bytes - 1) (omega (arith, some))).0 in omega (arith, last, some)
