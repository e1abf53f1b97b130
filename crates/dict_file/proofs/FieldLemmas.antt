-- Rows and head fields in bytes, against what is read of them.
use Rattle.std.proofs.Common.{◌≡◌, ◌∙◌, ℕ, ◌+◌, ◌*◌, ◌<◌, ◌≤◌, ◌^◌, ◌⊎◌, Bool, cond, eqb, List, [], ◌∷◌, ◌++◌, length, get_or, refl, sym, ap, subst, arith, inl, inr, lit<}
use Rattle.std.specs.Prelude.{codes}
use Rattle.std.proofs.lemmas.List.FromFn.{length-map-range_with_len, get_or-map-range_with_len, fill_by_all}
use Rattle.net_model.specs.Rows.{AreWide}
use Rattle.byteorder.specs.Endian.{big_bytes}
use Rattle.dict_rows.specs.declared.dict.Dict.{Dict}
use Rattle.dict_rows.specs.declared.dict.DictKind.{DictKind}
use Rattle.dict_rows.specs.declared.dict.DictKind.TheVariants.{PassFail, Full, SameDiff}
use Rattle.dict_rows.specs.Dictionary as dictionary
use Rattle.dict_file.specs.declared.fault.DictVersion.{DictVersion}
use Rattle.dict_file.specs.declared.fault.DictVersion.TheVariants.{One, Two}
use Rattle.dict_file.specs.declared.row_bytes.RowsAt.{RowsAt}
use Rattle.dict_file.specs.Packing.{byte_count}
use Rattle.dict_file.specs.Spelling.{kind_number, version_number, limit, HasDictSpelling, packed_rows, head_bytes}
use Rattle.dict_file.specs.Parts.{each}
use Rattle.dict_file.specs.Reading as reading
use Rattle.dict_file.specs.Reading.{row_start, rows_end, row_of, row_part, head_part}
use Rattle.dict_file.specs.Places.{first_rows}
use Rattle.dict_file.proofs.Standing.{IsAt, at_first, at_second, at_both, at_cut, cut_at}
use Rattle.dict_file.proofs.BitLemmas.{IsRowAt}
use Rattle.dict_file.proofs.ManyRows.{length-packed_rows, rows_stand, stand_rows, length-row_in, row_at_in, row_in_at, padding_at, number_stands, four_stand, two_stand}

abbrev pub AreBytes : List ℕ → Type 0
AreBytes bytes = (i : ℕ) → get_or bytes i 0 < 256

-- ---- rows

-- The rows are right, and they are those of a list.
pub record AreRowsOf (bytes : List ℕ) (rows : RowsAt) (list : List (List Bool)) : Type 0 where
  pub right : (each rows.count (row_part bytes rows)).Right
  pub are : first_rows bytes rows rows.count ≡ list
  pub ends : rows_end rows ≡ rows.from + length (packed_rows list)

pub rows_read : (bytes : List ℕ) (rows : RowsAt) (list : List (List Bool)) → AreWide rows.width list → length list ≡ rows.count → IsAt bytes rows.from (packed_rows list) → AreRowsOf bytes rows list
rows_read bytes rows list wide count is =
    let at = stand_rows bytes rows.width list rows.from wide is in
    let below : (k : ℕ) → k < rows.count → k < length list = λ k h. omega (arith, h, count) in record {
      right = λ k h. (
        subst (λ n. row_start rows k + byte_count n ≤ length bytes) (wide k [] (below k h)) (at k (below k h)).inside,
        padding_at bytes (row_start rows k) rows.width (get_or list k []) (at k (below k h)) (wide k [] (below k h)),
      );
      are = sym (fill_by_all (row_of bytes rows) list rows.count [] count
          (λ k h. sym (row_in_at bytes (row_start rows k) rows.width (get_or list k []) (at k (below k h)) (wide k [] (below k h)))));
      ends = ap (λ n. rows.from + n * byte_count rows.width) (sym count) ∙ ap (λ n. rows.from + n) (sym (length-packed_rows rows.width list wide));
    }

pub length-rows_of : (bytes : List ℕ) (rows : RowsAt) (count : ℕ) → length (first_rows bytes rows count) ≡ count
length-rows_of bytes rows count = length-map-range_with_len (row_of bytes rows) 0 count

pub get_or-rows_of : (bytes : List ℕ) (rows : RowsAt) (count k : ℕ) → k < count → get_or (first_rows bytes rows count) k [] ≡ row_of bytes rows k
get_or-rows_of bytes rows count k h = get_or-map-range_with_len (row_of bytes rows) 0 count k k [] h (omega arith)

pub wide_rows_of : (bytes : List ℕ) (rows : RowsAt) (count : ℕ) → AreWide rows.width (first_rows bytes rows count)
wide_rows_of bytes rows count = λ k d h.
    ap length (get_or-map-range_with_len (row_of bytes rows) 0 count k k d (omega (arith, h, length-rows_of bytes rows count)) (omega arith))
    ∙ length-row_in bytes (row_start rows k) rows.width

pub rows_written : (bytes : List ℕ) (rows : RowsAt) → AreBytes bytes → rows.from ≤ length bytes → (each rows.count (row_part bytes rows)).Right → IsAt bytes rows.from (packed_rows (first_rows bytes rows rows.count))
rows_written bytes rows fits within right =
    rows_stand bytes rows.width (first_rows bytes rows rows.count) rows.from fits (wide_rows_of bytes rows rows.count) within
    (λ k h.
    let low : k < rows.count = omega (arith, h, length-rows_of bytes rows rows.count) in
    subst (IsRowAt bytes (row_start rows k)) (sym (get_or-rows_of bytes rows rows.count k low)) (row_at_in bytes (row_start rows k) rows.width (right k low).0 (right k low).1))

-- ---- the head

-- The fields of the bytes are those of a dictionary.
pub record AreFields (bytes : List ℕ) (v : DictVersion) (d : Dict) : Type 0 where
  pub version_is : reading.version bytes ≡ version_number v
  pub kind_is : reading.kind bytes ≡ kind_number d.kind
  pub positions_are : reading.positions bytes ≡ d.positions
  pub patterns_are : reading.patterns bytes ≡ d.patterns
  pub numbers_are : reading.numbers bytes ≡ d.numbers

-- What comes after each field of the head.
abbrev pub behind_patterns : Dict → List ℕ
behind_patterns d = big_bytes 4 d.numbers

abbrev pub behind_positions : Dict → List ℕ
behind_positions d = big_bytes 4 d.patterns ++ behind_patterns d

abbrev pub behind_kind : Dict → List ℕ
behind_kind d = big_bytes 4 d.positions ++ behind_positions d

abbrev pub behind_version : Dict → List ℕ
behind_version d = kind_number d.kind ∷ behind_kind d

abbrev pub behind_magic : DictVersion → Dict → List ℕ
behind_magic v d = big_bytes 2 (version_number v) ++ behind_version d

byte_stands : (bytes : List ℕ) (from x : ℕ) → from + 1 ≤ length bytes → get_or bytes from 0 ≡ x → IsAt bytes from (x ∷ [])
byte_stands bytes from x within is = record {
  inside = omega (arith, within);
  same = λ k h.
      let e : k ≡ 0 = omega (arith, h) in
      let here : from + 0 ≡ from = omega arith in
      subst (λ j. get_or bytes (from + j) 0 ≡ get_or (x ∷ []) j 0) (sym e) (ap (λ i. get_or bytes i 0) here ∙ is);
}

pub fields_stand : (bytes : List ℕ) (v : DictVersion) (d : Dict) → AreBytes bytes → (head_part bytes).Right → AreFields bytes v d → IsAt bytes 0 (head_bytes v d)
fields_stand bytes v d fits right are =
    let magic : IsAt bytes 0 (codes "DIAT") = cut_at (codes "DIAT") 4 refl right.0.0 right.0.1 in
    let version : IsAt bytes 4 (big_bytes 2 (version_number v)) = subst (λ n. IsAt bytes 4 (big_bytes 2 n)) are.version_is (two_stand bytes 4 fits right.1.0.0) in
    let kind : IsAt bytes 6 (kind_number d.kind ∷ []) = byte_stands bytes 6 (kind_number d.kind) right.1.1.0.0 are.kind_is in
    let positions : IsAt bytes 7 (big_bytes 4 d.positions) = subst (λ n. IsAt bytes 7 (big_bytes 4 n)) are.positions_are (four_stand bytes 7 fits right.1.1.1.0.0) in
    let patterns : IsAt bytes 11 (big_bytes 4 d.patterns) = subst (λ n. IsAt bytes 11 (big_bytes 4 n)) are.patterns_are (four_stand bytes 11 fits right.1.1.1.1.0.0) in
    let numbers : IsAt bytes 15 (big_bytes 4 d.numbers) = subst (λ n. IsAt bytes 15 (big_bytes 4 n)) are.numbers_are (four_stand bytes 15 fits right.1.1.1.1.1.0.0) in
    at_both (codes "DIAT") (behind_magic v d) magic
    (at_both (big_bytes 2 (version_number v)) (behind_version d) version
    (at_both (kind_number d.kind ∷ []) (behind_kind d) kind
    (at_both (big_bytes 4 d.positions) (behind_positions d) positions
    (at_both (big_bytes 4 d.patterns) (behind_patterns d) patterns numbers))))

-- The head of a dictionary is at the beginning of bytes: they have its fields, and their first 19 are right.
pub record HasHead (bytes : List ℕ) (v : DictVersion) (d : Dict) : Type 0 where
  pub fields : AreFields bytes v d
  pub right : (head_part bytes).Right

version_small : (v : DictVersion) → version_number v < 256 ^ 2
version_small One = lit< tt
version_small Two = lit< tt

version_known : (v : DictVersion) → (version_number v ≡ 1) ⊎ (version_number v ≡ 2)
version_known One = inl refl
version_known Two = inr refl

kind_known : (k : DictKind) → (kind_number k ≡ 1) ⊎ ((kind_number k ≡ 2) ⊎ (kind_number k ≡ 3))
kind_known PassFail = inl refl
kind_known Full = inr (inl refl)
kind_known SameDiff = inr (inr refl)

pub count_small : (n : ℕ) → n ≤ limit → n < 256 ^ 4
count_small n h = omega (arith, h)

pub head_stands : (bytes : List ℕ) (v : DictVersion) (d : Dict) → HasDictSpelling d → IsAt bytes 0 (head_bytes v d) → HasHead bytes v d
head_stands bytes v d has is =
    let magic : IsAt bytes 0 (codes "DIAT") = at_first (codes "DIAT") (behind_magic v d) is in
    let a : IsAt bytes 4 (behind_magic v d) = at_second (codes "DIAT") (behind_magic v d) is in
    let ver : IsAt bytes 4 (big_bytes 2 (version_number v)) = at_first (big_bytes 2 (version_number v)) (behind_version d) a in
    let b : IsAt bytes 6 (behind_version d) = at_second (big_bytes 2 (version_number v)) (behind_version d) a in
    let c : IsAt bytes 7 (behind_kind d) = at_second (kind_number d.kind ∷ []) (behind_kind d) b in
    let pos : IsAt bytes 7 (big_bytes 4 d.positions) = at_first (big_bytes 4 d.positions) (behind_positions d) c in
    let e : IsAt bytes 11 (behind_positions d) = at_second (big_bytes 4 d.positions) (behind_positions d) c in
    let pat : IsAt bytes 11 (big_bytes 4 d.patterns) = at_first (big_bytes 4 d.patterns) (behind_patterns d) e in
    let num : IsAt bytes 15 (big_bytes 4 d.numbers) = at_second (big_bytes 4 d.patterns) (behind_patterns d) e in
    let version_is : reading.version bytes ≡ version_number v = number_stands bytes 4 2 (version_number v) (version_small v) ver in
    let kind_is : reading.kind bytes ≡ kind_number d.kind = b.same 0 (omega arith) in
    let positions_are : reading.positions bytes ≡ d.positions = number_stands bytes 7 4 d.positions (count_small d.positions has.positions) pos in
    let patterns_are : reading.patterns bytes ≡ d.patterns = number_stands bytes 11 4 d.patterns (count_small d.patterns has.patterns) pat in
    let numbers_are : reading.numbers bytes ≡ d.numbers = number_stands bytes 15 4 d.numbers (count_small d.numbers has.numbers) num in
    record {
      fields = record { version_is = version_is; kind_is = kind_is; positions_are = positions_are; patterns_are = patterns_are; numbers_are = numbers_are };
      right = (
        (magic.inside, at_cut (codes "DIAT") magic),
        (
          (ver.inside, subst (λ n. (n ≡ 1) ⊎ (n ≡ 2)) (sym version_is) (version_known v)),
          (
            (omega (arith, c.inside), subst (λ n. (n ≡ 1) ⊎ ((n ≡ 2) ⊎ (n ≡ 3))) (sym kind_is) (kind_known d.kind)),
            (
              (pos.inside, subst (λ n. n ≤ limit) (sym positions_are) has.positions),
              (
                (pat.inside, subst (λ n. n ≤ limit) (sym patterns_are) has.patterns),
                ((num.inside, subst (λ n. n ≤ limit) (sym numbers_are) has.numbers), subst (λ n. 0 < n) (sym numbers_are) has.some_number),
              ),
            ),
          ),
        ),
      );
    }

-- ---- sizes, by kind

base_by_kind : (k : DictKind) (n p q : ℕ) → n ≡ kind_number k → p ≡ q → cond (eqb n 2) 0 p ≡ dictionary.baseline_count k q
base_by_kind PassFail n p q e f = ap (λ m. cond (eqb m 2) 0 p) e ∙ f
base_by_kind Full n p q e f = ap (λ m. cond (eqb m 2) 0 p) e
base_by_kind SameDiff n p q e f = ap (λ m. cond (eqb m 2) 0 p) e ∙ f

width_by_kind : (k : DictKind) (n p q s t : ℕ) → n ≡ kind_number k → p ≡ q → s ≡ t → cond (eqb n 2) (p * s) p ≡ dictionary.entry_width k q t
width_by_kind PassFail n p q s t e f g = ap (λ m. cond (eqb m 2) (p * s) p) e ∙ f
width_by_kind Full n p q s t e f g = ap (λ m. cond (eqb m 2) (p * s) p) e ∙ (ap (λ m. m * s) f ∙ ap (λ m. q * m) g)
width_by_kind SameDiff n p q s t e f g = ap (λ m. cond (eqb m 2) (p * s) p) e ∙ f

pub baselines_counted : {bytes : List ℕ} {v : DictVersion} {d : Dict} → AreFields bytes v d → reading.read_baseline_count bytes ≡ dictionary.baseline_count d.kind d.patterns
baselines_counted {bytes} {v} {d} are = base_by_kind d.kind (reading.kind bytes) (reading.patterns bytes) d.patterns are.kind_is are.patterns_are

pub entries_measured : {bytes : List ℕ} {v : DictVersion} {d : Dict} → AreFields bytes v d → reading.read_entry_width bytes ≡ dictionary.entry_width d.kind d.patterns d.positions
entries_measured {bytes} {v} {d} are =
    width_by_kind d.kind (reading.kind bytes) (reading.patterns bytes) d.patterns (reading.positions bytes) d.positions are.kind_is are.patterns_are are.positions_are
