-- If all bits are observed, to have no mismatch is to have the observed entry.
use Rattle.std.proofs.Common.{◌≡◌, ◌∙◌, ℕ, zero, suc, ◌+◌, ◌*◌, ◌<◌, ◌≤◌, Bool, true, false, not, cond, eqb, ltb, List, [], ◌∷◌, ◌++◌, map, length, take, drop, get_or, refl, sym, ap, ap₂, subst, inl, inr, arith}
use Rattle.std.specs.Prelude.{◌⊎◌, All, sum_by, flat_map, filter}
use Rattle.std.specs.Bool.{Decides}
use Rattle.std.specs.List.{enumerate_from, range_with_len, list_all}
use Rattle.std.proofs.lemmas.Bool.{eqb-true, eq-eqb, lt-ltb}
use Rattle.std.proofs.lemmas.Bool.Decides.{same_from_decides}
use Rattle.std.proofs.lemmas.List.{length-map, length-take-le, length-drop, drop-drop, get_or-drop, take-append-drop}
use Rattle.std.proofs.lemmas.List.Sums.{sum_by-cons}
use Rattle.std.proofs.lemmas.List.Elements.{All-nil, All-cons, All-head, All-tail, Contains-get_or}
use Rattle.std.proofs.Math.Seq.{drop-append_seam, take-append_seam}
use Rattle.net_model.specs.ClassTable.{same_bits}
use Rattle.net_model.specs.Rows.{row_at}
use Rattle.dict_rows.specs.declared.dict.Dict.{Dict}
use Rattle.dict_rows.specs.declared.dict.DictKind.{DictKind}
use Rattle.dict_rows.specs.declared.dict.DictKind.TheVariants.{PassFail, Full, SameDiff}
use Rattle.dict_rows.specs.Rows.{AreRows}
use Rattle.dict_rows.specs.Entries.{differences}
use Rattle.dict_rows.specs.Dictionary.{entry_of, IsGroupedDict, IsShaped, observed_entry, entry_width, baseline_count, listed_numbers}
use Rattle.dict_rows.proofs.EntryLemmas.{same_bits-Decides, length-differences}
use Rattle.ranked_diag.specs.declared.partial.Seen.{Seen}
use Rattle.ranked_diag.specs.declared.partial.Seen.TheVariants.{Zero, One, Unseen}
use Rattle.ranked_diag.specs.Seen.{seen_of, is_seen, differing_bits}
use Rattle.ranked_diag.specs.PartialLog.{Line}
use Rattle.ranked_diag.specs.Mismatches.{seen_difference, seen_part, part_width, entry_part, mismatch_count}
use Rattle.ranked_diag.specs.Laws.{whole_lines}
use Rattle.ranked_diag.proofs.SeenLemmas.{differing-cons}

-- ---- one row

zero_same : (row bits : List Bool) → length bits ≡ length row → differing_bits (map seen_of row) bits ≡ 0 → bits ≡ row
zero_same [] [] l z = refl
zero_same [] (bit ∷ bits) l z = absurd (omega (arith, l))
zero_same (b ∷ row) [] l z = absurd (omega (arith, l))
zero_same (true ∷ row) (true ∷ bits) l z = ap (λ (xs : List Bool). true ∷ xs) (zero_same row bits (omega (arith, l)) (omega (arith, z, differing-cons One true (map seen_of row) bits)))
zero_same (true ∷ row) (false ∷ bits) l z = absurd (omega (arith, z, differing-cons One false (map seen_of row) bits))
zero_same (false ∷ row) (true ∷ bits) l z = absurd (omega (arith, z, differing-cons Zero true (map seen_of row) bits))
zero_same (false ∷ row) (false ∷ bits) l z = ap (λ (xs : List Bool). false ∷ xs) (zero_same row bits (omega (arith, l)) (omega (arith, z, differing-cons Zero false (map seen_of row) bits)))

same_zero : (row : List Bool) → differing_bits (map seen_of row) row ≡ 0
same_zero [] = refl
same_zero (true ∷ row) = omega (arith, same_zero row, differing-cons One true (map seen_of row) row)
same_zero (false ∷ row) = omega (arith, same_zero row, differing-cons Zero false (map seen_of row) row)

-- ---- rows of one width

module _ (width : ℕ) (entry : List Bool) where
  abbrev part_differs : Line → ℕ
  part_differs line = differing_bits line.1 (entry_part width entry line.0)

  -- the mismatches of rows that are wholly seen, numbered starting at `n`
  abbrev parts_differ : ℕ → List (List Bool) → ℕ
  parts_differ n parts = sum_by part_differs (enumerate_from n (map (map seen_of) parts))

  parts_more : (n : ℕ) (row : List Bool) (parts : List (List Bool)) → parts_differ n (row ∷ parts) ≡ part_differs (n, map seen_of row) + parts_differ (n + 1) parts
  parts_more n row parts = sum_by-cons part_differs (n, map seen_of row) (enumerate_from (n + 1) (map (map seen_of) parts))

  dropped_more : (n : ℕ) (bits : List Bool) → drop (n * width) entry ≡ bits → drop ((n + 1) * width) entry ≡ drop width bits
  dropped_more n bits from = ap (λ (k : ℕ). drop k entry) (omega arith) ∙ sym (drop-drop width (n * width) entry) ∙ ap (drop width) from

  parts_zero : (n : ℕ) (parts : List (List Bool)) (bits : List Bool) → All (λ row. length row ≡ width) parts → length bits ≡ length parts * width → drop (n * width) entry ≡ bits → parts_differ n parts ≡ 0 → bits ≡ flat_map (λ row. row) parts
  parts_zero n [] [] wide l from z = refl
  parts_zero n [] (bit ∷ bits) wide l from z = absurd (omega (arith, l))
  parts_zero n (row ∷ parts) bits wide l from z =
      let size : length row ≡ width = All-head (λ row. length row ≡ width) row parts wide in
      let long : width ≤ length bits = omega (arith, l) in
      let here : differing_bits (map seen_of row) (take width bits) ≡ 0 = subst (λ (xs : List Bool). differing_bits (map seen_of row) (take width xs) ≡ 0) from (omega (arith, z, parts_more n row parts)) in
      let front : take width bits ≡ row = zero_same row (take width bits) (length-take-le width bits long ∙ sym size) here in
      let back : drop width bits ≡ flat_map (λ row. row) parts =
      parts_zero (n + 1) parts (drop width bits) (All-tail (λ row. length row ≡ width) row parts wide) (omega (arith, l, length-drop width bits)) (dropped_more n bits from) (omega (arith, z, parts_more n row parts)) in
      sym (take-append-drop width bits) ∙ ap₂ (λ (xs ys : List Bool). xs ++ ys) front back

  parts_same : (n : ℕ) (parts : List (List Bool)) → All (λ row. length row ≡ width) parts → drop (n * width) entry ≡ flat_map (λ row. row) parts → parts_differ n parts ≡ 0
  parts_same n [] wide from = refl
  parts_same n (row ∷ parts) wide from =
      let size : length row ≡ width = All-head (λ row. length row ≡ width) row parts wide in
      let rest = flat_map (λ row. row) parts in
      let front : take width (row ++ rest) ≡ row = ap (λ (k : ℕ). take k (row ++ rest)) (sym size) ∙ take-append_seam row rest in
      let back : drop width (row ++ rest) ≡ rest = ap (λ (k : ℕ). drop k (row ++ rest)) (sym size) ∙ drop-append_seam row rest in
      let here : part_differs (n, map seen_of row) ≡ 0 = ap (λ (xs : List Bool). differing_bits (map seen_of row) (take width xs)) from ∙ ap (differing_bits (map seen_of row)) front ∙ same_zero row in
      omega (arith, here, parts_more n row parts, parts_same (n + 1) parts (All-tail (λ row. length row ≡ width) row parts wide) (dropped_more n (row ++ rest) from ∙ back))

  start : drop (0 * width) entry ≡ entry
  start = let none : 0 * width ≡ 0 = omega arith in ap (λ (k : ℕ). drop k entry) none

  parts_decide : (parts : List (List Bool)) → All (λ row. length row ≡ width) parts → length entry ≡ length parts * width → Decides (eqb (parts_differ 0 parts) 0) (entry ≡ flat_map (λ row. row) parts)
  parts_decide parts wide l = (
    (λ z. parts_zero 0 parts entry wide l start (eqb-true (parts_differ 0 parts) 0 z)),
    (λ e. eq-eqb (parts_differ 0 parts) 0 (parts_same 0 parts wide (start ∙ e))),
  )

-- ---- rows against baselines

cases_zero : (n : ℕ) → (n ≡ 0) ⊎ (0 < n)
cases_zero zero = inl refl
cases_zero (suc n) = inr (omega arith)

all_seen : (row : List Bool) → list_all is_seen (map seen_of row) ≡ true
all_seen [] = refl
all_seen (true ∷ row) = all_seen row
all_seen (false ∷ row) = all_seen row

seen_bit : (baseline row : List Bool) → length baseline ≡ length row → (same : Bool) → same_bits row baseline ≡ same → seen_difference baseline (map seen_of row) ≡ seen_of (not same)
seen_bit baseline row l true e =
    let is : row ≡ baseline = (same_bits-Decides row baseline).0 e in
    let none : differing_bits (map seen_of row) baseline ≡ 0 = subst (λ (xs : List Bool). differing_bits (map seen_of row) xs ≡ 0) is (same_zero row) in
    ap₂ (λ (some all : Bool). cond some One (cond all Zero Unseen)) (ap (λ (k : ℕ). ltb 0 k) none) (all_seen row)
seen_bit baseline row l false e =
    let some : 0 < differing_bits (map seen_of row) baseline =
    elim (cases_zero (differing_bits (map seen_of row) baseline)) [
      | inl z ↦ let clash : ◌≡◌ {A = Bool} true false = sym ((same_bits-Decides row baseline).1 (sym (zero_same row baseline l z))) ∙ e in absurd (cc)
      | inr some ↦ some
    ] in
    ap (λ (b : Bool). cond b One (cond (list_all is_seen (map seen_of row)) Zero Unseen)) (lt-ltb 0 (differing_bits (map seen_of row) baseline) some)

-- each bit alone
abbrev alone : List Bool → List (List Bool)
alone bits = map (λ bit. bit ∷ []) bits

flat_alone : (bits : List Bool) → flat_map (λ row. row) (alone bits) ≡ bits
flat_alone [] = refl
flat_alone (bit ∷ bits) = ap (λ (xs : List Bool). bit ∷ xs) (flat_alone bits)

alone_wide : (bits : List Bool) → All (λ row. length row ≡ 1) (alone bits)
alone_wide [] = All-nil (λ row. length row ≡ 1)
alone_wide (bit ∷ bits) = All-cons (λ row. length row ≡ 1) (bit ∷ []) (alone bits) refl (alone_wide bits)

module _ (positions : ℕ) (baselines : List (List Bool)) (entry : List Bool) where
  abbrev bit_differs : Line → ℕ
  bit_differs line = differing_bits (seen_difference (row_at baselines line.0) line.1 ∷ []) (entry_part 1 entry line.0)

  abbrev bits_differ : ℕ → List (List Bool) → ℕ
  bits_differ n observed = sum_by bit_differs (enumerate_from n (map (map seen_of) observed))

  baseline_at : (n : ℕ) (baseline : List Bool) (rest : List (List Bool)) → drop n baselines ≡ baseline ∷ rest → row_at baselines n ≡ baseline
  baseline_at n baseline rest from = let none : n + 0 ≡ n = omega arith in ap (λ (k : ℕ). get_or baselines k []) (sym none) ∙ sym (get_or-drop n baselines 0 []) ∙ ap (λ (xs : List (List Bool)). get_or xs 0 []) from

  baselines_more : (n : ℕ) (baseline : List Bool) (rest : List (List Bool)) → drop n baselines ≡ baseline ∷ rest → drop (n + 1) baselines ≡ rest
  baselines_more n baseline rest from = sym (drop-drop 1 n baselines) ∙ ap (drop 1) from

  bits_are : (n : ℕ) (observed rest : List (List Bool)) → length observed ≡ length rest → All (λ row. length row ≡ positions) observed → All (λ row. length row ≡ positions) rest → drop n baselines ≡ rest
      → bits_differ n observed ≡ parts_differ 1 entry n (alone (differences observed rest))
  unfolding differences
  bits_are n [] [] l wide wide' from = refl
  bits_are n [] (baseline ∷ rest) l wide wide' from = absurd (omega (arith, l))
  bits_are n (row ∷ observed) [] l wide wide' from = absurd (omega (arith, l))
  bits_are n (row ∷ observed) (baseline ∷ rest) l wide wide' from =
      let same_width : length baseline ≡ length row = All-head (λ row. length row ≡ positions) baseline rest wide' ∙ sym (All-head (λ row. length row ≡ positions) row observed wide) in
      let bit : seen_difference (row_at baselines n) (map seen_of row) ≡ seen_of (not (same_bits row baseline)) =
      ap (λ (b : List Bool). seen_difference b (map seen_of row)) (baseline_at n baseline rest from) ∙ seen_bit baseline row same_width (same_bits row baseline) refl in
      let here : bit_differs (n, map seen_of row) ≡ part_differs 1 entry (n, map seen_of (not (same_bits row baseline) ∷ [])) = ap (λ (s : Seen). differing_bits (s ∷ []) (entry_part 1 entry n)) bit in
      let behind = bits_are (n + 1) observed rest (omega (arith, l)) (All-tail (λ row. length row ≡ positions) row observed wide) (All-tail (λ row. length row ≡ positions) baseline rest wide') (baselines_more n baseline rest from) in
      sum_by-cons bit_differs (n, map seen_of row) (enumerate_from (n + 1) (map (map seen_of) observed)) ∙ ap₂ (λ (a b : ℕ). a + b) here behind
      ∙ sym (parts_more 1 entry n (not (same_bits row baseline) ∷ []) (alone (differences observed rest)))

  bits_decide : (observed : List (List Bool)) → length observed ≡ length baselines → All (λ row. length row ≡ positions) observed → All (λ row. length row ≡ positions) baselines → length entry ≡ length observed
      → Decides (eqb (bits_differ 0 observed) 0) (entry ≡ differences observed baselines)
  bits_decide observed l wide wide' size =
      let bits = differences observed baselines in
      let count : length entry ≡ length (alone bits) * 1 = omega (arith, size, length-differences observed baselines l, length-map bits (λ (bit : Bool). bit ∷ [])) in
      let parts = parts_decide 1 entry (alone bits) (alone_wide bits) count in
      let same = bits_are 0 observed baselines l wide wide' refl in (
        (λ z. parts.0 (ap (λ (k : ℕ). eqb k 0) (sym same) ∙ z) ∙ flat_alone bits),
        (λ e. ap (λ (k : ℕ). eqb k 0) same ∙ parts.1 (e ∙ sym (flat_alone bits))),
      )

-- ---- dictionaries

module _ (d : Dict) (observed : List (List Bool)) (grouped : IsGroupedDict d) (shaped : IsShaped d) (rows : AreRows d.patterns d.positions observed) where
  group_in : (n : ℕ) → n < d.numbers → get_or d.groups n 0 < length d.entries
  group_in n below = let inside : n < length d.groups = omega (arith, below, grouped.one_each) in (grouped.used (get_or d.groups n 0)).0 (Contains-get_or d.groups n 0 inside)

  entry_wide : (n : ℕ) → n < d.numbers → length (entry_of d n) ≡ entry_width d.kind d.patterns d.positions
  entry_wide n below = shaped.entries (get_or d.groups n 0) [] (group_in n below)

  none_decides : (n : ℕ) → n < d.numbers → Decides (eqb (mismatch_count d (whole_lines observed) n) 0) (entry_of d n ≡ observed_entry d.kind d.baselines observed)
  unfolding mismatch_count
  none_decides n below = by d.kind d.baselines shaped.baselines (entry_of d n) (entry_wide n below)
    where
      by : (kind : DictKind) (baselines : List (List Bool)) → AreRows (baseline_count kind d.patterns) d.positions baselines → (entry : List Bool) → length entry ≡ entry_width kind d.patterns d.positions
          → Decides (eqb (sum_by (λ line. differing_bits (seen_part kind baselines line) (entry_part (part_width kind d.positions) entry line.0)) (whole_lines observed)) 0) (entry ≡ observed_entry kind baselines observed)
      by PassFail baselines are entry wide = bits_decide d.positions baselines entry observed (rows.count_is ∙ sym are.count_is) rows.width_is are.width_is (wide ∙ sym rows.count_is)
      by Full baselines are entry wide = parts_decide d.positions entry observed rows.width_is (wide ∙ ap (λ (n : ℕ). n * d.positions) (sym rows.count_is))
      by SameDiff baselines are entry wide = bits_decide d.positions baselines entry observed (rows.count_is ∙ sym are.count_is) rows.width_is are.width_is (wide ∙ sym rows.count_is)

filter_range_agree : (p q : ℕ → Bool) (a n : ℕ) → ((k : ℕ) → a ≤ k → k < a + n → p k ≡ q k) → filter p (range_with_len a n) ≡ filter q (range_with_len a n)
filter_range_agree p q a zero agree = refl
filter_range_agree p q a (suc n) agree =
    ap₂ (λ (b : Bool) (xs : List ℕ). cond b (a ∷ xs) xs) (agree a (omega arith) (omega arith)) (filter_range_agree p q (a + 1) n (λ k low high. agree k (omega (arith, low)) (omega (arith, high))))

pub whole_log_lists : (d : Dict) (observed : List (List Bool)) → IsGroupedDict d → IsShaped d → AreRows d.patterns d.positions observed
    → filter (λ n. eqb (mismatch_count d (whole_lines observed) n) 0) (range_with_len 0 d.numbers) ≡ listed_numbers d observed
unfolding listed_numbers
whole_log_lists d observed grouped shaped rows =
    filter_range_agree (λ n. eqb (mismatch_count d (whole_lines observed) n) 0) (λ n. same_bits (entry_of d n) (observed_entry d.kind d.baselines observed)) 0 d.numbers
    (λ n low high. same_from_decides (eqb (mismatch_count d (whole_lines observed) n) 0) (same_bits (entry_of d n) (observed_entry d.kind d.baselines observed))
    (none_decides d observed grouped shaped rows n (omega (arith, high))) (same_bits-Decides (entry_of d n) (observed_entry d.kind d.baselines observed)))
