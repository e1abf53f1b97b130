-- Rows that are compared or joined, and numbers that are listed.
use Rattle.std.proofs.Common.{◌≡◌, ◌∙◌, ℕ, zero, suc, ◌+◌, ◌*◌, ◌<◌, ◌≤◌, Bool, true, false, cond, eqb, List, [], ◌∷◌, ◌++◌, length, get_or, replicate, refl, sym, ap, ap₂, arith}
use Rattle.std.specs.Prelude.{All, filter, flat_map}
use Rattle.std.specs.Bool.{Decides}
use Rattle.std.specs.List.{range_with_len}
use Rattle.std.proofs.lemmas.Bool.{eq-eqb, eqb-true, false_from_ne_true}
use Rattle.std.proofs.lemmas.List.{length-append, length-replicate, append-nil, get_or_append_left, get_or-append-add}
use Rattle.std.proofs.lemmas.List.Elements.{All-head, All-tail}
use Rattle.std.proofs.lemmas.Bool.Decides.{same_from_decides}
use Rattle.net_model.specs.ClassTable.{same_bits}
use Rattle.net_model.proofs.Ranges.{filter-range_more}
use Rattle.dict_rows.specs.declared.dict.Dict.{Dict}
use Rattle.dict_rows.specs.declared.dict.DictKind.{DictKind}
use Rattle.dict_rows.specs.declared.dict.DictKind.TheVariants.{PassFail, Full, SameDiff}
use Rattle.net_model.specs.Rows.{row_at, row_bit}
use Rattle.dict_rows.specs.Rows.{AreRows, IsRowTested}
use Rattle.dict_rows.specs.Grouped.{IsGrouped}
use Rattle.dict_rows.specs.Dictionary.{IsShaped, baseline_count, entry_width, entry_of, observed_entry, listed_numbers}
use Rattle.dict_rows.proofs.BlockWordLemmas.{tested_row}
use Rattle.dict_rows.proofs.EntryLemmas.{same_bits-Decides, length-differences}

-- ---- equal rows

-- rows that pass the test are equal
pub told_same : (a b : List Bool) → true ≡ same_bits a b → a ≡ b
told_same a b e = (same_bits-Decides a b).0 (sym e)

pub told_other : (a b : List Bool) → false ≡ same_bits a b → a ≡ b → ⊥
told_other a b e same = let clash : ◌≡◌ {A = Bool} false true = e ∙ (same_bits-Decides a b).1 same in absurd (cc)

pub by_same : (a b : List Bool) (r : Bool) → Decides r (a ≡ b) → r ≡ same_bits a b
by_same a b r decides = same_from_decides r (same_bits a b) decides (same_bits-Decides a b)

-- ---- an entry that is written as one row

one_row : (bits : List (List Bool)) → length bits ≡ 1 → bits ≡ get_or bits 0 [] ∷ []
one_row [] e = absurd (omega (arith, e))
one_row (x ∷ []) e = refl
one_row (x ∷ y ∷ more) e = absurd (omega (arith, e))

-- the only row of a list is the entry if its bits are results of a test and those of the entry are the same
pub entry_tested : {answers : ℕ → Bool → Type 0} {count : ℕ} {zeros bits : List (List Bool)} (entry : List Bool) → zeros ≡ replicate 1 (replicate count false) → IsRowTested answers zeros bits 0 (length (row_at zeros 0)) → length entry ≡ count
    → ((at : ℕ) (bit : Bool) → at < count → answers at bit → bit ≡ get_or entry at false) → bits ≡ entry ∷ []
entry_tested {answers} {count} {zeros} {bits} entry is set long told =
    let wide : length (row_at zeros 0) ≡ count = ap (λ (rows : List (List Bool)). length (row_at rows 0)) is ∙ length-replicate count false in
    let row = tested_row entry set (wide ∙ sym long) (λ at bit h answered. told at bit (omega (arith, h, long)) answered) in
    one_row bits (row.shape.count ∙ ap length is) ∙ ap (λ (r : List Bool). r ∷ []) row.here

-- the bit at the place of a row's bit in all rows, one after another
pub flat_bit : (rows : List (List Bool)) (width row at : ℕ) → All (λ r. length r ≡ width) rows → row < length rows → at < width → get_or (flat_map (λ r. r) rows) (row * width + at) false ≡ row_bit rows row at
flat_bit [] width row at wide below inside = absurd (omega (arith, below))
flat_bit (r ∷ rows) width zero at wide below inside =
    get_or_append_left r (flat_map (λ r. r) rows) false (0 * width + at) (omega (arith, inside, All-head (λ r. length r ≡ width) r rows wide)) ∙ ap (λ (n : ℕ). get_or r n false) (omega arith)
flat_bit (r ∷ rows) width (suc row) at wide below inside =
    let long : length r ≡ width = All-head (λ r. length r ≡ width) r rows wide in
    let place : suc row * width + at ≡ length r + (row * width + at) = omega (arith, long) in
    ap (λ (n : ℕ). get_or (r ++ flat_map (λ r. r) rows) n false) place
    ∙ (get_or-append-add r (flat_map (λ r. r) rows) (row * width + at) false ∙ flat_bit rows width row at (All-tail (λ r. length r ≡ width) r rows wide) (omega (arith, below)) inside)

pub some_width : (count width place : ℕ) → place < count * width → 0 < width
some_width count zero place h = absurd (omega (arith, h))
some_width count (suc width) place h = omega arith

-- ---- numbers

kept_by : (b : Bool) (n : ℕ) (xs : List ℕ) → cond b (xs ++ n ∷ []) xs ≡ xs ++ cond b (n ∷ []) []
kept_by true n xs = refl
kept_by false n xs = sym (append-nil xs)

pub kept_more : (p : ℕ → Bool) (n : ℕ) (before after : List ℕ) → before ≡ filter p (range_with_len 0 n) → after ≡ cond (p n) (before ++ n ∷ []) before → after ≡ filter p (range_with_len 0 (n + 1))
kept_more p n before after is next = next ∙ kept_by (p n) n before ∙ ap (λ (xs : List ℕ). xs ++ cond (p n) (n ∷ []) []) is ∙ sym (filter-range_more p n)

filter_range_agree : (p q : ℕ → Bool) (a n : ℕ) → ((k : ℕ) → a ≤ k → k < a + n → p k ≡ q k) → filter p (range_with_len a n) ≡ filter q (range_with_len a n)
filter_range_agree p q a zero agree = refl
filter_range_agree p q a (suc n) agree =
    ap₂ (λ (b : Bool) (xs : List ℕ). cond b (a ∷ xs) xs) (agree a (omega arith) (omega arith)) (filter_range_agree p q (a + 1) n (λ k low high. agree k (omega (arith, low)) (omega (arith, high))))

filter_range_none : (p : ℕ → Bool) (a n : ℕ) → ((k : ℕ) → a ≤ k → k < a + n → p k ≡ false) → filter p (range_with_len a n) ≡ []
filter_range_none p a zero none = refl
filter_range_none p a (suc n) none = rw (none a (omega arith) (omega arith)) (filter_range_none p (a + 1) n (λ k low high. none k (omega (arith, low)) (omega (arith, high))))

itself_at : (xs : List ℕ) (k : ℕ) → k < length xs → get_or xs k (get_or xs k 0) ≡ get_or xs k 0
itself_at [] k inside = absurd (omega (arith, inside))
itself_at (x ∷ xs) zero inside = refl
itself_at (x ∷ xs) (suc k) inside = itself_at xs k (omega (arith, inside))

module _ (d : Dict) (observed : List (List Bool)) (grouped : IsGrouped d.numbers d.groups d.entries) where
  abbrev entry : List Bool
  entry = observed_entry d.kind d.baselines observed

  group_in : (n : ℕ) → n < d.numbers → get_or d.groups n 0 < length d.entries
  group_in n below = (grouped.used (get_or d.groups n 0)).0 (n, omega (arith, below, grouped.one_each), itself_at d.groups n (omega (arith, below, grouped.one_each)))

  -- the numbers of the group whose row is the entry are those that are listed
  pub listed_group : (group : ℕ) → group < length d.entries → get_or d.entries group [] ≡ entry → filter (λ n. eqb (get_or d.groups n 0) group) (range_with_len 0 d.numbers) ≡ listed_numbers d observed
  unfolding listed_numbers
  listed_group group inside is =
      filter_range_agree (λ n. eqb (get_or d.groups n 0) group) (λ n. same_bits (entry_of d n) entry) 0 d.numbers
      (λ n low high. let below : n < d.numbers = omega (arith, high) in
      same_from_decides {P = get_or d.groups n 0 ≡ group} (eqb (get_or d.groups n 0) group) (same_bits (entry_of d n) entry)
      (eqb-true (get_or d.groups n 0) group, eq-eqb (get_or d.groups n 0) group) (
        (λ same. grouped.different.apart (get_or d.groups n 0) group (group_in n below) inside ((same_bits-Decides (entry_of d n) entry).0 same ∙ sym is)),
        (λ e. (same_bits-Decides (entry_of d n) entry).1 (ap (λ (g : ℕ). get_or d.entries g []) e ∙ is)),
      ))

  -- no number is listed if no row is the entry
  pub listed_none : ((group : ℕ) → group < length d.entries → get_or d.entries group [] ≡ entry → ⊥) → [] ≡ listed_numbers d observed
  unfolding listed_numbers
  listed_none never =
      sym (filter_range_none (λ n. same_bits (entry_of d n) entry) 0 d.numbers
      (λ n low high. false_from_ne_true (same_bits (entry_of d n) entry) (λ same. never (get_or d.groups n 0) (group_in n (omega (arith, high))) ((same_bits-Decides (entry_of d n) entry).0 same))))

-- ---- the entry of observed answers

-- observed answers have the rows and the width of baselines
pub like_baselines : (patterns positions count : ℕ) (baselines observed : List (List Bool)) → count ≡ patterns → AreRows count positions baselines → AreRows patterns positions observed
    → (length observed ≡ length baselines) × ((row : ℕ) → row < length observed → length (get_or observed row []) ≡ length (get_or baselines row []))
like_baselines patterns positions count baselines observed same are rows = (
  rows.count_is ∙ sym (are.count_is ∙ same),
  λ row below. rows.width_is row [] below ∙ sym (are.width_is row [] (omega (arith, below, rows.count_is, are.count_is, same))),
)

pub length-flat : (rows : List (List Bool)) (width : ℕ) → All (λ row. length row ≡ width) rows → length (flat_map (λ row. row) rows) ≡ length rows * width
length-flat [] width wide = omega arith
length-flat (row ∷ rows) width wide =
    omega (arith, length-append row (flat_map (λ r. r) rows), All-head (λ r. length r ≡ width) row rows wide, length-flat rows width (All-tail (λ r. length r ≡ width) row rows wide))

entry_wide : (kind : DictKind) (patterns positions : ℕ) (baselines observed : List (List Bool)) → AreRows (baseline_count kind patterns) positions baselines → AreRows patterns positions observed
    → length (observed_entry kind baselines observed) ≡ entry_width kind patterns positions
entry_wide PassFail patterns positions baselines observed are rows = length-differences observed baselines (like_baselines patterns positions patterns baselines observed refl are rows).0 ∙ rows.count_is
entry_wide Full patterns positions baselines observed are rows = length-flat observed positions rows.width_is ∙ ap (λ (n : ℕ). n * positions) rows.count_is
entry_wide SameDiff patterns positions baselines observed are rows = length-differences observed baselines (like_baselines patterns positions patterns baselines observed refl are rows).0 ∙ rows.count_is

-- the entry rows of a dictionary are as wide as the entry of observed answers
pub rows_like : (d : Dict) (observed one : List (List Bool)) → IsShaped d → AreRows d.patterns d.positions observed → one ≡ observed_entry d.kind d.baselines observed ∷ [] → All (λ row. length row ≡ length (get_or one 0 [])) d.entries
rows_like d observed one shaped rows is k e below =
    shaped.entries k e below ∙ sym (ap (λ (xs : List (List Bool)). length (get_or xs 0 [])) is ∙ entry_wide d.kind d.patterns d.positions d.baselines observed shaped.baselines rows)
