-- A full dictionary keeps each pair of classes apart.
use Rattle.std.proofs.Common.{◌≡◌, ◌∙◌, ℕ, zero, suc, ◌+◌, ◌-◌, ◌*◌, ◌<◌, ◌≤◌, Bool, true, false, not, cond, List, [], ◌∷◌, length, refl, sym, ap, arith, All}
use Rattle.std.specs.Prelude.{count_by}
use Rattle.std.specs.List.{range_with_len}
use Rattle.std.proofs.Math.Nat.{suc-mul, mul-suc, le_refl}
use Rattle.std.proofs.lemmas.List.Elements.{All-head, All-tail}
use Rattle.std.proofs.lemmas.List.Sums.{sum_by-cons}
use Rattle.std.proofs.lemmas.List.FromFn.{length-range_with_len}
use Rattle.net_model.specs.Circuit.{Circuit, IsCircuit}
use Rattle.net_model.specs.ClassTable.{ClassTable, class_count, class_at, representative, same_bits}
use Rattle.net_model.specs.PatternRows.{IsTableOf}
use Rattle.net_model.proofs.Listed.{All-range_with_len}
use Rattle.class_refine.specs.Fields.{IsWhole}
use Rattle.class_refine.proofs.Refined.{representative-member}
use Rattle.class_refine.proofs.PatternTables.{table_numbers}
use Rattle.dict_rows.specs.declared.dict.Dict.{Dict}
use Rattle.table_dicts.specs.Apart.{has_apart, apart_count}
use Rattle.dict_rows.specs.Dictionary.{entry_of}
use Rattle.dict_rows.proofs.EntryLemmas.{same_bits-Decides}
use Rattle.table_dicts.proofs.ApartLemmas.{apart_to, apart_all, apart_more}
use Rattle.table_dicts.proofs.ClassLemmas.{entry_at, entries_of_classes}
use Rattle.request_words.specs.declared.request.EntryKind.{EntryKind}
use Rattle.request_words.specs.declared.request.EntryKind.TheVariants.{PassFail, Full, SameDiff}
use Rattle.dictionary_commands.specs.Dictionaries.{IsOfPatterns, pairs_kept, pair_count}

one_in : (b : Bool) → b ≡ true → cond b 1 0 ≡ suc zero
one_in true e = refl
one_in false e = absurd (cc)

count_all : (p : ℕ → Bool) (xs : List ℕ) → All (λ x. p x ≡ true) xs → count_by p xs ≡ length xs
count_all p [] all = refl
count_all p (x ∷ xs) all = omega (arith, sum_by-cons (λ x. cond (p x) 1 0) x xs, one_in (p x) (All-head (λ x. p x ≡ true) x xs all), count_all p xs (All-tail (λ x. p x ≡ true) x xs all))

not_yes : (b : Bool) → (b ≡ true → ⊥) → not b ≡ true
not_yes true off = absurd (off refl)
not_yes false off = refl

-- ---- all pairs

module _ (t : ClassTable) (entry : ℕ → List Bool) (apart : (low high : ℕ) → low < high → high < class_count t → has_apart t entry low high ≡ true) where
  all_lower : (high : ℕ) → high < class_count t → count_by (λ low. has_apart t entry low high) (range_with_len 0 high) ≡ high
  all_lower high h =
      count_all (λ low. has_apart t entry low high) (range_with_len 0 high) (All-range_with_len (λ low. has_apart t entry low high ≡ true) 0 high (λ low from below. apart low high (omega (arith, below)) h)) ∙ length-range_with_len 0 high

  more_to : (k : ℕ) → k < class_count t → apart_to t entry (suc k) ≡ apart_to t entry k + k
  more_to k h =
      let next : suc k ≡ k + 1 = omega arith in
      ap (apart_to t entry) next ∙ (apart_more t entry k ∙ ap (λ n. apart_to t entry k + n) (all_lower k h))

  doubled : (k : ℕ) → k ≤ class_count t → 2 * apart_to t entry k ≡ k * (k - 1)
  doubled zero h = refl
  doubled (suc zero) h = omega (arith, more_to zero (omega (arith, h)), doubled zero (omega (arith, h)))
  doubled (suc (suc m)) h =
      let less : suc m - 1 ≡ m = omega arith in
      let also : suc (suc m) - 1 ≡ suc m = omega arith in
      let before : 2 * apart_to t entry (suc m) ≡ suc m * m = doubled (suc m) (omega (arith, h)) ∙ ap (λ k. suc m * k) less in
      let square : suc m * suc m ≡ suc m * m + suc m = mul-suc (suc m) m in
      let next : suc (suc m) * suc m ≡ suc m * suc m + suc m = suc-mul (suc m) (suc m) in
      let twice : 2 * apart_to t entry (suc (suc m)) ≡ suc (suc m) * suc m = omega (arith, more_to (suc m) (omega (arith, h)), before, square, next) in
      twice ∙ ap (λ k. suc (suc m) * k) (sym also)

  pub each_pair : apart_count t entry ≡ pair_count (class_count t)
  each_pair = sym (apart_all t entry) ∙ omega (arith, doubled (class_count t) (le_refl (class_count t)))

-- ---- the classes of a circuit

pub full_apart : {c : Circuit} {patterns : List (List Bool)} {d : Dict} {t : ClassTable} → IsCircuit c → IsOfPatterns c Full patterns t d → IsTableOf c patterns t → IsWhole t → pairs_kept t d ≡ pair_count (class_count t)
full_apart {c} {patterns} {d} {t} circuit of table whole =
    each_pair t (entry_of d) (λ low high l h.
    let a = representative-member t whole low (omega (arith, l, h)) in
    let b = representative-member t whole high h in
    let m = representative t low in
    let n = representative t high in
    let m_in : m < of.answers.numbers = omega (arith, a.0, table_numbers table, of.are.numbers) in
    let n_in : n < of.answers.numbers = omega (arith, b.0, table_numbers table, of.are.numbers) in
    not_yes (same_bits (entry_of d m) (entry_of d n)) (λ yes.
    let same = (same_bits-Decides (entry_of d m) (entry_of d n)).0 yes in
    let rows = entries_of_classes c circuit patterns of.answers of.are t table in
    let entries = entry_at c circuit patterns of.answers of.are m m_in ∙ (sym (of.is.entries_are m m_in) ∙ (same ∙ (of.is.entries_are n n_in ∙ sym (entry_at c circuit patterns of.answers of.are n n_in)))) in
    let classes : class_at t m ≡ class_at t n = (rows.equal m n a.0 b.0).1 entries in
    omega (arith, l, a.1, b.1, classes)))

pub apart_by_kind : (kind : EntryKind) {c : Circuit} {patterns : List (List Bool)} {d : Dict} {t : ClassTable} → IsCircuit c → IsOfPatterns c kind patterns t d → IsTableOf c patterns t → IsWhole t → kind ≡ Full → pairs_kept t d ≡ pair_count (class_count t)
apart_by_kind PassFail circuit of table whole full = absurd (cc)
apart_by_kind SameDiff circuit of table whole full = absurd (cc)
apart_by_kind Full circuit of table whole full = full_apart circuit of table whole
