-- Groups of equal rows as numbers, and the lowest numbers of the classes.
use Rattle.std.proofs.Common.{◌≡◌, ◌∙◌, ℕ, ◌+◌, ◌<◌, Bool, List, [], length, map, get_or, sym, ap, subst, arith}
use Rattle.std.specs.List.{range_with_len}
use Rattle.std.proofs.lemmas.List.Elements.{Contains-get_or}
use Rattle.std.proofs.lemmas.List.FromFn.{get_or-map-range_with_len, length-map-range_with_len}
use Rattle.net_model.specs.ClassTable.{ClassTable, class_count, representative}
use Rattle.dict_rows.specs.AnswerTable.{Answers, answer_to}
use Rattle.dict_rows.specs.Grouped.{AreGroupsOf}
use Rattle.adaptive_planner.specs.declared.class_numbers.ClassNumbers.{ClassNumbers}
use Rattle.adaptive_planner.specs.Numbering.{AreRowNumbers, AreNumbersTo, AreNumbersOfTable, AddsPattern, lead_answer}
use Rattle.adaptive_planner.proofs.NumberingLemmas.{numbers_alike}

module _ (f : ℕ → List Bool) (count : ℕ) (rows : List (List Bool)) (groups : List ℕ) (entries : List (List Bool)) (are : AreGroupsOf rows groups entries) (many : length rows ≡ count) (given : (class : ℕ) → class < count → get_or rows class [] ≡ f class) where
  group_low : (class : ℕ) → class < count → get_or groups class 0 < length entries
  group_low class h = (are.grouped.used (get_or groups class 0)).0 (Contains-get_or groups class 0 (omega (arith, h, are.grouped.one_each, many)))

  group_answer : (class : ℕ) → class < count → get_or entries (get_or groups class 0) [] ≡ f class
  group_answer class h = are.own class (omega (arith, h, many)) ∙ given class h

  pub groups_are_numbers : AreRowNumbers f count groups entries
  groups_are_numbers = record {
    one_each = are.grouped.one_each ∙ many;
    within = group_low;
    own = group_answer;
    same = λ one other h g alike. are.grouped.different.apart (get_or groups one 0) (get_or groups other 0) (group_low one h) (group_low other g) (group_answer one h ∙ (alike ∙ sym (group_answer other g)));
  }

-- the numbers with one more pattern
pub pattern_added : (f : ℕ → ℕ → List Bool) (count pattern : ℕ) (numbers : List ℕ) (added : List (List Bool)) (old new : ClassNumbers) → AddsPattern numbers added old new → AreNumbersTo f pattern count old → AreRowNumbers (f pattern) count numbers added → AreNumbersTo f (pattern + 1) count new
pattern_added f count pattern numbers added old new adds to rows =
    subst (λ k. AreNumbersTo f (k + 1) count new) to.patterns
    (adds.to f count (subst (λ k. AreNumbersTo f k count old) (sym to.patterns) to) (subst (λ k. AreRowNumbers (f k) count numbers added) (sym to.patterns) rows))

module _ (t : ClassTable) (leads : List ℕ) (lowest : leads ≡ map (representative t) (range_with_len 0 (class_count t))) where
  pub leads_long : length leads ≡ class_count t
  leads_long = ap length lowest ∙ length-map-range_with_len (representative t) 0 (class_count t)

  pub lead_is : (class : ℕ) → class < class_count t → get_or leads class 0 ≡ representative t class
  lead_is class h = ap (λ (xs : List ℕ). get_or xs class 0) lowest ∙ get_or-map-range_with_len (representative t) 0 (class_count t) class class 0 h (omega arith)

  pub numbers_by_leads : (table : Answers) (c : ClassNumbers) → AreNumbersTo (lead_answer table leads) (length table.rows) (length leads) c → AreNumbersOfTable t table c
  numbers_by_leads table c to =
      numbers_alike (lead_answer table leads) (λ p class. answer_to table p (representative t class)) (length table.rows) (class_count t) c
      (λ p class h l. ap (answer_to table p) (lead_is class l)) (subst (λ n. AreNumbersTo (lead_answer table leads) (length table.rows) n c) leads_long to)
