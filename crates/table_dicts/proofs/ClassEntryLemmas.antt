-- Entries of classes in groups are those of all numbers.
use Rattle.std.proofs.Common.{◌≡◌, ◌∙◌, ℕ, ◌<◌, ◌≤◌, Bool, false, List, [], length, get_or, map, replicate, sym, ap, subst, arith, All}
use Rattle.std.specs.List.{range_with_len}
use Rattle.std.proofs.lemmas.List.{get_or-map, length-map, length-replicate}
use Rattle.std.proofs.lemmas.List.Elements.{Contains-get_or}
use Rattle.std.proofs.lemmas.List.FromFn.{length-map-range_with_len, get_or-map-range_with_len}
use Rattle.net_model.specs.ClassTable.{ClassTable, class_at}
use Rattle.net_model.specs.Rows.{row_at}
use Rattle.table_dicts.specs.ByClass.{AreRowsOfClasses}
use Rattle.dict_rows.specs.Grouped.{AreFirstsOf, AreGroupsOf}
use Rattle.dict_rows.proofs.GroupLemmas.{few_firsts}
use Rattle.dict_rows.proofs.RegroupLemmas.{groups_over}

module _ (t : ClassTable) where
  -- A row for each number, as long as the number of its class.
  abbrev mark : ℕ → List Bool
  mark n = replicate (class_at t n) false

  abbrev marks : List (List Bool)
  marks = map mark (range_with_len 0 (length t.class_of))

  mark_at : (n : ℕ) → n < length t.class_of → get_or marks n [] ≡ mark n
  mark_at n h = get_or-map-range_with_len mark 0 (length t.class_of) n n [] h (omega arith)

  same_mark : (m n : ℕ) → mark m ≡ mark n → class_at t m ≡ class_at t n
  same_mark m n e = sym (length-replicate (class_at t m) false) ∙ (ap length e ∙ length-replicate (class_at t n) false)

  marks_are : AreRowsOfClasses t marks
  marks_are = record {
    one_each = length-map-range_with_len mark 0 (length t.class_of);
    equal = λ m n hm hn. (
      λ same. mark_at m hm ∙ (ap (λ k. replicate k false) same ∙ sym (mark_at n hn)),
      λ e. same_mark m n (sym (mark_at m hm) ∙ (e ∙ mark_at n hn)),
    );
  }

-- Groups of numbers by their classes.
module _ (t : ClassTable) (numbers : ℕ) (all : numbers ≡ length t.class_of) (groups firsts : List ℕ) (sorted : (rows : List (List Bool)) → AreRowsOfClasses t rows → AreFirstsOf rows numbers groups firsts) where
  by : AreFirstsOf (marks t) (length (marks t)) groups firsts
  by = subst (λ n. AreFirstsOf (marks t) n groups firsts) (all ∙ sym (marks_are t).one_each) (sorted (marks t) (marks_are t))

  pub firsts_inside : All (λ number. number < length t.class_of) firsts
  firsts_inside = subst (λ n. All (λ number. number < n) firsts) (marks_are t).one_each by.inside

  pub firsts_few : length firsts ≤ numbers
  firsts_few = omega (arith, few_firsts by, (marks_are t).one_each, all)

  pub group_known : (n : ℕ) → n < length groups → get_or groups n 0 < length firsts
  group_known n h = (by.used (get_or groups n 0)).0 (Contains-get_or groups n 0 h)

  module _ (entries cells : List (List Bool)) (cells_are : cells ≡ map (row_at entries) (map (class_at t) firsts)) where
    pub cells_long : length cells ≡ length firsts
    cells_long = ap length cells_are ∙ (length-map (map (class_at t) firsts) (row_at entries) ∙ length-map firsts (class_at t))

    -- The cell of a number's group is the entry of its class.
    cell_is : (n : ℕ) → n < length t.class_of → row_at cells (get_or groups n 0) ≡ row_at entries (class_at t n)
    cell_is n h =
        let group = get_or groups n 0 in
        let inside : n < length (marks t) = omega (arith, h, (marks_are t).one_each) in
        let known = group_known n (omega (arith, inside, by.one_each)) in
        let together = ((marks_are t).equal (get_or firsts group 0) n (firsts_inside group 0 known) h).1 (by.own n inside) in
        ap (λ (rows : List (List Bool)). row_at rows group) cells_are
        ∙ (get_or-map (row_at entries) (map (class_at t) firsts) group 0 [] (omega (arith, known, length-map firsts (class_at t)))
        ∙ ap (row_at entries) (get_or-map (class_at t) firsts group 0 0 known ∙ together))

    -- Numbers are in the groups of their groups' cells.
    pub groups_of_numbers : {rows out : List (List Bool)} {outer : List ℕ} → length rows ≡ numbers → ((n : ℕ) → n < length t.class_of → row_at entries (class_at t n) ≡ row_at rows n)
        → AreGroupsOf cells outer out → AreGroupsOf rows (map (λ group. get_or outer group 0) groups) out
    groups_of_numbers {rows} {out} {outer} long own grouped =
        let many = (marks_are t).one_each in
        groups_over by grouped cells_long (long ∙ (all ∙ sym many)) (λ n h. let inside : n < length t.class_of = omega (arith, h, many) in cell_is n inside ∙ own n inside)
