-- Numbers in groups by the roots of their faults, one number after another, and what their answers are.
use Rattle.std.proofs.Common.{◌≡◌, ◌∙◌, ℕ, ◌+◌, ◌<◌, ◌≤◌, Bool, true, cond, List, [], ◌∷◌, ◌++◌, length, get_or, refl, sym, ap, subst, arith, inl, inr}
use Rattle.std.specs.Prelude.{All, ◌==◌}
use Rattle.std.proofs.lemmas.Bool.{cases_lt, eq-eqb, ne_eqb}
use Rattle.std.proofs.lemmas.List.{length_push, get_or_append_left, get_or_push}
use Rattle.net_model.specs.Circuit.{Circuit}
use Rattle.net_model.specs.Answer.{bit_at, AreEqual}
use Rattle.net_model.specs.FaultList.{fault_count, fault_numbered}
use Rattle.fault_collapse.specs.Forest.{Forest, IsForestOf, forest_with}
use Rattle.fault_collapse.specs.ForestFields.{AreForestFields}
use Rattle.fault_collapse.proofs.Settled.{is_settled, same_equal}
use Rattle.class_refine.proofs.PatternTables.{answer_exists}
use Rattle.dict_rows.specs.AnswerTable.{Answers, ArePicked}
use Rattle.table_dicts.specs.Blocks.{IsAnswerBit, IsListedBit, AreRightBits}
use Rattle.table_dicts.specs.declared.simulating.Kept.TheVariants.{Bits}
use Rattle.table_dicts.specs.ByRoot.{AreGroupsByRoot}
use Rattle.dict_rows.proofs.GroupLemmas.{firsts_with}

-- At first there is no group.
pub roots_none : (roots : List ℕ) → AreGroupsByRoot roots 0 [] []
roots_none roots = record { one_each = refl; few = omega arith; inside = λ group h. absurd (omega (arith, h)); known = λ n h. absurd (omega (arith, h)); same = λ n h. absurd (omega (arith, h)) }

module _ (roots : List ℕ) (i : ℕ) (groups firsts : List ℕ) (are : AreGroupsByRoot roots i groups firsts) where
  group_was : (group n : ℕ) → n < i → get_or (groups ++ group ∷ []) n 0 ≡ get_or groups n 0
  group_was group n low = get_or_append_left groups (group ∷ []) 0 n (omega (arith, low, are.one_each))

  last_group : (group : ℕ) → get_or (groups ++ group ∷ []) i 0 ≡ group
  last_group group = get_or_push groups group 0 i are.one_each

  -- A number is put into a group whose first number has its root.
  joined : (group : ℕ) → group < length firsts → get_or roots (get_or firsts group 0) 0 ≡ get_or roots i 0 → AreGroupsByRoot roots (i + 1) (groups ++ group ∷ []) firsts
  joined group low same = record {
    one_each = omega (arith, length_push groups group, are.one_each);
    few = omega (arith, are.few);
    inside = λ g h. omega (arith, are.inside g h);
    known = λ n h. elim (cases_lt n i) [
      | inl less ↦ rw (group_was group n less) (are.known n less)
      | inr over ↦ let e : n ≡ i = omega (arith, h, over) in rw (e, last_group group) low
    ];
    same = λ n h. elim (cases_lt n i) [
      | inl less ↦ rw (group_was group n less) (are.same n less)
      | inr over ↦ let e : n ≡ i = omega (arith, h, over) in rw (e, last_group group) same
    ];
  }

  -- A number begins a group.
  begun : AreGroupsByRoot roots (i + 1) (groups ++ length firsts ∷ []) (firsts ++ i ∷ [])
  begun =
      let count = length firsts in
      record {
        one_each = omega (arith, length_push groups count, are.one_each);
        few = omega (arith, length_push firsts i, are.few);
        inside = λ g h. elim (cases_lt g count) [
          | inl low ↦ omega (arith, get_or_append_left firsts (i ∷ []) 0 g low, are.inside g low)
          | inr over ↦ let e : g ≡ count = omega (arith, h, over, length_push firsts i) in rw (e, get_or_push firsts i 0 count refl) (omega arith)
        ];
        known = λ n h. elim (cases_lt n i) [
          | inl less ↦ omega (arith, group_was count n less, are.known n less, length_push firsts i)
          | inr over ↦ let e : n ≡ i = omega (arith, h, over) in rw (e, last_group count) (omega (arith, length_push firsts i))
        ];
        same = λ n h. elim (cases_lt n i) [
          | inl less ↦ rw (group_was count n less, get_or_append_left firsts (i ∷ []) 0 (get_or groups n 0) (are.known n less)) (are.same n less)
          | inr over ↦ let e : n ≡ i = omega (arith, h, over) in rw (e, last_group count, get_or_push firsts i 0 count refl) refl
        ];
      }

  pub root_more : (group : ℕ) → group ≤ length firsts → (group < length firsts → get_or roots (get_or firsts group 0) 0 ≡ get_or roots i 0) → AreGroupsByRoot roots (i + 1) (groups ++ group ∷ []) (firsts_with firsts group i)
  root_more group within same = elim (cases_lt group (length firsts)) [
    | inl low ↦
        let as_was : firsts_with firsts group i ≡ firsts = ap (λ b. cond b (firsts ++ i ∷ []) firsts) (ne_eqb group (length firsts) (λ e. omega (arith, e, low))) in
        subst (AreGroupsByRoot roots (i + 1) (groups ++ group ∷ [])) (sym as_was) (joined group low (same low))
    | inr over ↦
        let e : group ≡ length firsts = omega (arith, within, over) in
        let with_i : firsts_with firsts (length firsts) i ≡ firsts ++ i ∷ [] = ap (λ b. cond b (firsts ++ i ∷ []) firsts) (eq-eqb (length firsts) (length firsts) refl) in
        subst (λ g. AreGroupsByRoot roots (i + 1) (groups ++ g ∷ []) (firsts_with firsts g i)) (sym e) (subst (AreGroupsByRoot roots (i + 1) (groups ++ length firsts ∷ [])) (sym with_i) begun)
  ]

-- ---- their answers

pub settled : {c : Circuit} {forest : Forest} → IsForestOf c forest → AreForestFields (forest_with forest.successors forest.roots)
settled {c} {forest} of = is_settled c of.circuit forest.successors forest.roots of.successors of.roots

module _ (c : Circuit) (patterns : List (List Bool)) (forest : Forest) (of : IsForestOf c forest) (groups firsts : List ℕ) (are : AreGroupsByRoot forest.roots (length forest.roots) groups firsts) where
  -- A number is equal to the first of its group.
  equal_first : (n : ℕ) → n < fault_count c → AreEqual c (fault_numbered c (get_or firsts (get_or groups n 0) 0)) (fault_numbered c n)
  equal_first n h =
      let first = get_or firsts (get_or groups n 0) 0 in
      let inside : n < length forest.roots = omega (arith, h, of.roots.whole) in
      let same : (get_or forest.roots first 0 == get_or forest.roots n 0) ≡ true = eq-eqb (get_or forest.roots first 0) (get_or forest.roots n 0) (are.same n inside) in
      same_equal c forest of first n (are.inside (get_or groups n 0) (are.known n inside)) inside (get_or forest.roots first 0 == get_or forest.roots n 0) refl same

  -- The answers of the firsts, repeated for each number of their groups, are those of all numbers.
  pub right_of_firsts : (listed all : Answers) → All (λ v. length v ≡ c.sources) patterns → AreRightBits (IsListedBit Bits c patterns firsts) (length patterns) (length firsts) (length c.positions) (length patterns) listed → ArePicked listed groups all
      → AreRightBits (IsAnswerBit c patterns) (length patterns) (fault_count c) (length c.positions) (length patterns) all
  right_of_firsts listed all widths right picked = record {
    sizes = record {
      patterns_are = picked.sizes.patterns_are ∙ right.sizes.patterns_are;
      numbers_are = picked.sizes.numbers_are ∙ (are.one_each ∙ of.roots.whole);
      positions_are = picked.sizes.positions_are ∙ right.sizes.positions_are;
    };
    each = λ p n k hp hn hk answer is.
        let v = get_or patterns p [] in
        let group = get_or groups n 0 in
        let first = get_or firsts group 0 in
        let inside : n < length forest.roots = omega (arith, hn, of.roots.whole) in
        let of_first = answer_exists c of.circuit (fault_numbered c first) v in
        ap (λ (bits : List Bool). bit_at bits k) (picked.each p n (omega (arith, hp, right.sizes.patterns_are)) (omega (arith, inside, are.one_each)))
        ∙ (right.each p group k hp (are.known n inside) hk of_first.0 of_first.1
        ∙ ap (λ (bits : List Bool). bit_at bits k) (equal_first n hn v of_first.0 answer (widths p [] hp) of_first.1 is));
  }
