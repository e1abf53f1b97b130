-- Marks of the classes that a group's numbers have in a list.
use Rattle.std.proofs.Common.{◌≡◌, ◌∙◌, ◌↔◌, ℕ, ◌+◌, ◌<◌, ◌≤◌, inl, inr, Bool, true, false, ◌||◌, IsTrue, List, length, get_or, set, refl, sym, ap, subst, arith}
use Rattle.std.specs.Prelude.{Contains}
use Rattle.std.proofs.lemmas.Bool.{cases_lt, cases_eq, cases_Bool, false≢true, or_cases}
use Rattle.std.proofs.lemmas.List.{get_or-set_same, get_or-set_other, get_or_default}
use Rattle.net_model.specs.ClassTable.{ClassTable, class_at, members}
use Rattle.class_refine.proofs.Pieces.{members-All, members-contains, members_ascend}
use Rattle.compact_tests.specs.Earlier.{earlier_at, RepeatsWithin, HasRepeat, NoneIsMarked, HasClassBetween, AreMarkedTo, ShareEarlier}

module _ (group earlier : List ℕ) where
  pub none_marked : (marks : List Bool) → NoneIsMarked marks → AreMarkedTo group earlier 0 marks
  none_marked marks un = record { has = λ class m. absurd (false≢true (sym (un.each class) ∙ m)); marked = λ place h. absurd (omega (arith, h)) }

  pub none_repeat : RepeatsWithin group earlier 0 → ⊥
  none_repeat r = absurd (omega (arith, r.order, r.within))

  module _ (place class : ℕ) (marks : List Bool) (is : class ≡ earlier_at group earlier place) (inside : class < length marks) (so_far : AreMarkedTo group earlier place marks) where
    pub marked_more : AreMarkedTo group earlier (place + 1) (set marks class true)
    marked_more = record {
      has = λ c m. elim (cases_eq c class) [
        | inl e ↦ record { place = place; low = omega arith; within = omega arith; same = sym is ∙ sym e }
        | inr ne ↦ let old = so_far.has c (sym (get_or-set_other marks class c true false ne) ∙ m) in record { place = old.place; low = old.low; within = omega (arith, old.within); same = old.same }
      ];
      marked = λ k h. elim (cases_eq (earlier_at group earlier k) class) [
        | inl e ↦ ap (λ (c : ℕ). get_or (set marks class true) c false) e ∙ get_or-set_same marks class true false inside
        | inr ne ↦ elim (cases_lt k place) [
          | inl low ↦ get_or-set_other marks class (earlier_at group earlier k) true false ne ∙ so_far.marked k low
          | inr over ↦ let e : k ≡ place = omega (arith, h, over) in absurd (ne (ap (earlier_at group earlier) e ∙ sym is))
        ]
      ];
    }

    pub repeats_more : (again : Bool) → IsTrue again ↔ RepeatsWithin group earlier place → IsTrue (again || get_or marks class false) ↔ RepeatsWithin group earlier (place + 1)
    repeats_more again iff = (
      (λ t. elim (or_cases again (get_or marks class false) t) [
        | inl a ↦ let r = iff.0 a in record { first = r.first; second = r.second; order = r.order; within = omega (arith, r.within); same = r.same }
        | inr m ↦ let w = so_far.has class m in record { first = w.place; second = place; order = w.within; within = omega arith; same = w.same ∙ is }
      ]),
      (λ r. elim (cases_lt r.second place) [
        | inl low ↦ or_left again (get_or marks class false) (iff.1 (record { first = r.first; second = r.second; order = r.order; within = low; same = r.same }))
        | inr over ↦
            let e : r.second ≡ place = omega (arith, r.within, over) in
            let m : get_or marks class false ≡ true = ap (λ (c : ℕ). get_or marks c false) (is ∙ (ap (earlier_at group earlier) (sym e) ∙ sym r.same)) ∙ so_far.marked r.first (omega (arith, r.order, e)) in
            or_right again (get_or marks class false) m
      ]),
    )
      where
        or_left : (a b : Bool) → a ≡ true → (a || b) ≡ true
        or_left true b e = refl
        or_left false b e = absurd (false≢true e)

        or_right : (a b : Bool) → b ≡ true → (a || b) ≡ true
        or_right true b e = refl
        or_right false b e = e

  pub unmarked_more : (place to class : ℕ) (marks : List Bool) → class ≡ earlier_at group earlier place → class < length marks
      → ((c : ℕ) → get_or marks c false ≡ true → HasClassBetween group earlier place to c) → (c : ℕ) → get_or (set marks class false) c false ≡ true → HasClassBetween group earlier (place + 1) to c
  unmarked_more place to class marks is inside so_far c m = elim (cases_eq c class) [
    | inl e ↦ absurd (false≢true (sym (get_or-set_same marks class false false inside) ∙ (ap (λ (k : ℕ). get_or (set marks class false) k false) (sym e) ∙ m)))
    | inr ne ↦
        let old = so_far c (sym (get_or-set_other marks class c false false ne) ∙ m) in
        elim (cases_eq old.place place) [
          | inl here ↦ absurd (ne (sym old.same ∙ (ap (earlier_at group earlier) here ∙ sym is)))
          | inr there ↦ record { place = old.place; low = omega (arith, old.low, there); within = old.within; same = old.same }
        ]
  ]

  pub all_unmarked : (place to : ℕ) (marks : List Bool) → to ≤ place → ((c : ℕ) → get_or marks c false ≡ true → HasClassBetween group earlier place to c) → NoneIsMarked marks
  all_unmarked place to marks past so_far = record {
    each = λ class. elim (cases_Bool (get_or marks class false)) [
      | inl m ↦ let w = so_far class m in absurd (omega (arith, w.low, w.within, past))
      | inr none ↦ none
    ];
  }

-- ---- groups of a table

module _ (groups : ClassTable) (earlier : List ℕ) (long : length groups.class_of ≡ length earlier) where
  -- Numbers of a group that have one class.
  pub repeat_shares : (group : ℕ) → HasRepeat (members groups group) earlier → ShareEarlier groups earlier
  repeat_shares group r =
      let ms = members groups group in
      let a = members-All groups group r.first 0 (omega (arith, r.order, r.within)) in
      let b = members-All groups group r.second 0 r.within in
      record { first = get_or ms r.first 0; second = get_or ms r.second 0; order = members_ascend groups group r.first r.second 0 r.order r.within; within = omega (arith, b.0, long); together = a.1 ∙ sym b.1; same = r.same }

  -- Two numbers of a group that have one class make it repeated in that group.
  pub share_repeats : (s : ShareEarlier groups earlier) → HasRepeat (members groups (class_at groups s.first)) earlier
  share_repeats s =
      let group = class_at groups s.first in
      let ms = members groups group in
      let a = members-contains groups s.first (omega (arith, s.order, s.within, long)) in
      let b : Contains ms s.second = subst (λ (g : ℕ). Contains (members groups g) s.second) (sym s.together) (members-contains groups s.second (omega (arith, s.within, long))) in
      let at_a : get_or ms a.0 0 ≡ s.first = get_or_default ms a.0 0 s.first a.1 ∙ a.2 in
      let at_b : get_or ms b.0 0 ≡ s.second = get_or_default ms b.0 0 s.second b.1 ∙ b.2 in
      let same : earlier_at ms earlier a.0 ≡ earlier_at ms earlier b.0 = ap (λ (n : ℕ). get_or earlier n 0) at_a ∙ (s.same ∙ ap (λ (n : ℕ). get_or earlier n 0) (sym at_b)) in
      elim (cases_lt a.0 b.0) [
        | inl low ↦ record { first = a.0; second = b.0; order = low; within = b.1; same = same }
        | inr over ↦ elim (cases_eq a.0 b.0) [
          | inl e ↦ absurd (omega (arith, s.order, at_a, at_b, ap (λ (k : ℕ). get_or ms k 0) e))
          | inr ne ↦ absurd (omega (arith, s.order, at_a, at_b, members_ascend groups group b.0 a.0 0 (omega (arith, over, ne)) a.1))
        ]
      ]
