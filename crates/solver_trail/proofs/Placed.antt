-- Set literals in the slots of their variables.
use Rattle.std.proofs.Common.{◌≡◌, ◌≢◌, ◌∙◌, inl, inr, ℕ, ◌+◌, ◌<◌, ◌≤◌, List, [], ◌∷◌, ◌++◌, length, get_or, refl, sym, ap, subst, arith}
use Rattle.std.specs.Prelude.{Bool, true, false, not, cond, Option, None, Some, is_none, set, All, AllPairs, Contains}
use Rattle.std.specs.Bool.{beq}
use Rattle.std.specs.List.{count_by}
use Rattle.std.proofs.lemmas.Bool.{cases_eq, cases_lt}
use Rattle.std.proofs.lemmas.List.{length-set, length_push, get_or-set_same, get_or-set_other, get_or_read, map_push}
use Rattle.std.proofs.lemmas.List.Elements.{All-push}
use Rattle.std.proofs.lemmas.List.Sums.{sum_by-set}
use Rattle.clause_pool.specs.Literal.{Literal, opposite}
use Rattle.clause_pool.specs.Partial.{IsUndetermined}
use Rattle.solver_trail.specs.declared.set_literals.SetLiteral.{SetLiteral}
use Rattle.solver_trail.specs.declared.set_literals.Slot.{Slot}
use Rattle.solver_trail.specs.Assignment.{literals_of, AreInLevels, IsInside, IsTrail, IsValueOf, no_literal}
use Rattle.solver_trail.specs.StackFields.{literal_slot, ArePlaced}
use Rattle.solver_trail.proofs.Held.{place_of, held_at, at_push_before, at_push_end}

-- ---- counts of open slots

open_weight : Option Slot → ℕ
open_weight o = cond (is_none o) 1 0

count_fills : (slots : List (Option Slot)) (v : ℕ) (s : Slot) → v < length slots → get_or slots v None ≡ None
    → count_by is_none (set slots v (Some s)) + 1 ≡ count_by is_none slots
unfolding open_weight
count_fills slots v s within e =
    let sums = sum_by-set open_weight slots v (Some s) None within in
    let was : open_weight (get_or slots v None) ≡ 1 = ap open_weight e in
    omega (arith, sums, was)

count_empties : (slots : List (Option Slot)) (v : ℕ) (s : Slot) → v < length slots → get_or slots v None ≡ Some s
    → count_by is_none (set slots v None) ≡ count_by is_none slots + 1
unfolding open_weight
count_empties slots v s within e =
    let sums = sum_by-set open_weight slots v None None within in
    let was : open_weight (get_or slots v None) ≡ 0 = ap open_weight e in
    omega (arith, sums, was)

two_open : (slots : List (Option Slot)) (v : ℕ) → 0 < v → v < length slots → get_or slots 0 None ≡ None → get_or slots v None ≡ None
    → 2 ≤ count_by is_none slots
two_open slots v some within first other =
    let s : Slot = record { positive = true; place = 0 } in
    let one = count_fills slots 0 s (omega arith) first in
    let ne : v ≢ 0 = omega arith in
    let size = length-set slots 0 (Some s) in
    let two = count_fills (set slots 0 (Some s)) v s (omega arith) (get_or-set_other slots 0 v (Some s) None ne ∙ other) in
    omega (arith, one, two)

same_place : (s t : Slot) (o : Option Slot) → o ≡ Some s → o ≡ Some t → s.place ≡ t.place
same_place s t o a b = let e : Some s ≡ Some t = sym a ∙ b in ap (λ (s : Slot). s.place) (let same : s ≡ t = cc in same)

-- ---- what the slots say

-- the slot of a variable, read at an equal number
pub slot_read : (slots : List (Option Slot)) (v n : ℕ) (x : Option Slot) → n ≡ v → v < length slots → x ≡ get_or slots n x → get_or slots v None ≡ x
slot_read slots v n x same within read = sym (get_or_read slots v x within (read ∙ ap (λ m. get_or slots m x) same) None)

module _ {variables : ℕ} {literals : List Literal} {entries : List SetLiteral} {slots : List (Option Slot)} (p : ArePlaced variables literals entries slots) where
  pub slot_at : (k : ℕ) (d : SetLiteral) (v : ℕ) → k < length entries → (get_or entries k d).literal.variable ≡ v
      → (s : Slot) × (get_or slots v None ≡ Some s) × (s.place ≡ k)
  slot_at k d v h e = (literal_slot (get_or entries k d).literal k, subst (λ n. get_or slots n None ≡ Some (literal_slot (get_or entries k d).literal k)) e (p.slot k d h), refl)

  pub unset_slot : (v : ℕ) → All (λ (s : SetLiteral). s.literal.variable ≢ v) entries → get_or slots v None ≡ None
  unset_slot v unset = by (get_or slots v None) refl
    where
      by : (o : Option Slot) → get_or slots v None ≡ o → get_or slots v None ≡ None
      by None e = e
      by (Some s) e = let there = p.entry v s e in absurd (unset s.place no_literal there.0 (ap (λ (l : Literal). l.variable) (there.1 no_literal)))

  pub slot_unset : (v : ℕ) → get_or slots v None ≡ None → All (λ (s : SetLiteral). s.literal.variable ≢ v) entries
  slot_unset v e = λ k d h same. let there = slot_at k d v h same in let wrong : None ≡ Some there.0 = sym e ∙ there.1 in cc

  pub set_slot : (v : ℕ) (s : Slot) (x : SetLiteral) → get_or slots v None ≡ Some s → x ≡ get_or entries s.place x
      → Contains entries x × (x.literal.variable ≡ v)
  set_slot v s x e read = let there = p.entry v s e in ((s.place, there.0, sym read), ap (λ (s : SetLiteral). s.literal.variable) read ∙ ap (λ (l : Literal). l.variable) (there.1 x))

  open_first : get_or slots 0 None ≡ None
  open_first = unset_slot 0 (λ k d h e. let i = p.inside k d h in omega (arith, e, i.0))

  pub room_left : (v : ℕ) → 0 < v → v ≤ variables → get_or slots v None ≡ None → length entries + 1 ≤ variables
  room_left v some within e = omega (arith, p.count, p.table, two_open slots v some (omega (arith, p.table)) open_first e)

  pub length_le : length entries ≤ variables
  length_le =
      let s : Slot = record { positive = true; place = 0 } in
      omega (arith, p.count, p.table, count_fills slots 0 s (omega (arith, p.table)) open_first)

  once : AllPairs (λ (s t : SetLiteral). s.literal.variable ≢ t.literal.variable) entries
  once = λ i j d less within same.
      let a = slot_at i d (get_or entries j d).literal.variable (omega arith) same in
      let b = slot_at j d (get_or entries j d).literal.variable within refl in
      let e = same_place a.0 b.0 (get_or slots (get_or entries j d).literal.variable None) a.1 b.1 in
      omega (arith, e, a.2, b.2)

  pub placed_trail : (level : ℕ) → AreInLevels 0 entries level → IsTrail (record { variables = variables; literals = entries; level = level })
  placed_trail level levels = record { inside = p.inside; once = once; few = length_le; levels = levels }

  -- ---- the value of a literal

  held_slot : (l : Literal) → Contains (literals_of entries) l → get_or slots l.variable None ≡ None → ⊥
  held_slot l h e = let k = place_of entries l h in slot_unset l.variable e k.0 no_literal k.1 (ap (λ (l : Literal). l.variable) (k.2 no_literal))

  pub undetermined : (l : Literal) → get_or slots l.variable None ≡ None → IsUndetermined (literals_of entries) l
  undetermined l e = record { not_held = λ h. held_slot l h e; opposite_not_held = λ h. held_slot (opposite l) h e }

  held_slot_literal : (v : ℕ) (s : Slot) (l : Literal) → get_or slots v None ≡ Some s → l ≡ record { variable = v; positive = s.positive }
      → Contains (literals_of entries) l
  held_slot_literal v s l e is = let there = p.entry v s e in held_at entries s.place no_literal l there.0 (there.1 no_literal ∙ sym is)

  by_sign : (l : Literal) (s : Slot) (m level : ℕ) (sign : Bool) → get_or slots l.variable None ≡ Some s → l.positive ≡ sign → (same : Bool)
      → s.positive ≡ same → IsValueOf (record { variables = m; literals = entries; level = level }) l (Some (beq same sign))
  by_sign l s m level true e is true has = held_slot_literal l.variable s l e (λ i. record { variable = l.variable; positive = (is ∙ sym has) i })
  by_sign l s m level true e is false has = held_slot_literal l.variable s (opposite l) e (λ i. record { variable = l.variable; positive = (ap not is ∙ sym has) i })
  by_sign l s m level false e is true has = held_slot_literal l.variable s (opposite l) e (λ i. record { variable = l.variable; positive = (ap not is ∙ sym has) i })
  by_sign l s m level false e is false has = held_slot_literal l.variable s l e (λ i. record { variable = l.variable; positive = (is ∙ sym has) i })

  pub value_set : (l : Literal) (s : Slot) (m level : ℕ) → get_or slots l.variable None ≡ Some s
      → IsValueOf (record { variables = m; literals = entries; level = level }) l (Some (beq s.positive l.positive))
  value_set l s m level e = by_sign l s m level l.positive e refl s.positive refl

-- ---- one more literal

module _ {variables : ℕ} {literals : List Literal} {entries : List SetLiteral} {slots : List (Option Slot)} (p : ArePlaced variables literals entries slots) (e : SetLiteral) (free : get_or slots e.literal.variable None ≡ None) (some : 0 < e.literal.variable) (below : e.literal.variable ≤ variables) where
  pub placed_push : ArePlaced variables (literals ++ e.literal ∷ []) (entries ++ e ∷ []) (set slots e.literal.variable (Some (literal_slot e.literal (length entries))))
  placed_push = record {
    same = ap (λ ls. ls ++ e.literal ∷ []) p.same ∙ sym (map_push (λ (s : SetLiteral). s.literal) entries e);
    table = length-set slots v (Some here) ∙ p.table;
    inside = All-push (IsInside variables) entries e p.inside (some, below);
    slot = λ k d h. elim (cases_eq k (length entries)) [
      | inl is ↦
          let at : get_or (entries ++ e ∷ []) k d ≡ e = at_push_end entries e d k is in
          subst (λ (x : SetLiteral). get_or (set slots v (Some here)) x.literal.variable None ≡ Some (literal_slot x.literal k)) (sym at)
          (subst (λ n. get_or (set slots v (Some here)) v None ≡ Some (literal_slot e.literal n)) (sym is) (get_or-set_same slots v (Some here) None within))
      | inr ne ↦
          let earlier : k < length entries = omega (arith, length_push entries e) in
          let at : get_or (entries ++ e ∷ []) k d ≡ get_or entries k d = at_push_before entries e d k earlier in
          subst (λ (x : SetLiteral). get_or (set slots v (Some here)) x.literal.variable None ≡ Some (literal_slot x.literal k)) (sym at)
          (get_or-set_other slots v (get_or entries k d).literal.variable (Some here) None (λ same. slot_unset p v free k d earlier same) ∙ p.slot k d earlier)
    ];
    entry = λ n s is. elim (cases_eq n v) [
      | inl same ↦
          let put : get_or (set slots v (Some here)) n None ≡ Some here = ap (λ m. get_or (set slots v (Some here)) m None) same ∙ get_or-set_same slots v (Some here) None within in
          let slots_agree : Some s ≡ Some here = sym is ∙ put in
          let s_is : s ≡ here = cc in (
            omega (arith, length_push entries e, ap (λ (s : Slot). s.place) s_is),
            λ d. ap (λ (x : SetLiteral). x.literal) (at_push_end entries e d s.place (ap (λ (s : Slot). s.place) s_is)) ∙ (λ i. record { variable = sym same i; positive = sym (ap (λ (s : Slot). s.positive) s_is) i }),
          )
      | inr ne ↦
          let was : get_or slots n None ≡ Some s = sym (get_or-set_other slots v n (Some here) None ne) ∙ is in
          let there = p.entry n s was in
          (omega (arith, length_push entries e, there.0), λ d. ap (λ (x : SetLiteral). x.literal) (at_push_before entries e d s.place there.0) ∙ there.1 d)
    ];
    count = omega (arith, p.count, length_push entries e, count_fills slots v here within free, length-set slots v (Some here));
  }
    where
      v : ℕ
      v = e.literal.variable

      here : Slot
      here = literal_slot e.literal (length entries)

      within : e.literal.variable < length slots
      within = omega (arith, p.table)

-- ---- one literal less

module _ {variables : ℕ} {literals : List Literal} (entries : List SetLiteral) (e : SetLiteral) {slots : List (Option Slot)} (p : ArePlaced variables literals (entries ++ e ∷ []) slots) where
  last_slot : get_or slots e.literal.variable None ≡ Some (literal_slot e.literal (length entries))
  last_slot = subst (λ (x : SetLiteral). get_or slots x.literal.variable None ≡ Some (literal_slot x.literal (length entries))) (at_push_end entries e e (length entries) refl) (p.slot (length entries) e (omega (arith, length_push entries e)))

  apart : (k : ℕ) (d : SetLiteral) → k < length entries → (get_or entries k d).literal.variable ≢ e.literal.variable
  apart k d h same =
      let at = at_push_before entries e d k h in
      let there = slot_at p k d e.literal.variable (omega (arith, length_push entries e)) (ap (λ (x : SetLiteral). x.literal.variable) at ∙ same) in
      let place = same_place there.0 (literal_slot e.literal (length entries)) (get_or slots e.literal.variable None) there.1 last_slot in
      omega (arith, place, there.2)

  pub last_within : e.literal.variable < length slots
  last_within =
      let i = p.inside (length entries) e (omega (arith, length_push entries e)) in
      let there : IsInside variables e = subst (IsInside variables) (at_push_end entries e e (length entries) refl) i in
      omega (arith, there.1, p.table)

  pub placed_pop : ArePlaced variables (literals_of entries) entries (set slots e.literal.variable None)
  placed_pop = record {
    same = refl;
    table = length-set slots e.literal.variable None ∙ p.table;
    inside = λ k d h. subst (IsInside variables) (at_push_before entries e d k h) (p.inside k d (omega (arith, length_push entries e)));
    slot = λ k d h.
        get_or-set_other slots e.literal.variable (get_or entries k d).literal.variable None None (apart k d h)
        ∙ subst (λ (x : SetLiteral). get_or slots x.literal.variable None ≡ Some (literal_slot x.literal k)) (at_push_before entries e d k h) (p.slot k d (omega (arith, length_push entries e)));
    entry = λ n s is. elim (cases_eq n e.literal.variable) [
      | inl same ↦
          let gone : get_or (set slots e.literal.variable None) n None ≡ None = ap (λ m. get_or (set slots e.literal.variable None) m None) same ∙ get_or-set_same slots e.literal.variable None None last_within in
          let wrong : None ≡ Some s = sym gone ∙ is in
          absurd (let no : ⊥ = cc in no)
      | inr ne ↦
          let was : get_or slots n None ≡ Some s = sym (get_or-set_other slots e.literal.variable n None None ne) ∙ is in
          let there = p.entry n s was in
          let before : s.place < length entries = elim (cases_lt s.place (length entries)) [
            | inl less ↦ less
            | inr le ↦
                let end : s.place ≡ length entries = omega (arith, there.0, length_push entries e) in
                absurd (ne (sym (ap (λ (l : Literal). l.variable) (sym (ap (λ (x : SetLiteral). x.literal) (at_push_end entries e e s.place end)) ∙ there.1 e))))
          ] in
          (before, λ d. sym (ap (λ (x : SetLiteral). x.literal) (at_push_before entries e d s.place before)) ∙ there.1 d)
    ];
    count = omega (arith, p.count, length_push entries e, count_empties slots e.literal.variable (literal_slot e.literal (length entries)) last_within last_slot, length-set slots e.literal.variable None);
  }
