-- Marks that stay after a cut.
use Rattle.std.proofs.Common.{◌≡◌, ◌∙◌, ℕ, ◌<◌, ◌≤◌, List, Option, Some, length, get_or, sym, ap, subst, inl, inr, arith}
use Rattle.std.specs.Prelude.{Contains, IsSome, ◌==◌, option_and_then, None, if◌then◌else◌}
use Rattle.std.proofs.lemmas.Bool.{cases_lt}
use Rattle.std.proofs.lemmas.Grind.{get_or_default_zero}
use Rattle.net_model.specs.ClassTable.{ClassTable, class_at, members, representative}
use Rattle.class_refine.specs.Fields.{IsWhole}
use Rattle.class_refine.proofs.Pieces.{members-contains, members_ascend, representative_lowest}
use Rattle.class_refine.proofs.Refined.{representative-member}
use Rattle.result_records.specs.declared.record.Mark.{Mark}
use Rattle.result_records.specs.declared.record.Mark.TheVariants.{Rep}
use Rattle.member_marks.specs.declared.marks.Given.{Given}
use Rattle.member_marks.specs.Given.{given_mark, given_to}

-- The mark of a number with this representative.
abbrev mark_with : List (Option Given) → ℕ → ℕ → Option Mark
mark_with given n lead = if lead == n then Some Rep else option_and_then (λ g. if g.partner == lead then Some g.mark else None) (given_to given n)

-- A number keeps its mark if it keeps its representative.
pub mark_stays : (t u : ClassTable) (given : List (Option Given)) (n : ℕ) → representative u (class_at u n) ≡ representative t (class_at t n) → IsSome (given_mark t given n) → IsSome (given_mark u given n)
mark_stays t u given n same some = subst (λ (lead : ℕ). IsSome (mark_with given n lead)) (sym same) some

-- A representative is marked.
pub lead_marked : (t : ClassTable) (given : List (Option Given)) (n : ℕ) → representative t (class_at t n) ≡ n → IsSome (given_mark t given n)
lead_marked t given n is = subst (λ (lead : ℕ). IsSome (mark_with given n lead)) (sym is) (grind arith)

module _ (t : ClassTable) (whole : IsWhole t) (n : ℕ) (below : n < length t.class_of) where
  abbrev group : List ℕ
  group = members t (class_at t n)

  -- The place of the number among the members of its class.
  place : Contains group n
  place = members-contains t n below

  there : get_or group place.0 0 ≡ n
  there = sym (get_or_default_zero group place.0 n place.1) ∙ place.2

  -- The first member is the representative.
  first_leads : get_or group 0 0 ≡ n → representative t (class_at t n) ≡ n
  first_leads is =
      let lead = representative t (class_at t n) in
      let inside = representative-member t whole (class_at t n) (whole.classes n below) in
      let own : Contains group lead = subst (λ (class : ℕ). Contains (members t class) lead) inside.1 (members-contains t lead inside.0) in
      let at : get_or group own.0 0 ≡ lead = sym (get_or_default_zero group own.0 lead own.1) ∙ own.2 in
      let least = representative_lowest t n below in
      elim (cases_lt 0 own.0) [
        | inl later ↦ absurd (omega (arith, members_ascend t (class_at t n) 0 own.0 0 later own.1, at, is, least.within))
        | inr zero ↦ let e : own.0 ≡ 0 = omega arith in sym at ∙ ap (λ (k : ℕ). get_or group k 0) e ∙ is
      ]

  at_first : place.0 ≡ 0 → representative t (class_at t n) ≡ n
  at_first e = first_leads (ap (λ (k : ℕ). get_or group k 0) (sym e) ∙ there)

  -- An only member is the representative.
  pub only_leads : length group ≤ 1 → representative t (class_at t n) ≡ n
  only_leads few = let inside = place.1 in at_first (omega arith)

  -- A member below the second one is the representative.
  pub below_second_leads : 1 < length group → n < get_or group 1 0 → representative t (class_at t n) ≡ n
  below_second_leads two less = elim (cases_lt 1 place.0) [
    | inl later ↦ absurd (omega (arith, members_ascend t (class_at t n) 1 place.0 0 later place.1, there, less))
    | inr early ↦ elim (cases_lt 0 place.0) [
      | inl second ↦
          let e : place.0 ≡ 1 = omega arith in
          let same : get_or group 1 0 ≡ n = ap (λ (k : ℕ). get_or group k 0) (sym e) ∙ there in
          absurd (omega (arith, same, less))
      | inr zero ↦ at_first (omega arith)
    ]
  ]
