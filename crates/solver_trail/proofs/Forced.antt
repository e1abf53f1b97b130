-- More literals are set, at the present level and with reasons.
use Rattle.std.proofs.Common.{◌≡◌, ◌≢◌, ◌∙◌, inl, inr, ℕ, ◌<◌, ◌≤◌, List, [], ◌∷◌, ◌++◌, length, take, get_or, refl, sym, ap, subst, arith, append_assoc}
use Rattle.std.specs.Prelude.{Bool, true, false, Option, None, Some, MatchOption, Contains, IsSome, slice_get}
use Rattle.std.proofs.lemmas.Bool.{cases_lt}
use Rattle.std.proofs.lemmas.List.{append-nil, length_push, take-append-le, take_all, map_push, map-append}
use Rattle.std.proofs.lemmas.List.Elements.{All-nil, All-append, All-push, Contains-append_left, Contains-get_or, Contains-push}
use Rattle.std.proofs.lemmas.Option.{get_or_from_slice_get, slice_get_within}
use Rattle.clause_pool.specs.Literal.{Literal, opposite}
use Rattle.clause_pool.specs.Clauses.{Clause, numbered_clause}
use Rattle.clause_pool.specs.Partial.{IsUndetermined}
use Rattle.clause_pool.proofs.Literals.{literal_cases, same_or_opposite}
use Rattle.clause_pool.proofs.Numbered.{same_clause}
use Rattle.solver_trail.specs.declared.set_literals.SetLiteral.{SetLiteral}
use Rattle.solver_trail.specs.Assignment.{Assignment, assigned_literals, literals_of, Propagates, IsTrail, IsUnset, IsValueOf}
use Rattle.solver_trail.specs.Trail.{AreReasons, IsFalseClause, IsReason}
use Rattle.solver_trail.specs.Propagation.{AreOthersFalse, IsOpenOther, IsRewatch}
use Rattle.solver_trail.proofs.Held.{held_at, not_both, length-literals_of, at_push_before, at_push_end}

-- ---- propagation at the present level

pub propagates_none : (a : Assignment) → Propagates a a
propagates_none a = record {
  variables = refl;
  level = refl;
  more = [];
  added = sym (append-nil a.literals);
  at_level = All-nil (λ (s : SetLiteral). (s.level ≡ a.level) × IsSome s.reason);
}

pub propagates_two : {a b c : Assignment} → Propagates a b → Propagates b c → Propagates a c
propagates_two {a = a} first second = record {
  variables = second.variables ∙ first.variables;
  level = second.level ∙ first.level;
  more = first.more ++ second.more;
  added = second.added ∙ (ap (λ ls. ls ++ second.more) first.added ∙ append_assoc a.literals first.more second.more);
  at_level = All-append (λ (s : SetLiteral). (s.level ≡ a.level) × IsSome s.reason) first.more second.more first.at_level (λ k d h. let there = second.at_level k d h in (there.0 ∙ first.level, there.1));
}

pub held_more : {a b : Assignment} → Propagates a b → (l : Literal) → Contains (assigned_literals a) l → Contains (assigned_literals b) l
held_more {a = a} step l there =
    subst (λ ls. Contains (literals_of ls) l) (sym step.added) (subst (λ ls. Contains ls l) (sym (map-append (λ (s : SetLiteral). s.literal) a.literals step.more)) (Contains-append_left (assigned_literals a) (literals_of step.more) l there))

-- ---- reasons

take_before : (literals : List SetLiteral) (s : SetLiteral) (k : ℕ) → k ≤ length literals
    → take k (literals_of (literals ++ s ∷ [])) ≡ take k (literals_of literals)
take_before literals s k le =
    ap (take k) (map_push (λ (s : SetLiteral). s.literal) literals s) ∙ take-append-le k (literals_of literals) (s.literal ∷ []) (omega (arith, length-literals_of literals))

-- one more literal, whose reason is a unit clause, or that has none
pub reasons_push : {attached : List ℕ} {clauses : List Clause} {literals : List SetLiteral} (r : AreReasons attached clauses literals) (s : SetLiteral)
    → ((number : ℕ) → s.reason ≡ Some number → Contains attached number)
    → ((number : ℕ) (clause : Clause) → s.reason ≡ Some number → numbered_clause clauses number ≡ Some clause → IsReason (literals_of literals) clause s.literal)
    → AreReasons attached clauses (literals ++ s ∷ [])
reasons_push {literals = literals} r s is_attached is_reason = record {
  is_attached = λ k d number h is. elim (cases_lt k (length literals)) [
    | inl less ↦ r.is_attached k d number less (ap (λ (x : SetLiteral). x.reason) (sym (at_push_before literals s d k less)) ∙ is)
    | inr le ↦ is_attached number (ap (λ (x : SetLiteral). x.reason) (sym (at_push_end literals s d k (omega (arith, length_push literals s)))) ∙ is)
  ];
  is_reason = λ k d number clause h is e. elim (cases_lt k (length literals)) [
    | inl less ↦
        let at = at_push_before literals s d k less in
        let was = r.is_reason k d number clause less (ap (λ (x : SetLiteral). x.reason) (sym at) ∙ is) e in
        subst (λ ls. IsReason ls clause (get_or (literals ++ s ∷ []) k d).literal) (sym (take_before literals s k (omega arith)))
        (subst (λ (x : SetLiteral). IsReason (take k (literals_of literals)) clause x.literal) (sym at) was)
    | inr le ↦
        let at = at_push_end literals s d k (omega (arith, length_push literals s)) in
        let now = is_reason number clause (ap (λ (x : SetLiteral). x.reason) (sym at) ∙ is) e in
        let all : take k (literals_of (literals ++ s ∷ [])) ≡ literals_of literals = take_before literals s k (omega (arith, length_push literals s)) ∙ take_all k (literals_of literals) (omega (arith, length-literals_of literals)) in
        subst (λ ls. IsReason ls clause (get_or (literals ++ s ∷ []) k d).literal) (sym all)
        (subst (λ (x : SetLiteral). IsReason (literals_of literals) clause x.literal) (sym at) now)
  ];
}

-- ---- a literal that a clause forces

-- All other literals of the clause are false, and this one is unset.
pub record IsUnit (a : Assignment) (clause : Clause) (l : Literal) : Type 0 where
  pub inside : Contains clause l
  pub others : (m : Literal) → Contains clause m → m ≢ l → Contains (assigned_literals a) (opposite m)

-- The assignment has one more literal, which a clause forces.
pub record IsForced (a b : Assignment) (l : Literal) (level number : ℕ) : Type 0 where
  pub present : level ≡ a.level
  pub is : b ≡ record { variables = a.variables; literals = a.literals ++ record { literal = l; level = level; reason = Some number } ∷ []; level = level }

module _ {a b : Assignment} {l : Literal} {level number : ℕ} (f : IsForced a b l level number) where
  pub propagates_forced : Propagates a b
  propagates_forced = record {
    variables = ap (λ (x : Assignment). x.variables) f.is;
    level = ap (λ (x : Assignment). x.level) f.is ∙ f.present;
    more = record { literal = l; level = level; reason = Some number } ∷ [];
    added = ap (λ (x : Assignment). x.literals) f.is;
    at_level = All-push (λ (s : SetLiteral). (s.level ≡ a.level) × IsSome s.reason) [] (record { literal = l; level = level; reason = Some number }) (All-nil (λ (s : SetLiteral). (s.level ≡ a.level) × IsSome s.reason)) (f.present, refl);
  }

  pub held_forced : Contains (assigned_literals b) l
  held_forced =
      let s : SetLiteral = record { literal = l; level = level; reason = Some number } in
      subst (λ (x : Assignment). Contains (assigned_literals x) l) (sym f.is) (subst (λ ls. Contains ls l) (sym (map_push (λ (s : SetLiteral). s.literal) a.literals s)) (Contains-push (assigned_literals a) l))

  pub reasons_forced : {attached : List ℕ} {clauses : List Clause} {clause : Clause} → AreReasons attached clauses a.literals
      → Contains attached number → numbered_clause clauses number ≡ Some clause → IsUnit a clause l → AreReasons attached clauses b.literals
  reasons_forced {attached = attached} {clauses = clauses} {clause = clause} r is_in found unit =
      subst (λ (x : Assignment). AreReasons attached clauses x.literals) (sym f.is)
      (reasons_push r (record { literal = l; level = level; reason = Some number })
      (λ n is. subst (Contains attached) (some_is n is) is_in)
      (λ n c is e.
      let same = same_clause clauses number clause c found (ap (numbered_clause clauses) (some_is n is) ∙ e) in
      subst (λ c. IsReason (assigned_literals a) c l) same (record { inside = unit.inside; others = unit.others })))
    where
      some_is : (n : ℕ) → ◌≡◌ {A = Option ℕ} (Some number) (Some n) → number ≡ n
      some_is n e = cc

pub undetermined_unset : (a : Assignment) (l : Literal) → IsUndetermined (assigned_literals a) l → IsUnset a l.variable
undetermined_unset a l o k d h e = elim (same_or_opposite (get_or a.literals k d).literal l e) [
  | inl same ↦ o.not_held (held_at a.literals k d l h same)
  | inr other ↦ o.opposite_not_held (held_at a.literals k d (opposite l) h other.0)
]

-- ---- what is found at a clause

-- a literal that isn't reported to be false
pub not_false : (a : Assignment) (l : Literal) (value : Option Bool) → IsTrail a → IsValueOf a l value → value ≢ Some false
    → ¬ Contains (assigned_literals a) (opposite l)
not_false a l None trail v ne = v.opposite_not_held
not_false a l (Some true) trail v ne = not_both a l trail v
not_false a l (Some false) trail v ne = absurd (ne refl)

-- the clause is false, or another of its literals can be watched
pub false_or_open : (assigned_literals : List Literal) (clause : Clause) (lit other : Literal) (found : Option Literal) → Contains assigned_literals (opposite other)
    → MatchOption found (AreOthersFalse assigned_literals clause other) (IsOpenOther assigned_literals clause other)
    → MatchOption found (IsFalseClause assigned_literals clause) (IsRewatch assigned_literals clause lit other)
false_or_open assigned_literals clause lit other None f others = λ k d h. elim (literal_cases (get_or clause k d) other) [
  | inl same ↦ subst (λ l. Contains assigned_literals (opposite l)) (sym same) f
  | inr ne ↦ others (get_or clause k d) (Contains-get_or clause k d h) ne
]
false_or_open assigned_literals clause lit other (Some l) f opened = inr opened

-- the one literal of a clause
pub single_unit : (a : Assignment) (clause : Clause) (l : Literal) → length clause < 2 → slice_get clause 0 ≡ Some l → IsUnit a clause l
single_unit a clause l short first = record {
  inside = (0, slice_get_within clause 0 l first, get_or_from_slice_get clause 0 l l first);
  others = λ m is_in ne.
      let zero : is_in.0 ≡ 0 = (let less = is_in.1 in omega arith) in
      absurd (ne (sym is_in.2 ∙ (ap (λ k. get_or clause k m) zero ∙ get_or_from_slice_get clause 0 l m first)));
}
