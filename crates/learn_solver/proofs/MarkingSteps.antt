-- Marks of the variables of a clause, literal by literal.
use Rattle.std.proofs.Common.{◌≡◌, ◌∙◌, ◌⊎◌, ℕ, ◌+◌, ◌<◌, ◌≤◌, List, length, set, get_or, refl, sym, ap, subst, arith, inl, inr}
use Rattle.std.specs.Prelude.{Bool, true, false, All, ◌==◌}
use Rattle.std.proofs.lemmas.Bool.{cases_eq, cases_lt}
use Rattle.std.proofs.lemmas.List.{get_or_default, length-set, get_or-set_same, get_or-set_other}
use Rattle.std.proofs.lemmas.List.Elements.{Contains-get_or}
use Rattle.net_model.specs.Answer.{bit_at}
use Rattle.clause_pool.specs.Literal.{Literal}
use Rattle.clause_pool.specs.Clauses.{Clause}
use Rattle.solver_trail.specs.Assignment.{Assignment, IsTrail, no_literal}
use Rattle.learn_solver.specs.Places.{set_literal_at}
use Rattle.learn_solver.specs.Marks.{MarksClause}
use Rattle.learn_solver.specs.Walk.{marked_count, IsSetBefore, HasVariable}
use Rattle.learn_solver.proofs.Counts.{one_if, open_one}

pub record IsMarking (a : Assignment) (old new : List Bool) (clause : Clause) (at opened : ℕ) : Type 0 where
  pub places : length new ≡ length old
  pub kept : (v : ℕ) → bit_at old v ≡ true → bit_at new v ≡ true
  pub done : (k : ℕ) → k < at → bit_at new (get_or clause k no_literal.literal).variable ≡ true
  pub only : (v : ℕ) → bit_at new v ≡ true → (bit_at old v ≡ true) ⊎ HasVariable clause v
  pub count : (place : ℕ) → place ≤ length a.literals → All (λ (l : Literal). IsSetBefore a place l.variable) clause → marked_count a new place ≡ marked_count a old place + opened
  pub few : opened ≤ at

pub marking_none : (a : Assignment) (old : List Bool) (clause : Clause) → IsMarking a old old clause 0 0
marking_none a old clause = record {
  places = refl;
  kept = λ v h. h;
  done = λ k h. absurd (omega arith);
  only = λ v h. inl h;
  count = λ place within all. omega arith;
  few = omega arith;
}

module _ (a : Assignment) (old new : List Bool) (clause : Clause) (at opened : ℕ) (h : IsMarking a old new clause at opened) (within : at < length clause) (v : ℕ) (is : (get_or clause at no_literal.literal).variable ≡ v) where
  pub marking_again : bit_at new v ≡ true → IsMarking a old new clause (at + 1) opened
  marking_again marked = record {
    places = h.places;
    kept = h.kept;
    done = λ k less. elim (cases_lt k at) [
      | inl before ↦ h.done k before
      | inr here ↦ let same : k ≡ at = omega arith in ap (λ i. bit_at new (get_or clause i no_literal.literal).variable) same ∙ (ap (bit_at new) is ∙ marked)
    ];
    only = h.only;
    count = h.count;
    few = omega (arith, h.few);
  }

  still : (u : ℕ) → v < length new → bit_at new u ≡ true → bit_at (set new v true) u ≡ true
  still u room marked = elim (cases_eq u v) [
    | inl same ↦ ap (bit_at (set new v true)) same ∙ get_or-set_same new v true false room
    | inr other ↦ get_or-set_other new v u true false other ∙ marked
  ]

  pub marking_now : (more : ℕ) → IsTrail a → v < length new → bit_at new v ≡ false → more ≤ 1 → ((k : ℕ) → k < length a.literals → (set_literal_at a k).literal.variable ≡ v → more ≡ one_if ((set_literal_at a k).level == a.level))
      → IsMarking a old (set new v true) clause (at + 1) (opened + more)
  marking_now more trail room unmarked most counted = record {
    places = length-set new v true ∙ h.places;
    kept = λ u marked. still u room (h.kept u marked);
    done = λ k less. elim (cases_lt k at) [
      | inl before ↦ still (get_or clause k no_literal.literal).variable room (h.done k before)
      | inr here ↦
          let same : k ≡ at = omega arith in
          ap (λ i. bit_at (set new v true) (get_or clause i no_literal.literal).variable) same ∙ (ap (bit_at (set new v true)) is ∙ get_or-set_same new v true false room)
    ];
    only = λ u marked. elim (cases_eq u v) [
      | inl same ↦ inr (get_or clause at no_literal.literal, Contains-get_or clause at no_literal.literal within, is ∙ sym same)
      | inr other ↦ h.only u (sym (get_or-set_other new v u true false other) ∙ marked)
    ];
    count = λ place inside all.
        let here : IsSetBefore a place (get_or clause at no_literal.literal).variable = all at no_literal.literal within in
        let one = open_one a new place inside trail v here.at more here.before (here.is ∙ is) room unmarked (counted here.at (omega (arith, here.before, inside)) (here.is ∙ is)) in
        omega (arith, one, h.count place inside all);
    few = omega (arith, h.few, most);
  }

pub marking_all : (a : Assignment) (old new : List Bool) (clause : Clause) (opened : ℕ) → IsMarking a old new clause (length clause) opened → MarksClause a old new clause opened
marking_all a old new clause opened h = record {
  places = h.places;
  kept = h.kept;
  all = λ l m. subst (λ (k : Literal). bit_at new k.variable ≡ true) (get_or_default clause m.0 no_literal.literal l m.1 ∙ m.2) (h.done m.0 m.1);
  only = h.only;
  count = h.count;
}
