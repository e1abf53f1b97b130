-- Clauses at which unit propagation has nothing to do.
use Rattle.std.proofs.Common.{◌≡◌, ◌∙◌, inl, inr, ℕ, ◌*◌, ◌/◌, ◌<◌, List, ◌++◌, length, get_or, Some, ap, subst, arith}
use Rattle.std.specs.Prelude.{Contains}
use Rattle.std.proofs.lemmas.List.{get_or_default}
use Rattle.std.proofs.lemmas.List.Elements.{Contains-append_cases}
use Rattle.clause_pool.specs.Literal.{Literal, opposite}
use Rattle.clause_pool.specs.Clauses.{Clause, numbered_clause}
use Rattle.clause_pool.specs.Partial.{IsQuiet}
use Rattle.clause_pool.proofs.PartialLemmas.{literal_status}
use Rattle.solver_trail.specs.Assignment.{Assignment, assigned_literals, no_literal}
use Rattle.solver_trail.specs.Watches.{partner, watched, AreWatched, AreWatching, AreKept}
use Rattle.solver_trail.specs.Propagation.{AreSatisfied}
use Rattle.solver_trail.proofs.Held.{place_of, held_at}
use Rattle.solver_trail.proofs.Pairs.{partner_back, partner_within}

-- a clause with two literals, one of them true if the other is false
quiet_by_two : (a : Assignment) (clause : Clause) (l m : Literal) → AreWatched clause l m → (Contains (assigned_literals a) (opposite l) → Contains (assigned_literals a) m)
    → (Contains (assigned_literals a) (opposite m) → Contains (assigned_literals a) l) → IsQuiet (assigned_literals a) clause
quiet_by_two a clause l m w first second = elim (literal_status (assigned_literals a) l) [
  | inl t ↦ inl (record { literal = l; inside = w.first; is_held = t })
  | inr rest ↦ elim rest [
    | inl f ↦ inl (record { literal = m; inside = w.second; is_held = first f })
    | inr open_first ↦ elim (literal_status (assigned_literals a) m) [
      | inl t ↦ inl (record { literal = m; inside = w.second; is_held = t })
      | inr more ↦ elim more [
        | inl f ↦ inl (record { literal = l; inside = w.first; is_held = second f })
        | inr open_second ↦ inr (record {
          first = l;
          second = m;
          different = λ same. w.apart (ap (λ (l : Literal). l.variable) same);
          first_inside = w.first;
          second_inside = w.second;
          first_undetermined = open_first;
          second_undetermined = open_second;
        })
      ]
    ]
  ]
]

-- every attached clause is quiet once all set literals have been visited
pub all_quiet : (a : Assignment) (short long : List ℕ) (clauses : List Clause) (literals : List Literal) (visited : ℕ)
    → AreSatisfied (assigned_literals a) short clauses → AreWatching long clauses literals → length literals ≡ 2 * length long
    → AreKept a.literals visited (length a.literals) literals → (number : ℕ) (clause : Clause) → Contains (short ++ long) number
    → numbered_clause clauses number ≡ Some clause → IsQuiet (assigned_literals a) clause
all_quiet a short long clauses literals visited units watching size kept number clause is_in e = elim (Contains-append_cases short long number is_in) [
  | inl here ↦ inl (units number clause here e)
  | inr there ↦
      let k = there.0 in
      let less : k < length long = there.1 in
      let within : 2 * k < length literals = omega (arith, less, size) in
      let half : (2 * k) / 2 ≡ k = omega arith in
      let named : get_or long ((2 * k) / 2) 0 ≡ number = ap (λ n. get_or long n 0) half ∙ (get_or_default long k 0 number less ∙ there.2) in
      let w = watching (2 * k) within clause (ap (numbered_clause clauses) named ∙ e) in
      let other_true : (i : ℕ) → i < length literals → Contains (assigned_literals a) (opposite (watched literals i)) → Contains (assigned_literals a) (watched literals (partner i)) =
      λ i less f.
      let p = place_of a.literals (opposite (watched literals i)) f in
      let t = kept i less p.0 no_literal p.1 (p.2 no_literal) in
      held_at a.literals t.place no_literal (watched literals (partner i)) t.within t.is_true in
      quiet_by_two a clause (watched literals (2 * k)) (watched literals (partner (2 * k))) w (other_true (2 * k) within)
      (λ f. subst (λ i. Contains (assigned_literals a) (watched literals i)) (partner_back (2 * k)) (other_true (partner (2 * k)) (partner_within (2 * k) (length long) (length literals) size within) f))
]
