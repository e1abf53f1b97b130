-- A learned clause in the pool, and its freshness.
use Rattle.std.proofs.Common.{◌≡◌, ◌≢◌, ◌∙◌, ◌⊎◌, ℕ, ◌-◌, ◌<◌, ◌≤◌, List, [], ◌∷◌, ◌++◌, length, refl, sym, ap, subst, arith, inl, inr}
use Rattle.std.specs.Prelude.{All, Contains}
use Rattle.std.proofs.lemmas.Bool.{cases_lt}
use Rattle.std.proofs.lemmas.List.{length_push}
use Rattle.std.proofs.lemmas.List.Elements.{All-cons, All-contains, All-push, All-weaker}
use Rattle.net_model.proofs.Elements.{first_or_later}
use Rattle.net_model.proofs.Copies.{later}
use Rattle.clause_pool.specs.Literal.{Literal}
use Rattle.clause_pool.specs.Clauses.{Clause}
use Rattle.clause_pool.specs.Partial.{IsQuiet}
use Rattle.clause_pool.specs.Proper.{HasNoVariableTwice, HasVariablesUpTo}
use Rattle.pair_miter.specs.Fresh.{IsFresh}
use Rattle.solver_trail.specs.Assignment.{Assignment, IsTrail, CutsAbove}
use Rattle.solver_trail.specs.Trail.{TrailState, Fits, Attaches, attached_numbers}
use Rattle.learn_solver.specs.Places.{set_literal_at, IsFalseOf, up_to}
use Rattle.learn_solver.specs.Ready.{IsSolverReady, AreQuietBelow}
use Rattle.learn_solver.specs.Learned.{IsLower, IsAsserting, IsQuietBelow}
use Rattle.learn_solver.proofs.Levels.{inside_at, same_place}
use Rattle.learn_solver.proofs.Falsity.{place_up_to, undetermined_above, consistent_up_to}
use Rattle.learn_solver.proofs.Quiet.{quiet_cut, cut_up_to}

-- the literal that is false at a place has its variable
false_variable : (a : Assignment) (trail : IsTrail a) (l : Literal) (level : ℕ) → IsFalseOf a level l → (0 < l.variable) × (l.variable ≤ a.variables)
false_variable a trail l level f = subst (λ v. (0 < v) × (v ≤ a.variables)) (ap (λ (m : Literal). m.variable) f.at.is) (inside_at a trail f.place f.at.within)

-- literals of different levels differ
levels_differ : (a : Assignment) (trail : IsTrail a) (l m : Literal) (i j : ℕ) → IsFalseOf a i l → IsFalseOf a j m → i ≢ j → l ≢ m
levels_differ a trail l m i j f g ne e =
    let same = same_place a trail f.place g.place f.at.within g.at.within (ap (λ (x : Literal). x.variable) f.at.is ∙ (ap (λ (x : Literal). x.variable) e ∙ sym (ap (λ (x : Literal). x.variable) g.at.is))) in
    ne (sym f.of_level ∙ (ap (λ k. (set_literal_at a k).level) same ∙ g.of_level))

module _ (a : Assignment) (trail : IsTrail a) (clause : Clause) (back : ℕ) (asserts : IsAsserting a back clause) where
  asserting_inside : Contains clause asserts.asserting
  asserting_inside = subst (λ c. Contains c asserts.asserting) (sym asserts.is) (0, omega arith, refl)

  other_inside : (l : Literal) → Contains asserts.others l → Contains clause l
  other_inside l h = subst (λ c. Contains c l) (sym asserts.is) (later asserts.asserting asserts.others l h)

  literal_cases_of : (l : Literal) → Contains clause l → (asserts.asserting ≡ l) ⊎ Contains asserts.others l
  literal_cases_of l h = first_or_later asserts.asserting asserts.others l (subst (λ c. Contains c l) asserts.is h)

  variables_inside : HasVariablesUpTo a.variables clause
  variables_inside =
      subst (λ c. All (λ (l : Literal). (0 < l.variable) × (l.variable ≤ a.variables)) c) (sym asserts.is)
      (All-cons (λ (l : Literal). (0 < l.variable) × (l.variable ≤ a.variables)) asserts.asserting asserts.others
      (false_variable a trail asserts.asserting a.level asserts.first)
      (All-weaker (IsLower a back) (λ (l : Literal). (0 < l.variable) × (l.variable ≤ a.variables)) (λ l h. false_variable a trail l h.level h.false_of) asserts.others asserts.lower))

  -- at each level below the back-jump level two of its literals are undetermined
  learned_quiet : (level : ℕ) → level < back → IsQuiet (up_to a.literals level) clause
  learned_quiet level h =
      let other = asserts.highest (omega arith) in
      inr (record {
        first = asserts.asserting;
        second = other.0;
        different = levels_differ a trail asserts.asserting other.0 a.level back asserts.first other.2 (λ e. omega (arith, e, asserts.below));
        first_inside = asserting_inside;
        second_inside = other_inside other.0 other.1;
        first_undetermined = undetermined_above a trail asserts.asserting a.level level asserts.first (omega (arith, asserts.below));
        second_undetermined = undetermined_above a trail other.0 back level other.2 h;
      })

  pub quiet_below : HasNoVariableTwice clause → IsQuietBelow a back clause
  quiet_below once = record {
    proper = record { inside = variables_inside; once = once };
    below = omega (arith, asserts.below);
    quiet = learned_quiet;
  }

  -- the clause is fresh: below the present level the opposites of its other literals are set
  pub learned_fresh : (clauses : List Clause) → AreQuietBelow a clauses → IsFresh clauses clause asserts.asserting
  learned_fresh clauses quiet =
      let above : 0 < a.level = omega (arith, asserts.below) in
      record {
        inside = asserting_inside;
        held = up_to a.literals (a.level - 1);
        consistent = consistent_up_to a trail (a.level - 1);
        others = λ l h ne. elim (literal_cases_of l h) [
          | inl same ↦ absurd (ne (sym same))
          | inr other ↦
              let low = All-contains (IsLower a back) asserts.others l asserts.lower other in
              let f = low.false_of in
              subst (Contains (up_to a.literals (a.level - 1))) f.at.is (place_up_to a (a.level - 1) f.place f.at.within (omega (arith, f.of_level, low.up_to, asserts.below)))
        ];
        undetermined = undetermined_above a trail asserts.asserting a.level (a.level - 1) asserts.first (omega arith);
        quiet = quiet (a.level - 1) (omega arith);
      }

-- the trail is ready again when the clause is in the pool and attached
pub ready_learned : (old cut new : TrailState) (clauses more : List Clause) (clause : Clause) (back number : ℕ) → IsSolverReady old clauses → IsQuietBelow old.assignment back clause
    → more ≡ clauses ++ clause ∷ [] → number ≡ length more → CutsAbove old.assignment cut.assignment back → attached_numbers cut ≡ attached_numbers old
    → Attaches (attached_numbers cut) (attached_numbers new) number → new.assignment ≡ cut.assignment → Fits new more → IsTrail new.assignment → IsSolverReady new more
ready_learned old cut new clauses more clause back number ready below added count cuts kept attached same fits trail = record {
  fits = fits;
  is_trail = trail;
  attached = λ n from below. elim (cases_lt (length clauses) n) [
    | inl over ↦
        let is : number ≡ n = omega (arith, count, ap length added, length_push clauses clause, over, below) in
        subst (Contains (attached_numbers new)) is attached.added
    | inr within ↦
        attached.kept n (subst (λ ns. Contains ns n) (sym kept) (ready.attached n from within))
  ];
  quiet = subst (λ cs. AreQuietBelow new.assignment cs) (sym added) (subst (λ a. AreQuietBelow a (clauses ++ clause ∷ [])) (sym same) both);
}
  where
    both : AreQuietBelow cut.assignment (clauses ++ clause ∷ [])
    both level h =
        let less : level < back = omega (arith, h, cuts.present) in
        All-push (IsQuiet (up_to cut.assignment.literals level)) clauses clause
        (quiet_cut old.assignment cut.assignment clauses back below.below cuts ready.quiet level h)
        (subst (λ ls. IsQuiet ls clause) (cut_up_to old.assignment cut.assignment back level cuts (omega arith)) (below.quiet level less))
