-- Where the walk back along the trail begins and ends.
use Rattle.std.proofs.Common.{◌≡◌, ◌∙◌, ℕ, zero, suc, ◌-◌, ◌<◌, ◌≤◌, List, [], ◌∷◌, length, get_or, refl, sym, ap, subst, arith, inl, inr}
use Rattle.std.specs.Prelude.{Bool, true, false, None, All, Contains}
use Rattle.std.proofs.lemmas.Bool.{cases_lt, false≢true}
use Rattle.std.proofs.lemmas.List.{nil_from_length}
use Rattle.std.proofs.lemmas.List.Elements.{All-nil, All-weaker, All-contains, Contains-get_or}
use Rattle.net_model.specs.Answer.{bit_at}
use Rattle.net_model.proofs.Elements.{none_in}
use Rattle.clause_pool.specs.Literal.{Literal, opposite}
use Rattle.clause_pool.specs.Clauses.{Clause}
use Rattle.clause_pool.specs.Partial.{IsQuiet}
use Rattle.clause_pool.proofs.Numbered.{all_at_number}
use Rattle.pair_miter.specs.ChainView.{ChainView}
use Rattle.solver_trail.specs.Assignment.{Assignment, IsTrail, assigned_literals, no_literal}
use Rattle.solver_trail.specs.Trail.{TrailState}
use Rattle.solver_trail.proofs.Held.{held_at}
use Rattle.learn_solver.specs.Places.{set_literal_at, IsFalseAt, IsFalseOf, up_to}
use Rattle.learn_solver.specs.Ready.{IsSolverReady, IsConflictClause}
use Rattle.learn_solver.specs.Walk.{AreUnmarked, marked_count, IsSetBefore, IsLeft, IsKeptLiteral, IsTrailWalk, HasVariable}
use Rattle.learn_solver.specs.Marks.{MarksClause}
use Rattle.learn_solver.specs.Learned.{IsLower, IsAsserting, IsLearned}
use Rattle.learn_solver.proofs.Levels.{same_place, level_at, levels_rise}
use Rattle.learn_solver.proofs.Counts.{open_some, open_has}
use Rattle.learn_solver.proofs.Clearing.{false_at}
use Rattle.learn_solver.proofs.Falsity.{false_somewhere, place_up_to, same_false, consistent_held, up_to_place}
use Rattle.learn_solver.proofs.Resolvents.{chain_start}

module _ (trail : TrailState) (clauses : List Clause) (ready : IsSolverReady trail clauses) (number : ℕ) (c : IsConflictClause trail clauses number) where
  -- a literal of a false clause is false
  false_literal : (l : Literal) → Contains c.clause l → (k : ℕ) × IsFalseAt trail.assignment l k
  false_literal l h = false_somewhere trail.assignment l (All-contains (λ (m : Literal). Contains (assigned_literals trail.assignment) (opposite m)) c.clause l c.false_clause h)

  -- one of them is of the present level, if that is above 0
  present_literal : 0 < trail.assignment.level → (l : Literal) × Contains c.clause l × IsFalseOf trail.assignment trail.assignment.level l
  present_literal above = by (all_at_number (IsQuiet (up_to trail.assignment.literals (trail.assignment.level - 1))) clauses number c.clause (ready.quiet (trail.assignment.level - 1) (omega arith)) c.numbered)
    where
      by : IsQuiet (up_to trail.assignment.literals (trail.assignment.level - 1)) c.clause → (l : Literal) × Contains c.clause l × IsFalseOf trail.assignment trail.assignment.level l
      by (inl s) =
          let p = up_to_place trail.assignment (trail.assignment.level - 1) s.literal s.is_held in
          absurd (consistent_held trail.assignment ready.is_trail s.literal (held_at trail.assignment.literals p.0 no_literal s.literal p.1 p.2) (All-contains (λ (m : Literal). Contains (assigned_literals trail.assignment) (opposite m)) c.clause s.literal c.false_clause s.inside))
      by (inr t) =
          let f = false_literal t.first t.first_inside in (
            t.first,
            t.first_inside,
            record {
              place = f.0;
              at = f.1;
              of_level = elim (cases_lt (set_literal_at trail.assignment f.0).level trail.assignment.level) [
                | inl lower ↦
                    absurd (t.first_undetermined.opposite_not_held (subst (Contains (up_to trail.assignment.literals (trail.assignment.level - 1))) f.1.is (place_up_to trail.assignment (trail.assignment.level - 1) f.0 f.1.within (omega (arith, lower)))))
                | inr le ↦ omega (arith, le, level_at trail.assignment ready.is_trail f.0 f.1.within)
              ];
            },
          )

  module _ (marks new : List Bool) (opened : ℕ) (clear : AreUnmarked trail.assignment.variables marks) (m : MarksClause trail.assignment marks new c.clause opened) where
    has_variable : (v : ℕ) → bit_at new v ≡ true → HasVariable c.clause v
    has_variable v h = elim (m.only v h) [
      | inl old ↦ absurd (false≢true (sym (clear.none v) ∙ old))
      | inr has ↦ has
    ]

    set_before : (l : Literal) → Contains c.clause l → IsSetBefore trail.assignment (length trail.assignment.literals) l.variable
    set_before l h = let f = false_literal l h in record { at = f.0; before = f.1.within; is = ap (λ (m : Literal). m.variable) f.1.is }

    left_in : (l : Literal) → IsLeft trail.assignment new (length trail.assignment.literals) l → Contains c.clause l
    left_in l h =
        let has = has_variable l.variable h.marked in
        let f = false_literal has.0 has.1 in
        let same = same_place trail.assignment ready.is_trail h.at f.0 h.false_at.within f.1.within (ap (λ (x : Literal). x.variable) h.false_at.is ∙ (sym has.2 ∙ sym (ap (λ (x : Literal). x.variable) f.1.is))) in
        let is : l ≡ has.0 = false_at trail.assignment l f.0 (subst (IsFalseAt trail.assignment l) same h.false_at) ∙ sym (false_at trail.assignment has.0 f.0 f.1) in
        subst (Contains c.clause) (sym is) has.1

    count_new : opened ≡ marked_count trail.assignment new (length trail.assignment.literals)
    count_new =
        let sum = m.count (length trail.assignment.literals) (omega arith) (λ k d h. set_before (get_or c.clause k d) (Contains-get_or c.clause k d h)) in
        omega (arith, sum, none_open (marked_count trail.assignment marks (length trail.assignment.literals)) refl)
      where
        none_open : (n : ℕ) → marked_count trail.assignment marks (length trail.assignment.literals) ≡ n → marked_count trail.assignment marks (length trail.assignment.literals) ≡ 0
        none_open zero e = e
        none_open (suc n) e =
            let found = open_some trail.assignment marks (length trail.assignment.literals) (omega arith) (omega (arith, e)) in
            absurd (false≢true (sym (clear.none (set_literal_at trail.assignment found.0).literal.variable) ∙ found.2))

    pub walk_start : IsTrailWalk trail.assignment clauses new (record { start = number; fresh_at = None; steps = [] }) [] opened (length trail.assignment.literals)
    walk_start = record {
      within = omega arith;
      places = m.places ∙ clear.places;
      bare = refl;
      end = c.clause;
      ends = chain_start clauses number None c.clause c.numbered;
      parts = λ l h. let f = false_literal l h in inr (record { at = f.0; before = f.1.within; false_at = f.1; marked = m.all l h });
      kept_inside = λ l h. absurd (none_in l h);
      left_inside = left_in;
      marked = λ v h. let has = has_variable v h in subst (IsSetBefore trail.assignment (length trail.assignment.literals)) has.2 (set_before has.0 has.1);
      count = count_new;
      kept_at = All-nil (IsKeptLiteral trail.assignment (length trail.assignment.literals));
      order = λ i j d less within. absurd (omega arith);
      pending = λ none above.
          let p = present_literal above in
          let f = p.2 in
          omega (arith, count_new, open_has trail.assignment new (length trail.assignment.literals) (omega arith) f.place f.at.within (ap (bit_at new) (ap (λ (m : Literal). m.variable) f.at.is) ∙ m.all p.0 p.1) f.of_level);
      done = λ some. absurd (omega arith);
      first = λ d some. absurd (omega arith);
    }

-- ---- the end

-- if no mark is left, the walk is over
pub walk_over : (a : Assignment) (clauses : List Clause) (marks : List Bool) (chain : ChainView) (kept : List Literal) (left place : ℕ) → ((v : ℕ) → bit_at marks v ≡ false) → IsTrailWalk a clauses marks chain kept left place
    → IsTrailWalk a clauses marks chain kept left 0
walk_over a clauses marks chain kept left place none w = record {
  within = omega arith;
  places = w.places;
  bare = w.bare;
  end = w.end;
  ends = w.ends;
  parts = λ l h. elim (w.parts l h) [
    | inl x ↦ inl x
    | inr x ↦ absurd (false≢true (sym (none l.variable) ∙ x.marked))
  ];
  kept_inside = w.kept_inside;
  left_inside = λ l h. absurd (omega (arith, h.before));
  marked = λ v h. absurd (false≢true (sym (none v) ∙ h));
  count = w.count ∙ by (marked_count a marks place) refl;
  kept_at = All-weaker (IsKeptLiteral a place) (IsKeptLiteral a 0) (λ l h. record { at = h.at; behind = omega arith; false_at = h.false_at; above = h.above }) kept w.kept_at;
  order = w.order;
  pending = w.pending;
  done = w.done;
  first = w.first;
}
  where
    by : (n : ℕ) → marked_count a marks place ≡ n → marked_count a marks place ≡ 0
    by zero e = e
    by (suc n) e = let found = open_some a marks place w.within (omega (arith, e)) in absurd (false≢true (sym (none (set_literal_at a found.0).literal.variable) ∙ found.2))

pub clear_end : (a : Assignment) (clauses : List Clause) (marks : List Bool) (chain : ChainView) (kept : List Literal) (left : ℕ) → IsTrailWalk a clauses marks chain kept left 0 → AreUnmarked a.variables marks
clear_end a clauses marks chain kept left w = record { places = w.places; none = λ v. by v (bit_at marks v) refl }
  where
    by : (v : ℕ) (b : Bool) → bit_at marks v ≡ b → b ≡ false
    by v true e = let before = (w.marked v e).before in absurd (omega arith)
    by v false e = refl

module _ (a : Assignment) (trail : IsTrail a) (clauses : List Clause) (marks : List Bool) (chain : ChainView) (kept : List Literal) (left : ℕ) (w : IsTrailWalk a clauses marks chain kept left 0)
    (back : ℕ) (no_second : length kept ≤ 1 → back ≡ 0) (second : (d : Literal) (place : ℕ) → 1 < length kept → IsFalseAt a (get_or kept 1 d) place → back ≡ (set_literal_at a place).level) where
  -- the second literal's level is the highest of the others
  le_back : (k : ℕ) (d : Literal) → suc k < length kept → (p : ℕ) → IsFalseAt a (get_or kept (suc k) d) p → (set_literal_at a p).level ≤ back
  le_back zero d h p f = omega (arith, second d p h f)
  le_back (suc j) d h p f =
      let b = w.order 1 (suc (suc j)) d (omega arith) h in
      let same = same_false a trail (get_or kept (suc (suc j)) d) p b.second f b.second_at in
      let levels : (set_literal_at a p).level ≡ (set_literal_at a b.second).level = ap (λ i. (set_literal_at a i).level) same in
      omega (arith, levels, levels_rise a trail b.second b.first (omega (arith, b.order)) b.first_at.within, second d b.first (omega arith) b.first_at)

  lower_rest : (l : Literal) (rest : List Literal) → kept ≡ l ∷ rest → All (IsLower a back) rest
  lower_rest l rest is = λ k d h.
      let size : length kept ≡ suc (length rest) = ap length is in
      let within : suc k < length kept = omega (arith, h, size) in
      let own = w.kept_at (suc k) d within in
      record {
        level = (set_literal_at a own.at).level;
        false_of = record { place = own.at; at = subst (λ m. IsFalseAt a m own.at) (ap (λ ls. get_or ls (suc k) d) is) own.false_at; of_level = refl };
        above = own.above;
        up_to = le_back k d within own.at own.false_at;
      }

  asserting_of : 0 < a.level → (ls : List Literal) → kept ≡ ls → IsAsserting a back kept
  asserting_of above [] is =
      let some = open_some a marks 0 (omega arith) (omega (arith, w.pending (ap length is) above, w.count)) in
      absurd (omega (arith, some.1))
  asserting_of above (l ∷ []) is =
      let size : length kept ≡ 1 = ap length is in
      record {
        asserting = l;
        others = [];
        is = is;
        first = subst (IsFalseOf a a.level) (ap (λ ls. get_or ls 0 l) is) (w.first l (omega arith));
        lower = lower_rest l [] is;
        below = omega (arith, no_second (omega arith), above);
        highest = λ h. absurd (omega (arith, no_second (omega arith), h));
      }
  asserting_of above (l ∷ m ∷ more) is =
      let size : length kept ≡ suc (suc (length more)) = ap length is in
      let b = w.order 0 1 l (omega arith) (omega (arith, size)) in
      let level_is = second l b.second (omega (arith, size)) b.second_at in
      record {
        asserting = l;
        others = m ∷ more;
        is = is;
        first = subst (IsFalseOf a a.level) (ap (λ ls. get_or ls 0 l) is) (w.first l (omega (arith, size)));
        lower = lower_rest l (m ∷ more) is;
        below = omega (arith, level_is, b.lower);
        highest = λ h. (m, (0, omega arith, refl), record { place = b.second; at = subst (λ x. IsFalseAt a x b.second) (ap (λ ls. get_or ls 1 l) is) b.second_at; of_level = sym level_is });
      }

  empty_of : a.level ≡ 0 → (n : ℕ) → length kept ≡ n → kept ≡ []
  empty_of level zero e = nil_from_length kept e
  empty_of level (suc n) e =
      let own = w.kept_at 0 (record { variable = 0; positive = false }) (omega (arith, e)) in
      absurd (omega (arith, own.above, level_at a trail own.at own.false_at.within, level))

  pub learned_end : IsLearned a clauses chain kept back
  learned_end = record {
    bare = w.bare;
    ends_in = record { end = w.end; ends = w.ends; same = λ l. (only_kept l, w.kept_inside l) };
    once = λ i j d less within.
        let b = w.order i j d less within in
        λ e. let same = same_place a trail b.first b.second b.first_at.within b.second_at.within (ap (λ (x : Literal). x.variable) b.first_at.is ∙ (e ∙ sym (ap (λ (x : Literal). x.variable) b.second_at.is))) in omega (arith, b.order, same);
    empty = λ level. empty_of level (length kept) refl;
    asserting = λ above. asserting_of above kept refl;
  }
    where
      only_kept : (l : Literal) → Contains w.end l → Contains kept l
      only_kept l h = elim (w.parts l h) [
        | inl x ↦ x
        | inr x ↦ (let before = x.before in absurd (omega arith))
      ]
