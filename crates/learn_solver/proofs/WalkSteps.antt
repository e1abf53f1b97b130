-- Steps of the walk back along the trail.
use Rattle.std.proofs.Common.{◌≡◌, ◌≢◌, ◌∙◌, ◌⊎◌, ℕ, zero, suc, ◌+◌, ◌<◌, ◌≤◌, List, [], ◌∷◌, ◌++◌, length, set, take, get_or, refl, sym, ap, subst, arith, inl, inr, eq-eqb}
use Rattle.std.specs.Prelude.{Bool, true, false, Option, None, Some, MatchOption, All, Contains, ◌==◌, ◌&&◌}
use Rattle.std.proofs.lemmas.Bool.{cases_eq, cases_lt, false≢true}
use Rattle.std.proofs.lemmas.List.{length-set, length_push, get_or_push, get_or_append_left}
use Rattle.std.proofs.lemmas.List.Elements.{All-push, All-weaker, Contains-append_left, Contains-push, Contains-push_cases, All-contains, Contains-get_or}
use Rattle.std.proofs.lemmas.List.Quantifiers.{all_pairs_push}
use Rattle.net_model.specs.Answer.{bit_at}
use Rattle.clause_pool.specs.Literal.{Literal, opposite}
use Rattle.clause_pool.specs.Clauses.{Clause, numbered_clause}
use Rattle.clause_pool.proofs.Literals.{opposite_opposite, literal_cases}
use Rattle.pair_miter.specs.ChainView.{ChainView}
use Rattle.pair_miter.specs.Resolution.{resolvent}
use Rattle.solver_trail.specs.Assignment.{Assignment, IsTrail, IsUnset, assigned_literals}
use Rattle.solver_trail.specs.Trail.{IsReason, HasLiteral}
use Rattle.solver_trail.specs.declared.set_literals.SetLiteral.{SetLiteral}
use Rattle.learn_solver.specs.Places.{set_literal_at, IsFalseAt, IsFalseOf}
use Rattle.learn_solver.specs.Marks.{MarksClause}
use Rattle.learn_solver.specs.Walk.{marked_count, is_marked_at, IsSetBefore, IsLeft, IsKeptLiteral, IsBehind, IsTrailWalk, IsReasonChoice}
use Rattle.learn_solver.proofs.Levels.{same_place, level_at, levels_rise, inside_at, at_place, not_unset, decided_first}
use Rattle.learn_solver.proofs.Counts.{one_if, open_some, open_has, open_step, open_few}
use Rattle.learn_solver.proofs.Clearing.{false_at, it_is_false, left_split, bit_back, marked_before, clear_count, others_differ}
use Rattle.learn_solver.proofs.Falsity.{false_before}
use Rattle.learn_solver.proofs.Resolvents.{with_step, chain_step, resolvent_left, resolvent_right, resolvent_parts}

kept_here : (a : Assignment) (place : ℕ) (kept : List Literal) → All (IsKeptLiteral a (place + 1)) kept → All (IsKeptLiteral a place) kept
kept_here a place kept all = All-weaker (IsKeptLiteral a (place + 1)) (IsKeptLiteral a place) (λ l h. record { at = h.at; behind = omega (arith, h.behind); false_at = h.false_at; above = h.above }) kept all

-- the literals of a reason are set at its literal's place or before
pub is_set_before : (a : Assignment) → IsTrail a → (place : ℕ) → place < length a.literals → (reason : Clause) → IsReason (take place (assigned_literals a)) reason (set_literal_at a place).literal → All (λ (l : Literal). IsSetBefore a (place + 1) l.variable) reason
is_set_before a trail place inside reason forces = λ k d h. by (get_or reason k d) (Contains-get_or reason k d h)
  where
    by : (l : Literal) → Contains reason l → IsSetBefore a (place + 1) l.variable
    by l h = elim (literal_cases l (set_literal_at a place).literal) [
      | inl same ↦ record { at = place; before = omega arith; is = sym (ap (λ (x : Literal). x.variable) same) }
      | inr ne ↦ let found = false_before a place l (omega arith) (forces.others l h ne) in record { at = found.0; before = omega (arith, found.1); is = ap (λ (x : Literal). x.variable) found.2.is }
    ]

module _ {a : Assignment} (trail : IsTrail a) {clauses : List Clause} {marks : List Bool} {chain : ChainView} {kept : List Literal} {left : ℕ} (place : ℕ) (w : IsTrailWalk a clauses marks chain kept left (place + 1)) where
  inside : place < length a.literals
  inside = omega (arith, w.within)

  room : (set_literal_at a place).literal.variable < length marks
  room = let b = inside_at a trail place inside in omega (arith, b.1, w.places)

  -- ---- a literal that isn't marked

  pub pass_step : bit_at marks (set_literal_at a place).literal.variable ≡ false → IsTrailWalk a clauses marks chain kept left place
  pass_step unmarked = record {
    within = omega (arith, w.within);
    places = w.places;
    bare = w.bare;
    end = w.end;
    ends = w.ends;
    parts = λ l h. elim (w.parts l h) [ inl x ↦ inl x | inr x ↦ inr (passed l x) ];
    kept_inside = w.kept_inside;
    left_inside = λ l h. w.left_inside l (record { at = h.at; before = omega (arith, h.before); false_at = h.false_at; marked = h.marked });
    marked = λ v h. let b = w.marked v h in elim (cases_lt b.at place) [
      | inl less ↦ record { at = b.at; before = less; is = b.is }
      | inr over ↦
          let same : b.at ≡ place = omega (arith, over, b.before) in
          absurd (false≢true (sym unmarked ∙ (ap (bit_at marks) (ap (λ k. (set_literal_at a k).literal.variable) (sym same) ∙ b.is) ∙ h)))
    ];
    count =
        let test : one_if (is_marked_at marks a.level (set_literal_at a place)) ≡ 0 = ap (λ b. one_if (b && ((set_literal_at a place).level == a.level))) unmarked in
        omega (arith, w.count, open_step a marks place inside, test);
    kept_at = kept_here a place kept w.kept_at;
    order = w.order;
    pending = w.pending;
    done = w.done;
    first = w.first;
  }
    where
      passed : (l : Literal) → IsLeft a marks (place + 1) l → IsLeft a marks place l
      passed l h = elim (cases_lt h.at place) [
        | inl less ↦ record { at = h.at; before = less; false_at = h.false_at; marked = h.marked }
        | inr over ↦
            let same : h.at ≡ place = omega (arith, over, h.before) in
            absurd (false≢true (sym unmarked ∙ (ap (bit_at marks) (ap (λ k. (set_literal_at a k).literal.variable) (sym same) ∙ ap (λ (m : Literal). m.variable) h.false_at.is) ∙ h.marked)))
      ]

  -- ---- a literal that is kept

  module _ (marked : bit_at marks (set_literal_at a place).literal.variable ≡ true) where
    own_left : IsLeft a marks (place + 1) (opposite (set_literal_at a place).literal)
    own_left = record { at = place; before = omega arith; false_at = it_is_false a place inside; marked = marked }

    -- while none is kept, some of the present level are left, and so this literal is of that level
    pub still_present : length kept ≡ 0 → 0 < a.level → (set_literal_at a place).level ≡ a.level
    still_present none above =
        let some = open_some a marks (place + 1) w.within (omega (arith, w.pending none above, w.count)) in
        omega (arith, levels_rise a trail some.0 place (omega (arith, some.1)) inside, level_at a trail place inside, some.3)

    -- once one is kept, none of the present level are left
    pub present_no_more : 0 < length kept → (set_literal_at a place).level < a.level
    present_no_more some =
        elim (cases_eq (set_literal_at a place).level a.level) [
          | inl same ↦ absurd (let h = open_has a marks (place + 1) w.within place (omega arith) marked same in omega (arith, h, w.count, w.done some))
          | inr other ↦ omega (arith, other, level_at a trail place inside)
        ]

    pub keep_step : IsReasonChoice a place left None → (rest : ℕ) → rest + one_if ((set_literal_at a place).level == a.level) ≡ left
        → IsTrailWalk a clauses (set marks (set_literal_at a place).literal.variable false) chain (kept ++ opposite (set_literal_at a place).literal ∷ []) rest place
    keep_step choice rest counted = record {
      within = omega (arith, w.within);
      places = length-set marks (set_literal_at a place).literal.variable false ∙ w.places;
      bare = w.bare;
      end = w.end;
      ends = w.ends;
      parts = λ l h. elim (w.parts l h) [
        | inl x ↦ inl (Contains-append_left kept (opposite (set_literal_at a place).literal ∷ []) l x)
        | inr x ↦ elim (left_split a trail marks place inside l x) [
          | inl y ↦ inr y
          | inr same ↦ inl (subst (Contains (kept ++ opposite (set_literal_at a place).literal ∷ [])) (sym same) (Contains-push kept (opposite (set_literal_at a place).literal)))
        ]
      ];
      kept_inside = λ l h. elim (Contains-push_cases kept (opposite (set_literal_at a place).literal) l h) [
        | inl x ↦ w.kept_inside l x
        | inr same ↦ subst (Contains w.end) same (w.left_inside (opposite (set_literal_at a place).literal) own_left)
      ];
      left_inside = λ l h. w.left_inside l (record { at = h.at; before = omega (arith, h.before); false_at = h.false_at; marked = (bit_back a trail marks place inside l.variable room h.marked).1 });
      marked = λ v h. marked_before a trail marks place inside v room h (w.marked v);
      count = omega (arith, w.count, counted, clear_count a trail marks place inside marked);
      kept_at = All-push (IsKeptLiteral a place) kept (opposite (set_literal_at a place).literal) (kept_here a place kept w.kept_at) (record { at = place; behind = omega arith; false_at = it_is_false a place inside; above = choice.0 });
      order = all_pairs_push (IsBehind a) kept (opposite (set_literal_at a place).literal) w.order
          (λ k d h. let there = w.kept_at k d h in record { first = there.at; second = place; order = omega (arith, there.behind); first_at = there.false_at; second_at = it_is_false a place inside; lower = present_no_more (omega (arith, h)) });
      pending = λ none above. absurd (omega (arith, none, length_push kept (opposite (set_literal_at a place).literal)));
      done = λ some. none_left (length kept) refl;
      first = λ d some. first_is d (length kept) refl;
    }
      where
        above : 0 < a.level
        above = omega (arith, choice.0, level_at a trail place inside)

        none_left : (n : ℕ) → length kept ≡ n → rest ≡ 0
        none_left zero e =
            let same = still_present e above in
            let test : one_if ((set_literal_at a place).level == a.level) ≡ 1 = ap one_if (eq-eqb (set_literal_at a place).level a.level same) in
            omega (arith, counted, test, choice.1 same)
        none_left (suc n) e = omega (arith, counted, w.done (omega (arith, e)))

        first_is : (d : Literal) (n : ℕ) → length kept ≡ n → IsFalseOf a a.level (get_or (kept ++ opposite (set_literal_at a place).literal ∷ []) 0 d)
        first_is d zero e =
            subst (IsFalseOf a a.level) (sym (get_or_push kept (opposite (set_literal_at a place).literal) d 0 e))
            (record { place = place; at = it_is_false a place inside; of_level = still_present e above })
        first_is d (suc n) e =
            subst (IsFalseOf a a.level) (sym (get_or_append_left kept (opposite (set_literal_at a place).literal ∷ []) d 0 (omega (arith, e)))) (w.first d (omega (arith, e)))

    -- another literal of the present level is left if more than one are
    pub another_present : 1 < left → (k : ℕ) × (k < place) × ((set_literal_at a k).level ≡ a.level)
    another_present several =
        let step = open_step a marks place inside in
        let some = open_some a marks place (omega arith) (omega (arith, w.count, step, one_at_most ((set_literal_at a place).literal.variable))) in
        (some.0, some.1, some.3)
      where
        one_at_most : ℕ → one_if (is_marked_at marks a.level (set_literal_at a place)) ≤ 1
        one_at_most v = by (is_marked_at marks a.level (set_literal_at a place))
          where
            by : (b : Bool) → one_if b ≤ 1
            by true = omega arith
            by false = omega arith

    -- ---- a literal that is resolved away

    module _ {reason : Clause} (number : ℕ) (there : numbered_clause clauses number ≡ Some reason) (forces : IsReason (take place (assigned_literals a)) reason (set_literal_at a place).literal)
        (choice : IsReasonChoice a place left (Some number)) {more : List Bool} {opened : ℕ} (m : MarksClause a marks more reason opened) where
      counted : marked_count a more (place + 1) ≡ marked_count a marks (place + 1) + opened
      counted = m.count (place + 1) w.within (is_set_before a trail place inside reason forces)

      pivot : Literal
      pivot = opposite (set_literal_at a place).literal

      -- the other literals of the reason are false before the place
      other_false : (l : Literal) → Contains reason l → l ≢ (set_literal_at a place).literal → (k : ℕ) × (k < place) × IsFalseAt a l k
      other_false l h ne = false_before a place l (omega arith) (forces.others l h ne)

      room_more : (set_literal_at a place).literal.variable < length more
      room_more = omega (arith, room, m.places)

      end_more : Clause
      end_more = resolvent (opposite (set_literal_at a place).literal) w.end reason

      parts_more : (l : Literal) → Contains (resolvent (opposite (set_literal_at a place).literal) w.end reason) l → Contains kept l ⊎ IsLeft a (set more (set_literal_at a place).literal.variable false) place l
      parts_more l h = elim (resolvent_parts (opposite (set_literal_at a place).literal) w.end reason l h) [
        | inl x ↦ elim (w.parts l x.0) [
          | inl y ↦ inl y
          | inr y ↦ elim (left_split a trail more place inside l (record { at = y.at; before = y.before; false_at = y.false_at; marked = m.kept l.variable y.marked })) [
            | inl z ↦ inr z
            | inr same ↦ absurd (x.1 same)
          ]
        ]
        | inr x ↦
            let found = other_false l x.0 (λ e. x.1 (e ∙ sym (opposite_opposite (set_literal_at a place).literal))) in
            elim (left_split a trail more place inside l (record { at = found.0; before = omega (arith, found.1); false_at = found.2; marked = m.all l x.0 })) [
              | inl z ↦ inr z
              | inr same ↦ absurd (others_differ a trail more place inside found.0 found.1 (ap (λ (m : Literal). m.variable) found.2.is ∙ ap (λ (m : Literal). m.variable) same))
            ]
      ]

      kept_more : (l : Literal) → Contains kept l → Contains (resolvent (opposite (set_literal_at a place).literal) w.end reason) l
      kept_more l h =
          let there = All-contains (IsKeptLiteral a (place + 1)) kept l w.kept_at h in
          resolvent_left (opposite (set_literal_at a place).literal) w.end reason l (w.kept_inside l h)
          (λ e. let same = same_place a trail there.at place there.false_at.within inside (ap (λ (m : Literal). m.variable) there.false_at.is ∙ ap (λ (m : Literal). m.variable) e) in omega (arith, there.behind, same))

      left_more : (l : Literal) → IsLeft a (set more (set_literal_at a place).literal.variable false) place l → Contains (resolvent (opposite (set_literal_at a place).literal) w.end reason) l
      left_more l h =
          let back = bit_back a trail more place inside l.variable room_more h.marked in
          elim (m.only l.variable back.1) [
            | inl old ↦
                resolvent_left (opposite (set_literal_at a place).literal) w.end reason l (w.left_inside l (record { at = h.at; before = omega (arith, h.before); false_at = h.false_at; marked = old }))
                (λ e. back.0 (ap (λ (m : Literal). m.variable) e))
            | inr has ↦
                let n = has.0 in
                let ne : n ≢ (set_literal_at a place).literal = λ e. back.0 (sym has.2 ∙ ap (λ (x : Literal). x.variable) e) in
                let found = other_false n has.1 ne in
                let same = same_place a trail h.at found.0 h.false_at.within found.2.within (ap (λ (x : Literal). x.variable) h.false_at.is ∙ (sym has.2 ∙ sym (ap (λ (x : Literal). x.variable) found.2.is))) in
                let is : l ≡ n = false_at a l found.0 (subst (IsFalseAt a l) same h.false_at) ∙ sym (false_at a n found.0 found.2) in
                resolvent_right (opposite (set_literal_at a place).literal) w.end reason l (subst (Contains reason) (sym is) has.1)
                (λ e. ne (sym is ∙ (e ∙ opposite_opposite (set_literal_at a place).literal)))
          ]

      marked_more : (v : ℕ) → bit_at (set more (set_literal_at a place).literal.variable false) v ≡ true → IsSetBefore a place v
      marked_more v h = marked_before a trail more place inside v room_more h (λ marked. elim (m.only v marked) [
        | inl old ↦ w.marked v old
        | inr has ↦ elim (literal_cases has.0 (set_literal_at a place).literal) [
          | inl same ↦ record { at = place; before = omega arith; is = sym (ap (λ (x : Literal). x.variable) same) ∙ has.2 }
          | inr ne ↦ let found = other_false has.0 has.1 ne in record { at = found.0; before = omega (arith, found.1); is = ap (λ (x : Literal). x.variable) found.2.is ∙ has.2 }
        ]
      ])

      -- none of the present level are left if one is kept
      none_more : (rest : ℕ) → rest ≡ marked_count a (set more (set_literal_at a place).literal.variable false) place → 0 < length kept → rest ≡ 0
      none_more rest is some = by rest refl
        where
          lower : (set_literal_at a place).level < a.level
          lower = present_no_more some

          level_zero : (set_literal_at a place).level ≡ 0
          level_zero = elim choice.1 [
            | inl z ↦ z
            | inr p ↦ absurd (omega (arith, lower, p.0))
          ]

          by : (n : ℕ) → rest ≡ n → n ≡ 0
          by zero e = refl
          by (suc n) e =
              let found = open_some a (set more (set_literal_at a place).literal.variable false) place (omega arith) (omega (arith, e, is)) in
              absurd (omega (arith, levels_rise a trail found.0 place (omega (arith, found.1)) inside, level_zero, lower, found.3))

      pub resolve_step : (rest : ℕ) → rest + one_if ((set_literal_at a place).level == a.level) ≡ left + opened
          → IsTrailWalk a clauses (set more (set_literal_at a place).literal.variable false) (with_step chain (opposite (set_literal_at a place).literal) number) kept rest place
      resolve_step rest fewer = record {
        within = omega (arith, w.within);
        places = length-set more (set_literal_at a place).literal.variable false ∙ (m.places ∙ w.places);
        bare = w.bare;
        end = resolvent (opposite (set_literal_at a place).literal) w.end reason;
        ends = chain_step clauses chain w.end reason (opposite (set_literal_at a place).literal) number w.ends there (w.left_inside (opposite (set_literal_at a place).literal) own_left) (subst (Contains reason) (sym (opposite_opposite (set_literal_at a place).literal)) forces.inside);
        parts = parts_more;
        kept_inside = kept_more;
        left_inside = left_more;
        marked = marked_more;
        count = count;
        kept_at = kept_here a place kept w.kept_at;
        order = w.order;
        pending = λ none above.
            let present = still_present none above in
            let test : one_if ((set_literal_at a place).level == a.level) ≡ 1 = ap one_if (eq-eqb (set_literal_at a place).level a.level present) in
            elim choice.1 [
              | inl z ↦ absurd (omega (arith, z, present, above))
              | inr p ↦ omega (arith, p.1, test, fewer)
            ];
        done = λ some. none_more rest count some;
        first = w.first;
      }
        where
          count : rest ≡ marked_count a (set more (set_literal_at a place).literal.variable false) place
          count = omega (arith, w.count, fewer, counted, clear_count a trail more place inside (m.kept (set_literal_at a place).literal.variable marked))

      pub few_more : left + opened ≤ place + 1
      few_more = omega (arith, w.count, counted, open_few a more (place + 1) w.within)

      pub some_more : (set_literal_at a place).level ≡ a.level → 0 < left + opened
      some_more present = omega (arith, w.count, open_has a marks (place + 1) w.within place (omega arith) marked present)

-- the trail's reason for a literal that is resolved away
pub choice_of : (a : Assignment) → IsTrail a → (place left v : ℕ) → place < length a.literals → v ≡ (set_literal_at a place).literal.variable
    → ((set_literal_at a place).level ≡ 0) ⊎ (((set_literal_at a place).level ≡ a.level) × (1 < left)) → (1 < left → (k : ℕ) × (k < place) × ((set_literal_at a k).level ≡ a.level))
    → (o : Option ℕ) → MatchOption o (IsUnset a v ⊎ HasLiteral a v (λ (s : SetLiteral). s.reason ≡ None)) (λ number. HasLiteral a v (λ (s : SetLiteral). s.reason ≡ Some number)) → IsReasonChoice a place left o
choice_of a trail place left v h e goes several (Some number) has = (at_place a trail (λ (s : SetLiteral). s.reason ≡ Some number) place h v e has, goes)
choice_of a trail place left v h e goes several None (inl unset) = absurd (not_unset a trail place h v e unset)
choice_of a trail place left v h e goes several None (inr has) =
    let none = at_place a trail (λ (s : SetLiteral). s.reason ≡ None) place h v e has in
    elim goes [
      | inl zero_level ↦ absurd (omega (arith, zero_level, (decided_first a trail place place h none).0))
      | inr both ↦ let other = several both.1 in absurd (omega (arith, both.0, other.2, (decided_first a trail other.0 place h none).1 other.1))
    ]
