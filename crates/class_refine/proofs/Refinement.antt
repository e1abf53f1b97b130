-- The refinement of a table by a row: the table after a cut is it, and no other is.
use Rattle.std.proofs.Common.{◌≡◌, ◌≢◌, ◌∙◌, ℕ, ◌+◌, ◌-◌, ◌<◌, ◌≤◌, ◌⊎◌, Bool, eqb, List, length, get_or, map, refl, sym, ap, subst, arith, inl, inr, None, Some, AllPairs, Contains}
use Rattle.std.specs.List.{range_with_len}
use Rattle.std.proofs.lemmas.Bool.{cases_lt, cases_Bool, eqb-true, eq-eqb}
use Rattle.std.proofs.lemmas.List.{ext_get_or}
use Rattle.std.proofs.lemmas.List.FromFn.{length-map-range_with_len, get_or-map-range_with_len}
use Rattle.net_model.specs.ClassTable.{ClassTable, class_count, class_at, representative, answer_at, stay_together, new_lowest, class_after, refined_table}
use Rattle.net_model.proofs.Elements.{true_false, Contains-map}
use Rattle.net_model.proofs.Orders.{Contains-range}
use Rattle.class_refine.specs.Fields.{IsWhole}
use Rattle.class_refine.specs.Laws.{ComesBefore, IsRefinement}
use Rattle.class_refine.proofs.LeaverOrder.{never_both}
use Rattle.class_refine.proofs.Ranges.{same_ordered}
use Rattle.class_refine.proofs.Pieces.{IsSound, representative_lowest, stays, staying, piece_is, new_lowest-All, new_lowest_ordered, after_cases, moved_from, lowest_moves, lead_stays}
use Rattle.class_refine.proofs.Refined.{sound_from, representative-member, numbers-refined, count-refined, class-refined, patterns-refined, birth_old, birth_new, after_same, same_after, class_old}

-- a number that no lower one of its class precedes represents the class
lowest_represents : (t : ClassTable) (n : ℕ) → n < length t.class_of → ((m : ℕ) → m < n → class_at t m ≢ class_at t n) → representative t (class_at t n) ≡ n
lowest_represents t n inside none =
    let is = representative_lowest t n inside in
    elim (cases_lt (representative t (class_at t n)) n) [
      | inl less ↦ absurd (none (representative t (class_at t n)) less (eqb-true (class_at t (representative t (class_at t n))) (class_at t n) is.passes))
      | inr le ↦ omega (arith, le, is.within)
    ]

-- ---- the table after a cut is one

module _ (t : ClassTable) (row : List (List Bool)) (w : IsWhole t) where
  abbrev new : ClassTable
  new = refined_table t row

  abbrev sound : IsSound t
  sound = sound_from t w

  abbrev low : ℕ → ℕ
  low k = get_or (new_lowest t row) k 0

  -- the lowest member of an old class
  old_lead : (class : ℕ) → class < class_count t → (class_at new (representative t class) ≡ class) × (representative new class ≡ representative t class)
  old_lead class h =
      let rep = representative t class in
      let is = representative-member t w class h in
      let stay : class_after t row rep ≡ class = subst (λ c. class_after t row (representative t c) ≡ c) is.1 (lead_stays t row sound rep is.0) in
      let now : class_at new rep ≡ class = class-refined t row rep is.0 ∙ stay in
      let lowest = representative_lowest t rep is.0 in (
        now,
        ap (representative new) (sym now) ∙ lowest_represents new rep (omega (arith, is.0, numbers-refined t row))
            (λ m less e.
            let inside : m < length t.class_of = omega (arith, less, is.0) in
            let after : class_after t row m ≡ class = sym (class-refined t row m inside) ∙ (e ∙ now) in
            let was : class_at t m ≡ class = sym (class_old t row sound m inside (omega (arith, after, h))) ∙ after in
            true_false (eqb (class_at t m) (class_at t rep)) (eq-eqb (class_at t m) (class_at t rep) (was ∙ sym is.1)) (lowest.below m (subst (λ x. m < x) (ap (representative t) (sym is.1)) less))),
      )

  -- the lowest member of a new class
  new_lead : (k : ℕ) → k < length (new_lowest t row) → (class_at new (low k) ≡ class_count t + k) × (representative new (class_count t + k) ≡ low k)
  new_lead k h =
      let b = new_lowest-All t row k 0 h in
      let now : class_at new (low k) ≡ class_count t + k = class-refined t row (low k) b.inside ∙ lowest_moves t row sound k h in (
        now,
        ap (representative new) (sym now) ∙ lowest_represents new (low k) (omega (arith, b.inside, numbers-refined t row))
            (λ m less e.
            let inside : m < length t.class_of = omega (arith, less, b.inside) in
            let from = moved_from t row sound k m inside (sym (class-refined t row m inside) ∙ (e ∙ now)) in
            omega (arith, less, from, (piece_is t row m inside).within)),
      )

  -- a number is with the lowest member of its class, or in a new class
  stays_or_leaves : (n : ℕ) → n < length t.class_of → ((class_at new n ≡ class_at t n) × (answer_at t row n ≡ answer_at t row (representative t (class_at t n)))) ⊎ ((k : ℕ) × (k < length (new_lowest t row)) × (class_at new n ≡ class_count t + k) × (class_at t (low k) ≡ class_at t n))
  stays_or_leaves n h =
      let piece = piece_is t row n h in
      elim (after_cases t row sound n h) [
        | inl s ↦ inl (class-refined t row n h ∙ s.after, sym piece.answer ∙ ap (answer_at t row) s.lowest)
        | inr (k, m) ↦ inr (k, m.within, class-refined t row n h ∙ m.after, ap (class_at t) m.lowest ∙ piece.class)
      ]

  -- a class is an old one or a new one
  old_or_new : (class : ℕ) → class < class_count new → (class < class_count t) ⊎ ((k : ℕ) × (k < length (new_lowest t row)) × (class ≡ class_count t + k))
  old_or_new class h = elim (cases_lt class (class_count t)) [
    | inl old ↦ inl old
    | inr le ↦ inr (class - class_count t, omega (arith, le, h, count-refined t row), omega (arith, le))
  ]

  inhabited : (class : ℕ) → class < class_count new → (representative new class < length t.class_of) × (class_at new (representative new class) ≡ class)
  inhabited class h = elim (old_or_new class h) [
    | inl old ↦
        let lead = old_lead class old in
        rw lead.1 ((representative-member t w class old).0, lead.0)
    | inr (k, l, e) ↦
        let lead = new_lead k l in
        rw (e, lead.1) ((new_lowest-All t row k 0 l).inside, lead.0)
  ]

  ordered : (i j : ℕ) → class_count t ≤ i → i < j → j < class_count new → ComesBefore t (representative new i) (representative new j)
  ordered i j from less below =
      let a = i - class_count t in
      let b = j - class_count t in
      let ia : class_count t + a ≡ i = omega (arith, from) in
      let jb : class_count t + b ≡ j = omega (arith, from, less) in
      let within : b < length (new_lowest t row) = omega (arith, below, jb, count-refined t row) in
      let under : a < b = omega (arith, ia, jb, less) in
      let one = sym (ap (representative new) ia) ∙ (new_lead a (omega (arith, under, within))).1 in
      let other = sym (ap (representative new) jb) ∙ (new_lead b within).1 in
      rw (one, other) (new_lowest_ordered t row a b 0 under within)

  new_births : (n : ℕ) → n < length t.class_of → class_count t ≤ class_at new n → get_or new.births (class_at new n) None ≡ Some (class_at t n, t.patterns)
  new_births n h is_new = elim (stays_or_leaves n h) [
    | inl s ↦ absurd (omega (arith, is_new, s.0, w.classes n h))
    | inr (k, l, e, class) ↦ rw e (birth_new t row k l ∙ ap (λ c. Some (c, t.patterns)) class)
  ]

  pub refined_is : IsRefinement t row new
  refined_is = record {
    numbers = numbers-refined t row;
    together = λ m n hm hn. (
      λ e. same_after t row sound m n hm hn (sym (class-refined t row m hm) ∙ (e ∙ class-refined t row n hn)),
      λ (class, answer). class-refined t row m hm ∙ (after_same t row m n hm hn class answer ∙ sym (class-refined t row n hn)),
    );
    leads = λ class h. (omega (arith, h, count-refined t row), (old_lead class h).1);
    stay = λ n h answer.
        let lead = representative-member t w (class_at t n) (w.classes n h) in
        class-refined t row n h ∙ (after_same t row n (representative t (class_at t n)) h lead.0 (sym lead.1) answer ∙ lead_stays t row sound n h);
    leave = λ n h differs. elim (stays_or_leaves n h) [
      | inl s ↦ absurd (differs s.1)
      | inr (k, l, e, class) ↦ (omega (arith, e), omega (arith, e, l, count-refined t row))
    ];
    inhabited = inhabited;
    ordered = ordered;
    old_births = birth_old t row;
    new_births = new_births;
    patterns = patterns-refined t row;
  }

-- ---- and no other table is

module _ (t : ClassTable) (row : List (List Bool)) (w : IsWhole t) where
  -- a number that answers otherwise than the lowest member of its class, as no lower one of the class does
  record BeginsNew (n : ℕ) : Type 0 where
    inside : n < length t.class_of
    differs : answer_at t row n ≢ answer_at t row (representative t (class_at t n))
    first : (m : ℕ) → m < n → class_at t m ≡ class_at t n → answer_at t row m ≢ answer_at t row n

  alike_or_not : (m n : ℕ) → class_at t m ≡ class_at t n → (answer_at t row m ≡ answer_at t row n) ⊎ (answer_at t row m ≢ answer_at t row n)
  alike_or_not m n class = elim (cases_Bool (stay_together t row m n)) [
    | inl passes ↦ inl (stays t row m n passes).1
    | inr fails ↦ inr (λ answer. true_false (stay_together t row m n) (staying t row m n class answer) fails)
  ]

  module _ (u : ClassTable) (is : IsRefinement t row u) where
    new_count : ℕ
    new_count = class_count u - class_count t

    count_is : class_count t + new_count ≡ class_count u
    unfolding new_count
    count_is = let last = is.leads (class_count t - 1) in omega (arith, w.patterns, last (omega (arith, w.patterns)))

    -- the lowest members of the new classes
    leads_of : List ℕ
    leads_of = map (representative u) (range_with_len (class_count t) new_count)

    leads-length : length leads_of ≡ new_count
    unfolding leads_of
    leads-length = length-map-range_with_len (representative u) (class_count t) new_count

    lead_at : (k d : ℕ) → k < new_count → get_or leads_of k d ≡ representative u (class_count t + k)
    unfolding leads_of
    lead_at k d h = get_or-map-range_with_len (representative u) (class_count t) new_count k (class_count t + k) d h refl

    leads_ordered : AllPairs (ComesBefore t) leads_of
    leads_ordered i j d less h =
        let within : j < new_count = omega (arith, h, leads-length) in
        rw (lead_at i d (omega (arith, less, within)), lead_at j d within) (is.ordered (class_count t + i) (class_count t + j) (omega arith) (omega (arith, less)) (omega (arith, within, count_is)))

    begins_new : (n : ℕ) → Contains leads_of n → BeginsNew n
    begins_new n (k, h, e) =
        let within : k < new_count = omega (arith, h, leads-length) in
        let class = class_count t + k in
        let lead : representative u class ≡ n = sym (lead_at k n within) ∙ e in
        let lives = is.inhabited class (omega (arith, within, count_is)) in
        let inside : n < length t.class_of = omega (arith, lead, lives.0) in
        let own : class_at u n ≡ class = ap (class_at u) (sym lead) ∙ lives.1 in
        record {
          inside = inside;
          differs = λ answer. omega (arith, own, is.stay n inside answer, w.classes n inside);
          first = λ m less class_is answer.
              let below : m < length t.class_of = omega (arith, less, inside) in
              let same : class_at u m ≡ class = (is.together m n below inside).1 (class_is, answer) ∙ own in
              let lowest = (representative_lowest u m (omega (arith, below, is.numbers))).within in
              omega (arith, less, lead, ap (representative u) same, lowest);
        }

    leads-contains : (n : ℕ) → BeginsNew n → Contains leads_of n
    unfolding leads_of
    leads-contains n b =
        let class = class_at u n in
        let left = is.leave n b.inside b.differs in
        let lead = lowest_represents u n (omega (arith, b.inside, is.numbers))
        (λ m less e. let below : m < length t.class_of = omega (arith, less, b.inside) in let s = (is.together m n below b.inside).0 e in b.first m less s.0 s.1) in
        subst (λ x. Contains leads_of x) lead (Contains-map (representative u) (range_with_len (class_count t) new_count) class (Contains-range (class_count t) new_count class left.0 (omega (arith, left.1, count_is))))

  module _ (u v : ClassTable) (one : IsRefinement t row u) (other : IsRefinement t row v) where
    same_leads : leads_of u one ≡ leads_of v other
    same_leads =
        same_ordered (ComesBefore t) (never_both t) (leads_of u one) (leads_of v other) (leads_ordered u one) (leads_ordered v other) (λ x has. leads-contains v other x (begins_new u one x has)) (λ x has. leads-contains u one x (begins_new v other x has))

    same_count : class_count u ≡ class_count v
    same_count = omega (arith, ap length same_leads, leads-length u one, leads-length v other, count_is u one, count_is v other)

    -- a new class has one lowest member in both
    same_lead : (class : ℕ) → class_count t ≤ class → class < class_count u → representative u class ≡ representative v class
    same_lead class from below =
        let k = class - class_count t in
        let is : class_count t + k ≡ class = omega (arith, from) in
        let here : k < new_count u one = omega (arith, is, below, count_is u one) in
        let there : k < new_count v other = omega (arith, is, below, same_count, count_is v other) in
        ap (representative u) (sym is) ∙ (sym (lead_at u one k 0 here) ∙ (ap (λ (xs : List ℕ). get_or xs k 0) same_leads ∙ (lead_at v other k 0 there ∙ ap (representative v) is)))

    same_class : (n : ℕ) → n < length t.class_of → class_at u n ≡ class_at v n
    same_class n h = elim (alike_or_not n (representative t (class_at t n)) (sym (representative-member t w (class_at t n) (w.classes n h)).1)) [
      | inl answer ↦ one.stay n h answer ∙ sym (other.stay n h answer)
      | inr differs ↦
          let class = class_at u n in
          let left = one.leave n h differs in
          let lead = same_lead class left.0 left.1 in
          let here = one.inhabited class left.1 in
          let there = other.inhabited class (omega (arith, left.1, same_count)) in
          let is : class_at v (representative u class) ≡ class = ap (class_at v) lead ∙ there.1 in
          sym is ∙ (other.together (representative u class) n here.0 h).1 ((one.together (representative u class) n here.0 h).0 here.1)
    ]

    same_birth : (class : ℕ) → class < class_count u → get_or u.births class None ≡ get_or v.births class None
    same_birth class h = elim (cases_lt class (class_count t)) [
      | inl old ↦ one.old_births class old ∙ sym (other.old_births class old)
      | inr from ↦
          let l = representative u class in
          let here = one.inhabited class h in
          let there : class_at v l ≡ class = sym (same_class l here.0) ∙ here.1 in
          ap (λ (c : ℕ). get_or u.births c None) (sym here.1)
          ∙ (one.new_births l here.0 (omega (arith, from, here.1)) ∙ (sym (other.new_births l here.0 (omega (arith, from, there))) ∙ ap (λ (c : ℕ). get_or v.births c None) there))
    ]

    pub same_refinement : u ≡ v
    same_refinement =
        let classes : u.class_of ≡ v.class_of = ext_get_or 0 u.class_of v.class_of (one.numbers ∙ sym other.numbers) (λ n h. same_class n (omega (arith, h, one.numbers))) in
        let births : u.births ≡ v.births = ext_get_or None u.births v.births same_count same_birth in
        let patterns : u.patterns ≡ v.patterns = one.patterns ∙ sym other.patterns in
        λ i. record { class_of = classes i; births = births i; patterns = patterns i }
