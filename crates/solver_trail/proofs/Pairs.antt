-- The two watches of a clause.
use Rattle.std.proofs.Common.{◌≡◌, ◌≢◌, ◌∙◌, inl, inr, ℕ, ◌+◌, ◌-◌, ◌*◌, ◌/◌, ◌<◌, List, [], ◌∷◌, ◌++◌, length, get_or, sym, ap, subst, arith, length-append}
use Rattle.std.specs.Prelude.{set}
use Rattle.std.proofs.lemmas.Bool.{cases_eq, cases_lt}
use Rattle.std.proofs.lemmas.Bool.Decides.{nat_tests}
use Rattle.std.proofs.lemmas.List.{length-set, get_or-set_same, get_or-set_other, get_or_at, get_or_append_left, get_or-append_right}
use Rattle.clause_pool.specs.Literal.{Literal, pos_literal}
use Rattle.solver_trail.specs.Watches.{partner, watched, EachWatch}

pub partner_back : (i : ℕ) → partner (partner i) ≡ i
partner_back i = grind (arith, nat_tests)

pub partner_half : (i : ℕ) → partner i / 2 ≡ i / 2
partner_half i = grind (arith, nat_tests)

pub partner_apart : (i : ℕ) → partner i ≢ i
partner_apart i = λ e. grind (arith, nat_tests)

pub partner_within : (i n size : ℕ) → size ≡ 2 * n → i < size → partner i < size
partner_within i n size even less = grind (arith, nat_tests)

partner_even : (n : ℕ) → partner (2 * n) ≡ 2 * n + 1
partner_even n = grind (arith, nat_tests)

partner_odd : (n : ℕ) → partner (2 * n + 1) ≡ 2 * n
partner_odd n = grind (arith, nat_tests)

-- ---- one watches another literal

pub watched_there : (literals : List Literal) (i : ℕ) (l : Literal) → i < length literals → watched (set literals i l) i ≡ l
watched_there literals i l within = get_or-set_same literals i l (pos_literal 0) within

pub watched_elsewhere : (literals : List Literal) (i : ℕ) (l : Literal) (m : ℕ) → m ≢ i → watched (set literals i l) m ≡ watched literals m
watched_elsewhere literals i l m ne = get_or-set_other literals i m l (pos_literal 0) ne

module _ (P : ℕ → Literal → Literal → Type 0) (literals : List Literal) (i : ℕ) (l : Literal) (within : i < length literals) where
  pub each_set : P i l (watched literals (partner i)) → P (partner i) (watched literals (partner i)) l
      → ((m : ℕ) → m < length literals → m ≢ i → m ≢ partner i → P m (watched literals m) (watched literals (partner m)))
      → EachWatch P (set literals i l)
  each_set mine its rest m less = elim (cases_eq m i) [
    | inl e ↦ subst (λ k. P k (watched (set literals i l) k) (watched (set literals i l) (partner k))) (sym e)
        (subst (λ x. P i x (watched (set literals i l) (partner i))) (sym (watched_there literals i l within)) (subst (P i l) (sym (watched_elsewhere literals i l (partner i) (partner_apart i))) mine))
    | inr ne ↦ elim (cases_eq m (partner i)) [
      | inl e ↦ subst (λ k. P k (watched (set literals i l) k) (watched (set literals i l) (partner k))) (sym e)
          (subst (λ x. P (partner i) x (watched (set literals i l) (partner (partner i)))) (sym (watched_elsewhere literals i l (partner i) (partner_apart i)))
          (subst (P (partner i) (watched literals (partner i))) (sym (ap (watched (set literals i l)) (partner_back i) ∙ watched_there literals i l within)) its))
      | inr other ↦
          let apart : partner m ≢ i = λ e. other (sym (partner_back m) ∙ ap partner e) in
          subst (λ x. P m x (watched (set literals i l) (partner m))) (sym (watched_elsewhere literals i l m ne)) (subst (P m (watched literals m)) (sym (watched_elsewhere literals i l (partner m) apart)) (rest m (omega (arith, less, length-set literals i l)) ne other))
    ]
  ]

-- ---- a clause is added

module _ (P : ℕ → Literal → Literal → Type 0) (literals : List Literal) (n : ℕ) (even : length literals ≡ 2 * n) (first second : Literal) where
  before : (m : ℕ) → m < length literals → watched (literals ++ first ∷ second ∷ []) m ≡ watched literals m
  before m less = get_or_append_left literals (first ∷ second ∷ []) (pos_literal 0) m less

  at_first : watched (literals ++ first ∷ second ∷ []) (2 * n) ≡ first
  at_first = get_or_at literals first (second ∷ []) (pos_literal 0) (2 * n) even

  at_second : watched (literals ++ first ∷ second ∷ []) (2 * n + 1) ≡ second
  at_second =
      get_or-append_right literals (first ∷ second ∷ []) (2 * n) (2 * n + 1) (pos_literal 0) even (omega arith)
      ∙ (let one : (2 * n + 1) - 2 * n ≡ 1 = omega arith in ap (λ k. get_or (first ∷ second ∷ []) k (pos_literal 0)) one)

  pub each_two : EachWatch P literals → P (2 * n) first second → P (2 * n + 1) second first → EachWatch P (literals ++ first ∷ second ∷ [])
  each_two old one two m less = elim (cases_lt m (length literals)) [
    | inl earlier ↦
        subst (λ x. P m x (watched (literals ++ first ∷ second ∷ []) (partner m))) (sym (before m earlier))
        (subst (P m (watched literals m)) (sym (before (partner m) (partner_within m n (length literals) even earlier))) (old m earlier))
    | inr le ↦ elim (cases_eq m (2 * n)) [
      | inl e ↦ subst (λ k. P k (watched (literals ++ first ∷ second ∷ []) k) (watched (literals ++ first ∷ second ∷ []) (partner k))) (sym e)
          (subst (λ x. P (2 * n) x (watched (literals ++ first ∷ second ∷ []) (partner (2 * n)))) (sym at_first) (subst (P (2 * n) first) (sym (ap (watched (literals ++ first ∷ second ∷ [])) (partner_even n) ∙ at_second)) one))
      | inr ne ↦
          let e : m ≡ 2 * n + 1 = omega (arith, less, le, even, length-append literals (first ∷ second ∷ [])) in
          subst (λ k. P k (watched (literals ++ first ∷ second ∷ []) k) (watched (literals ++ first ∷ second ∷ []) (partner k))) (sym e)
          (subst (λ x. P (2 * n + 1) x (watched (literals ++ first ∷ second ∷ []) (partner (2 * n + 1)))) (sym at_second) (subst (P (2 * n + 1) second) (sym (ap (watched (literals ++ first ∷ second ∷ [])) (partner_odd n) ∙ at_first)) two))
    ]
  ]
