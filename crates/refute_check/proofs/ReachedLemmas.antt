-- The clause that a chain has reached, as literals come and go.
use Rattle.std.proofs.Common.{◌≡◌, ◌≢◌, ◌∙◌, ℕ, zero, suc, ◌<◌, ◌⊎◌, inl, inr, refl, sym, ap, arith, subst, get_or, length, set}
use Rattle.std.specs.Prelude.{Bool, true, false, ◌&&◌, List, [], ◌∷◌, ◌++◌, Contains}
use Rattle.std.proofs.lemmas.Bool.{cases_eq, cases_lt, and_from}
use Rattle.std.proofs.lemmas.List.{get_or-set_same, get_or-set_other, get_or_past, length-set}
use Rattle.std.proofs.lemmas.List.Elements.{Contains-append_left, Contains-append_right, Contains-append_cases}
use Rattle.net_model.specs.Answer.{bit_at}
use Rattle.net_model.proofs.Elements.{none_in}
use Rattle.clause_pool.specs.Literal.{Literal, opposite}
use Rattle.clause_pool.specs.LiteralCode.{code_of}
use Rattle.clause_pool.specs.Clauses.{Clause}
use Rattle.clause_pool.proofs.Literals.{same_by_code, literal_cases}
use Rattle.pair_miter.specs.Miter.{has_literal}
use Rattle.pair_miter.specs.Resolution.{clause_without, can_resolve, SameLiterals}
use Rattle.pair_miter.proofs.SameLiterals.{has_from, from_has, without_has, from_without}
use Rattle.refute_check.specs.declared.reached.Reached.{Reached}
use Rattle.refute_check.specs.Reached.{IsReached}
use Rattle.refute_check.proofs.AssignmentLemmas.{last_in, only_in}

-- a list with one more default
pub get_or_more : {X : Type 0} → (xs : List X) (d : X) (k : ℕ) → get_or (xs ++ d ∷ []) k d ≡ get_or xs k d
get_or_more [] d zero = refl
get_or_more [] d (suc k) = refl
get_or_more (x ∷ xs) d zero = refl
get_or_more (x ∷ xs) d (suc k) = get_or_more xs d k

-- ---- marks

-- a literal's mark is removed, and the others stay
unmarked_here : (marks : List Bool) (p : ℕ) → bit_at (set marks p false) p ≡ false
unmarked_here marks p = elim (cases_lt p (length marks)) [
  | inl low ↦ get_or-set_same marks p false false low
  | inr past ↦ get_or_past (set marks p false) p false (omega (arith, past, length-set marks p false))
]

pub still_marked : (marks : List Bool) (p : ℕ) (l : Literal) → bit_at (set marks p false) (code_of l) ≡ true → (bit_at marks (code_of l) ≡ true) × (code_of l ≢ p)
still_marked marks p l t = elim (cases_eq (code_of l) p) [
  | inl e ↦
      let wrong : ◌≡◌ {A = Bool} true false = sym t ∙ (ap (bit_at (set marks p false)) e ∙ unmarked_here marks p) in
      absurd (cc)
  | inr ne ↦ (sym (get_or-set_other marks p (code_of l) false false ne) ∙ t, ne)
]

kept_marked : (marks : List Bool) (pivot l : Literal) → bit_at marks (code_of l) ≡ true → l ≢ pivot → bit_at (set marks (code_of pivot) false) (code_of l) ≡ true
kept_marked marks pivot l t ne = get_or-set_other marks (code_of pivot) (code_of l) false false (λ e. ne (same_by_code l pivot e)) ∙ t

-- ---- what is reached

pub reached_none : (r : Reached) → r.marks.items ≡ [] → IsReached r []
reached_none r none = record {
  marked = λ l m. absurd (none_in l m);
  only = λ l t. absurd (let wrong : ◌≡◌ {A = Bool} false true = sym (ap (λ marks. bit_at marks (code_of l)) none) ∙ t in cc);
  listed = λ l m. absurd (none_in l m);
}

pub reached_again : (r : Reached) (clause : Clause) (lit : Literal) → IsReached r clause → bit_at r.marks.items (code_of lit) ≡ true → IsReached r (clause ++ lit ∷ [])
reached_again r clause lit is t =
    let was : (l : Literal) → Contains (clause ++ lit ∷ []) l → Contains clause l = λ l m. elim (Contains-append_cases clause (lit ∷ []) l m) [ inl c ↦ c | inr c ↦ subst (Contains clause) (sym (only_in lit l c)) (is.only lit t) ] in
    record { marked = λ l m. is.marked l (was l m); only = λ l h. Contains-append_left clause (lit ∷ []) l (is.only l h); listed = λ l m. is.listed l (was l m) }

pub reached_place : (r new : Reached) (clause : Clause) → new.marks.items ≡ r.marks.items ++ false ∷ [] → new.listed.items ≡ r.listed.items → IsReached r clause → IsReached new clause
reached_place r new clause marks listed is =
    let same : (l : Literal) → bit_at new.marks.items (code_of l) ≡ bit_at r.marks.items (code_of l) = λ l. ap (λ ms. bit_at ms (code_of l)) marks ∙ get_or_more r.marks.items false (code_of l) in
    record { marked = λ l m. same l ∙ is.marked l m; only = λ l t. is.only l (sym (same l) ∙ t); listed = λ l m. subst (λ ls. Contains ls l) (sym listed) (is.listed l m) }

module _ (r new : Reached) (clause : Clause) (lit : Literal) (is : IsReached r clause) where
  pub reached_more : code_of lit < length r.marks.items → new.marks.items ≡ set r.marks.items (code_of lit) true → new.listed.items ≡ r.listed.items ++ lit ∷ [] → IsReached new (clause ++ lit ∷ [])
  reached_more room marks listed =
      let here : bit_at new.marks.items (code_of lit) ≡ true = ap (λ ms. bit_at ms (code_of lit)) marks ∙ get_or-set_same r.marks.items (code_of lit) true false room in
      let other : (l : Literal) → l ≢ lit → bit_at new.marks.items (code_of l) ≡ bit_at r.marks.items (code_of l) =
      λ l ne. ap (λ ms. bit_at ms (code_of l)) marks ∙ get_or-set_other r.marks.items (code_of lit) (code_of l) true false (λ e. ne (same_by_code l lit e)) in
      record {
        marked = λ l m. elim (literal_cases l lit) [
          | inl e ↦ subst (λ x. bit_at new.marks.items (code_of x) ≡ true) (sym e) here
          | inr ne ↦ elim (Contains-append_cases clause (lit ∷ []) l m) [ inl was ↦ other l ne ∙ is.marked l was | inr now ↦ absurd (ne (only_in lit l now)) ]
        ];
        only = λ l t. elim (literal_cases l lit) [
          | inl e ↦ subst (Contains (clause ++ lit ∷ [])) (sym e) (last_in clause lit)
          | inr ne ↦ Contains-append_left clause (lit ∷ []) l (is.only l (sym (other l ne) ∙ t))
        ];
        listed = λ l m. subst (λ ls. Contains ls l) (sym listed) (elim (Contains-append_cases clause (lit ∷ []) l m) [
          | inl was ↦ Contains-append_left r.listed.items (lit ∷ []) l (is.listed l was)
          | inr now ↦ Contains-append_right r.listed.items (lit ∷ []) l now
        ]);
      }

  pub reached_without : new.marks.items ≡ set r.marks.items (code_of lit) false → new.listed.items ≡ r.listed.items → IsReached new (clause_without lit clause)
  reached_without marks listed = record {
    marked = λ l m. let w = from_without lit clause l m in ap (λ ms. bit_at ms (code_of l)) marks ∙ kept_marked r.marks.items lit l (is.marked l w.0) w.1;
    only = λ l t.
        let was = still_marked r.marks.items (code_of lit) l (sym (ap (λ ms. bit_at ms (code_of l)) marks) ∙ t) in
        without_has lit clause l (is.only l was.0) (λ e. was.1 (ap code_of e));
    listed = λ l m. subst (λ ls. Contains ls l) (sym listed) (is.listed l (from_without lit clause l m).0);
  }

-- ---- whether it can be resolved

module _ (r : Reached) (clause other : Clause) (pivot : Literal) (is : IsReached r clause) where
  pub can_from : bit_at r.marks.items (code_of pivot) ≡ true → Contains other (opposite pivot) → can_resolve pivot clause other ≡ true
  can_from t m = and_from (has_literal clause pivot) (has_literal other (opposite pivot)) (has_from clause pivot (is.only pivot t)) (has_from other (opposite pivot) m)

  unmarked_not : (b : Bool) → has_literal clause pivot ≡ b → bit_at r.marks.items (code_of pivot) ≡ false → b ≡ false
  unmarked_not true e unset = let wrong : ◌≡◌ {A = Bool} true false = sym (is.marked pivot (from_has clause pivot e)) ∙ unset in absurd (cc)
  unmarked_not false e unset = refl

  pub cannot_mark : bit_at r.marks.items (code_of pivot) ≡ false → can_resolve pivot clause other ≡ false
  cannot_mark unset = ap (λ (b : Bool). b && has_literal other (opposite pivot)) (unmarked_not (has_literal clause pivot) refl unset)

-- ---- the literals are taken out of the set, one by one

-- Each literal of the clause is still marked or is kept, and no other literal is.
pub record IsTaken (clause : Clause) (r : Reached) (kept : List Literal) : Type 0 where
  pub all : (l : Literal) → Contains clause l → (bit_at r.marks.items (code_of l) ≡ true) ⊎ Contains kept l
  pub kept_in : (l : Literal) → Contains kept l → Contains clause l
  pub only : (l : Literal) → bit_at r.marks.items (code_of l) ≡ true → Contains clause l × Contains r.listed.items l

pub taken_none : (clause : Clause) (r : Reached) → IsReached r clause → IsTaken clause r []
taken_none clause r is = record { all = λ l m. inl (is.marked l m); kept_in = λ l m. absurd (none_in l m); only = λ l t. (is.only l t, is.listed l (is.only l t)) }

module _ (clause : Clause) (r : Reached) (kept rest : List Literal) (lit : Literal) (is : IsTaken clause r kept) (popped : r.listed.items ≡ rest ++ lit ∷ []) where
  in_rest : (l : Literal) → l ≢ lit → bit_at r.marks.items (code_of l) ≡ true → Contains rest l
  in_rest l ne t = elim (Contains-append_cases rest (lit ∷ []) l (subst (λ ls. Contains ls l) popped (is.only l t).1)) [ inl was ↦ was | inr now ↦ absurd (ne (only_in lit l now)) ]

  pub taken_skip : (new : Reached) → new.marks.items ≡ r.marks.items → new.listed.items ≡ rest → bit_at r.marks.items (code_of lit) ≡ false → IsTaken clause new kept
  taken_skip new marks listed unset =
      let same : (l : Literal) → bit_at new.marks.items (code_of l) ≡ bit_at r.marks.items (code_of l) = λ l. ap (λ ms. bit_at ms (code_of l)) marks in
      record {
        all = λ l m. elim (is.all l m) [ inl t ↦ inl (same l ∙ t) | inr k ↦ inr k ];
        kept_in = is.kept_in;
        only = λ l t.
            let was = sym (same l) ∙ t in
            let other : l ≢ lit = λ e. (let wrong : ◌≡◌ {A = Bool} true false = sym was ∙ (ap (λ x. bit_at r.marks.items (code_of x)) e ∙ unset) in cc) in
            ((is.only l was).0, subst (λ ls. Contains ls l) (sym listed) (in_rest l other was));
      }

  pub taken_kept : (new : Reached) (more : List Literal) → new.marks.items ≡ set r.marks.items (code_of lit) false → new.listed.items ≡ rest → more ≡ kept ++ lit ∷ [] → bit_at r.marks.items (code_of lit) ≡ true → IsTaken clause new more
  taken_kept new more marks listed more_is was_set = record {
    all = λ l m. elim (literal_cases l lit) [
      | inl e ↦ inr (subst (λ ls. Contains ls l) (sym more_is) (subst (Contains (kept ++ lit ∷ [])) (sym e) (last_in kept lit)))
      | inr ne ↦ elim (is.all l m) [
        | inl t ↦ inl (ap (λ ms. bit_at ms (code_of l)) marks ∙ kept_marked r.marks.items lit l t ne)
        | inr k ↦ inr (subst (λ ls. Contains ls l) (sym more_is) (Contains-append_left kept (lit ∷ []) l k))
      ]
    ];
    kept_in = λ l m. elim (Contains-append_cases kept (lit ∷ []) l (subst (λ ls. Contains ls l) more_is m)) [
      | inl k ↦ is.kept_in l k
      | inr now ↦ subst (Contains clause) (sym (only_in lit l now)) (is.only lit was_set).0
    ];
    only = λ l t.
        let was = still_marked r.marks.items (code_of lit) l (sym (ap (λ ms. bit_at ms (code_of l)) marks) ∙ t) in
        ((is.only l was.0).0, subst (λ ls. Contains ls l) (sym listed) (in_rest l (λ e. was.1 (ap code_of e)) was.0));
  }

module _ (clause : Clause) (r : Reached) (kept : List Literal) (is : IsTaken clause r kept) (none : r.listed.items ≡ []) where
  unmarked : (l : Literal) → bit_at r.marks.items (code_of l) ≡ true → ⊥
  unmarked l t = none_in l (subst (λ ls. Contains ls l) none (is.only l t).1)

  pub taken_all : SameLiterals kept clause
  taken_all l = (is.kept_in l, λ m. elim (is.all l m) [ inl t ↦ absurd (unmarked l t) | inr k ↦ k ])

  pub taken_empty : IsReached r []
  taken_empty = record { marked = λ l m. absurd (none_in l m); only = λ l t. absurd (unmarked l t); listed = λ l m. absurd (none_in l m) }
