-- The index of clauses, clause by clause and literal by literal.
use Rattle.std.proofs.Common.{◌≡◌, ◌≢◌, ◌∙◌, ℕ, ◌<◌, ◌≤◌, ◌+◌, ◌*◌, ◌⊎◌, inl, inr, refl, sym, ap, arith, subst, get_or}
use Rattle.std.specs.Prelude.{All, List, [], ◌∷◌, ◌++◌, length, set, Contains}
use Rattle.std.proofs.lemmas.Bool.{cases_eq, cases_lt}
use Rattle.std.proofs.lemmas.List.{get_or-set_same, get_or-set_other, length-set, get_or_append_left, get_or_push, length_push, get_or_default}
use Rattle.std.proofs.lemmas.List.Elements.{All-weaker, Contains-append_left, Contains-append_cases}
use Rattle.clause_pool.specs.Literal.{Literal}
use Rattle.clause_pool.specs.LiteralCode.{code_of}
use Rattle.clause_pool.specs.Clauses.{Clause}
use Rattle.clause_pool.specs.Proper.{HasVariablesUpTo, IsVariable}
use Rattle.clause_pool.proofs.Literals.{code_within}
use Rattle.net_model.proofs.Elements.{none_in}
use Rattle.refute_check.specs.Index.{HasTwo, IsIndexOf, IsClauseNumber, list_at}
use Rattle.refute_check.proofs.AssignmentLemmas.{last_in, only_in}

-- The lists of the first literals have the number, and otherwise the lists are as they were.
pub record IsAdded (number : ℕ) (clause : Clause) (i : ℕ) (old new : List (List ℕ)) : Type 0 where
  pub places : length new ≡ length old
  pub kept : (place n : ℕ) → Contains (list_at old place) n → Contains (list_at new place) n
  pub from : (place n : ℕ) → Contains (list_at new place) n → Contains (list_at old place) n ⊎ (n ≡ number)
  pub has : (j : ℕ) (d : Literal) → j < i → Contains (list_at new (code_of (get_or clause j d))) number

module _ (number : ℕ) (clause : Clause) (old : List (List ℕ)) where
  pub added_none : IsAdded number clause 0 old old
  added_none = record { places = refl; kept = λ place n m. m; from = λ place n m. inl m; has = λ j d h. absurd (omega (arith, h)) }

  module _ (i : ℕ) (mid : List (List ℕ)) (is : IsAdded number clause i old mid) (lit : Literal) (within : code_of lit < length mid) where
    added : List (List ℕ)
    added = set mid (code_of lit) (list_at mid (code_of lit) ++ number ∷ [])

    here : (place : ℕ) → place ≡ code_of lit → list_at added place ≡ list_at mid place ++ number ∷ []
    unfolding added
    here place e =
        ap (list_at added) e
        ∙ (get_or-set_same mid (code_of lit) (list_at mid (code_of lit) ++ number ∷ []) [] within ∙ ap (λ n. list_at mid n ++ number ∷ []) (sym e))

    elsewhere : (place : ℕ) → place ≢ code_of lit → list_at added place ≡ list_at mid place
    unfolding added
    elsewhere place ne = get_or-set_other mid (code_of lit) place (list_at mid (code_of lit) ++ number ∷ []) [] ne

    more_kept : (place n : ℕ) → Contains (list_at mid place) n → Contains (list_at added place) n
    more_kept place n m = elim (cases_eq place (code_of lit)) [
      | inl e ↦ subst (λ xs. Contains xs n) (sym (here place e)) (Contains-append_left (list_at mid place) (number ∷ []) n m)
      | inr ne ↦ subst (λ xs. Contains xs n) (sym (elsewhere place ne)) m
    ]

    more_from : (place n : ℕ) → Contains (list_at added place) n → Contains (list_at mid place) n ⊎ (n ≡ number)
    more_from place n m = elim (cases_eq place (code_of lit)) [
      | inl e ↦ elim (Contains-append_cases (list_at mid place) (number ∷ []) n (subst (λ xs. Contains xs n) (here place e) m)) [ inl was ↦ inl was | inr now ↦ inr (only_in number n now) ]
      | inr ne ↦ inl (subst (λ xs. Contains xs n) (elsewhere place ne) m)
    ]

    pub added_more : i < length clause → lit ≡ get_or clause i lit → IsAdded number clause (i + 1) old (set mid (code_of lit) (list_at mid (code_of lit) ++ number ∷ []))
    unfolding added
    added_more inside lit_is = record {
      places = length-set mid (code_of lit) (list_at mid (code_of lit) ++ number ∷ []) ∙ is.places;
      kept = λ place n m. more_kept place n (is.kept place n m);
      from = λ place n m. elim (more_from place n m) [ inl was ↦ is.from place n was | inr e ↦ inr e ];
      has = λ j d h. elim (cases_eq j i) [
        | inl e ↦
            let at : get_or clause j d ≡ lit = ap (λ n. get_or clause n d) e ∙ (get_or_default clause i d lit inside ∙ sym lit_is) in
            subst (λ xs. Contains xs number) (sym (here (code_of (get_or clause j d)) (ap code_of at))) (last_in (list_at mid (code_of (get_or clause j d))) number)
        | inr ne ↦ more_kept (code_of (get_or clause j d)) number (is.has j d (omega (arith, h, ne)))
      ];
    }

-- ---- clauses

-- each literal of a clause over the variables has a list
pub places_for : (variables : ℕ) (lists : List (List ℕ)) (clause : Clause) → length lists ≡ 2 * variables + 2 → HasVariablesUpTo variables clause → All (λ l. code_of l < length lists) clause
places_for variables lists clause places inside =
    All-weaker (λ (l : Literal). IsVariable variables l.variable) (λ l. code_of l < length lists) (λ l h. let within = code_within l variables h.1 in omega (arith, within, places)) clause inside

pub index_none : (variables : ℕ) (lists : List (List ℕ)) → length lists ≡ 2 * variables + 2 → ((place : ℕ) → list_at lists place ≡ []) → IsIndexOf variables [] lists []
index_none variables lists places none = record {
  places = places;
  numbers = λ place number m. absurd (none_in number (subst (λ xs. Contains xs number) (none place) m));
  short_numbers = λ number m. absurd (none_in number m);
  all = λ k l h. absurd (omega (arith, h));
  all_short = λ k h. absurd (omega (arith, h));
}

module _ (variables : ℕ) (clauses : List Clause) (clause : Clause) (number : ℕ) (next : length clauses + 1 ≡ number) where
  wider : (n : ℕ) → IsClauseNumber (length clauses) n ⊎ (n ≡ number) → IsClauseNumber (length (clauses ++ clause ∷ [])) n
  wider n (inl is) = (is.0, omega (arith, is.1, length_push clauses clause))
  wider n (inr e) = (omega (arith, e, next), omega (arith, e, next, length_push clauses clause))

  index_more : (i : ℕ) (old new : List (List ℕ)) (short longer : List ℕ) → length clause ≤ i → IsAdded number clause i old new → ((n : ℕ) → Contains short n → Contains longer n) → ((n : ℕ) → Contains longer n → Contains short n ⊎ (n ≡ number)) → HasTwo clause ⊎ Contains longer number
      → IsIndexOf variables clauses old short → IsIndexOf variables (clauses ++ clause ∷ []) new longer
  index_more i old new short longer whole is kept from last index = record {
    places = is.places ∙ index.places;
    numbers = λ place n m. wider n (elim (is.from place n m) [ inl was ↦ inl (index.numbers place n was) | inr e ↦ inr e ]);
    short_numbers = λ n m. wider n (elim (from n m) [ inl was ↦ inl (index.short_numbers n was) | inr e ↦ inr e ]);
    all = λ k l h m. elim (cases_lt k (length clauses)) [
      | inl lower ↦ is.kept (code_of l) (k + 1) (index.all k l lower (subst (λ xs. Contains xs l) (get_or_append_left clauses (clause ∷ []) [] k lower) m))
      | inr past ↦
          let place : length clauses ≡ k = omega (arith, past, h, length_push clauses clause) in
          let found = subst (λ xs. Contains xs l) (get_or_push clauses clause [] k place) m in
          let numbered : number ≡ k + 1 = omega (arith, next, place) in
          subst (λ c. Contains (list_at new c) (k + 1)) (ap code_of found.2) (subst (Contains (list_at new (code_of (get_or clause found.0 l)))) numbered (is.has found.0 l (omega (arith, whole, found.1))))
    ];
    all_short = λ k h. elim (cases_lt k (length clauses)) [
      | inl lower ↦ elim (index.all_short k lower) [ inl two ↦ inl (subst HasTwo (sym (get_or_append_left clauses (clause ∷ []) [] k lower)) two) | inr m ↦ inr (kept (k + 1) m) ]
      | inr past ↦
          let place : length clauses ≡ k = omega (arith, past, h, length_push clauses clause) in
          let numbered : number ≡ k + 1 = omega (arith, next, place) in
          elim last [ inl two ↦ inl (subst HasTwo (sym (get_or_push clauses clause [] k place)) two) | inr m ↦ inr (subst (Contains longer) numbered m) ]
    ];
  }

  -- the clause has two different literals
  pub index_two : (i : ℕ) (old new : List (List ℕ)) (short longer : List ℕ) → length clause ≤ i → IsAdded number clause i old new → longer ≡ short → HasTwo clause → IsIndexOf variables clauses old short → IsIndexOf variables (clauses ++ clause ∷ []) new longer
  index_two i old new short longer whole is same two =
      index_more i old new short longer whole is (λ n m. subst (λ xs. Contains xs n) (sym same) m) (λ n m. inl (subst (λ xs. Contains xs n) same m)) (inl two)

  -- the clause is short
  pub index_short : (i : ℕ) (old new : List (List ℕ)) (short longer : List ℕ) → length clause ≤ i → IsAdded number clause i old new → longer ≡ short ++ number ∷ [] → IsIndexOf variables clauses old short → IsIndexOf variables (clauses ++ clause ∷ []) new longer
  index_short i old new short longer whole is more =
      index_more i old new short longer whole is
      (λ n m. subst (λ xs. Contains xs n) (sym more) (Contains-append_left short (number ∷ []) n m))
      (λ n m. elim (Contains-append_cases short (number ∷ []) n (subst (λ xs. Contains xs n) more m)) [ inl was ↦ inl was | inr now ↦ inr (only_in number n now) ])
      (inr (subst (λ xs. Contains xs number) (sym more) (last_in short number)))
