-- Lists of clauses that an assignment satisfies, part by part.
use Rattle.std.proofs.Common.{◌≡◌, ◌∙◌, sym, ap, refl, zero, suc, arith}
use Rattle.std.specs.Prelude.{Bool, true, List, [], ◌∷◌, ◌++◌, ◌||◌, map, flat_map, Contains}
use Rattle.std.specs.List.{list_any}
use Rattle.std.proofs.lemmas.List.Folds.{list_all-append}
use Rattle.std.proofs.lemmas.Bool.{and_parts, and_from}
use Rattle.net_model.proofs.Copies.{later}
use Rattle.clause_pool.specs.Clauses.{Clause}
use Rattle.pair_miter.specs.Miter.{is_satisfied_by, is_model}

module _ (bits : List Bool) where
  pub model_parts : (first rest : List Clause) → is_model bits (first ++ rest) ≡ true → (is_model bits first ≡ true) × (is_model bits rest ≡ true)
  model_parts first rest e = and_parts (is_model bits first) (is_model bits rest) (sym (list_all-append (is_satisfied_by bits) first rest) ∙ e)

  pub model_both : (first rest : List Clause) → is_model bits first ≡ true → is_model bits rest ≡ true → is_model bits (first ++ rest) ≡ true
  model_both first rest a b = list_all-append (is_satisfied_by bits) first rest ∙ and_from (is_model bits first) (is_model bits rest) a b

  pub model_each : {A : Type 0} (clauses : A → List Clause) (xs : List A) (x : A) → Contains xs x → is_model bits (flat_map clauses xs) ≡ true → is_model bits (clauses x) ≡ true
  model_each clauses [] x (k, h, there) e = absurd (omega (arith, h))
  model_each clauses (y ∷ ys) x (zero, h, there) e = ap (λ z. is_model bits (clauses z)) (sym there) ∙ (model_parts (clauses y) (flat_map clauses ys) e).0
  model_each clauses (y ∷ ys) x (suc k, h, there) e = model_each clauses ys x (k, omega (arith, h), there) (model_parts (clauses y) (flat_map clauses ys) e).1

  pub model_all : {A : Type 0} (clauses : A → List Clause) (xs : List A) → ((x : A) → Contains xs x → is_model bits (clauses x) ≡ true) → is_model bits (flat_map clauses xs) ≡ true
  model_all clauses [] h = refl
  model_all clauses (x ∷ xs) h = model_both (clauses x) (flat_map clauses xs) (h x (0, omega arith, refl)) (model_all clauses xs (λ y m. h y (later x xs y m)))

-- a test of mapped elements
pub any_mapped : {A B : Type 0} (test : B → Bool) (h : A → B) (xs : List A) → list_any test (map h xs) ≡ list_any (λ x. test (h x)) xs
any_mapped test h [] = refl
any_mapped test h (x ∷ xs) = ap (λ b. test (h x) || b) (any_mapped test h xs)
