use Rattle.std.proofs.Common.{◌≡◌, ◌∙◌, ◌≤◌, ℕ, List, [], ◌∷◌, arith, ap, sym, subst}
use Rattle.std.specs.Prelude.{All}
use Rattle.std.proofs.lemmas.List.Elements.{All-cons, All-nil}
use Rattle.clause_pool.specs.Literal.{Literal, opposite, pos_literal}
use Rattle.clause_pool.specs.Clauses.{Clause}
use Rattle.pair_miter.specs.Rows.{xor_of_two}
use Rattle.pair_miter.proofs.rows.write_xor_of_two.Goals as goal

-- clauses of three literals, with variables up to one
module _ (n : ℕ) where
  abbrev IsBelow : Literal → Type 0
  IsBelow l = l.variable ≤ n

  three : (l m k : Literal) → IsBelow l → IsBelow m → IsBelow k → All IsBelow (l ∷ m ∷ k ∷ [])
  three l m k h i j = All-cons IsBelow l (m ∷ k ∷ []) h (All-cons IsBelow m (k ∷ []) i (All-cons IsBelow k [] j (All-nil IsBelow)))

  all_below : (a b c : Literal) → IsBelow a → IsBelow b → IsBelow c → All (All IsBelow) (xor_of_two a b c)
  all_below a b c h i j =
      let add = All-cons (All IsBelow) in
      add (opposite a ∷ b ∷ c ∷ []) ((opposite a ∷ opposite b ∷ opposite c ∷ []) ∷ (a ∷ opposite b ∷ c ∷ []) ∷ (a ∷ b ∷ opposite c ∷ []) ∷ []) (three (opposite a) b c h i j)
      (add (opposite a ∷ opposite b ∷ opposite c ∷ []) ((a ∷ opposite b ∷ c ∷ []) ∷ (a ∷ b ∷ opposite c ∷ []) ∷ []) (three (opposite a) (opposite b) (opposite c) h i j)
      (add (a ∷ opposite b ∷ c ∷ []) ((a ∷ b ∷ opposite c ∷ []) ∷ []) (three a (opposite b) c h i j)
      (add (a ∷ b ∷ opposite c ∷ []) [] (three a b (opposite c) h i j) (All-nil (All IsBelow)))))

pub write_clauses-requires : goal.write_clauses-requires
write_clauses-requires c =
    let a = c.args.a in
    let b = c.args.b in
    let n = c.args.tidier.now in
    let written : List Clause = (c.opposite-not_a.result ∷ b ∷ c.literal-c.result ∷ []) ∷ (c.opposite-not_a.result ∷ c.opposite-not_b.result ∷ c.opposite-not_c.result ∷ []) ∷ (a ∷ c.opposite-not_b.result ∷ c.literal-c.result ∷ []) ∷ (a ∷ b ∷ c.opposite-not_c.result ∷ []) ∷ [] in
    let not_c = c.opposite-not_c.ensures ∙ ap opposite c.literal-c.ensures in
    let rows : xor_of_two a b (pos_literal c.args.variable) ≡ written = λ i.
    let na = sym c.opposite-not_a.ensures i in
    let nb = sym c.opposite-not_b.ensures i in
    let nc = sym not_c i in
    let pc = sym c.literal-c.ensures i in
    (na ∷ b ∷ pc ∷ []) ∷ (na ∷ nb ∷ nc ∷ []) ∷ (a ∷ nb ∷ pc ∷ []) ∷ (a ∷ b ∷ nc ∷ []) ∷ [] in
    (omega arith, subst (λ (xs : List Clause). All (All (IsBelow n)) xs) rows (all_below n a b (pos_literal c.args.variable) c.requires.output c.requires.first c.requires.second.1))
