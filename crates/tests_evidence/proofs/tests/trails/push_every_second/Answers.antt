use Rattle.std.proofs.Common.{◌≢◌, ℕ, ◌<◌, ◌≤◌, [], ◌∷◌, ap, sym, subst, arith}
use Rattle.std.specs.Prelude.{All}
use Rattle.std.proofs.lemmas.List.Elements.{All-nil, All-cons, All-push}
use Rattle.std.proofs.lemmas.List.Kept.{AllPairs-cons}
use Rattle.clause_pool.specs.Literal.{Literal}
use Rattle.clause_pool.specs.Proper.{IsProper}
use Rattle.tests_evidence.proofs.tests.trails.push_every_second.Goals as goal

proper_two : (n : ℕ) (a b : Literal) → 0 < a.variable → a.variable < b.variable → b.variable ≤ n → IsProper n (a ∷ b ∷ [])
proper_two n a b from less below = record {
  inside = All-cons (λ (l : Literal). (0 < l.variable) × (l.variable ≤ n)) a (b ∷ []) (from, omega arith)
      (All-cons (λ (l : Literal). (0 < l.variable) × (l.variable ≤ n)) b [] (omega arith, below) (All-nil (λ (l : Literal). (0 < l.variable) × (l.variable ≤ n))));
  once = AllPairs-cons (λ (l m : Literal). l.variable ≢ m.variable) a (b ∷ []) (All-cons (λ (m : Literal). a.variable ≢ m.variable) b [] (omega arith) (All-nil (λ (m : Literal). a.variable ≢ m.variable)))
      (AllPairs-cons (λ (l m : Literal). l.variable ≢ m.variable) b [] (All-nil (λ (m : Literal). b.variable ≢ m.variable)) (λ i j d l within. absurd (omega arith)));
}

pub loop-turn-preserved : goal.loop-turn-preserved
loop-turn-preserved c =
    let a = c.new.result in
    let b = c.new-in-loop-turn.result in
    let first = ap (λ (l : Literal). l.variable) c.new.ensures in
    let second = ap (λ (l : Literal). l.variable) c.new-in-loop-turn.ensures in
    subst (λ clauses. All (IsProper 500000) clauses) (sym c.in_ok-push.ensures.clauses)
    (All-push (IsProper 500000) c.loop-turn.pool.clauses (a ∷ b ∷ []) c.loop-turn.invariant (proper_two 500000 a b (omega (arith, first, c.requires.some)) (omega (arith, first, second)) (omega (arith, second, c.loop-turn-test.true))))
