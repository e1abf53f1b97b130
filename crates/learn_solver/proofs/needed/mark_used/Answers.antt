use Rattle.std.proofs.Common.{◌≡◌, ◌∙◌, ◌+◌, ℕ, [], ◌∷◌, ◌++◌, take, refl, sym, ap, subst, arith, inl, inr, Contains}
use Rattle.std.proofs.lemmas.List.{take_more, take_all}
use Rattle.std.proofs.lemmas.List.Elements.{Contains-push, Contains-push_cases, Contains-append_left}
use Rattle.net_model.proofs.Elements.{none_in}
use Rattle.clause_pool.specs.Literal.{Literal}
use Rattle.learn_solver.proofs.needed.mark_used.Goals as goal

pub loop-pivot-init : goal.loop-pivot-init
loop-pivot-init c = record {
  whole = refl;
  marked = λ at. (
    λ m. inl m,
    λ m. elim m [
      | inl was ↦ was
      | inr used ↦ absurd (none_in (used.1.0, c.args.count + at + 1) used.1.1)
    ],
  );
}

pub loop-pivot-preserved : goal.loop-pivot-preserved
loop-pivot-preserved c =
    let steps = c.steps-pivot-items.result.now in
    let k = c.loop-pivot._pivot-index in
    let here = c.loop-pivot-item.result in
    let more : take (k + 1) steps ≡ take k steps ++ here ∷ [] = take_more steps k here c.loop-pivot-test.true ∙ ap (λ x. take k steps ++ x ∷ []) (sym c.loop-pivot-item.is) in
    record {
      whole = c.mark-in-loop-pivot.ensures.length ∙ c.loop-pivot.invariant.whole;
      marked = λ at. (
        λ m. elim ((c.mark-in-loop-pivot.ensures.marked at).0 m) [
          | inl was ↦ elim ((c.loop-pivot.invariant.marked at).0 was) [
            | inl first ↦ inl first
            | inr used ↦ inr (used.0, (used.1.0, subst (λ xs. Contains xs (used.1.0, c.args.count + at + 1)) (sym more) (Contains-append_left (take k steps) (here ∷ []) (used.1.0, c.args.count + at + 1) used.1.1)))
          ]
          | inr used ↦ inr (used.0, (here.0, subst (λ n. Contains (take (k + 1) steps) (here.0, n)) used.1 (subst (λ xs. Contains xs here) (sym more) (Contains-push (take k steps) here))))
        ],
        λ m. elim m [
          | inl first ↦ (c.mark-in-loop-pivot.ensures.marked at).1 (inl ((c.loop-pivot.invariant.marked at).1 (inl first)))
          | inr used ↦ elim (Contains-push_cases (take k steps) here (used.1.0, c.args.count + at + 1) (subst (λ xs. Contains xs (used.1.0, c.args.count + at + 1)) more used.1.1)) [
            | inl earlier ↦ (c.mark-in-loop-pivot.ensures.marked at).1 (inl ((c.loop-pivot.invariant.marked at).1 (inr (used.0, (used.1.0, earlier)))))
            | inr same ↦ (c.mark-in-loop-pivot.ensures.marked at).1 (inr (used.0, ap (λ (step : Literal × ℕ). step.1) same))
          ]
        ],
      );
    }

pub returns-clause-marked : goal.returns-clause-marked
returns-clause-marked c =
    let steps = c.steps-pivot-items.result.now in
    let whole : take c.loop-pivot._pivot-index steps ≡ c.args.chain.now.steps = take_all c.loop-pivot._pivot-index steps (omega (arith, c.loop-pivot-test.false)) ∙ c.steps-pivot-items.ensures in
    let start = c.start.ensures in
    λ at. (
      λ m. elim ((c.loop-pivot.invariant.marked at).0 m) [
        | inl first ↦ elim ((c.mark.ensures.marked at).0 first) [
          | inl was ↦ inl was
          | inr used ↦ inr (used.0, inl (sym start ∙ used.1))
        ]
        | inr used ↦ inr (used.0, inr (used.1.0, subst (λ xs. Contains xs (used.1.0, c.args.count + at + 1)) whole used.1.1))
      ],
      λ m. elim m [
        | inl was ↦ (c.loop-pivot.invariant.marked at).1 (inl ((c.mark.ensures.marked at).1 (inl was)))
        | inr used ↦ elim used.1 [
          | inl first ↦ (c.loop-pivot.invariant.marked at).1 (inl ((c.mark.ensures.marked at).1 (inr (used.0, start ∙ first))))
          | inr step ↦ (c.loop-pivot.invariant.marked at).1 (inr (used.0, (step.0, subst (λ xs. Contains xs (step.0, c.args.count + at + 1)) (sym whole) step.1)))
        ]
      ],
    )
