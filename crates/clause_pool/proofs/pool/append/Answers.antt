use Rattle.std.proofs.Common.{◌≡◌, ◌∙◌, ◌+◌, ◌++◌, ◌∷◌, [], length, take, sym, ap, arith, append_assoc, length-append}
use Rattle.std.proofs.lemmas.List.{take_more, take_all, length-take-le}
use Rattle.clause_pool.proofs.pool.append.Goals as goal

pub push_reserved-requires : goal.push_reserved-requires
push_reserved-requires c =
    let clause = c.args.clause.now in
    let k = c.loop-lit.lit-index in
    let before = length-append c.args.region.now.items (take k clause) in
    let count = length-take-le k clause (omega (arith, c.loop-lit-test.true)) in
    omega (arith, c.requires, c.loop-lit-test.true, ap length c.loop-lit.invariant.items, before, count, c.loop-lit.invariant.capacity, c.loop-lit.region.ok.0, c.args.region.now.ok.0)

pub loop-lit-preserved : goal.loop-lit-preserved
loop-lit-preserved c =
    let clause = c.args.clause.now in
    let k = c.loop-lit.lit-index in
    let l = c.lit-item.result in
    let first = c.args.region.now.items in
    let more : take (k + 1) clause ≡ take k clause ++ l ∷ [] = take_more clause k l c.loop-lit-test.true ∙ ap (λ l. take k clause ++ l ∷ []) (sym c.lit-item.is) in
    record {
      items = c.push_reserved.ensures.items ∙ (ap (λ ls. ls ++ l ∷ []) c.loop-lit.invariant.items ∙ (append_assoc first (take k clause) (l ∷ []) ∙ ap (λ ls. first ++ ls) (sym more)));
      capacity = c.push_reserved.ensures.capacity ∙ c.loop-lit.invariant.capacity;
    }

pub returns-clause-items : goal.returns-clause-items
returns-clause-items c = c.loop-lit.invariant.items ∙ ap (λ ls. c.args.region.now.items ++ ls) (take_all c.loop-lit.lit-index c.args.clause.now c.loop-lit-test.false)
