use Rattle.std.proofs.Common.{◌≡◌, ◌∙◌, ◌+◌, ◌-◌, ℕ, get_or, subst, arith}
use Rattle.std.proofs.lemmas.List.{length-set}
use Rattle.kept_vectors.specs.Units.{AreChains}
use Rattle.kept_vectors.proofs.UnitLemmas.{chains_more}
use Rattle.kept_vectors.proofs.units.link.Goals as goal

pub loop-number-preserved : goal.loop-number-preserved
loop-number-preserved c =
    let so_far = c.loop-number.invariant in
    let roots = c.args.roots.now in
    let firsts = c.loop-number.firsts in
    let nexts = c.loop-number.nexts in
    let k = c.loop-number.number - 1 in
    let e : c.loop-number.number ≡ k + 1 = omega (arith, c.loop-number-test.true) in
    record {
      low = omega (arith, so_far.low);
      firsts = length-set firsts (get_or roots k 0) k ∙ so_far.firsts;
      nexts = length-set nexts k (get_or firsts (get_or roots k 0) 0) ∙ so_far.nexts;
      chains = chains_more roots firsts nexts k (omega (arith, so_far.low, c.loop-number-test.true)) so_far.firsts so_far.nexts c.requires.within (subst (λ (n : ℕ). AreChains roots n firsts nexts) e so_far.chains);
    }

pub returns : goal.returns
returns c =
    let e : c.loop-number.number ≡ 0 = omega (arith, c.loop-number-test.false) in
    subst (λ (n : ℕ). AreChains c.args.roots.now n c.loop-number.firsts c.loop-number.nexts) e c.loop-number.invariant.chains
