use Rattle.std.proofs.Common.{◌≡◌, ◌∙◌, ◌++◌, ◌∷◌, ◌<◌, ◌+◌, ℕ, List, [], length, get_or, sym, ap, subst, arith}
use Rattle.std.proofs.lemmas.List.{append-nil, append_assoc, get_or_default}
use Rattle.kept_vectors.specs.Units.{IsNextWith}
use Rattle.kept_vectors.proofs.UnitLemmas.{listed_first, listed_more, listed_all}
use Rattle.kept_vectors.proofs.units.Units.list_chain.Goals as goal

pub loop-number-init : goal.loop-number-init
loop-number-init c =
    let units = c.args.self.now in
    let roots = units.roots.now in
    let chains = c.requires.chains in
    let first : c.index-number.result.now ≡ get_or units.firsts.items c.args.unit 0 = c.index-number.ensures ∙ get_or_default units.firsts.items c.args.unit c.index-number.result.now 0 (omega (arith, c.requires.unit, chains.firsts)) in
    ([], sym (append-nil c.args.numbers.now.items), listed_first roots c.args.unit c.index-number.result.now (subst (IsNextWith roots c.args.unit 0) (sym first) (chains.chains.first c.args.unit c.requires.unit)))

pub loop-number-preserved : goal.loop-number-preserved
loop-number-preserved c =
    let units = c.args.self.now in
    let roots = units.roots.now in
    let chains = c.requires.chains in
    let so_far = c.loop-number.invariant in
    let at = c.loop-number.number in
    let inside : at < length roots = omega (arith, c.loop-number-test.true, units.nexts.ok.0, chains.nexts) in
    let next : c.index-number-in-loop-number.result.now ≡ get_or units.nexts.items at 0 = c.index-number-in-loop-number.ensures ∙ get_or_default units.nexts.items at c.index-number-in-loop-number.result.now 0 (omega (arith, inside, chains.nexts)) in (
      so_far.0 ++ at ∷ [],
      c.in_ok-push.ensures.items ∙ (ap (λ (ns : List ℕ). ns ++ at ∷ []) so_far.1 ∙ append_assoc c.args.numbers.now.items so_far.0 (at ∷ [])),
      listed_more roots c.args.unit at c.index-number-in-loop-number.result.now so_far.0 inside so_far.2 (subst (IsNextWith roots (get_or roots at 0) (at + 1)) (sym next) (chains.chains.next at (omega arith) inside)),
    )

pub returns : goal.returns
returns c =
    let units = c.args.self.now in
    let so_far = c.loop-number.invariant in
    (so_far.0, so_far.1, listed_all units.roots.now c.args.unit c.loop-number.number so_far.0 (omega (arith, c.loop-number-test.false, units.nexts.ok.0, c.requires.chains.nexts)) so_far.2)
