use Rattle.std.proofs.Common.{◌∙◌, ◌++◌, ℕ, List, [], sym, ap, subst, arith}
use Rattle.std.proofs.lemmas.List.{append-nil, append_assoc, take_more, take_all}
use Rattle.kept_vectors.specs.Units.{AreOfUnits}
use Rattle.kept_vectors.proofs.UnitLemmas.{of_none, of_more}
use Rattle.kept_vectors.proofs.units.Units.list.Goals as goal

pub loop-unit-init : goal.loop-unit-init
loop-unit-init c = ([], sym (append-nil c.args.numbers.now.items), of_none c.args.self.now.roots.now)

pub loop-unit-preserved : goal.loop-unit-preserved
loop-unit-preserved c =
    let roots = c.args.self.now.roots.now in
    let so_far = c.loop-unit.invariant in
    let one = c.in_ok-list_chain.ensures in (
      so_far.0 ++ one.0,
      one.1 ∙ (ap (λ (ns : List ℕ). ns ++ one.0) so_far.1 ∙ append_assoc c.args.numbers.now.items so_far.0 one.0),
      subst (λ (us : List ℕ). AreOfUnits roots us (so_far.0 ++ one.0)) (sym (take_more c.args.units.now c.loop-unit.unit-index 0 c.loop-unit-test.true)) (of_more roots _ _ so_far.0 one.0 so_far.2 one.2),
    )

pub returns : goal.returns
returns c =
    let so_far = c.loop-unit.invariant in
    (so_far.0, so_far.1, subst (λ (us : List ℕ). AreOfUnits c.args.self.now.roots.now us so_far.0) (take_all c.loop-unit.unit-index c.args.units.now (omega (arith, c.loop-unit-test.false))) so_far.2)
