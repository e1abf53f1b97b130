use Rattle.std.proofs.Common.{◌∙◌, length, ap, sym, subst}
use Rattle.std.specs.Prelude.{List}
use Rattle.std.proofs.lemmas.Result.{on_ok_weaker, err_from_is_err_and}
use Rattle.pair_sets.specs.PairSim.{PairSim}
use Rattle.pair_sets.specs.declared.tree.Token.{Token}
use Rattle.evidence_rules.specs.declared.refusal.Refusal.{Refusal}
use Rattle.evidence_rules.specs.declared.refusal.RefusalKind.TheVariants.{WrongCount}
use Rattle.evidence_rules.specs.TreeRefusal.{TreeRefused}
use Rattle.refute_check.specs.Walk.{AreRightCounts}
use Rattle.refute_check.proofs.WalkLemmas.{leaf_is_tree, tree_counted, tree_miscounted}
use Rattle.refute_check.proofs.tree.TreeChecker.check.Goals as goal

pub returns-then-is_open_leaf-clause-right : goal.returns-then-is_open_leaf-clause-right
returns-then-is_open_leaf-clause-right c =
    let tokens = c.args.tree.now in
    let tree = leaf_is_tree c.args.self.now c.args.f.now c.args.g.now tokens (c.is_open_leaf.ensures c.if-is_open_leaf.true) in
    on_ok_weaker c.check_open_leaf.result
    (λ counts. tree_counted c.args.self.now c.args.f.now c.args.g.now tokens tree c.args.kind c.args.cubes (subst (AreRightCounts c.args.kind c.args.cubes) c.as_slice.ensures counts))
    c.check_open_leaf.ensures.right

pub returns-then-is_open_leaf-clause-refused : goal.returns-then-is_open_leaf-clause-refused
returns-then-is_open_leaf-clause-refused c refusal answered =
    let tokens = c.args.tree.now in
    let tree = leaf_is_tree c.args.self.now c.args.f.now c.args.g.now tokens (c.is_open_leaf.ensures c.if-is_open_leaf.true) in
    let why = c.check_open_leaf.ensures.refused refusal answered in
    let counted : List Token → Refusal = λ (xs : List Token). record { kind = WrongCount; step = length xs } in
    subst (TreeRefused c.args.self.now c.args.f.now c.args.g.now c.args.kind c.args.cubes tokens) (sym (why.1 ∙ ap counted c.as_slice.ensures))
    (tree_miscounted c.args.self.now c.args.f.now c.args.g.now tokens tree c.args.kind c.args.cubes (λ counts. why.0 (subst (AreRightCounts c.args.kind c.args.cubes) (sym c.as_slice.ensures) counts)))

pub returns-in_err-check-clause-refused : goal.returns-in_err-check-clause-refused
returns-in_err-check-clause-refused c =
    let p = err_from_is_err_and c.from_residual-in_err-check.result c.from_residual-in_err-check.ensures.1 in
    rw (p.1, p.2) (λ refusal answered.
    subst (λ (sim : PairSim). TreeRefused sim.circuit sim.f sim.g c.args.kind c.args.cubes c.args.tree.now refusal) c.in_ok-walk.ensures.sim
    (subst (λ tokens. TreeRefused c.in_ok-walk.walk.sim.circuit c.in_ok-walk.walk.sim.f c.in_ok-walk.walk.sim.g c.args.kind c.args.cubes tokens refusal) c.as_slice-2.ensures (c.in_err-check.ensures.refused refusal answered)))
