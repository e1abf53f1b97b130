use Rattle.std.proofs.Common.{◌∙◌, Result, Ok, Err, ap, subst}
use Rattle.std.specs.Prelude.{OnOk}
use Rattle.std.proofs.lemmas.Result.{err_from_is_err_and}
use Rattle.net_model.specs.Circuit.{Circuit}
use Rattle.pair_miter.specs.Miter.{miter}
use Rattle.evidence_rules.specs.LogRefusal.{LogRefused}
use Rattle.evidence_rules.specs.TreeRefusal.{IsRightTree, TreeRefused}
use Rattle.result_file.specs.Refusal.PairRefused.{by_tree, by_log}
use Rattle.dia_check.specs.EvidenceChecker.{EvidenceChecker}
use Rattle.dia_check.proofs.evidence.EvidenceChecker.check_pair.Goals as goal

on_each : {T E P : Type 0} (result : Result T E) → P → OnOk result P
on_each (Ok x) p = p
on_each (Err e) p = tt

pub returns-in_err-check-clause-refused : goal.returns-in_err-check-clause-refused
returns-in_err-check-clause-refused c =
    let same = c.self.invariant.trees ∙ ap (λ (checker : EvidenceChecker). checker.circuit) c.self.view_is in
    let p = err_from_is_err_and c.from_residual.result c.from_residual.ensures.1 in
    rw (p.1, p.2) (λ refusal is.
    by_tree (subst (λ (k : Circuit). TreeRefused k c.args.f.now c.args.g.now c.args.kind c.args.budgets.cubes c.args.tree.now refusal) same (c.in_err-check.ensures.refused refusal is)))

pub returns-clause-refused : goal.returns-clause-refused
returns-clause-refused c = λ refusal is.
    let circuit = ap (λ (checker : EvidenceChecker). checker.circuit) c.self.view_is in
    by_log (subst (λ (k : Circuit). IsRightTree k c.args.f.now c.args.g.now c.args.kind c.args.budgets.cubes c.args.tree.now) (c.self.invariant.trees ∙ circuit) c.in_ok-check.ensures.right)
    (subst (λ (k : Circuit). LogRefused c.args.kind (miter k c.args.f.now c.args.g.now) c.args.budgets.conflicts c.args.log.now refusal) circuit (rw (c.in_ok-miter.ensures.clauses, c.in_ok-space.ensures.space) at (c.check_log-checked.ensures.refused refusal is)))

pub returns-clause-tree : goal.returns-clause-tree
returns-clause-tree c =
    let same = c.self.invariant.trees ∙ ap (λ (checker : EvidenceChecker). checker.circuit) c.self.view_is in
    on_each c.check_log-checked.result (subst (λ (k : Circuit). IsRightTree k c.args.f.now c.args.g.now c.args.kind c.args.budgets.cubes c.args.tree.now) same c.in_ok-check.ensures.right)
