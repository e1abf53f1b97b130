use Rattle.std.proofs.Common.{◌∙◌, ap, subst}
use Rattle.net_model.specs.Circuit.{Circuit}
use Rattle.result_records.specs.declared.record.Proof.TheVariants.{Covered}
use Rattle.result_file.specs.Refusal.{ProofRefused}
use Rattle.dia_check.specs.EvidenceChecker.{EvidenceChecker}
use Rattle.dia_check.proofs.evidence.EvidenceChecker.check.Goals as goal

pub returns-in-Covered-clause-refused : goal.returns-in-Covered-clause-refused
returns-in-Covered-clause-refused c = λ refusal is.
    let same = c.self.invariant.trees ∙ ap (λ (checker : EvidenceChecker). checker.circuit) c.self.view_is ∙ c.requires.circuit in
    rw (c.in-Covered.is, ← c.fault-f.ensures.value, ← c.fault-g.ensures.value) (subst (λ (k : Circuit). ProofRefused k c.fault-f.result c.fault-g.result c.args.budgets (Covered c.in-Covered.tree) refusal) same (c.check.ensures.refused refusal is))

pub returns-in-Refuted-clause-refused : goal.returns-in-Refuted-clause-refused
returns-in-Refuted-clause-refused c = λ refusal is. rw (c.in-Refuted.is, ← c.fault-f.ensures.value, ← c.fault-g.ensures.value, ← c.requires.circuit) (c.check_pair.ensures.refused refusal is)

pub returns-in-Spent-clause-refused : goal.returns-in-Spent-clause-refused
returns-in-Spent-clause-refused c = λ refusal is. rw (c.in-Spent.is, ← c.fault-f.ensures.value, ← c.fault-g.ensures.value, ← c.requires.circuit) (c.check_pair-in-Spent.ensures.refused refusal is)
