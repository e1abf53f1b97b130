use Rattle.std.proofs.Common.{◌≡◌, ◌∙◌, length, ap, sym}
use Rattle.std.specs.Prelude.{Result, Err}
use Rattle.evidence_rules.specs.declared.refusal.CheckFault.{CheckFault}
use Rattle.evidence_rules.specs.declared.refusal.CheckFault.TheVariants.{Refused}
use Rattle.evidence_rules.specs.declared.refusal.RefusalKind.TheVariants.{WrongCount}
use Rattle.refute_check.proofs.tree.check_open_leaf.Goals as goal

pub returns-else-has_right_counts-clause-refused : goal.returns-else-has_right_counts-clause-refused
returns-else-has_right_counts-clause-refused c refusal answered = (
  λ right. let e = c.has_right_counts.ensures.1 right in let f = c.if-has_right_counts.false in cc,
  (let w : ◌≡◌ {A = Result (Unit {0}) CheckFault} (Err (Refused (record { kind = WrongCount; step = length c.args.tokens.now }))) (Err (Refused refusal)) = sym (ap Err c.refused.ensures) ∙ answered in cc),
)
