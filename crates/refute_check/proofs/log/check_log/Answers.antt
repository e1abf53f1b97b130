use Rattle.std.proofs.Common.{◌≡◌, ◌∙◌, ap, length, subst, sym, arith}
use Rattle.std.specs.Prelude.{All, Result, Err}
use Rattle.std.proofs.lemmas.Result.{on_ok_weaker}
use Rattle.clause_pool.specs.Proper.{HasVariablesUpTo}
use Rattle.evidence_rules.specs.declared.refusal.CheckFault.{CheckFault}
use Rattle.evidence_rules.specs.declared.refusal.CheckFault.TheVariants.{Refused}
use Rattle.evidence_rules.specs.declared.refusal.RefusalKind.TheVariants.{WrongCount}
use Rattle.evidence_rules.specs.LogRefusal.{IsRightLog, LogRefused}
use Rattle.net_model.proofs.Errors.{on_error}
use Rattle.refute_check.proofs.LogSteps.{ends_none, ends_uncounted, few_chains}
use Rattle.refute_check.proofs.log.check_log.Goals as goal

pub propagator_for-requires : goal.propagator_for-requires
propagator_for-requires c = subst (All (HasVariablesUpTo c.variables-variables.result)) (sym c.requires.clauses) (λ k d h. (c.variables-variables.ensures.proper k d h).inside)

pub check_chains-requires-clause-clauses : goal.check_chains-requires-clause-clauses
check_chains-requires-clause-clauses c = subst (All (HasVariablesUpTo c.variables-variables.result)) (sym c.requires.clauses) (λ k d h. (c.variables-variables.ensures.proper k d h).inside)

pub check_chains-requires-clause-few : goal.check_chains-requires-clause-few
check_chains-requires-clause-few c =
    omega (arith, c.requires.few, few_chains c.args.kind c.args.conflicts c.as_slice-chains.result.now c.requires.kind (c.has_right_length.ensures.0 c.if-not-has_right_length.false))

pub returns-clause-right : goal.returns-clause-right
returns-clause-right c =
    let long = c.has_right_length.ensures.0 c.if-not-has_right_length.false in
    on_ok_weaker c.check_chains.result (λ right. subst (IsRightLog c.args.kind c.args.pool.now.clauses c.args.conflicts) c.as_slice-chains.ensures (right c.args.conflicts long)) c.check_chains.ensures.right

pub returns-clause-refused : goal.returns-clause-refused
returns-clause-refused c refusal e =
    let chains = c.as_slice-chains.result.now in
    subst (λ log. LogRefused c.args.kind c.args.pool.now.clauses c.args.conflicts log refusal) c.as_slice-chains.ensures (c.check_chains.ensures.refused c.args.conflicts refusal (c.has_right_length.ensures.0 c.if-not-has_right_length.false) e)

pub returns-then-not-has_right_length-clause-stopped : goal.returns-then-not-has_right_length-clause-stopped
returns-then-not-has_right_length-clause-stopped c refusal e =
    let count = length c.as_slice-chains.result.now in
    ends_uncounted c.args.kind c.args.pool.now.clauses c.args.log.now count {refusal = refusal}
    (let w : ◌≡◌ {A = Result (Unit {0}) CheckFault} (Err (Refused (record { kind = WrongCount; step = count }))) (Err (Refused refusal)) = sym (ap Err c.refused.ensures) ∙ e in cc)

pub returns-in_err-propagator-clause-err : goal.returns-in_err-propagator-clause-err
returns-in_err-propagator-clause-err c = on_error c.from_residual.result (0, ends_none c.args.kind c.args.pool.now.clauses c.args.log.now)
