use Rattle.std.proofs.Common.{◌≡◌, ◌∙◌, ◌<◌, ◌+◌, ◌-◌, ◌++◌, ◌∷◌, [], length, min, rules, sym, ap, subst, arith}
use Rattle.std.specs.Prelude.{All, Result, Err}
use Rattle.std.proofs.lemmas.List.{length-append}
use Rattle.std.proofs.lemmas.List.Elements.{All-append, All-cons, All-nil}
use Rattle.clause_pool.specs.LiteralCode.{code_of}
use Rattle.clause_pool.specs.Clauses.{Clause, Clauses}
use Rattle.pair_miter.specs.Adds.{Grows}
use Rattle.pair_miter.proofs.PlaceSteps.{grows_added, grows_none, grows_through}
use Rattle.clause_pool.specs.Proper.{HasVariablesUpTo}
use Rattle.evidence_rules.specs.declared.refusal.CheckFault.{CheckFault}
use Rattle.evidence_rules.specs.declared.refusal.CheckFault.TheVariants.{Refused}
use Rattle.evidence_rules.specs.LogRefusal.{AreRightBefore, is_last}
use Rattle.pair_miter.proofs.Alike.{alike_first}
use Rattle.pair_miter.specs.Resolution.{AreAlike}
use Rattle.refute_check.specs.Propagation.{IsReadyFor}
use Rattle.refute_check.proofs.IndexLemmas.{places_for}
use Rattle.refute_check.proofs.Chains.{before_first, first_ends, right_log}
use Rattle.refute_check.specs.PoolEnds.{HasEndsOf}
use Rattle.net_model.proofs.Errors.{on_error}
use Rattle.refute_check.proofs.LogSteps.{ends_none, end_within, held_next, stopped_end, stopped_step, next_chain, rule_told, refused_step, refused_end, right_step, alike_next}
use Rattle.refute_check.proofs.log.check_chains.Goals as goal
use Rattle.refute_check.proofs.log.check_chains.Goals.{then-not-last+in_ok-add+in_ok-take_in, else-not-last}

pub loop-at-init : goal.loop-at-init
loop-at-init c = record {
  before = before_first c.args.kind c.args.pool.now.clauses c.args.chains.now;
  grows = grows_none c.args.pool.now;
  held = subst (λ count. HasEndsOf c.args.pool.now.clauses c.args.chains.now count c.args.pool.now.clauses) (let none : 0 ≡ min 0 (length c.args.chains.now - 1) = omega arith in none) (ends_none c.args.kind c.args.pool.now.clauses c.args.chains.now);
  alike = λ _. subst (λ ends. AreAlike (c.args.pool.now.clauses ++ ends) c.args.pool.now.clauses) (sym (first_ends c.args.kind c.args.pool.now.clauses c.args.chains.now)) (alike_first c.args.pool.now.clauses);
  within = c.requires.clauses;
  few = omega arith;
  empty = c.requires.empty;
  ready = c.requires.ready;
}

pub take_in-requires : goal.take_in-requires
take_in-requires c = λ spent.
    let bound = end_within c.args.variables c.loop-at.pool.clauses c.index-chains-at.result c.in_ok-end.end.literals c.loop-at.invariant.within c.in_ok-end.ensures.ended in
    let lists = c.wrong_end.new.propagator.index.lists in
    subst (All (λ l. code_of l < length lists)) (sym c.as_slice-then-not-last.ensures.value) (places_for c.args.variables lists c.in_ok-end.end.literals (c.wrong_end.ensures.ready spent).index.places bound)

pub wrong_end-requires-clause-end : goal.wrong_end-requires-clause-end
wrong_end-requires-clause-end c = end_within c.args.variables c.loop-at.pool.clauses c.index-chains-at.result c.in_ok-end.end.literals c.loop-at.invariant.within c.in_ok-end.ensures.ended

pub returns-in_err-end-clause-refused : goal.returns-in_err-end-clause-refused
returns-in_err-end-clause-refused c conflicts refusal long e =
    let n = next_chain c.loop-at-test.true c.index-chains-at.is c.loop-at.invariant.before c.loop-at.invariant.alike in
    let own = c.in_err-end.ensures.refused refusal (search rules) in
    refused_step n conflicts refusal long own.0 own.1

pub returns-in-Some-clause-refused : goal.returns-in-Some-clause-refused
returns-in-Some-clause-refused c conflicts refusal long e =
    let n = next_chain c.loop-at-test.true c.index-chains-at.is c.loop-at.invariant.before c.loop-at.invariant.alike in
    let some = rule_told c.args.kind (is_last c.args.chains.now c.loop-at.at) c.loop-at.pool.clauses c.index-chains-at.result c.in_ok-end.end.literals c.in-Some.is c.wrong_end.ensures.rule in
    let is : record { kind = c.in-Some.rule; step = c.loop-at.at } ≡ refusal =
    (let w : ◌≡◌ {A = Result (Unit {0}) CheckFault} (Err (Refused (record { kind = c.in-Some.rule; step = c.loop-at.at }))) (Err (Refused refusal)) = sym (ap Err c.refused.ensures) ∙ e in cc) in
    refused_end n c.in_ok-end.end.literals c.in_ok-end.ensures.ended conflicts refusal long c.in-Some.rule some.0 some.1 (sym is)

pub returns-in_err-end-clause-stopped : goal.returns-in_err-end-clause-stopped
returns-in_err-end-clause-stopped c refusal e =
    let n = next_chain c.loop-at-test.true c.index-chains-at.is c.loop-at.invariant.before c.loop-at.invariant.alike in
    let own = c.in_err-end.ensures.refused refusal (search rules) in
    stopped_step n refusal own.0 own.1

pub returns-in-Some-clause-stopped : goal.returns-in-Some-clause-stopped
returns-in-Some-clause-stopped c refusal e =
    let n = next_chain c.loop-at-test.true c.index-chains-at.is c.loop-at.invariant.before c.loop-at.invariant.alike in
    let last = is_last c.args.chains.now c.loop-at.at in
    let some = rule_told c.args.kind last c.loop-at.pool.clauses c.index-chains-at.result c.in_ok-end.end.literals c.in-Some.is c.wrong_end.ensures.rule in
    let is : record { kind = c.in-Some.rule; step = c.loop-at.at } ≡ refusal =
    (let w : ◌≡◌ {A = Result (Unit {0}) CheckFault} (Err (Refused (record { kind = c.in-Some.rule; step = c.loop-at.at }))) (Err (Refused refusal)) = sym (ap Err c.refused.ensures) ∙ e in cc) in
    stopped_end n last c.in_ok-end.end.literals c.in-Some.rule some.1 refusal (sym is)

pub returns-in_err-add-clause-grows : goal.returns-in_err-add-clause-grows
returns-in_err-add-clause-grows c = subst (Grows c.args.pool.now) (sym c.in_err-add.ensures.err) c.loop-at.invariant.grows

pub returns-in_err-take_in-clause-grows : goal.returns-in_err-take_in-clause-grows
returns-in_err-take_in-clause-grows c =
    let e = c.in_ok-add.ensures in
    grows_through c.args.pool.now c.loop-at.pool c.add.new.self c.loop-at.invariant.grows (grows_added c.loop-at.pool c.add.new.self c.as_slice.result.now e.clauses e.spare_clauses e.spare_literals)

pub loop-at-preserved : goal.loop-at-preserved
loop-at-preserved c =
    let clauses = c.args.pool.now.clauses in
    let pool = c.loop-at.pool.clauses in
    let literals = c.in_ok-end.end.literals in
    let n = next_chain c.loop-at-test.true c.index-chains-at.is c.loop-at.invariant.before c.loop-at.invariant.alike in
    let right = rule_told c.args.kind (is_last c.args.chains.now c.loop-at.at) pool c.index-chains-at.result literals c.in_default.is c.wrong_end.ensures.rule in
    let next = right_step n literals c.in_ok-end.ensures.ended right in
    elim c.if-not-last.branch [
      | then-not-last+in_ok-add+in_ok-take_in w ↦
          let added : c.if-not-last.pool.clauses ≡ pool ++ literals ∷ [] = ap (λ (p : Clauses). p.clauses) w.pool-is ∙ (w.in_ok-add.ensures.clauses ∙ ap (λ (l : Clause). pool ++ l ∷ []) w.as_slice.ensures.value) in
          let bound = end_within c.args.variables pool c.index-chains-at.result literals c.loop-at.invariant.within c.in_ok-end.ensures.ended in
          record {
            before = next;
            grows =
                let e = w.in_ok-add.ensures in
                subst (Grows c.args.pool.now) (sym w.pool-is)
                (grows_through c.args.pool.now c.loop-at.pool w.add.new.self c.loop-at.invariant.grows (grows_added c.loop-at.pool w.add.new.self w.as_slice.result.now e.clauses e.spare_clauses e.spare_literals));
            held =
                let more : c.loop-at.at + 1 ≡ min (c.loop-at.at + 1) (length c.args.chains.now - 1) = omega (arith, w.if-not-last.true, c.loop-at-test.true) in
                subst (λ count. HasEndsOf clauses c.args.chains.now count c.if-not-last.pool.clauses) more
                (record { ends = next.ends; are = next.are; alike = subst (AreAlike (clauses ++ next.ends)) (sym added) (alike_next n literals c.in_ok-end.ensures.ended right) });
            alike = λ _. subst (AreAlike (clauses ++ next.ends)) (sym added) (alike_next n literals c.in_ok-end.ensures.ended right);
            within = subst (All (HasVariablesUpTo c.args.variables)) (sym added)
                (All-append (HasVariablesUpTo c.args.variables) pool (literals ∷ []) c.loop-at.invariant.within
                (All-cons (HasVariablesUpTo c.args.variables) literals [] bound (All-nil (HasVariablesUpTo c.args.variables))));
            few = omega (arith, ap length added, length-append pool (literals ∷ []), c.loop-at.invariant.few);
            empty = c.in_ok-end.ensures.empty;
            ready =
                let next : length pool + 1 ≡ w.len.result = omega (arith, w.len.ensures, ap length w.in_ok-add.ensures.clauses, length-append pool (w.as_slice.result.now ∷ [])) in
                let told = w.in_ok-take_in.ensures c.args.variables pool next c.wrong_end.ensures.ready in
                subst (IsReadyFor c.args.kind c.args.variables c.if-not-last.pool.clauses) (sym w.propagator-is)
                (subst (λ cs. IsReadyFor c.args.kind c.args.variables cs w.take_in.new.propagator) (ap (λ (l : Clause). pool ++ l ∷ []) w.as_slice-then-not-last.ensures.value ∙ sym added) told);
          }
      | else-not-last w ↦
          let kept : c.if-not-last.pool.clauses ≡ pool = ap (λ (p : Clauses). p.clauses) w.pool-is in
          let last : c.loop-at.at + 1 ≡ length c.args.chains.now = w.if-not-last.false in
          record {
            before = next;
            grows = subst (Grows c.args.pool.now) (sym w.pool-is) c.loop-at.invariant.grows;
            held =
                let same : min c.loop-at.at (length c.args.chains.now - 1) ≡ min (c.loop-at.at + 1) (length c.args.chains.now - 1) = omega (arith, last) in
                subst (λ count. HasEndsOf clauses c.args.chains.now count c.if-not-last.pool.clauses) same (subst (HasEndsOf clauses c.args.chains.now (min c.loop-at.at (length c.args.chains.now - 1))) (sym kept) c.loop-at.invariant.held);
            alike = λ h. absurd (omega (arith, h, last));
            within = subst (All (HasVariablesUpTo c.args.variables)) (sym kept) c.loop-at.invariant.within;
            few = omega (arith, ap length kept, c.loop-at.invariant.few);
            empty = c.in_ok-end.ensures.empty;
            ready =
                subst (IsReadyFor c.args.kind c.args.variables c.if-not-last.pool.clauses) (sym w.propagator-is)
                (subst (λ cs. IsReadyFor c.args.kind c.args.variables cs c.wrong_end.new.propagator) (sym kept) c.wrong_end.ensures.ready);
          }
    ]

pub returns-clause-right : goal.returns-clause-right
returns-clause-right c = λ conflicts long.
    let chains = c.args.chains.now in
    let all : c.loop-at.at ≡ length chains = omega (arith, c.loop-at-test.false, c.loop-at.auto.at-end) in
    right_log c.args.kind c.args.pool.now.clauses conflicts chains long (subst (AreRightBefore c.args.kind c.args.pool.now.clauses chains) all c.loop-at.invariant.before)

pub returns-clause-ok : goal.returns-clause-ok
returns-clause-ok c =
    let chains = c.args.chains.now in
    let all : min c.loop-at.at (length chains - 1) ≡ length chains - 1 = omega (arith, c.loop-at-test.false, c.loop-at.auto.at-end) in
    subst (λ count. HasEndsOf c.args.pool.now.clauses chains count c.loop-at.pool.clauses) all c.loop-at.invariant.held

pub returns-in_err-add-clause-err : goal.returns-in_err-add-clause-err
returns-in_err-add-clause-err c =
    let count = min c.loop-at.at (length c.args.chains.now - 1) in
    on_error c.from_residual-in_err-add.result (count, subst (λ (p : Clauses). HasEndsOf c.args.pool.now.clauses c.args.chains.now count p.clauses) (sym c.in_err-add.ensures.err) c.loop-at.invariant.held)

pub returns-in_err-take_in-clause-err : goal.returns-in_err-take_in-clause-err
returns-in_err-take_in-clause-err c =
    let pool = c.loop-at.pool.clauses in
    let literals = c.in_ok-end.end.literals in
    let n = next_chain c.loop-at-test.true c.index-chains-at.is c.loop-at.invariant.before c.loop-at.invariant.alike in
    let right = rule_told c.args.kind (is_last c.args.chains.now c.loop-at.at) pool c.index-chains-at.result literals c.in_default.is c.wrong_end.ensures.rule in
    let added : c.add.new.self.clauses ≡ pool ++ literals ∷ [] = c.in_ok-add.ensures.clauses ∙ ap (λ (l : Clause). pool ++ l ∷ []) c.as_slice.ensures.value in
    on_error c.from_residual-in_err-take_in.result (c.loop-at.at + 1, subst (HasEndsOf c.args.pool.now.clauses c.args.chains.now (c.loop-at.at + 1)) (sym added) (held_next n literals c.in_ok-end.ensures.ended right))
